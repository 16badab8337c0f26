-- What is asked of a deal whose security is known.
use Rattle.std.specs.Prelude.{ℕ, Bool}
use Rattle.market.specs.declared.Deal.{Deal}
use Rattle.market.specs.declared.Security.{Security}
use Rattle.market.specs.Tests.{◌and◌, known}
use Rattle.market.specs.Sound.{lots_sound, price_sound}
use Rattle.market.specs.Deals.{loan_sound, term_sound}

-- under so many participants, the security's row being this one
abbrev pub dealt_sound : ℕ → Security → Deal → Bool
dealt_sound participants l x =
    known x.buyer participants
    and known x.seller participants
    and lots_sound x.lots
    and price_sound l x.price
    and term_sound x.first x.term
    and loan_sound l x.price x.lots x.rate
