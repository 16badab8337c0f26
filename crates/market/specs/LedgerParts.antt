-- The acts on deals as the code has them: on a lent floor and lent records, under rules.
use Rattle.std.specs.Prelude.{ℕ, ◌≡◌, List, true}
use Rattle.market.specs.declared.Answer.{Answer}
use Rattle.market.specs.declared.Call.{Call}
use Rattle.market.specs.declared.Dealing.{Dealing}
use Rattle.market.specs.declared.Dealing.TheVariants as dealing
use Rattle.market.specs.declared.Floor.{Floor}
use Rattle.market.specs.declared.Records.{Records}
use Rattle.market.specs.declared.Rules.{Rules}
use Rattle.market.specs.declared.Ticket.{Ticket}
use Rattle.market.specs.View.{Sized, day_of}
use Rattle.market.specs.Parts as parts
use Rattle.market.specs.Parts.{HandedBack}
use Rattle.market.specs.Ledger.{ledger_of, ledger_sound}
use Rattle.market.specs.Acts.{Act, day, new_day, offer, second_part}
use Rattle.market.specs.ActStep.{act_step}

-- the act that a call of the code stands for
abbrev pub call_of : Call → List Ticket → Act
call_of c ms = day (parts.call_of c ms)

-- and that another act of the code stands for
abbrev pub act_of : Dealing → Act
act_of (dealing.Offer p m rate term) = offer p m rate term
act_of (dealing.SecondPart place) = second_part place
act_of (dealing.NewDay date) = new_day date

-- the ledger is sound, and its arrays have their lengths
pub record ReadyLedger (r : Rules) (f : Floor) (z : Records) : Type 0 where
  pub sized : Sized (day_of r f)
  pub sound : ledger_sound (ledger_of r f z) ≡ true

-- the contract of an act on floor and records: answer, ledger and lent list are those of the definition
pub record CarriesAct (r : Rules) (f : Floor) (z : Records) (l : List ℕ) (a : Act) (f' : Floor) (z' : Records) (l' : List ℕ)
    (o : Answer) : Type 0 where
  pub answer : o ≡ (act_step (ledger_of r f z) l a).answer
  pub ledger : ledger_of r f' z' ≡ (act_step (ledger_of r f z) l a).ledger
  pub list : l' ≡ (act_step (ledger_of r f z) l a).list
  pub floor : HandedBack f o f'
  pub records : HandedBack z o z'
