-- The auction at the end of collecting (T-02): "for each security, the written price at which most lots trade".
use Rattle.std.specs.Prelude.{ℕ, ◌+◌, ◌-◌, min, List, [], ◌∷◌, Bool, cond}
use Rattle.market.specs.declared.Kind.TheVariants as kind
use Rattle.market.specs.declared.Order.{Order}
use Rattle.market.specs.declared.Side.TheVariants.{Buy, Sell}
use Rattle.market.specs.Tests.{◌<?◌, ◌=?◌}
use Rattle.market.specs.Day.{Day}
use Rattle.market.specs.Matching.{fitting, price_of}
use Rattle.market.specs.Pairing.{Terms, counterparty}

-- "lots wanted" at price p in security s: those of the buys at p or dearer, which a sell at p meets
unfoldable pub lots_wanted : List Order → ℕ → ℕ → ℕ
lots_wanted w s p = fitting (counterparty Sell s (kind.Kept p)) w

-- "lots offered" at price p: those of the sells at p or cheaper, which a buy at p meets
unfoldable pub lots_offered : List Order → ℕ → ℕ → ℕ
lots_offered w s p = fitting (counterparty Buy s (kind.Kept p)) w

-- the lots that trade at p
unfoldable pub volume : List Order → ℕ → ℕ → ℕ
volume w s p = min (lots_wanted w s p) (lots_offered w s p)

-- "the .. gap between lots wanted and lots offered"
unfoldable pub gap : List Order → ℕ → ℕ → ℕ
gap w s p = (lots_wanted w s p - lots_offered w s p) + (lots_offered w s p - lots_wanted w s p)

-- "most lots trade. Ties go to the smaller gap .., then to the lower price": p goes before q
unfoldable pub precedes : List Order → ℕ → ℕ → ℕ → Bool
precedes w s p q =
    cond (volume w s p =? volume w s q) (cond (gap w s p =? gap w s q) (p <? q) (gap w s p <? gap w s q))
    (volume w s q <? volume w s p)

-- the price written on an order, to buy or to sell, of security s; 0 on any other
unfoldable pub price_on : ℕ → Order → ℕ
price_on s o = cond (s =? o.security) (price_of o) 0

-- "the written price": all of them, for security s
unfoldable pub written_prices : ℕ → List Order → List ℕ
written_prices s [] = []
written_prices s (o ∷ w) = cond (0 <? price_on s o) (price_on s o ∷ written_prices s w) (written_prices s w)

-- of q and these prices, the one that goes before all others
unfoldable pub leading : List Order → ℕ → ℕ → List ℕ → ℕ
leading w s q [] = q
leading w s q (p ∷ l) = leading w s (cond (precedes w s p q) p q) l

-- p, or 0 where nothing trades at p
abbrev pub if_trades : List Order → ℕ → ℕ → ℕ
if_trades w s p = cond (0 <? volume w s p) p 0

-- the auction's price; "With no buy reaching a sell nothing trades": 0 stands for no price
unfoldable pub auction_price : List Order → ℕ → ℕ
auction_price w s = if_trades w s (leading w s 0 (written_prices s w))

-- "All trades are at that price": who reaches it meets, "dearer buys and cheaper sells first", then earlier arrivals (69.9, T-07)
unfoldable pub auction_terms : Day → ℕ → Terms
auction_terms d s = record { limit = kind.Kept (auction_price d.waiting s); price = auction_price d.waiting s }
