-- The auction's price: no price trades more lots, ties go as told, and it is a written one or none.
use Prim.Native.Nat.{ℕ, zero, suc, ◌≤◌, ◌<◌, min}
use native.Mathlib.Omega.{arith}
use mathlib.Core.Path.{◌≡◌, refl, ap, sym, subst, ◌∙◌}
use mathlib.Core.List.{List, [], ◌∷◌}
use mathlib.Core.Bool.{Bool, true, false, cond}
use lib.ListN.{length}
use borrow.Author.Tests.{le-leb, le-ltb, leb-true, ltb-false}
use Rattle.market.specs.declared.Kind.{Kind}
use Rattle.market.specs.declared.Kind.TheVariants as kind
use Rattle.market.specs.declared.Order.{Order}
use Rattle.market.specs.declared.Side.{Side}
use Rattle.market.specs.declared.Side.TheVariants.{Buy, Sell}
use Rattle.market.specs.Tests.{◌<?◌, sum_of}
use Rattle.market.specs.Day.{no_order, order_at}
use Rattle.market.specs.Matching.{Best, best, fitting, fitting_lots, found, if_buy, none, opposite, price_of, reaches}
use Rattle.market.specs.Pairing.{counterparty}
use Rattle.market.specs.Auction.{auction_price, leading, lots_offered, lots_wanted, price_on, volume, written_prices}
use Rattle.market.proofs.Logic.{never}
use Rattle.market.proofs.Lists.{All, all_at, all_map}
use Rattle.market.specs.Needs.{is_kept, kept_price}
use Rattle.market.proofs.Matching.{Chosen, best_chosen, none_fitting}
use Rattle.market.proofs.Pairs.{meets}
use Rattle.auction.specs.Laws.{Behind, Crossing, KeptAt, Priced, WrittenOn}
use Rattle.auction.proofs.Prices.{lots_at_lem, lots_all, price_own, priced_own}
use Rattle.auction.proofs.Ties.{lead_first, lead_one}
use Rattle.auction.proofs.Most.{most_of_all, nothing_at_zero}

-- what holds at every place holds of every order
all_places : (P : Order → Type 0) (w : List Order) → ((i : ℕ) → i < length w → P (order_at w i)) → All P w
all_places P [] h = tt
all_places P (o ∷ w) h = (h 0 (omega arith), all_places P w (λ i l. h (suc i) (omega arith)))

-- from the orders to the written prices and back
module _ (s : ℕ) (P : ℕ → Type 0) where
  written_all : (w : List Order) → All (λ o. P (price_on s o)) w → All P (written_prices s w)
  unfolding written_prices
  written_all [] a = tt
  written_all (o ∷ w) a = go (0 <? price_on s o) (written_all w a.1)
    where
      go : (k : Bool) → All P (written_prices s w) → All P (cond k (price_on s o ∷ written_prices s w) (written_prices s w))
      go true m = (a.0, m)
      go false m = m

  all_written : (w : List Order) → P 0 → All P (written_prices s w) → All (λ o. P (price_on s o)) w
  unfolding written_prices
  all_written [] z a = tt
  all_written (o ∷ w) z a = go (λ m. all_written w z m) (0 <? price_on s o) refl a
    where
      go : (All P (written_prices s w) → All (λ o. P (price_on s o)) w) → (k : Bool) → (0 <? price_on s o) ≡ k
          → All P (cond k (price_on s o ∷ written_prices s w) (written_prices s w))
          → P (price_on s o) × All (λ o. P (price_on s o)) w
      go again true e a = (a.0, again a.1)
      go again false e a =
          let none : 0 ≡ price_on s o = omega (arith, ltb-false 0 (price_on s o) e) in
          (subst P none z, again a)

-- a kept order that is met at price p
dear : (p : ℕ) (k : Kind) → reaches Sell (kind.Kept p) k ≡ true → (is_kept k ≡ true) × (p ≤ kept_price k)
dear p (kind.Kept q) e = (refl, leb-true p q e)
dear p kind.Closing e = never e
dear p (kind.Offer rate term q) e = never e

cheap : (p : ℕ) (k : Kind) → reaches Buy (kind.Kept p) k ≡ true → (is_kept k ≡ true) × (kept_price k ≤ p)
cheap p (kind.Kept q) e = (refl, leb-true q p e)
cheap p kind.Closing e = never e
cheap p (kind.Offer rate term q) e = never e

-- a kept order brings all of its lots at a price that reaches its own
lots_kept : (x : Side) (w : List Order) (s p i : ℕ) → KeptAt (if_buy x Sell Buy) w s i
    → reaches x (kind.Kept p) (kind.Kept (price_of (order_at w i))) ≡ true
    → fitting_lots (counterparty x s (kind.Kept p)) (order_at w i) ≡ (order_at w i).lots
lots_kept x w s p i k r =
    let o = order_at w i in
    lots_at_lem x s p o
    ∙ rw (price_own s o k.security, r) (lots_all x s o k.security (rw k.side (other x)) k.kept)
  where
    other : (x : Side) → opposite x (if_buy x Sell Buy) ≡ true
    other Buy = refl
    other Sell = refl

-- a sum is at least any of its parts
sum_one : (f : Order → ℕ) (w : List Order) (i : ℕ) → i < length w → f (order_at w i) ≤ sum_of f w
sum_one f [] i h = absurd (omega arith)
sum_one f (o ∷ w) zero h = omega arith
sum_one f (o ∷ w) (suc i) h = let r = sum_one f w i (omega arith) in omega arith

module _ (w : List Order) (s : ℕ) where
  -- the leading one of the written prices, whether or not anything trades there
  abbrev lead : ℕ
  lead = leading w s 0 (written_prices s w)

  lead_most : (p : ℕ) → volume w s p ≤ volume w s lead
  lead_most p =
      let f = lead_first w s (written_prices s w) 0 in
      most_of_all w s (volume w s lead) p f.0.lots
      (all_written s (λ q. volume w s q ≤ volume w s lead) w f.0.lots
      (lift (written_prices s w) f.1))
    where
      lift : (l : List ℕ) → All (λ q. Behind w s q lead) l
          → All (λ q. volume w s q ≤ volume w s lead) l
      lift l a = all_map (λ q. Behind w s q lead) (λ q. volume w s q ≤ volume w s lead) l
          (λ q h. h.lots) a

  -- "No other price from 1 to 1,000,000 may trade more lots": no price at all does
  pub auction_most : (p : ℕ) → volume w s p ≤ volume w s (auction_price w s)
  unfolding auction_price
  auction_most p = go (0 <? volume w s lead) refl
    where
      go : (k : Bool) → (0 <? volume w s lead) ≡ k → volume w s p ≤ volume w s (cond k lead 0)
      go true e = lead_most p
      go false e = omega (arith, lead_most p, ltb-false 0 (volume w s lead) e)

  -- where there is a price, it is the leading one
  price_leads : 0 < auction_price w s → auction_price w s ≡ lead
  unfolding auction_price
  price_leads h = go (0 <? volume w s lead) h
    where
      go : (k : Bool) → 0 < cond k lead 0 → cond k lead 0 ≡ lead
      go true h = refl
      go false h = absurd (omega arith)

  -- "Ties go to the smaller gap .., then to the lower price"
  pub auction_ties : 0 < auction_price w s
      → All (λ p. Behind w s p (auction_price w s)) (written_prices s w)
  auction_ties h = rw (price_leads h) (lead_first w s (written_prices s w) 0).1

  -- "the written price"
  pub auction_written : 0 < auction_price w s → WrittenOn w s (auction_price w s)
  auction_written h =
      subst (WrittenOn w s) (sym (price_leads h))
      (lead_one w s (λ p. 0 < p → WrittenOn w s p) (written_prices s w) 0 (λ z. absurd (omega arith))
      (written_all s (λ p. 0 < p → WrittenOn w s p) w
      (all_places (λ o. 0 < price_on s o → WrittenOn w s (price_on s o)) w
      (λ i l z.
      let e = priced_own s (order_at w i) z in
      record { place = i; inside = l; security = e; price = price_own s (order_at w i) e })))
      (subst (λ (x : ℕ). 0 < x) (price_leads h) h))

  -- where nothing crosses, no price trades
  pub apart_none : (Crossing w s → ⊥) → (p : ℕ) → volume w s p ≡ 0
  unfolding volume lots_wanted lots_offered
  apart_none h p =
      go (best (counterparty Sell s (kind.Kept p)) w) (best_chosen (counterparty Sell s (kind.Kept p)) w)
      (best (counterparty Buy s (kind.Kept p)) w) (best_chosen (counterparty Buy s (kind.Kept p)) w)
    where
      go : (x : Best) → Chosen (counterparty Sell s (kind.Kept p)) w x
          → (y : Best) → Chosen (counterparty Buy s (kind.Kept p)) w y
          → min (fitting (counterparty Sell s (kind.Kept p)) w) (fitting (counterparty Buy s (kind.Kept p)) w) ≡ 0
      go none c y d = omega (arith, none_fitting (counterparty Sell s (kind.Kept p)) w c)
      go (found i a) c none d = omega (arith, none_fitting (counterparty Buy s (kind.Kept p)) w d)
      go (found i a) c (found j b) d =
          let m = meets Buy s (kind.Kept p) w i a c in
          let n = meets Sell s (kind.Kept p) w j b d in
          let r = dear p (order_at w i).kind m.reach in
          let q = cheap p (order_at w j).kind n.reach in
          let x = m.stands in
          let y = n.stands in
          absurd (h (record {
            buy = i;
            sell = j;
            bought = record { inside = x.inside; security = x.security; side = x.side; kept = r.0 };
            sold = record { inside = y.inside; security = y.security; side = y.side; kept = q.0 };
            reach = omega arith;
          }))

  -- where a buy reaches a sell, lots trade at the sell's price
  crossing_trades : All (λ o. 0 < o.lots) w → (x : Crossing w s) → 0 < volume w s (price_of (order_at w x.sell))
  unfolding volume lots_wanted lots_offered fitting
  crossing_trades a x =
      let p = price_of (order_at w x.sell) in
      let b = all_at (λ o. 0 < o.lots) no_order w x.buy a x.bought.inside in
      let c = all_at (λ o. 0 < o.lots) no_order w x.sell a x.sold.inside in
      let d = lots_kept Sell w s p x.buy x.bought (le-leb p (price_of (order_at w x.buy)) x.reach) in
      let e = lots_kept Buy w s p x.sell x.sold (le-leb p p (omega arith)) in
      omega (
        arith,
        sum_one (fitting_lots (counterparty Sell s (kind.Kept p))) w x.buy x.bought.inside,
        sum_one (fitting_lots (counterparty Buy s (kind.Kept p))) w x.sell x.sold.inside,
      )

  -- "With no buy reaching a sell nothing trades": the price is 0 exactly there
  pub auction_none : All Priced w
      → (auction_price w s ≡ 0 → Crossing w s → ⊥) × ((Crossing w s → ⊥) → auction_price w s ≡ 0)
  auction_none a = (reached, apart)
    where
      reached : auction_price w s ≡ 0 → Crossing w s → ⊥
      reached e x =
          let v = crossing_trades (all_map Priced (λ o. 0 < o.lots) w (λ o h. h.lots) a) x in
          let p = all_map Priced (λ o. is_kept o.kind ≡ true → 0 < price_of o) w (λ o h. h.price) a in
          let z = nothing_at_zero w s p in
          omega (arith, auction_most (price_of (order_at w x.sell)), ap (volume w s) e)

      apart : (Crossing w s → ⊥) → auction_price w s ≡ 0
      apart h = unfold auction_price in (rw (le-ltb 0 (volume w s lead) (omega (arith, apart_none h lead))))
