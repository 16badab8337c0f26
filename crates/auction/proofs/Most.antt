-- Lots wanted and offered at every price: what no written price trades, no price trades.
use Prim.Native.Nat.{ℕ, ◌+◌, ◌≤◌, ◌<◌}
use native.Mathlib.Omega.{arith}
use mathlib.Core.Path.{◌≡◌, refl, ap, ◌∙◌}
use mathlib.Core.List.{List, [], ◌∷◌}
use mathlib.Core.Bool.{Bool, true, false, cond}
use borrow.Author.Tests.{le-leb, leb-false, leb-true, lt-leb}
use Rattle.market.specs.declared.Kind.TheVariants as kind
use Rattle.market.specs.declared.Order.{Order}
use Rattle.market.specs.declared.Side.{Side}
use Rattle.market.specs.declared.Side.TheVariants.{Buy, Sell}
use Rattle.market.specs.Tests.{◌≤?◌}
use Rattle.market.specs.Matching.{fitting, price_of, reaches}
use Rattle.market.specs.Pairing.{counterparty}
use Rattle.market.specs.Auction.{lots_offered, lots_wanted, price_on, volume}
use Rattle.market.proofs.Lists.{All}
use Rattle.market.specs.Needs.{is_kept}
use Rattle.auction.proofs.Prices.{lots_at_lem, lots_for, unpriced}

-- at a price that reaches all that another reaches, no fewer lots fit
module _ (x : Side) (s p q : ℕ)
    (more : (z : ℕ) → reaches x (kind.Kept p) (kind.Kept z) ≡ true → reaches x (kind.Kept q) (kind.Kept z) ≡ true)
  where
    fitting_more : (w : List Order)
        → fitting (counterparty x s (kind.Kept p)) w ≤ fitting (counterparty x s (kind.Kept q)) w
    unfolding fitting
    fitting_more [] = omega arith
    fitting_more (o ∷ w) =
        let r = fitting_more w in
        omega (arith, lots_at_lem x s p o, lots_at_lem x s q o, one (reaches x (kind.Kept p) (kind.Kept (price_on s o))) refl)
      where
        one : (k : Bool) → reaches x (kind.Kept p) (kind.Kept (price_on s o)) ≡ k
            → cond k (lots_for x s o) 0
            ≤ cond (reaches x (kind.Kept q) (kind.Kept (price_on s o))) (lots_for x s o) 0
        one true e = rw (more (price_on s o) e) (omega arith)
        one false e = omega arith

-- a dearer price is offered no fewer lots, and wanted no more
offered_rises : (w : List Order) (s p q : ℕ) → p ≤ q → lots_offered w s p ≤ lots_offered w s q
unfolding lots_offered
offered_rises w s p q h = fitting_more Buy s p q (λ z e. le-leb z q (omega (arith, leb-true z p e))) w

wanted_falls : (w : List Order) (s p q : ℕ) → p ≤ q → lots_wanted w s q ≤ lots_wanted w s p
unfolding lots_wanted
wanted_falls w s p q h = fitting_more Sell s q p (λ z e. le-leb p z (omega (arith, leb-true q z e))) w

-- one order more: its lots are offered from its price on
module _ (o : Order) (w : List Order) (s p : ℕ) where
  offered_with : lots_offered (o ∷ w) s p ≡ cond (price_on s o ≤? p) (lots_for Buy s o) 0 + lots_offered w s p
  unfolding lots_offered fitting
  offered_with = ap (λ (n : ℕ). n + fitting (counterparty Buy s (kind.Kept p)) w) (lots_at_lem Buy s p o)

  offered_in : price_on s o ≤ p → lots_offered (o ∷ w) s p ≡ lots_for Buy s o + lots_offered w s p
  offered_in h = offered_with ∙ rw (le-leb (price_on s o) p h)

  offered_out : p < price_on s o → lots_offered (o ∷ w) s p ≡ lots_offered w s p
  offered_out h = offered_with ∙ rw (lt-leb (price_on s o) p h) (omega arith)

-- at price p as much is offered as at a written one that is p or lower, or at 0
record Near (T : ℕ → Type 0) (w : List Order) (s p : ℕ) : Type 0 where
  price : ℕ
  low : price ≤ p
  same : lots_offered w s price ≡ lots_offered w s p
  holds : T price

module _ (T : ℕ → Type 0) (s p : ℕ) (zero : T 0) where
  near : (w : List Order) → All (λ o. T (price_on s o)) w → Near T w s p
  near [] a = record { price = 0; low = omega arith; same = unfold lots_offered fitting in refl; holds = zero }
  near (o ∷ w) a = go (near w a.1) (price_on s o ≤? p) refl
    where
      -- o is offered at p: there is the price before it, or its own, which lies between
      reached : (n : Near T w s p) → price_on s o ≤ p → (k : Bool) → (price_on s o ≤? n.price) ≡ k → Near T (o ∷ w) s p
      reached n h true e = record {
        price = n.price;
        low = n.low;
        same =
            omega (
              arith,
              n.same,
              offered_in o w s n.price (leb-true (price_on s o) n.price e),
              offered_in o w s p h,
            );
        holds = n.holds;
      }
      reached n h false e =
          let l = leb-false (price_on s o) n.price e in
          record {
            price = price_on s o;
            low = h;
            same =
                omega (
                  arith,
                  n.same,
                  offered_in o w s (price_on s o) (omega arith),
                  offered_in o w s p h,
                  offered_rises w s n.price (price_on s o) (omega arith),
                  offered_rises w s (price_on s o) p h,
                );
            holds = a.0;
          }

      go : Near T w s p → (k : Bool) → (price_on s o ≤? p) ≡ k → Near T (o ∷ w) s p
      go n true e = reached n (leb-true (price_on s o) p e) (price_on s o ≤? n.price) refl
      go n false e =
          let l = leb-false (price_on s o) p e in
          record {
            price = n.price;
            low = n.low;
            same = omega (arith, n.same, offered_out o w s n.price (omega (arith, n.low)), offered_out o w s p l);
            holds = n.holds;
          }

-- no price trades more than 0 and every written price
pub most_of_all : (w : List Order) (s n p : ℕ) → volume w s 0 ≤ n → All (λ o. volume w s (price_on s o) ≤ n) w
    → volume w s p ≤ n
unfolding volume
most_of_all w s n p z a =
    let x = near (λ q. volume w s q ≤ n) s p z w a in
    omega (arith, x.same, x.holds, wanted_falls w s x.price p x.low)

-- where every kept price is above 0, nothing trades at 0
pub nothing_at_zero : (w : List Order) (s : ℕ) → All (λ o. is_kept o.kind ≡ true → 0 < price_of o) w → volume w s 0 ≡ 0
nothing_at_zero w s a = let z = none w a in unfold volume in (omega arith)
  where
    none : (v : List Order) → All (λ o. is_kept o.kind ≡ true → 0 < price_of o) v → lots_offered v s 0 ≡ 0
    none [] a = unfold lots_offered fitting in refl
    none (o ∷ v) a = let r = none v a.1 in omega (arith, offered_with o v s 0, one (price_on s o ≤? 0) refl)
      where
        one : (k : Bool) → (price_on s o ≤? 0) ≡ k → cond k (lots_for Buy s o) 0 ≡ 0
        one true e = unpriced Buy s o a.0 (omega (arith, leb-true (price_on s o) 0 e))
        one false e = refl
