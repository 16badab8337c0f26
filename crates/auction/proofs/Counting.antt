-- Lots wanted and offered at a price, added up from the ladder one rung at a time: one argument for both sides.
use Rattle.std.proofs.Common.{ℕ, ◌+◌, ◌*◌, ◌<◌, ◌≤◌, ◌≡◌, List, [], ◌∷◌, take, length, get_or, Bool, true, false, cond, arith, refl, ap, ◌∙◌}
use Rattle.std.proofs.lemmas.List.{take_more}
use Rattle.market.specs.declared.Kind.TheVariants.{Kept}
use Rattle.market.specs.declared.Side.{Side}
use Rattle.market.specs.declared.Side.TheVariants.{Buy}
use Rattle.market.specs.Limits.{max_lots}
use Rattle.market.specs.Tests.{◌and◌, sum_of}
use Rattle.market.specs.Matching.{opposite, reaches}
use Rattle.market.proofs.Lists.{all_at, sum_append}
use Rattle.auction.specs.declared.Rung.{Rung}
use Rattle.auction.specs.Ladder.{FewRungs, lots_from, lots_on}

-- what stands past the rungs
abbrev pub blank : Rung
blank = record { price = 0; side = Buy; lots = 0 }

-- sum is what an order of side x at price p meets in the first i rungs, at most 10,000 lots each
pub record Counted (x : Side) (p : ℕ) (l : List Rung) (i sum : ℕ) : Type 0 where
  pub few : sum ≤ max_lots * i
  pub sums : sum ≡ lots_on x p (take i l)

pub counted_none : {x : Side} {p : ℕ} {l : List Rung} → Counted x p l 0 0
unfolding lots_on
counted_none = record { few = omega arith; sums = refl }

module _ {x : Side} {p : ℕ} {l : List Rung} {i sum : ℕ} (k : Counted x p l i sum) where
  one_more : i < length l → lots_on x p (take (i + 1) l) ≡ lots_on x p (take i l) + lots_from x p (get_or l i blank)
  unfolding lots_on
  one_more h =
      ap (sum_of (lots_from x p)) (take_more l i blank h)
      ∙ (let a = sum_append (lots_from x p) (take i l) (get_or l i blank ∷ []) in omega arith)

  -- the rung is of the other side
  pub counted_met : {n next : ℕ} → FewRungs l → i < length l → opposite x (get_or l i blank).side ≡ true
      → n ≡ cond (reaches x (Kept p) (Kept (get_or l i blank).price)) (get_or l i blank).lots 0 → next ≡ sum + n
      → Counted x p l (i + 1) next
  unfolding ◌and◌
  counted_met {n} {next} few h y own e =
      let r = get_or l i blank in
      let same : lots_from x p r ≡ n = rw (y, own) in
      let top = all_at (λ (r : Rung). r.lots ≤ max_lots) blank l i few.lots h in
      let low = at_most (reaches x (Kept p) (Kept r.price)) r.lots top in
      record { few = omega (arith, k.few, low); sums = omega (arith, k.sums, one_more h) }
    where
      at_most : (b : Bool) (m : ℕ) → m ≤ max_lots → cond b m 0 ≤ max_lots
      at_most true m h = h
      at_most false m h = omega arith

  -- it is of the same side
  pub counted_unmet : {next : ℕ} → i < length l → opposite x (get_or l i blank).side ≡ false → next ≡ sum
      → Counted x p l (i + 1) next
  unfolding ◌and◌
  counted_unmet h y e =
      let none : lots_from x p (get_or l i blank) ≡ 0 = rw y in
      record { few = omega (arith, k.few); sums = omega (arith, k.sums, one_more h) }
