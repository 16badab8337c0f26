-- `soundness::floor_sound` meets its contract: a part is false where its test fails, true where the next is asked.
use native.Mathlib.Omega.{arith}
use Prim.Native.Nat.{ℕ, ◌≤◌}
use mathlib.Core.Bool.{Bool, true}
use mathlib.Core.List.{List}
use mathlib.Core.Path.{◌≡◌, refl, ◌∙◌}
use Rattle.market.specs.declared.Asset.{Asset}
use Rattle.market.specs.Tests.{all_below}
use Rattle.market.specs.Limits.{cells, columns}
use Rattle.market.specs.Tests.{◌and◌}
use Rattle.market.specs.declared.Asset.TheVariants.{Money, Pieces}
use Rattle.market.specs.Day.{Day, columns_of, if_money, positions, total_limit}
use Rattle.market.specs.View.{day_of}
use Rattle.amounts.proofs.Answers.{fails, holds}
use Rattle.soundness.specs.Parts.{Checked, asset_sound, column_sound, orderly}
use Rattle.soundness.proofs.Parts.{orderly_holds, parts}
use Rattle.soundness.proofs.Needs.{columns_same}
use Rattle.soundness.proofs.floor_sound.Goals as goal

-- rows and columns within those of the array
record Inside (d : Day) : Type 0 where
  participants : d.rules.participants ≤ columns
  currencies : d.rules.currencies ≤ columns
  securities : d.rules.securities ≤ columns

inside : (d : Day) {answer : Bool} → answer ≡ orderly d → answer ≡ true → Inside d
inside d e t =
    let y = orderly_holds d (holds e t) in
    record {
      participants = y.rules.participants;
      currencies = omega (arith, y.rules.currencies);
      securities = y.rules.securities;
    }

-- the columns of an asset, where the orders are sound
columns_hold : (d : Day) {answer : Bool} {needs : List ℕ} → Checked d answer needs → (x : Asset) {sums : Bool}
    → sums ≡ all_below (columns_of x d.rules) (column_sound x d.rules.participants (total_limit x) (if_money x 0 cells)
    (positions x d) needs)
    → answer ≡ true → d.rules.participants ≤ columns → columns_of x d.rules ≤ columns → sums ≡ asset_sound x d
columns_hold d {answer} {needs} k x e t p q = e ∙ columns_same x d needs (k.added t) p q

pub returns-then-not-is_orderly : goal.returns-then-not-is_orderly
unfolding ◌and◌
returns-then-not-is_orderly c = rw (parts, fails c.is_orderly.ensures c.if-not-is_orderly.true)

pub orders_sound-requires : goal.orders_sound-requires
orders_sound-requires c = (holds c.is_orderly.ensures c.if-not-is_orderly.false, refl)

pub returns-then-not-orders_sound : goal.returns-then-not-orders_sound
unfolding ◌and◌
returns-then-not-orders_sound c =
    rw (
      parts,
      holds c.is_orderly.ensures c.if-not-is_orderly.false,
      fails c.orders_sound.ensures.right c.if-not-orders_sound.true,
    )

pub positions_sound-requires : goal.positions_sound-requires
positions_sound-requires c = let i = inside (day_of c.args.rules.now c.args.floor.now) c.is_orderly.ensures c.if-not-is_orderly.false in (i.participants, i.currencies, omega arith)

pub returns-then-not-positions_sound : goal.returns-then-not-positions_sound
unfolding ◌and◌
returns-then-not-positions_sound c =
    let i = inside (day_of c.args.rules.now c.args.floor.now) c.is_orderly.ensures c.if-not-is_orderly.false in
    rw (
      parts,
      holds c.is_orderly.ensures c.if-not-is_orderly.false,
      holds c.orders_sound.ensures.right c.if-not-orders_sound.false,
      fails (columns_hold (day_of c.args.rules.now c.args.floor.now) c.orders_sound.ensures Money c.positions_sound.ensures c.if-not-orders_sound.false i.participants i.currencies) c.if-not-positions_sound.true,
    )

pub positions_sound-requires-2 : goal.positions_sound-requires-2
positions_sound-requires-2 c = let i = inside (day_of c.args.rules.now c.args.floor.now) c.is_orderly.ensures c.if-not-is_orderly.false in (i.participants, i.securities, omega arith)

pub returns : goal.returns
unfolding ◌and◌
returns c =
    let i = inside (day_of c.args.rules.now c.args.floor.now) c.is_orderly.ensures c.if-not-is_orderly.false in
    rw (
      parts,
      holds c.is_orderly.ensures c.if-not-is_orderly.false,
      holds c.orders_sound.ensures.right c.if-not-orders_sound.false,
      holds (columns_hold (day_of c.args.rules.now c.args.floor.now) c.orders_sound.ensures Money c.positions_sound.ensures c.if-not-orders_sound.false i.participants i.currencies) c.if-not-positions_sound.false,
    ) (columns_hold (day_of c.args.rules.now c.args.floor.now) c.orders_sound.ensures Pieces c.positions_sound-2.ensures c.if-not-orders_sound.false i.participants i.securities)
