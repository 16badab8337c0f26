-- Laws of an order's entry by phase: while open it is matched, while collecting a kept one only waits.
use mathlib.Core.Path.{◌≡◌, refl, sym, subst}
use mathlib.Core.Bool.{Bool, true, false}
use Rattle.market.specs.declared.Order.{Order}
use Rattle.market.specs.declared.TimeInForce.{TimeInForce}
use Rattle.market.specs.Day.{Day}
use Rattle.market.specs.Sound.{is_collecting}
use Rattle.market.specs.Answers.{Result}
use Rattle.market.specs.Entry.{entered, placed, taken}

pub taken_matched : (d : Day) (e : Order) (k : TimeInForce) → is_collecting d.phase ≡ false → taken d e k ≡ entered d e k
unfolding taken
taken_matched d e k n = rw n

pub taken_waits : (d : Day) (e : Order) (k : TimeInForce) → is_collecting d.phase ≡ true → taken d e k ≡ placed d e
unfolding taken
taken_waits d e k c = rw c

-- what holds of both holds of an accepted order
pub taken_either : (P : Result → Type 0) (d : Day) (e : Order) (k : TimeInForce) → P (placed d e) → P (entered d e k)
    → P (taken d e k)
taken_either P d e k waits matched = go (is_collecting d.phase) refl
  where
    go : (z : Bool) → is_collecting d.phase ≡ z → P (taken d e k)
    go true c = subst P (sym (taken_waits d e k c)) waits
    go false c = subst P (sym (taken_matched d e k c)) matched
