-- Laws of question 6: the phase of a call that it admits.
use mathlib.Core.Path.{◌≡◌, refl, sym, subst}
use mathlib.Core.Bool.{true, false}
use Rattle.market.specs.declared.Access.TheVariants.{ClosingOrder, EndCollecting, EndSession, Kept, Member, NewDay, Offer}
use Rattle.market.specs.declared.Phase.{Phase}
use Rattle.market.specs.declared.Phase.TheVariants.{Closed, Closing, Collecting, Open}
use Rattle.market.specs.declared.TimeInForce.{TimeInForce}
use Rattle.market.specs.declared.TimeInForce.TheVariants as force
use Rattle.market.specs.Sound.{is_collecting, is_open, kept_in}
use Rattle.market.specs.Phases.{admits, order_access}
use Rattle.market.proofs.Logic.{never}

pub collecting_phase : (x : Phase) → is_collecting x ≡ true → x ≡ Collecting
collecting_phase Open e = never e
collecting_phase Collecting e = refl
collecting_phase Closing e = never e
collecting_phase Closed e = never e

pub auction_phase : (x : Phase) → admits x EndCollecting ≡ true → x ≡ Collecting
auction_phase Open e = never e
auction_phase Collecting e = refl
auction_phase Closing e = never e
auction_phase Closed e = never e

pub session_phase : (x : Phase) → admits x EndSession ≡ true → x ≡ Closing
session_phase Open e = never e
session_phase Collecting e = never e
session_phase Closing e = refl
session_phase Closed e = never e

pub closing_phase : (x : Phase) → admits x ClosingOrder ≡ true → x ≡ Closing
closing_phase Open e = never e
closing_phase Collecting e = never e
closing_phase Closing e = refl
closing_phase Closed e = never e

-- an offer enters where such may wait
pub offer_open : (x : Phase) → admits x Offer ≡ true → is_open x ≡ true
offer_open Open e = refl
offer_open Collecting e = e
offer_open Closing e = e
offer_open Closed e = e

pub new_day_phase : (x : Phase) → admits x NewDay ≡ true → x ≡ Closed
new_day_phase Open e = never e
new_day_phase Collecting e = never e
new_day_phase Closing e = never e
new_day_phase Closed e = refl

-- a kept order enters where such may wait
pub kept_waits : (x : Phase) → admits x Kept ≡ true → kept_in x ≡ true
kept_waits Open e = refl
kept_waits Collecting e = refl
kept_waits Closing e = e
kept_waits Closed e = e

-- an order that question 6 admits: a kept one while collecting, else the phase is open
pub enters_open : (k : TimeInForce) (x : Phase) → admits x (order_access k) ≡ true → is_collecting x ≡ false → x ≡ Open
enters_open k Open e n = refl
enters_open k Collecting e n = never (sym n)
enters_open force.Kept Closing e n = never e
enters_open force.ImmediateOrCancel Closing e n = never e
enters_open force.FillOrKill Closing e n = never e
enters_open force.Kept Closed e n = never e
enters_open force.ImmediateOrCancel Closed e n = never e
enters_open force.FillOrKill Closed e n = never e

pub enters_kept : (k : TimeInForce) (x : Phase) → admits x (order_access k) ≡ true → is_collecting x ≡ true → k ≡ force.Kept
enters_kept k x e c = go k (subst (λ (y : Phase). admits y (order_access k) ≡ true) (collecting_phase x c) e)
  where
    go : (k : TimeInForce) → admits Collecting (order_access k) ≡ true → k ≡ force.Kept
    go force.Kept h = refl
    go force.ImmediateOrCancel h = never h
    go force.FillOrKill h = never h

-- a member of a group enters only while open
pub member_open : (x : Phase) → admits x Member ≡ true → x ≡ Open
member_open Open e = refl
member_open Collecting e = never e
member_open Closing e = never e
member_open Closed e = never e
