-- From the search for an order, and from its leaving, to the contract of the call.
use Prim.Native.Nat.{ℕ, ◌≤◌, ◌<◌}
use native.Mathlib.Omega.{arith}
use mathlib.Core.Path.{◌≡◌, refl, ap, sym, ◌∙◌}
use mathlib.Core.List.{[]}
use Rattle.std.proofs.Common.{Option, Some, None}
use borrow.Author.Tests.{le-ltb, lt-ltb}
use Rattle.market.specs.declared.Answer.TheVariants.{Done, Refused}
use Rattle.market.specs.declared.Floor.{Floor}
use Rattle.market.specs.declared.Rules.{Rules}
use Rattle.market.specs.Day.{Day}
use Rattle.market.specs.View.{day_of}
use Rattle.market.specs.Waiting.{Index, leave, nowhere, index_in, index_of, somewhere}
use Rattle.market.specs.Calls.{cancel}
use Rattle.market.specs.Questions.{questions}
use Rattle.market.specs.Step.{effect}
use Rattle.market.specs.Parts.{Carries, Ready}
use Rattle.market.proofs.Parts.{carries_accept, carries_refuse}
use Rattle.orders.specs.Finding.{found_at}

-- a cancellation on a sound floor
module _ (r : Rules) (f : Floor) (p c : ℕ) (ready : Ready r f) where
  abbrev d : Day
  d = day_of r f

  pub cancel_unknown : r.participants ≤ p → Carries r f [] (cancel p c) f [] (Refused 4 0)
  unfolding questions
  cancel_unknown h =
      carries_refuse r f [] (cancel p c) ready.sound 4 (omega arith) (rw (le-ltb p r.participants h))

  -- the search ended with x
  module _ {x : Option ℕ} (place : found_at x ≡ index_of p c d.waiting) where
    pub cancel_none : p < r.participants → x ≡ None → Carries r f [] (cancel p c) f [] (Refused 16 0)
    unfolding questions
    cancel_none h none =
        let e : nowhere ≡ index_of p c d.waiting = sym (ap found_at none) ∙ place in
        carries_refuse r f [] (cancel p c) ready.sound 16 (omega arith) (rw (lt-ltb p r.participants h, ← e))

    -- the order waits at place i
    module _ {i : ℕ} (found : x ≡ Some i) where
      there : somewhere i ≡ index_of p c d.waiting
      there = sym (ap found_at found) ∙ place

      pub cancel_carries : {f' : Floor} → p < r.participants → day_of r f' ≡ leave d i
          → Carries r f [] (cancel p c) f' [] (Done c 0 0 0)
      unfolding questions effect
      cancel_carries {f'} h leaves =
          carries_accept r f [] (cancel p c) ready.sound f' [] (Done c 0 0 0) (rw (lt-ltb p r.participants h, ← there)) refl
          (leaves ∙ ap (λ (z : Index). leave d (index_in z)) there) refl tt
