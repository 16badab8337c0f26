-- A call on the parts of a sound day, refused or accepted, as its contract asks for it.
use Prim.Native.Nat.{ℕ, zero, suc, ◌<◌}
use native.Mathlib.Omega.{arith}
use mathlib.Core.Path.{◌≡◌, refl, ap, sym, ◌∙◌}
use mathlib.Core.List.{List}
use mathlib.Core.Bool.{true}
use lib.ListN.{length}
use Rattle.market.specs.declared.Answer.{Answer}
use Rattle.market.specs.declared.Answer.TheVariants.{Refused}
use Rattle.market.specs.declared.Floor.{Floor}
use Rattle.market.specs.declared.Rules.{Rules}
use Rattle.market.specs.Day.{Day}
use Rattle.market.specs.View.{day_of}
use Rattle.market.specs.Sound.{sound}
use Rattle.market.specs.TradeList.{written}
use Rattle.market.specs.Calls.{Call}
use Rattle.market.specs.Questions.{first_no, questions}
use Rattle.market.specs.Step.{Reply, effect}
use Rattle.market.specs.Parts.{Carries, HandedBack}
use Rattle.market.proofs.Step.{step_accepted, step_refused}

module _ (r : Rules) (f : Floor) (l : List ℕ) (c : Call) (t : sound (day_of r f) ≡ true) where
  abbrev d : Day
  d = day_of r f

  -- refused with the first "no", everything as it was
  pub carries_refuse : (n : ℕ) → 0 < n → first_no (questions d (length l) c) ≡ n → Carries r f l c f l (Refused n 0)
  carries_refuse zero h e = absurd (omega arith)
  carries_refuse (suc n) h e =
      let s = step_refused d l c n t e in
      record {
        answer = ap (λ (z : Reply). z.answer) (sym s);
        day = ap (λ (z : Reply). z.day) (sym s);
        list = ap (λ (z : Reply). z.list) (sym s);
        refusal = refl;
      }

  -- every question is answered "yes", and this is what the effect says; a group's may be a refusal
  pub carries_accept : (f' : Floor) (l' : List ℕ) (a : Answer) → first_no (questions d (length l) c) ≡ 0
      → a ≡ (effect d c).answer → day_of r f' ≡ (effect d c).day → l' ≡ written (effect d c).trades l → HandedBack f a f'
      → Carries r f l c f' l' a
  carries_accept f' l' a e answer day list back =
      let s = step_accepted d l c t e in
      record {
        answer = answer ∙ ap (λ (z : Reply). z.answer) (sym s);
        day = day ∙ ap (λ (z : Reply). z.day) (sym s);
        list = list ∙ ap (λ (z : Reply). z.list) (sym s);
        refusal = back;
      }
