-- From a call on a floor to what its line does, and lines that make no call.
use Prim.Native.Nat.{ℕ, ◌+◌, ◌-◌, ◌≤◌, ◌<◌}
use native.Mathlib.Omega.{arith}
use mathlib.Core.Path.{◌≡◌, refl, sym, ap, subst, ◌∙◌}
use mathlib.Core.List.{List}
use mathlib.Core.Bool.{Bool, true, false}
use lib.ListN.{length}
use types.Run.{miss}
use borrow.Author.Tests.{le-leb, le-ltb, leb-false, leb-true, lt-leb, lt-ltb, ltb-true}
use Rattle.market.specs.declared.Answer.{Answer}
use Rattle.market.specs.declared.Answer.TheVariants.{Refused}
use Rattle.market.specs.declared.Floor.{Floor}
use Rattle.market.specs.declared.Rules.{Rules}
use Rattle.market.specs.declared.Ticket.{Ticket}
use Rattle.market.specs.Limits.{lent_at_least, max_trades}
use Rattle.market.specs.Tests.{◌and◌, ◌≤?◌}
use Rattle.market.specs.Day.{Day}
use Rattle.market.specs.View.{Sized, day_of}
use Rattle.market.specs.Sound.{sound}
use Rattle.market.specs.TradeList.{written}
use Rattle.market.specs.Answers.{numbers_of, refused}
use Rattle.market.specs.Calls.{Call}
use Rattle.market.specs.Step.{result, step}
use Rattle.market.specs.Parts.{Carries, Ready}
use Rattle.market.proofs.Logic.{and_true}
use Rattle.conservation.proofs.Counts.{result_counts}
use Rattle.conservation.proofs.Demand.{sound_kept}
use Rattle.heading.specs.Heading.{malformed}
use Rattle.lines.specs.declared.Line.{Line}
use Rattle.lines.specs.declared.Line.TheVariants as line
use Rattle.reading.proofs.Tags.{OtherLine, call_tag, other_lines}
use Rattle.commands.specs.Command.{Does, called, carried}
use Rattle.commands.specs.Stand.{goes_on, room}

-- a call that was carried out with a list of 1,088 numbers
pub does_call : (r : Rules) (f : Floor) (l : List ℕ) (c : Call) (f' : Floor) (l' : List ℕ) (a : Answer) → Ready r f
    → length l ≡ lent_at_least → Carries r f l c f' l' a → Does (called (day_of r f) c) r l f' l' a
unfolding step
does_call r f l c f' l' a ready n h =
    let d = day_of r f in
    let kept = sound_kept d ready.sized ready.sound l c in
    let counts = result_counts d lent_at_least c in
    let answer = h.answer ∙ ap (λ (i : ℕ). (result d i c).answer) n in
    let few = subst (λ (i : ℕ). (numbers_of (result d i c).answer).trades ≤ max_trades) n kept.trades in
    record {
      answer = answer;
      day = h.day ∙ ap (λ (i : ℕ). (result d i c).day) n;
      list = h.list ∙ ap (λ (i : ℕ). written (result d i c).trades l) n;
      ready = record { sized = subst Sized (sym h.day) kept.sized; sound = ap sound h.day ∙ kept.sound };
      trades = ap (λ (a : Answer). (numbers_of a).trades) answer ∙ counts;
      few = omega (arith, counts, few);
      size = ap length h.list ∙ kept.list;
    }

-- a line that makes no call
pub does_wrong : (r : Rules) (f : Floor) (l : List ℕ) → Ready r f
    → Does (refused (day_of r f) malformed 0) r l f l (Refused malformed 0)
does_wrong r f l ready = record {
  answer = refl;
  day = refl;
  list = refl;
  ready = ready;
  trades = refl;
  few = omega arith;
  size = refl;
}

pub no_call : (d : Day) (says : Line) (ms : List Ticket) → OtherLine call_tag says
    → carried d says ms ≡ refused d malformed 0
unfolding carried
no_call d (line.Call c) ms h = absurd (miss (other_lines call_tag) call_tag tt h)
no_call d (line.Heading a b c) ms h = refl
no_call d (line.Security a b c) ms h = refl
no_call d (line.Member m) ms h = refl
no_call d line.Malformed ms h = refl

-- is there a command, and room for it?
pub text_over : (all at size filled : ℕ) → all ≤ at → false ≡ goes_on all at size filled
unfolding ◌and◌
text_over all at size filled h = rw (le-ltb at all h)

pub room_left_lem : (all at size filled : ℕ) → at < all → room ≤ size
    → (filled ≤? size - room) ≡ goes_on all at size filled
unfolding ◌and◌
room_left_lem all at size filled h enough = rw (lt-ltb at all h) (go (filled ≤? size - room) refl)
  where
    go : (k : Bool) → (filled ≤? size - room) ≡ k → k ≡ (filled + room ≤? size)
    go true e = sym (le-leb (filled + room) size (omega (arith, leb-true filled (size - room) e)))
    go false e = sym (lt-leb (filled + room) size (omega (arith, leb-false filled (size - room) e)))

pub goes_on_both : (all at size filled : ℕ) → goes_on all at size filled ≡ true → (at < all) × (filled + room ≤ size)
goes_on_both all at size filled h =
    let both = and_true h in
    (ltb-true at all both.0, leb-true (filled + room) size both.1)
