-- A command by the public call on a state: it does on the state's floor what its line says.
use Prim.Native.Nat.{ℕ}
use mathlib.Core.Path.{◌≡◌, refl, sym, ap, ◌∙◌}
use mathlib.Core.List.{List}
use mathlib.Core.Bool.{true}
use lib.ListN.{length}
use Rattle.market.specs.declared.Answer.{Answer}
use Rattle.market.specs.declared.Answer.TheVariants.{Done, Refused}
use Rattle.market.specs.declared.Call.{Call}
use Rattle.market.specs.declared.Rules.{Rules}
use Rattle.market.specs.declared.State.{State}
use Rattle.market.specs.declared.Ticket.{Ticket}
use Rattle.market.specs.Limits.{lent_at_least}
use Rattle.market.specs.View.{day_of, view}
use Rattle.market.specs.Parts as parts
use Rattle.market.specs.Parts.{HandedBack, Ready}
use Rattle.market.specs.Ledger.{Ledger, ledger_sound, whole}
use Rattle.market.specs.ActStep.{ActReply}
use Rattle.market.specs.LedgerParts.{call_of}
use Rattle.market.specs.Contract as public
use Rattle.market.proofs.Acts.{lifted}
use Rattle.journal.proofs.Demand.{act_kept}
use Rattle.heading.specs.Heading.{malformed}
use Rattle.lines.specs.declared.Line.{Line}
use Rattle.lines.specs.declared.Line.TheVariants as line
use Rattle.reading.proofs.Tags.{OtherLine, call_tag}
use Rattle.commands.specs.Command.{Does, carried}
use Rattle.commands.proofs.Carrying.{does_call, does_wrong, no_call}

-- what a line says was done from state s on: s' is the state after it, sound and under the same rules
pub record Follows (s : State) (says : Line) (ms : List Ticket) (l : List ℕ) (s' : State) (a : Answer)
    (l' : List ℕ) : Type 0 where
  pub rules : s.rules ≡ s'.rules
  pub sound : ledger_sound (whole s') ≡ true
  pub does : Does (carried (view s) says ms) s.rules l s'.floor l' a

-- a state that is handed back has the very floor
floor_back : (s s' : State) (a : Answer) → HandedBack s a s' → HandedBack s.floor a s'.floor
floor_back s s' (Refused number place) h = ap (λ (z : State). z.floor) h
floor_back s s' (Done code filled left trades) h = tt

module _ (s : State) (ready : Ready s.rules s.floor) (sound : ledger_sound (whole s) ≡ true) (says : Line) (ms : List Ticket)
    (l : List ℕ) where
  pub follows_call : length l ≡ lent_at_least → (c : Call) (s' : State) (a : Answer) (l' : List ℕ) → says ≡ line.Call c
      → public.Does s l (call_of c ms) (record { answer = a; state = s' }) l' → Follows s says ms l s' a l'
  unfolding carried
  follows_call lent c s' a l' said h =
      let after = act_kept (whole s) ready.sized sound l (call_of c ms) in
      let day = lifted (whole s) l (parts.call_of c ms) sound in
      let rules : s.rules ≡ s'.rules =
      sym after.rules ∙ ap (λ (x : Ledger). x.day.rules) (sym h.meets.state) in
      rw said
      (record {
        rules = rules;
        sound = ap ledger_sound h.meets.state ∙ after.sound;
        does =
            does_call s.rules s.floor l (parts.call_of c ms) s'.floor l' a ready lent
            (record {
              answer = h.meets.answer ∙ ap (λ (x : ActReply). x.answer) day;
              day =
                  ap (λ (r : Rules). day_of r s'.floor) rules
                  ∙ ap (λ (x : Ledger). x.day) h.meets.state
                  ∙ ap (λ (x : ActReply). x.ledger.day) day;
              list = h.meets.list ∙ ap (λ (x : ActReply). x.list) day;
              refusal = floor_back s s' a h.refusal;
            });
      })

  -- a line that makes no call
  pub follows_none : OtherLine call_tag says → Follows s says ms l s (Refused malformed 0) l
  follows_none other = record {
    rules = refl;
    sound = sound;
    does = rw (no_call (view s) says ms other) (does_wrong _ _ l ready);
  }
