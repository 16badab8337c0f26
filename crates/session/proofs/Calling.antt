-- Starts and ends of the sessions on a sound floor, as the contracts ask for them.
use Prim.Native.Nat.{ℕ, ◌≤◌, ◌<◌}
use native.Mathlib.Nat.{zero-add}
use native.Mathlib.Omega.{arith}
use mathlib.Core.Path.{◌≡◌, refl, ap, sym, ◌∙◌}
use mathlib.Core.List.{List, [], ◌∷◌}
use mathlib.Core.Bool.{true, false}
use lib.ListN.{length}
use borrow.Author.Tests.{eqb-true, le-leb, lt-leb}
use Rattle.market.specs.declared.Answer.TheVariants.{Done, Refused}
use Rattle.market.specs.declared.Floor.{Floor}
use Rattle.market.specs.declared.Order.{Order}
use Rattle.market.specs.declared.Phase.{Phase}
use Rattle.market.specs.declared.Phase.TheVariants as phase
use Rattle.market.specs.declared.Rules.{Rules}
use Rattle.market.specs.declared.Session.{Session}
use Rattle.market.specs.declared.Session.TheVariants.{Closing, Collecting}
use Rattle.market.specs.Limits.{lent_at_least, max_participants}
use Rattle.market.specs.Day.{Day, with_phase}
use Rattle.market.specs.View.{day_of}
use Rattle.market.specs.Phases.{admits}
use Rattle.market.specs.Codes.{codes_of, given}
use Rattle.market.specs.Waiting.{all_leave, leave_first}
use Rattle.market.specs.TradeList.{lots_of, written}
use Rattle.market.specs.Answers.{Result, zeros}
use Rattle.market.specs.Questions.{ask, enough_lent, first_no, questions}
use Rattle.market.specs.Pairing.{end_result}
use Rattle.market.specs.Step.{effect}
use Rattle.market.specs.Parts.{Carries, Ready, end_of, start_of}
use Rattle.market.proofs.Phases.{auction_phase, session_phase}
use Rattle.market.proofs.Codes.{CodesWithin, numbered_none}
use Rattle.market.proofs.Parts.{carries_accept, carries_refuse}
use Rattle.invariant.specs.Standing.{Standing}
use Rattle.invariant.proofs.Sound.{ready_standing}
use Rattle.orders.proofs.Asking.{count_within}
use Rattle.pairing.specs.declared.Tally.{Tally}
use Rattle.pairing.specs.Leaving.{all_left}
use Rattle.session.specs.Sessions.{Endable, PairsAll, end_access, next_phase, paired_from, phase_of, start_access, starts_at}

-- the questions of an end, what it does, and its phase
end_asks : (z : Session) (d : Day) (n : ℕ)
    → first_no (questions d n (end_of z)) ≡ first_no (ask 2 (enough_lent n) ∷ ask 6 (admits d.phase (end_access z)) ∷ [])
unfolding questions
end_asks Closing d n = refl
end_asks Collecting d n = refl

end_effect : (z : Session) (r : Rules) (f : Floor)
    → effect (day_of r f) (end_of z) ≡ end_result (next_phase z) (paired_from z r r.securities 0 f)
unfolding effect
end_effect Closing r f = refl
end_effect Collecting r f = refl

ends_phase : (z : Session) (x : Phase) → admits x (end_access z) ≡ true → x ≡ phase_of z
ends_phase Closing x e = session_phase x e
ends_phase Collecting x e = auction_phase x e

-- the questions of a start, and that all orders leave: before an auction none waits
start_asks : (z : Session) (d : Day) (n : ℕ)
    → first_no (questions d n (start_of z))
    ≡ first_no (ask 6 (admits d.phase (start_access z)) ∷ ask 21 (starts_at z (given d)) ∷ [])
unfolding questions
start_asks Closing d n = refl
start_asks Collecting d n = refl

none_leave : (d : Day) → d.waiting ≡ [] → d ≡ leave_first (length d.waiting) d
unfolding leave_first
none_leave d e = ap (λ (w : List Order). leave_first (length w) d) (sym e)

start_effect : (z : Session) (d : Day) → Standing d → starts_at z (given d) ≡ true
    → effect d (start_of z) ≡ zeros (all_leave d (phase_of z))
unfolding effect all_leave
start_effect Closing d st e = refl
start_effect Collecting d st e =
    ap (λ (w : Day). zeros (with_phase w phase.Collecting))
    (none_leave d (numbered_none (given d) (codes_of d) d.waiting st.codes (eqb-true (given d) 0 e)))

module _ {r : Rules} {f : Floor} (g : Ready r f) where
  abbrev d : Day
  d = day_of r f

  -- all codes given can be added up
  pub summable : (r.participants ≤ max_participants) × CodesWithin r.participants f.codes
  summable = let st = ready_standing g in (st.backed.rules_ok.participants, st.limit)

  -- the start of a session
  module _ (z : Session) where
    pub start_refused : admits f.phase (start_access z) ≡ false → Carries r f [] (start_of z) f [] (Refused 6 0)
    start_refused e = carries_refuse r f [] (start_of z) g.sound 6 (omega arith) (start_asks z d 0 ∙ rw e)

    module _ (admitted : admits f.phase (start_access z) ≡ true) where
      pub start_late : starts_at z (given d) ≡ false → Carries r f [] (start_of z) f [] (Refused 21 0)
      start_late e =
          carries_refuse r f [] (start_of z) g.sound 21 (omega arith) (start_asks z d 0 ∙ rw (admitted, e))

      pub started : {f' : Floor} → starts_at z (given d) ≡ true → day_of r f' ≡ all_left d
          → Carries r f [] (start_of z) (record f' { phase = phase_of z }) [] (Done 0 0 0 0)
      unfolding all_leave
      started {f'} e left =
          let same = start_effect z d (ready_standing g) e in
          carries_accept r f [] (start_of z) g.sound (record f' { phase = phase_of z }) [] _
          (start_asks z d 0 ∙ rw (admitted, e))
          (sym (ap (λ (w : Result). w.answer) same))
          (ap (λ (w : Day). with_phase w (phase_of z)) left ∙ sym (ap (λ (w : Result). w.day) same))
          (sym (ap (λ (w : Result). written w.trades []) same)) tt

  -- the end of a session
  module _ (z : Session) (v : List ℕ) where
    pub end_unlent : length v < lent_at_least → Carries r f v (end_of z) f v (Refused 2 0)
    end_unlent h =
        carries_refuse r f v (end_of z) g.sound 2 (omega arith)
        (end_asks z d (length v) ∙ rw (lt-leb lent_at_least (length v) h))

    module _ (lent : lent_at_least ≤ length v) where
      pub end_refused : admits f.phase (end_access z) ≡ false → Carries r f v (end_of z) f v (Refused 6 0)
      end_refused e =
          carries_refuse r f v (end_of z) g.sound 6 (omega arith)
          (end_asks z d (length v) ∙ rw (le-leb lent_at_least (length v) lent, e))

      module _ (ends : admits f.phase (end_access z) ≡ true) where
        pub endable : Endable z r f v
        endable = record {
          standing = ready_standing g;
          phase = ends_phase z f.phase ends;
          lent = omega (arith, lent, count_within r f (ready_standing g));
        }

        -- the orders are paired, and the rest comes off
        pub ended : {f1 f' : Floor} {v' : List ℕ} {c : Tally} → PairsAll z r f v f1 v' c → day_of r f' ≡ all_left (day_of r f1)
            → Carries r f v (end_of z) (record f' { phase = next_phase z }) v' (Done 0 c.lots 0 c.trades)
        unfolding all_leave
        ended {f1} {f'} {v'} {c} done left =
            let whole = paired_from z r r.securities 0 f in
            let same = end_effect z r f in
            let lots : c.lots ≡ lots_of whole.trades = done.lots ∙ zero-add _ in
            let count : c.trades ≡ length whole.trades = done.trades ∙ zero-add _ in
            carries_accept r f v (end_of z) g.sound (record f' { phase = next_phase z }) v' _
            (end_asks z d (length v) ∙ rw (le-leb lent_at_least (length v) lent, ends))
            (rw (lots, count, same))
            (ap (λ (w : Day). with_phase w (next_phase z)) (left ∙ ap all_left done.day) ∙ sym (ap (λ (w : Result). w.day) same))
            (done.list ∙ sym (ap (λ (w : Result). written w.trades v) same)) tt
