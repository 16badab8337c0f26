-- Demand 3 on the definition and over States, and soundness kept by every act.
use Prim.Native.Nat.{ℕ}
use native.Mathlib.Omega.{arith}
use mathlib.Core.Path.{◌≡◌, refl, ap, sym, ◌∙◌, subst}
use mathlib.Core.List.{List, [], ◌∷◌}
use mathlib.Core.Bool.{true}
use lib.ListN.{length, take}
use Rattle.market.specs.declared.Answer.{Answer}
use Rattle.market.specs.declared.Answer.TheVariants.{Done, Refused}
use Rattle.market.specs.declared.Rules.{Rules}
use Rattle.market.specs.declared.State.{State}
use Rattle.market.specs.declared.Asset.TheVariants.{Money, Pieces}
use Rattle.market.specs.Day.{Day}
use Rattle.market.specs.View.{Sized}
use Rattle.market.specs.Answers.{is_done}
use Rattle.market.specs.Calls as calls
use Rattle.market.specs.Step.{step}
use Rattle.market.specs.Ledger.{Ledger, ledger_sound, whole, with_day}
use Rattle.market.specs.Acts.{Act}
use Rattle.market.specs.ActStep.{ActReply, act_result, act_step, open_ledger, opened_ledger}
use Rattle.market.proofs.Deals.{records_none, records_ok}
use Rattle.market.proofs.Acts.{accepted_ledger, ledger_day, ledger_records, lifted}
use Rattle.conservation.specs.Statement.{WholeBy}
use Rattle.conservation.proofs.Demand.{agrees, opened_good, step_whole}
use Rattle.conservation.proofs.Sound.{book_of, sound_good}
use Rattle.conservation.proofs.Counts.{written_length}
use Rattle.journal.specs.LedgerBook.{LedgerBook, empty_ledger, feed_act}
use Rattle.journal.specs.Statement.{AllWhole, Demand3, LedgerAgrees, Request, Whole, book_after, ledger_after}
use Rattle.journal.specs.OverStates.{AllServedWhole, Chain, Demand3OfStates, Served, book_served, last_state, reply_of}
use Rattle.journal.specs.SoundKept.{ActKept, LedgerReached}
use Rattle.journal.proofs.Good.{GoodLedger, ledger_sound_lem}
use Rattle.journal.proofs.Steps.{act_good}
use Rattle.journal.proofs.Counts.{act_counts, act_few}

-- after an accepted opening
opening_good : (r : Rules) (date : ℕ) → is_done (open_ledger r date).answer ≡ true
    → GoodLedger (Unit {0}) r (empty_ledger date) (open_ledger r date).ledger
unfolding empty_ledger opened_ledger
opening_good r date e =
    let a = accepted_ledger r date e in
    subst (λ (l : Ledger). GoodLedger (Unit {0}) r (empty_ledger date) l) (sym a.ledger)
    (record { good = opened_good r a.rules; date = refl; deals = refl; records = records_none r date a.inside })

-- what a good ledger says to the reader
ledger_agrees : {r : Rules} (j : LedgerBook) (l : Ledger) → GoodLedger (Unit {0}) r j l → LedgerAgrees r j l
ledger_agrees j l g =
    record { day = agrees j.book l.day g.good; date = sym g.date; deals = sym g.deals }

-- every group filled its members whole or changed nothing
act_whole : {U : Type 0} {r : Rules} (j : LedgerBook) (l : Ledger) (v : List ℕ) (a : Act) → GoodLedger U r j l
    → Whole l v a (act_step l v a)
act_whole j l v a g p n ms e =
    let c = calls.linked p n ms in
    let o = step l.day v c in
    subst (λ (x : Act). Filled (act_step l v x)) (sym e)
    (subst Filled (sym (lifted l v c (ledger_sound_lem j l g)))
    (go o.answer o.day o.list (step_whole j.book l.day c v g.good p n ms refl)))
  where
    Filled : ActReply → Type 0
    Filled x = WholeBy l v p (take n ms) x.answer x.ledger x.list

    go : (answer : Answer) (d : Day) (w : List ℕ) → WholeBy l.day v p (take n ms) answer d w
        → WholeBy l v p (take n ms) answer (with_day l d) w
    go (Refused number at) d w h = (ap (with_day l) h.0, h.1)
    go (Done code filled left trades) d w h = h

-- the list of acts, one after another
run_good : {U : Type 0} {r : Rules} (qs : List Request) (j : LedgerBook) (l : Ledger) → GoodLedger U r j l
    → GoodLedger U r (book_after r j l qs) (ledger_after l qs)
unfolding book_after ledger_after
run_good [] j l g = g
run_good (q ∷ qs) j l g = run_good qs _ _ (act_good j l q.list g q.act)

run_whole : {U : Type 0} {r : Rules} (qs : List Request) (j : LedgerBook) (l : Ledger) → GoodLedger U r j l → AllWhole l qs
run_whole [] j l g = tt
run_whole (q ∷ qs) j l g =
    (act_whole j l q.list q.act g, run_whole qs _ _ (act_good j l q.list g q.act))

pub demand3 : Demand3
demand3 r date e qs =
    let g = opening_good r date e in
    let l = (open_ledger r date).ledger in
    record {
      agrees = ledger_agrees _ _ (run_good qs (empty_ledger date) l g);
      groups = run_whole qs (empty_ledger date) l g;
    }

pub ledger_reached : LedgerReached
ledger_reached r date e qs =
    ledger_sound_lem _ _ (run_good qs (empty_ledger date) (open_ledger r date).ledger (opening_good r date e))

-- the same over States: each contract says what the definition does
same_reply : {y : ActReply} {a : Answer} {l : Ledger} {v : List ℕ} → a ≡ y.answer → l ≡ y.ledger → v ≡ y.list
    → y ≡ record { answer = a; ledger = l; list = v }
same_reply p q t = rw (p, q, t)

record ServedGood (r : Rules) (j : LedgerBook) (s : State) (xs : List Served) : Type 0 where
  good : GoodLedger (Unit {0}) r (book_served r j xs) (whole (last_state s xs))
  groups : AllServedWhole s xs

served_good : {r : Rules} (xs : List Served) (j : LedgerBook) (s : State) → GoodLedger (Unit {0}) r j (whole s) → Chain s xs
    → ServedGood r j s xs
unfolding book_served
served_good [] j s g h = record { good = g; groups = tt }
served_good {r} (x ∷ xs) j s g h =
    let m = h.0.meets in
    let same : act_step (whole s) x.lent x.act ≡ reply_of x = same_reply m.answer m.state m.list in
    let rest = served_good xs (feed_act r j x.act x.outcome.answer x.list) x.outcome.state
    (subst (λ (y : ActReply). GoodLedger (Unit {0}) r (feed_act r j x.act y.answer y.list) y.ledger) same
    (act_good j (whole s) x.lent g x.act)) h.1 in
    record {
      good = rest.good;
      groups = (
        subst (λ (y : ActReply). Whole (whole s) x.lent x.act y) same (act_whole j (whole s) x.lent x.act g),
        rest.groups,
      );
    }

pub demand3_of_states : Demand3OfStates
demand3_of_states r date o h e xs c =
    let done : is_done (open_ledger r date).answer ≡ true = subst (λ (a : Answer). is_done a ≡ true) h.answer e in
    let g = subst (λ (l : Ledger). GoodLedger (Unit {0}) r (empty_ledger date) l) (sym h.state) (opening_good r date done) in
    let s = served_good xs (empty_ledger date) o.state g c in
    record { agrees = ledger_agrees _ _ s.good; groups = s.groups }

-- a sound ledger is good against a book of its own
sound_ledger : (l : Ledger) → Sized l.day → ledger_sound l ≡ true
    → GoodLedger ⊥ l.day.rules (record { book = book_of l.day; date = l.date; deals = l.deals }) l
sound_ledger l size e = record {
  good = sound_good l.day size (ledger_day l e);
  date = refl;
  deals = refl;
  records = records_ok l.day.rules l.date l.deals (ledger_records l e);
}

-- every act on a sound ledger leaves a sound ledger
pub act_kept : ActKept
unfolding act_step
act_kept l size e v a =
    let g = sound_ledger l size e in
    let after = act_good _ l v g a in
    let few = act_few _ l v g a in
    let counts = act_counts l (length v) a in
    let standing = after.good.standing in
    record {
      sound = ledger_sound_lem _ _ after;
      sized = record {
        table = ap (λ (r : Rules). length r.table) (sym after.good.agree.rules) ∙ size.table;
        money = (standing.backed.held Money).positions;
        pieces = (standing.backed.held Pieces).positions;
        codes = standing.limit.places;
        turnover = standing.turnover_length;
      };
      rules = sym after.good.agree.rules;
      few = omega (arith, counts, few.most);
      trades = omega (arith, counts, few.trades);
      list = written_length (act_result l (length v) a).trades v few.numbers;
    }
