-- The heading of a text: a first line that is no `H`, a fault in its `S` lines, or the answer of the opening.
use Prim.Native.Nat.{ℕ, zero, suc, ◌+◌, ◌≤◌, ◌<◌}
use native.Mathlib.Numerals.{add-one}
use native.Mathlib.Omega.{arith}
use mathlib.Core.Path.{◌≡◌, refl, ap, sym, subst, ◌∙◌}
use mathlib.Core.List.{List}
use mathlib.Core.Bool.{Bool, true, false, cond}
use lib.ListN.{drop}
use Rattle.market.specs.declared.Outcome.{Outcome}
use Rattle.market.specs.declared.Rules.{Rules}
use Rattle.market.specs.Limits.{max_securities}
use Rattle.market.specs.Tests.{◌=?◌}
use Rattle.market.specs.Day.{Day, row}
use Rattle.market.specs.Sound.{counts_sound, row_sound, rules_sound, sound}
use Rattle.market.specs.Answers.{is_done, numbers_of}
use Rattle.market.specs.Questions.{first_no}
use Rattle.market.specs.Opening.{first_wrong, opened, opening, wrong_line}
use Rattle.market.specs.View.{view}
use Rattle.market.specs.Ledger.{Ledger}
use Rattle.market.specs.ActStep.{ledger_questions, open_ledger, open_ledger_by}
use Rattle.market.specs.Contract.{Opens}
use Rattle.market.proofs.Logic.{and_true, never, within_low}
use Rattle.market.proofs.Opening.{accepted}
use Rattle.market.proofs.Acts.{opening_plain}
use Rattle.conservation.specs.Book.{empty_book}
use Rattle.conservation.proofs.Demand.{opened_good}
use Rattle.conservation.proofs.Sound.{good_sound}
use Rattle.lines.specs.declared.Line.{Line}
use Rattle.lines.specs.declared.Line.TheVariants as line
use Rattle.reading.specs.declared.Reading.{Reading}
use Rattle.reading.specs.Commands.{Reads}
use Rattle.heading.specs.declared.Headed as code
use Rattle.heading.specs.declared.Securities.{Securities}
use Rattle.heading.specs.Heading.{Headed, ReadsAs, ReadsHeading, ReadsLines, ReadsSecurities, WrongHeading}
use Rattle.heading.specs.Heading.{fault, headed_by, heading, opened_by}
use Rattle.std.specs.Prelude.{Ok, Err}

-- the place of an opening's refusal is one of its securities
wrong_within : (r : Rules) (n s : ℕ) → first_wrong r n s ≤ s + n
unfolding first_wrong
wrong_within r zero s = omega arith
wrong_within r (suc n) s = go (row_sound r.currencies (row r s)) (wrong_within r n (suc s))
  where
    go : (b : Bool) → first_wrong r n (suc s) ≤ suc s + n → cond b (first_wrong r n (suc s)) (suc s) ≤ s + suc n
    go true h = omega arith
    go false h = omega arith

opening_place : (r : Rules) (date : ℕ) → (numbers_of (open_ledger r date).answer).place ≤ r.securities
unfolding open_ledger
opening_place r date = go (first_no (ledger_questions r date))
  where
    placed : (b : Bool) → cond b (wrong_line r) 0 ≤ r.securities
    placed true = omega (arith, wrong_within r r.securities 0)
    placed false = omega arith

    go : (n : ℕ) → (numbers_of (open_ledger_by r date n).answer).place ≤ r.securities
    go zero = omega arith
    go (suc n) = placed (suc n =? 18)

pub place_small : {r : Rules} {date : ℕ} {o : Outcome} → Opens r date o → (numbers_of o.answer).place ≤ r.securities
place_small {r} {date} opens = rw opens.answer (opening_place r date)

-- the opening on day 0 is that of a day
pub record OpensPlain (r : Rules) (o : Outcome) : Type 0 where
  pub answer : o.answer ≡ (opening r).answer
  pub state : view o.state ≡ (opening r).day

pub opens_plain : {r : Rules} {o : Outcome} → Opens r 0 o → OpensPlain r o
opens_plain {r} h =
    let p = opening_plain r 0 refl in
    record { answer = h.answer ∙ p.answer; state = ap (λ (l : Ledger). l.day) h.state ∙ p.day }

-- an accepted opening has a security, and its day is sound
opening_some : (r : Rules) → is_done (opening r).answer ≡ true → 0 < r.securities
unfolding rules_sound counts_sound
opening_some r done =
    let counts = and_true (accepted r done).rules.sound in
    within_low 1 max_securities r.securities (and_true (and_true counts.0).1).1

opening_sound : (r : Rules) → is_done (opening r).answer ≡ true → sound (opening r).day ≡ true
opening_sound r done =
    let h = accepted r done in
    subst (λ (d : Day). sound d ≡ true) (sym h.day) (good_sound empty_book (opened r) (opened_good r h.rules))

-- a first line that is no heading
no_heading : (says : Line) (t : List ℕ) → ((p c s : ℕ) → says ≡ line.Heading p c s → ⊥) → headed_by says t ≡ fault 1
no_heading (line.Call c) t h = refl
no_heading (line.Heading p c s) t h = absurd (h p c s refl)
no_heading (line.Security a b c) t h = refl
no_heading (line.Member m) t h = refl
no_heading line.Malformed t h = refl

reads_fault : {h : Headed} {text : List ℕ} {n : ℕ} {r : code.Headed} → h ≡ fault n → WrongHeading n r
    → ReadsAs h text r
reads_fault {h} {text} {n} {r} e w = record {
  line = w.line ∙ ap (λ (x : Headed). x.line) (sym e);
  answer = w.answer ∙ ap (λ (x : Headed). x.answer) (sym e);
  day = w.day ∙ ap (λ (x : Headed). x.day) (sym e);
  rest = λ done. never (refuses done);
  next = λ done. never (refuses done);
  inside = λ done. never (refuses done);
  sound = λ done. never (refuses done);
  few = λ done. never (refuses done);
}
  where
    refuses : is_done r.outcome.answer ≡ true → false ≡ true
    refuses done = ap is_done (sym w.answer) ∙ done

module _ {text : List ℕ} {first : Reading} (reads : Reads text 0 first) where
  heading_reads : heading text ≡ headed_by first.says (drop first.next text)
  unfolding heading
  heading_reads = rw (reads.says, reads.rest)

  pub heading_other : {r : code.Headed} → ((p c s : ℕ) → first.says ≡ line.Heading p c s → ⊥) → WrongHeading 1 r → ReadsHeading text r
  heading_other other w = reads_fault (heading_reads ∙ no_heading first.says _ other) w

  -- an `H` line, and what its `S` lines come to
  pub heading_is : {p c s : ℕ} {r : code.Headed} → first.says ≡ line.Heading p c s
      → ReadsLines text first.next p c s r → ReadsHeading text r
  heading_is {p} {c} {s} {r} e h = subst (λ (x : Headed). ReadsAs x text r) (sym (heading_reads ∙ rw e)) h

-- the `S` lines from `from` on
module _ (p c : ℕ) {text : List ℕ} {from s : ℕ} where
  pub lines_wrong : {n : ℕ} {r : code.Headed} → ReadsSecurities text from s (Err n) → WrongHeading n r
      → ReadsLines text from p c s r
  lines_wrong l w = reads_fault (ap (opened_by p c s) (sym l.lines)) w

  module _ {lines : Securities} (l : ReadsSecurities text from s (Ok lines)) where
    abbrev rules : Rules
    rules = record { participants = p; currencies = c; securities = s; table = lines.table; rate = 0 }

    module _ {o : Outcome} (dated : Opens rules 0 o) where
      opens : OpensPlain rules o
      opens = opens_plain dated

      pub lines_open : {place : ℕ} → place ≡ (numbers_of o.answer).place
          → ReadsLines text from p c s (record { outcome = o; line = place + 1; next = s + 2; at = lines.next })
      lines_open {place} same =
          let h = ap (opened_by p c s) (sym l.lines) in
          record {
            line = rw (h, same, opens.answer) (add-one _);
            answer = rw h opens.answer;
            day = rw h opens.state;
            rest = λ done. rw h;
            next = λ done. rw h;
            inside = λ done. l.inside (opening_some rules (accepts done));
            sound = λ done. rw opens.state (opening_sound rules (accepts done));
            few = λ done. omega (arith, (accepted rules (accepts done)).rules.securities);
          }
        where
          accepts : is_done o.answer ≡ true → is_done (opening rules).answer ≡ true
          accepts done = rw opens.answer at done
