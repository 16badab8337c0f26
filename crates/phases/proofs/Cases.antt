-- What question 6 decides: the theorems of specs/Cases.
use Prim.Native.Nat.{ℕ, zero, suc}
use native.Mathlib.Omega.{arith}
use mathlib.Core.Path.{◌≡◌, refl, ap, sym, ◌∙◌}
use mathlib.Core.List.{List, [], ◌∷◌, ◌++◌}
use mathlib.Core.Bool.{Bool, true, false, cond}
use lib.Dec.{T}
use lib.ListN.{drop, length, take}
use borrow.Author.Tests.{eqb-false}
use Rattle.market.specs.declared.Access.{Access}
use Rattle.market.specs.declared.Access.TheVariants.{ClosingOrder, EndCollecting, EndSession}
use Rattle.market.specs.declared.Access.TheVariants.{Member, NewDay, Offer, StartClosing, StartCollecting}
use Rattle.market.specs.declared.Answer.{Answer}
use Rattle.market.specs.declared.Answer.TheVariants.{Refused}
use Rattle.market.specs.declared.Order.{Order}
use Rattle.market.specs.declared.Phase.{Phase}
use Rattle.market.specs.declared.Ticket.{Ticket}
use Rattle.market.specs.declared.TimeInForce.{TimeInForce}
use Rattle.market.specs.declared.TimeInForce.TheVariants as force
use Rattle.market.specs.Limits.{max_members, min_members}
use Rattle.market.specs.Tests.{◌=?◌}
use Rattle.market.specs.Day.{Day}
use Rattle.market.specs.Positions.{block_for, release_for, settle}
use Rattle.market.specs.Answers.{Result, numbers_of}
use Rattle.market.specs.Calls.{Call, cancel, closing_order, decrease, end_collecting, end_session, entry_of, increase}
use Rattle.market.specs.Calls.{linked, order, start_closing, start_collecting}
use Rattle.market.specs.Matching.{Filled, fill, traded}
use Rattle.market.specs.Phases.{admits, order_access}
use Rattle.market.specs.Questions.{Question, ask, closing_questions, first_by, first_no, is_free}
use Rattle.market.specs.Questions.{member_questions, order_questions, questions, total_fits}
use Rattle.market.specs.Entry.{admitted, entered, placed}
use Rattle.market.specs.Linked.{Group, group_result, member_by, members, passed, stopped, with_member}
use Rattle.market.specs.Step.{all_questions, answer_by, effect, result, step}
use Rattle.market.specs.Offers.{offer_of}
use Rattle.market.specs.Ledger.{Ledger}
use Rattle.market.specs.Acts.{Act, day, new_day, offer, second_part}
use Rattle.market.specs.ActStep.{ActReply, act_by, act_effect, act_questions, act_result, act_step, all_act_questions, offer_questions}
use Rattle.market.proofs.Logic.{within_low}
use Rattle.market.proofs.Questions.{AllYes, all_yes, hides, passes, proper}
use Rattle.market.proofs.Entry.{taken_either}
use Rattle.market.proofs.Fill.{fill_all}
use Rattle.market.proofs.Acts.{lifted, offered_answer}
use Rattle.phases.specs.Cases.{ActSixExactly, AskedSix, Decided, InEveryPhase, MembersSix, NeverSix}
use Rattle.phases.specs.Cases.{SixExactly, earlier}

pub in_every_phase : (d : Day) (x : Phase) (lent : ℕ) → InEveryPhase d x lent
unfolding questions total_fits is_free
in_every_phase d x lent = record {
  increases = λ a p column n. refl;
  decreases = λ a p column n. refl;
  cancels = λ p code. refl;
}

-- none of these questions has number 6
abbrev others : List Question → Bool
others [] = true
others (q ∷ qs) = cond (q.number =? 6) false (others qs)

other_no : (qs : List Question) → T (others qs) → first_no qs ≡ 6 → ⊥
other_no [] t e = omega arith
other_no (q ∷ qs) t e = go (other_no qs) (q.number =? 6) refl t q.yes? e
  where
    go : (T (others qs) → first_no qs ≡ 6 → ⊥) → (z : Bool) → (q.number =? 6) ≡ z → T (cond z false (others qs))
        → (k : Bool) → first_by k q.number (first_no qs) ≡ 6 → ⊥
    go rest true h t k e = t
    go rest false h t true e = rest t e
    go rest false h t false e = eqb-false q.number 6 h e

-- question 6 between others
module _ (before after : List Question) where
  six_no : T (proper before) → first_no before ≡ 0 → first_no (before ++ (ask 6 false ∷ after)) ≡ 6
  six_no t e = passes before (ask 6 false ∷ after) (all_yes before t e)

  six_yes : T (proper before) → T (others before) → T (others after) → first_no (before ++ (ask 6 true ∷ after)) ≡ 6 → ⊥
  six_yes t b a e = go (first_no before) refl
    where
      go : (n : ℕ) → first_no before ≡ n → ⊥
      go zero z = other_no after a (sym (passes before (ask 6 true ∷ after) (all_yes before t z)) ∙ e)
      go (suc n) z = other_no before b (sym (hides before (ask 6 true ∷ after) (omega arith)) ∙ e)

-- where no question is answered "no", a call other than a group is accepted
abbrev Accepted : Day → Call → Type 0
Accepted d c = (numbers_of (effect d c).answer).refusal ≡ 0

order_accepted : (d : Day) (p : ℕ) (m : Ticket) (k : TimeInForce) → Accepted d (order p m k)
unfolding effect entered placed
order_accepted d p m k =
    taken_either (λ (r : Result). (numbers_of r.answer).refusal ≡ 0) d (entry_of d p m) k refl refl

-- an answer by the first "no" of these questions: 6 where that is, and nowhere else
module _ (asked : List Question) (answer : Answer) (six : first_no asked ≡ 6 → answer ≡ Refused 6 0)
    (only : (first_no asked ≡ 6 → ⊥) → (numbers_of answer).refusal ≡ 6 → ⊥) where
  -- question 6 stands behind n of them
  asks_six : (n : ℕ) (x : Phase) (a : Access) → asked ≡ take n asked ++ (ask 6 (admits x a) ∷ drop (suc n) asked)
      → earlier asked ≡ take n asked → T (proper (take n asked)) → T (others (take n asked)) → T (others (drop (suc n) asked))
      → Decided x a (earlier asked) answer 0
  asks_six n x a split front t before after = record {
    refuses =
        λ h e.
        six (ap first_no split ∙ rw h (six_no (take n asked) (drop (suc n) asked) t (ap first_no (sym front) ∙ e)));
    clears =
        λ h.
        only
        (λ e.
        six_yes (take n asked) (drop (suc n) asked) t before after
        (ap (λ (z : Bool). first_no (take n asked ++ (ask 6 z ∷ drop (suc n) asked))) (sym h) ∙ sym (ap first_no split) ∙ e));
  }

  -- it does not stand among them
  asks_none : T (others asked) → (numbers_of answer).refusal ≡ 6 → ⊥
  asks_none t = only (other_no asked t)

-- so of a call of the trading day
module _ (d : Day) (l : List ℕ) (c : Call) where
  abbrev asked : List Question
  asked = all_questions d (length l) c

  refused_six : first_no asked ≡ 6 → (step d l c).answer ≡ Refused 6 0
  unfolding step result
  refused_six e = rw e

  not_six : (first_no asked ≡ 0 → (numbers_of (effect d c).answer).refusal ≡ 6 → ⊥) → (first_no asked ≡ 6 → ⊥)
      → (numbers_of (step d l c).answer).refusal ≡ 6 → ⊥
  unfolding step result
  not_six done other = go (first_no asked) refl
    where
      go : (n : ℕ) → first_no asked ≡ n → (numbers_of (answer_by n d (effect d c)).answer).refusal ≡ 6 → ⊥
      go zero z e = done z e
      go (suc n) z e = other (z ∙ e)

  call_six : (n : ℕ) (a : Access) → asked ≡ take n asked ++ (ask 6 (admits d.phase a) ∷ drop (suc n) asked)
      → earlier asked ≡ take n asked → T (proper (take n asked)) → T (others (take n asked)) → T (others (drop (suc n) asked))
      → Accepted d c → AskedSix d l c a
  call_six n a split front t before after done =
      asks_six asked (step d l c).answer refused_six (not_six (λ z e. omega (arith, done))) n d.phase a split front t before after

  call_none : T (others asked) → Accepted d c → NeverSix d l c
  call_none t done = asks_none asked (step d l c).answer refused_six (not_six (λ z e. omega (arith, done))) t

-- the phase of a day stays while members of a group enter
fill_phase : (d : Day) (e : Order) → (fill d e).day.phase ≡ d.phase
unfolding traded settle
fill_phase =
    fill_all (λ (d : Day) (e : Order) (r : Filled). r.day.phase ≡ d.phase) (λ d e h. refl) (λ d e c. refl)
    (λ d e i p some c r h. h)

whole_phase : (d : Day) (e : Order) → (entered d e force.FillOrKill).day.phase ≡ d.phase
unfolding entered admitted block_for release_for
whole_phase d e = fill_phase (admitted d e) e

-- the number at which a group stops
abbrev number_of : Group → ℕ
number_of (stopped n at) = n
number_of (passed d filled ts) = 0

group_number : (d : Day) (p : ℕ) (g : Group) → (numbers_of (group_result d p g).answer).refusal ≡ number_of g
group_number d p (stopped n at) = refl
group_number d p (passed d' filled ts) = refl

member_number : (r : Result) (g : Group) → number_of (with_member r g) ≡ number_of g
member_number r (stopped n at) = refl
member_number r (passed d filled ts) = refl

-- of a member, questions 4 and 5 stand before question 6
member_six_no : (d : Day) (p : ℕ) (m : Ticket) → admits d.phase Member ≡ false
    → first_no (take 2 (member_questions d p m)) ≡ 0 → first_no (member_questions d p m) ≡ 6
unfolding order_questions
member_six_no d p m h e =
    let qs = member_questions d p m in
    rw h (six_no (take 2 qs) (drop 3 qs) tt e)

member_six_yes : (d : Day) (p : ℕ) (m : Ticket) → admits d.phase Member ≡ true
    → first_no (member_questions d p m) ≡ 6 → ⊥
unfolding order_questions
member_six_yes d p m h e =
    let qs = member_questions d p m in
    six_yes (take 2 qs) (drop 3 qs) tt tt tt
    (ap (λ (z : Bool). first_no (take 2 qs ++ (ask 6 z ∷ drop 3 qs))) (sym h) ∙ e)

members_admitted : (ms : List Ticket) (at : ℕ) (d : Day) (p : ℕ) → admits d.phase Member ≡ true
    → number_of (members at d p ms) ≡ 6 → ⊥
unfolding members
members_admitted [] at d p h e = omega arith
members_admitted (m ∷ ms) at d p h e =
    go (members_admitted ms (suc at) r.day p) (first_no (member_questions d p m)) refl e
  where
    r : Result
    r = entered d (entry_of d p m) force.FillOrKill

    go : (admits r.day.phase Member ≡ true → number_of (members (suc at) r.day p ms) ≡ 6 → ⊥)
        → (n : ℕ) → first_no (member_questions d p m) ≡ n
        → number_of (member_by n at r (λ d'. members (suc at) d' p ms)) ≡ 6 → ⊥
    go rest zero z e =
        rest (ap (λ (x : Phase). admits x Member) (whole_phase d (entry_of d p m)) ∙ h)
        (sym (member_number r (members (suc at) r.day p ms)) ∙ e)
    go rest (suc n) z e = member_six_yes d p m h (z ∙ e)

-- a group whose first member meets question 6
group_earlier : (d : Day) (l : List ℕ) (p n : ℕ) (m : Ticket) (ms : List Ticket)
    → first_no (earlier (asked d l (linked p n (m ∷ ms)) ++ member_questions d p m)) ≡ 0
    → AllYes (asked d l (linked p n (m ∷ ms))) × (first_no (take 2 (member_questions d p m)) ≡ 0)
unfolding questions order_questions
group_earlier d l p n m ms e =
    let y = all_yes (earlier (asked d l (linked p n (m ∷ ms)) ++ member_questions d p m)) tt e in
    let z = y.1.1.1 in
    ((y.0, (y.1.0, (y.1.1.0, tt))), rw (z.0, z.1.0))

group_refused : (d : Day) (l : List ℕ) (p n : ℕ) (m : Ticket) (ms : List Ticket) → AllYes (asked d l (linked p n (m ∷ ms)))
    → first_no (member_questions d p m) ≡ 6 → (step d l (linked p n (m ∷ ms))).answer ≡ Refused 6 1
unfolding questions effect step result members
group_refused d l p zero m ms y six = absurd (omega (arith, within_low min_members max_members 0 y.1.1.0))
group_refused d l p (suc n) m ms y six = rw (y.0, y.1.0, y.1.1.0, six)

group_asked : (d : Day) (l : List ℕ) (p n : ℕ) (ms : List Ticket) → MembersSix d l p n ms
unfolding questions effect members
group_asked d l p n [] = not_six d l (linked p n []) (λ z e. none n e) (other_no (asked d l (linked p n [])) tt)
  where
    none : (n : ℕ) → (numbers_of (group_result d p (members 1 d p (take n []))).answer).refusal ≡ 6 → ⊥
    none zero e = omega arith
    none (suc n) e = omega arith
group_asked d l p n (m ∷ ms) = record {
  refuses =
      λ h e.
      let y = group_earlier d l p n m ms e in
      group_refused d l p n m ms y.0 (member_six_no d p m h y.1);
  clears =
      λ h.
      not_six d l (linked p n (m ∷ ms))
      (λ z e. members_admitted (take n (m ∷ ms)) 1 d p h (sym (group_number d p (members 1 d p (take n (m ∷ ms)))) ∙ e))
      (other_no (asked d l (linked p n (m ∷ ms))) tt);
}

pub six_exactly : (d : Day) (l : List ℕ) (c : Call) → SixExactly d l c
unfolding questions order_questions closing_questions effect placed
six_exactly d l (increase x p column a) = call_none d l (increase x p column a) tt refl
six_exactly d l (decrease x p column a) = call_none d l (decrease x p column a) tt refl
six_exactly d l (order p m k) =
    call_six d l (order p m k) 4 (order_access k) refl refl tt tt tt (order_accepted d p m k)
six_exactly d l (cancel p code) = call_none d l (cancel p code) tt refl
six_exactly d l (linked p n ms) = group_asked d l p n ms
six_exactly d l start_closing = call_six d l start_closing 1 StartClosing refl refl tt tt tt refl
six_exactly d l (closing_order p side s lots) =
    call_six d l (closing_order p side s lots) 3 ClosingOrder refl refl tt tt tt refl
six_exactly d l end_session = call_six d l end_session 2 EndSession refl refl tt tt tt refl
six_exactly d l start_collecting = call_six d l start_collecting 1 StartCollecting refl refl tt tt tt refl
six_exactly d l end_collecting = call_six d l end_collecting 2 EndCollecting refl refl tt tt tt refl

-- and of an act on a ledger
module _ (l : Ledger) (v : List ℕ) (a : Act) (done : (numbers_of (act_effect l a).answer).refusal ≡ 0) where
  abbrev act_asked : List Question
  act_asked = all_act_questions l (length v) a

  act_refused_six : first_no act_asked ≡ 6 → (act_step l v a).answer ≡ Refused 6 0
  unfolding act_step act_result
  act_refused_six e = rw e

  act_not_six : (first_no act_asked ≡ 6 → ⊥) → (numbers_of (act_step l v a).answer).refusal ≡ 6 → ⊥
  unfolding act_step act_result
  act_not_six other = go (first_no act_asked) refl
    where
      go : (n : ℕ) → first_no act_asked ≡ n → (numbers_of (act_by n l (act_effect l a)).answer).refusal ≡ 6 → ⊥
      go zero z e = omega (arith, done)
      go (suc n) z e = other (z ∙ e)

pub act_six_exactly : (l : Ledger) (v : List ℕ) (a : Act) → ActSixExactly l v a
unfolding act_questions offer_questions act_effect
act_six_exactly l v (day c) = (λ t. ap (λ (x : ActReply). x.answer) (lifted l v c t), six_exactly l.day v c)
act_six_exactly l v (offer p m rate term) =
    let a = offer p m rate term in
    let done = offered_answer l.day (offer_of l.day p m rate term) (λ x. (numbers_of x).refusal ≡ 0) (λ filled left. refl) in
    asks_six (act_asked l v a done) (act_step l v a).answer (act_refused_six l v a done) (act_not_six l v a done) 4 l.day.phase Offer
    refl refl tt tt tt
act_six_exactly l v (second_part place) =
    let a = second_part place in
    asks_none (act_asked l v a refl) (act_step l v a).answer (act_refused_six l v a refl) (act_not_six l v a refl) tt
act_six_exactly l v (new_day date) =
    let a = new_day date in
    asks_six (act_asked l v a refl) (act_step l v a).answer (act_refused_six l v a refl) (act_not_six l v a refl) 1 l.day.phase NewDay
    refl refl tt tt tt
