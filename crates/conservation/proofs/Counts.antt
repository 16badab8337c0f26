-- How many trades a call makes: they fit the lent list.
use Prim.Native.Nat.{ℕ, zero, suc, ◌*◌, ◌≤◌}
use native.Mathlib.Omega.{arith}
use mathlib.Core.Path.{◌≡◌, refl}
use mathlib.Core.List.{List, [], ◌∷◌}
use mathlib.Core.Bool.{Bool, true, false}
use lib.ListN.{length, take, drop, length-append, length-drop}
use borrow.Author.Tests.{leb-true}
use Rattle.market.specs.declared.Order.{Order}
use Rattle.market.specs.declared.Ticket.{Ticket}
use Rattle.market.specs.declared.TimeInForce.{TimeInForce}
use Rattle.market.specs.Limits.{lent_at_least, max_members, max_trades, min_members, numbers_per_trade}
use Rattle.market.specs.declared.Rules.{Rules}
use Rattle.market.specs.Day.{Day}
use Rattle.market.specs.Sound.{is_collecting, sound}
use Rattle.market.specs.TradeList.{Trade, all_numbers, written}
use Rattle.market.specs.Answers.{Result, numbers_of}
use Rattle.market.specs.Calls.{Call, cancel, closing_order, decrease, end_collecting, end_session, entry_of, increase}
use Rattle.market.specs.Calls.{linked, order, start_closing, start_collecting}
use Rattle.market.specs.Phases.{order_access}
use Rattle.market.specs.Questions.{enough_lent, first_no, order_questions, questions}
use Rattle.market.specs.Matching.{fill}
use Rattle.market.specs.Entry.{admitted, entered, placed, taken}
use Rattle.market.specs.Linked.{Group, group_result, members, passed, stopped}
use Rattle.market.specs.Pairing.{pairs_from}
use Rattle.market.specs.Closing.{closing_terms}
use Rattle.market.specs.Auction.{auction_terms}
use Rattle.market.specs.Step.{all_questions, answer_by, effect, result}
use Rattle.market.proofs.Logic.{within_high}
use Rattle.market.proofs.Questions.{all_yes, first_yes, yes, yes_rest}
use Rattle.market.proofs.Phases.{auction_phase, enters_open, session_phase}
use Rattle.market.proofs.Entry.{taken_either, taken_matched, taken_waits}
use Rattle.conservation.specs.Book.{Book}
use Rattle.conservation.specs.SoundKept.{most_trades}
use Rattle.conservation.proofs.Good.{Good}
use Rattle.conservation.proofs.Enter.{enter_ok}
use Rattle.conservation.proofs.Linked.{GroupOk, members_ok}
use Rattle.conservation.proofs.Sessions.{auction_paired, closing_paired}
use Rattle.conservation.proofs.Steps.{order_admitted}

-- at most so many, at most 136, and no more than the list has places for
pub record Few (bound : ℕ) (ts : List Trade) (l : List ℕ) : Type 0 where
  pub most : length ts ≤ bound
  pub trades : length ts ≤ max_trades
  pub numbers : numbers_per_trade * length ts ≤ length l

pub no_trades : (most : ℕ) (l : List ℕ) → Few most [] l
no_trades most l = record { most = omega arith; trades = omega arith; numbers = omega arith }

pub few : (most : ℕ) (ts : List Trade) (l : List ℕ) → enough_lent (length l) ≡ true → length ts ≤ most → most ≤ max_trades
    → Few most ts l
few most ts l e h m =
    let k = leb-true lent_at_least (length l) e in
    record { most = h; trades = omega arith; numbers = omega arith }

take_le : {A : Type 0} (n : ℕ) (l : List A) → length (take n l) ≤ n
take_le zero l = omega arith
take_le (suc n) [] = omega arith
take_le (suc n) (x ∷ l) = let r = take_le n l in omega arith

order_few : {U : Type 0} {r : Rules} (b : Book) (d : Day) (l : List ℕ) (p : ℕ) (m : Ticket) (k : TimeInForce) → Good U r b d
    → enough_lent (length l) ≡ true → first_no (order_questions d p m (order_access k) k) ≡ 0
    → Few (length d.waiting) (taken d (entry_of d p m) k).trades l
unfolding order_questions entered placed
order_few b d l p m k g lent e = go (is_collecting d.phase) refl
  where
    o : Order
    o = entry_of d p m

    go : (z : Bool) → is_collecting d.phase ≡ z → Few (length d.waiting) (taken d o k).trades l
    go true c = rw (taken_waits d o k c) (no_trades _ l)
    go false c =
        let qs = order_questions d p m (order_access k) k in
        let ok = enter_ok b d p m (order_access k) k g (enters_open k d.phase (yes 6 qs (all_yes qs tt e)) c) e in
        rw (taken_matched d o k c)
        (few (length d.waiting) (fill (admitted d o) o).trades l lent ok.few (omega (arith, g.standing.room)))

pub effect_few : {U : Type 0} {r : Rules} (b : Book) (d : Day) (c : Call) (l : List ℕ) → Good U r b d
    → first_no (questions d (length l) c) ≡ 0 → Few (most_trades d c) (effect d c).trades l
unfolding questions effect placed
effect_few b d (increase x p column a) l g e = no_trades 0 l
effect_few b d (decrease x p column a) l g e = no_trades 0 l
effect_few b d (order p m k) l g e =
    order_few b d l p m k g (first_yes (enough_lent (length l)) 2 (order_questions d p m (order_access k) k) (omega arith) e)
    (order_admitted d l p m k e)
effect_few b d (cancel p code) l g e = no_trades 0 l
effect_few {U} {r} b d (linked p n ms) l g e =
    let qs = questions d (length l) (linked p n ms) in
    let y = all_yes qs tt e in
    go (within_high min_members max_members n (yes 3 qs y)) (yes 2 qs y)
    (members 1 d p (take n ms)) (members_ok (take n ms) 1 d p b g)
  where
    go : n ≤ max_members → enough_lent (length l) ≡ true → (x : Group) → GroupOk U r b d p (take n ms) x
        → Few (most_trades d (linked p n ms)) (group_result d p x).trades l
    go hn lent (stopped m y) h = no_trades _ l
    go hn lent (passed d' f ts) h = few _ ts l lent (omega (arith, h.3, take_le n ms)) (omega (arith, g.standing.room))
effect_few b d start_closing l g e = no_trades 0 l
effect_few b d (closing_order p side s lots) l g e = no_trades 0 l
effect_few b d end_session l g e =
    let qs = questions d (length l) end_session in
    let y = all_yes qs tt e in
    let ok = closing_paired b d g (session_phase d.phase (yes 6 qs y)) in
    few (length d.waiting) (pairs_from closing_terms d.rules.securities 0 d).trades l (yes 2 qs y)
    (omega (arith, ok.count)) (omega (arith, g.standing.room))
effect_few b d start_collecting l g e = no_trades 0 l
effect_few b d end_collecting l g e =
    let qs = questions d (length l) end_collecting in
    let y = all_yes qs tt e in
    let ok = auction_paired b d g (auction_phase d.phase (yes 6 qs y)) in
    few (length d.waiting) (pairs_from auction_terms d.rules.securities 0 d).trades l (yes 2 qs y)
    (omega (arith, ok.count)) (omega (arith, g.standing.room))

pub result_few : {U : Type 0} {r : Rules} (b : Book) (d : Day) (c : Call) (l : List ℕ) → Good U r b d
    → Few (most_trades d c) (result d (length l) c).trades l
unfolding result
result_few b d c l g = go (first_no (all_questions d (length l) c)) refl
  where
    go : (n : ℕ) → first_no (all_questions d (length l) c) ≡ n
        → Few (most_trades d c) (answer_by n d (effect d c)).trades l
    go zero e = effect_few b d c l g (yes_rest (sound d) 1 (questions d (length l) c) (omega arith) e)
    go (suc n) e = no_trades _ l

-- the answer counts the trades
pub effect_counts : (d : Day) (c : Call) → (numbers_of (effect d c).answer).trades ≡ length (effect d c).trades
unfolding effect entered placed
effect_counts d (increase x p column a) = refl
effect_counts d (decrease x p column a) = refl
effect_counts d (order p m k) =
    taken_either (λ (x : Result). (numbers_of x.answer).trades ≡ length x.trades) d (entry_of d p m) k refl refl
effect_counts d (cancel p code) = refl
effect_counts d (linked p n ms) = go (members 1 d p (take n ms))
  where
    go : (x : Group) → (numbers_of (group_result d p x).answer).trades ≡ length (group_result d p x).trades
    go (stopped m y) = refl
    go (passed d' f ts) = refl
effect_counts d start_closing = refl
effect_counts d (closing_order p side s lots) = refl
effect_counts d end_session = refl
effect_counts d start_collecting = refl
effect_counts d end_collecting = refl

pub result_counts : (d : Day) (lent : ℕ) (c : Call)
    → (numbers_of (result d lent c).answer).trades ≡ length (result d lent c).trades
unfolding result
result_counts d lent c = go (first_no (all_questions d lent c))
  where
    go : (n : ℕ)
        → (numbers_of (answer_by n d (effect d c)).answer).trades ≡ length (answer_by n d (effect d c)).trades
    go zero = effect_counts d c
    go (suc n) = refl

-- a list keeps its length when trades that fit are written to it
pub numbers_length : (ts : List Trade) → length (all_numbers ts) ≡ numbers_per_trade * length ts
numbers_length [] = refl
numbers_length (t ∷ ts) = let r = numbers_length ts in omega arith

pub written_length : (ts : List Trade) (l : List ℕ) → numbers_per_trade * length ts ≤ length l
    → length (written ts l) ≡ length l
written_length ts l h =
    let a = length-append (all_numbers ts) (drop (numbers_per_trade * length ts) l) in
    let b = numbers_length ts in
    let c = length-drop (numbers_per_trade * length ts) l in
    omega (arith, a, b, c)
