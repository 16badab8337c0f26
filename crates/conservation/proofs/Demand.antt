-- What demand 3 says of a trading day, from the opened one on, and soundness kept by every call.
use Prim.Native.Nat.{ℕ, zero, suc, ◌≤◌, ◌<◌}
use native.Mathlib.Omega.{arith}
use mathlib.Core.Path.{◌≡◌, refl, ap, sym, ◌∙◌, subst}
use mathlib.Core.List.{List, [], ◌∷◌}
use mathlib.Core.Bool.{true, false}
use lib.ListN.{length, replicate, take}
use Rattle.market.specs.declared.Order.{Order}
use Rattle.market.specs.Limits.{cells, columns, market, max_securities, position_numbers}
use Rattle.market.specs.Tests.{sum_of}
use Rattle.market.specs.declared.Rules.{Rules}
use Rattle.market.specs.declared.Asset.{Asset}
use Rattle.market.specs.declared.Asset.TheVariants.{Money, Pieces}
use Rattle.market.specs.Day.{Day, blocked_at, columns_of, free_at, no_order, no_turnover, order_at}
use Rattle.market.specs.Day.{cell, positions}
use Rattle.market.specs.Codes.{codes_of, given}
use Rattle.market.specs.Needs.{need_at}
use Rattle.market.specs.Sound.{needs_at, sound}
use Rattle.market.specs.TradeList.{written}
use Rattle.market.specs.Answers.{Result, is_done}
use Rattle.market.specs.Matching.{fits}
use Rattle.market.specs.Calls.{Call, linked}
use Rattle.market.specs.Questions.{first_no}
use Rattle.market.specs.Linked.{Group, group_result, members, passed, stopped}
use Rattle.market.specs.Step.{all_questions, answer_by, effect, result, step}
use Rattle.market.specs.Opening.{opened, opening}
use Rattle.market.proofs.Lists.{All, all_at, same_all}
use Rattle.market.proofs.Totals.{zero_total}
use Rattle.market.proofs.Known.{RulesOk}
use Rattle.market.proofs.Matching.{prices_apart}
use Rattle.market.proofs.Codes.{codes_none, numbered_empty}
use Rattle.market.proofs.Opening.{accepted}
use Rattle.invariant.specs.Standing.{Held}
use Rattle.conservation.specs.Book.{Book, balances, empty_book, no_balance}
use Rattle.conservation.specs.Statement.{Agrees, Whole, WholeBy, all_shown, as_order, book_needs, shown}
use Rattle.conservation.specs.SoundKept.{SoundKept}
use Rattle.conservation.proofs.Balanced.{Balanced}
use Rattle.conservation.proofs.Good.{Good}
use Rattle.conservation.proofs.Linked.{GroupOk, members_ok}
use Rattle.conservation.proofs.Sound.{book_of, good_sound, sound_good}
use Rattle.conservation.proofs.Steps.{read_written, step_good}
use Rattle.conservation.proofs.Counts.{result_counts, result_few, written_length}

-- after an accepted opening
pub opened_good : (r : Rules) → RulesOk r → Good (Unit {0}) r empty_book (opened r)
unfolding empty_book opened
opened_good r ok = record {
  standing = record {
    backed = record { rules_ok = ok; held = held };
    orders = tt;
    kinds = tt;
    room = omega arith;
    turnover_length = refl;
    codes = numbered_empty (given (opened r)) (codes_of (opened r));
    limit = codes_none r.participants;
    turnovers = λ s h. rw (same_all max_securities s no_turnover)
        (record { top = omega arith; low = omega arith; high = omega arith });
  };
  agree = record { rules = refl; turnover = refl; phase = refl; balanced = balanced };
  waiting = refl;
  uncrossed = λ u h. tt;
}
  where
    zeros : (x : Asset) → columns_of x r ≤ columns → Held x r (replicate position_numbers 0) (λ j. 0)
    zeros x wide = record {
      wide = wide;
      rows = ok.participants;
      positions = refl;
      blocked = λ p c hp hc. same_all position_numbers (blocked_at (cell p c)) 0;
      topped = λ c hc. omega (arith, zero_total x position_numbers r.participants c);
    }

    held : (x : Asset) → Held x r (positions x (opened r)) (λ j. 0)
    held Money = zeros Money (omega (arith, ok.currencies))
    held Pieces = zeros Pieces ok.securities

    even : (n : ℕ) → Balanced r n (replicate position_numbers 0) (replicate cells no_balance)
    even n = record {
      balances = refl;
      agree = λ p c hp hc.
          let free = same_all {A = ℕ} position_numbers (free_at (cell p c)) 0 in
          let blocked = same_all {A = ℕ} position_numbers (blocked_at (cell p c)) 0 in
          rw (same_all cells (cell p c) no_balance) (omega arith);
      account = λ c hc.
          let free = same_all {A = ℕ} position_numbers (free_at (cell market c)) 0 in
          rw (same_all cells (cell market c) no_balance) (omega arith);
    }

    balanced : (x : Asset) → Balanced r (columns_of x r) (positions x (opened r)) (balances x empty_book)
    balanced Money = even r.currencies
    balanced Pieces = even r.securities

pub opening_sound : (r : Rules) → is_done (opening r).answer ≡ true → sound (opening r).day ≡ true
opening_sound r e = let a = accepted r e in rw a.day (good_sound empty_book (opened r) (opened_good r a.rules))

-- what a good day says to the reader
shown_needs : (f : Order → ℕ) (w : List Order) → ((o : Order) → f (as_order (shown o)) ≡ f o)
    → sum_of (λ o. f (as_order o)) (all_shown w) ≡ sum_of f w
shown_needs f [] h = refl
shown_needs f (o ∷ w) h = let r = shown_needs f w h in omega (arith, h o)

pub agrees : {r : Rules} (b : Book) (d : Day) → Good (Unit {0}) r b d → Agrees r b d
agrees {r} b d g = record {
  rules = sym rules;
  balanced = λ x p c hp hc. (g.agree.balanced x).agree p c (rw (← rules) hp) (known x c hc);
  account = λ c hc. (g.agree.balanced Money).account c (known Money c hc);
  blocked = λ x p c hp hc. (g.standing.backed.held x).blocked p c (rw (← rules) hp) (known x c hc) ∙ sym (needs x (cell p c));
  waiting = sym g.waiting;
  turnover = sym g.agree.turnover;
  phase = sym g.agree.phase;
  uncrossed = λ h i j hi hj ki kj x y s.
      prices_apart (order_at d.waiting i) (order_at d.waiting j)
      (all_at (λ x. fits (order_at d.waiting i) x ≡ false) no_order d.waiting j
      (all_at (λ o. All (λ x. fits o x ≡ false) d.waiting) no_order d.waiting i (g.uncrossed tt h) hi) hj)
      ki kj x y s;
}
  where
    rules : r ≡ d.rules
    rules = g.agree.rules

    known : (x : Asset) (c : ℕ) → c < columns_of x r → c < columns_of x d.rules
    known x c h = subst (λ (y : Rules). c < columns_of x y) rules h

    needs : (x : Asset) (j : ℕ) → book_needs x r b j ≡ needs_at x d j
    needs x j =
        unfold book_needs in
        (rw (rules, g.agree.turnover, g.waiting)
        (shown_needs (need_at x d.rules d.turnover j) d.waiting (λ o. unfold need_at in refl)))

-- every group filled its members whole or changed nothing
pub step_whole : {U : Type 0} {r : Rules} (b : Book) (d : Day) (c : Call) (l : List ℕ) → Good U r b d
    → Whole d l c (step d l c)
unfolding step result effect
step_whole {U} {r} b d c l g p n ms e =
    subst (λ (x : Call). WholeBy d l p (take n ms) (step d l x).answer (step d l x).day (step d l x).list)
    (sym e) (go (first_no (all_questions d (length l) (linked p n ms))))
  where
    group : (x : Group) → GroupOk U r b d p (take n ms) x
        → WholeBy d l p (take n ms) (group_result d p x).answer (group_result d p x).day
        (written (group_result d p x).trades l)
    group (stopped m q) h = (refl, refl)
    group (passed d' f ts) h = rw (read_written ts l) h.1

    go : (k : ℕ) →
        let x : Result = answer_by k d (group_result d p (members 1 d p (take n ms))) in
        WholeBy d l p (take n ms) x.answer x.day (written x.trades l)
    go zero = group (members 1 d p (take n ms)) (members_ok (take n ms) 1 d p b g)
    go (suc k) = (refl, refl)

-- every call on a sound day leaves a sound day
pub sound_kept : SoundKept
unfolding step
sound_kept d size e l c =
    let g = sound_good d size e in
    let after = step_good (book_of d) d c l g in
    let few = result_few (book_of d) d c l g in
    let counts = result_counts d (length l) c in
    record {
      sound = good_sound _ _ after;
      sized = record {
        table = ap (λ (r : Rules). length r.table) (sym after.agree.rules) ∙ size.table;
        money = (after.standing.backed.held Money).positions;
        pieces = (after.standing.backed.held Pieces).positions;
        codes = after.standing.limit.places;
        turnover = after.standing.turnover_length;
      };
      few = omega (arith, counts, few.most);
      trades = omega (arith, counts, few.trades);
      list = written_length (result d (length l) c).trades l few.numbers;
    }
