-- Calls that are lent no list: with one they do the same, and leave it as it was.
use Prim.Native.Nat.{ℕ, zero, suc}
use mathlib.Core.Path.{◌≡◌, refl, ap, sym, ◌∙◌}
use mathlib.Core.List.{List, []}
use lib.ListN.{length}
use Rattle.market.specs.declared.Answer.{Answer}
use Rattle.market.specs.declared.Floor.{Floor}
use Rattle.market.specs.declared.Move.{Move}
use Rattle.market.specs.declared.Move.TheVariants as moved
use Rattle.market.specs.declared.Rules.{Rules}
use Rattle.market.specs.declared.Session.{Session}
use Rattle.market.specs.declared.Session.TheVariants as session
use Rattle.market.specs.declared.Side.{Side}
use Rattle.market.specs.Day.{Day}
use Rattle.market.specs.View.{day_of}
use Rattle.market.specs.TradeList.{Trade, written}
use Rattle.market.specs.Answers.{Result}
use Rattle.market.specs.Calls.{Call, cancel, closing_order}
use Rattle.market.specs.Questions.{first_no, questions}
use Rattle.market.specs.Entry.{placed}
use Rattle.market.specs.Step.{all_questions, answer_by, effect, result, step}
use Rattle.market.specs.Parts.{Carries, move_of, start_of}

-- its questions ask for no list, and it makes no trade
pub record Listless (c : Call) : Type 0 where
  pub asks : (d : Day) (n : ℕ) → questions d n c ≡ questions d 0 c
  pub writes : (d : Day) → (effect d c).trades ≡ []

pub move_listless : (m : Move) → Listless (move_of m)
unfolding questions effect
move_listless (moved.IncreaseMoney p column amount) = record { asks = λ d n. refl; writes = λ d. refl }
move_listless (moved.DecreaseMoney p column amount) = record { asks = λ d n. refl; writes = λ d. refl }
move_listless (moved.IncreasePieces p column amount) = record { asks = λ d n. refl; writes = λ d. refl }
move_listless (moved.DecreasePieces p column amount) = record { asks = λ d n. refl; writes = λ d. refl }

pub cancel_listless : (p code : ℕ) → Listless (cancel p code)
unfolding questions effect
cancel_listless p code = record { asks = λ d n. refl; writes = λ d. refl }

pub start_listless : (z : Session) → Listless (start_of z)
unfolding questions effect
start_listless session.Closing = record { asks = λ d n. refl; writes = λ d. refl }
start_listless session.Collecting = record { asks = λ d n. refl; writes = λ d. refl }

pub closing_listless : (p : ℕ) (side : Side) (s lots : ℕ) → Listless (closing_order p side s lots)
unfolding questions effect placed
closing_listless p side s lots = record { asks = λ d n. refl; writes = λ d. refl }

module _ (c : Call) (free : Listless c) (d : Day) where
  same_result : (n : ℕ) → result d n c ≡ result d 0 c
  unfolding result
  same_result n = rw (free.asks d n)

  no_trades : (n : ℕ) → (answer_by n d (effect d c)).trades ≡ []
  no_trades zero = free.writes d
  no_trades (suc n) = refl

  same_list : (l : List ℕ) → (step d l c).list ≡ l
  unfolding step result
  same_list l = ap (λ (ts : List Trade). written ts l) (no_trades (first_no (all_questions d (length l) c)))

  same_answer : (l : List ℕ) → (step d l c).answer ≡ (step d [] c).answer
  unfolding step
  same_answer l = ap (λ (r : Result). r.answer) (same_result (length l))

  same_day_lem : (l : List ℕ) → (step d l c).day ≡ (step d [] c).day
  unfolding step
  same_day_lem l = ap (λ (r : Result). r.day) (same_result (length l))

pub any_list : {r : Rules} {f f' : Floor} {c : Call} {a : Answer} (l : List ℕ) → Listless c → Carries r f [] c f' [] a
    → Carries r f l c f' l a
any_list {r} {f} {c = c} l free h =
    let d = day_of r f in
    record {
      answer = h.answer ∙ sym (same_answer c free d l);
      day = h.day ∙ sym (same_day_lem c free d l);
      list = sym (same_list c free d l);
      refusal = h.refusal;
    }
