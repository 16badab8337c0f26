-- From an act on the parts of a State to its contract: refused with 1, refused otherwise, or accepted.
use Prim.Native.Nat.{ℕ}
use native.Mathlib.Omega.{arith}
use lib.ListN.{length}
use mathlib.Core.Path.{◌≡◌, refl, ap, sym, ◌∙◌}
use mathlib.Core.List.{List, [], ◌∷◌}
use mathlib.Core.Bool.{true, false}
use Rattle.market.specs.declared.Answer.{Answer}
use Rattle.market.specs.declared.Answer.TheVariants.{Done, Refused}
use Rattle.market.specs.declared.Floor.{Floor}
use Rattle.market.specs.declared.Outcome.{Outcome}
use Rattle.market.specs.declared.Records.{Records}
use Rattle.market.specs.declared.Rules.{Rules}
use Rattle.market.specs.declared.State.{State}
use Rattle.market.specs.Tests.{◌and◌}
use Rattle.market.specs.Day.{Day}
use Rattle.market.specs.Sound.{rules_sound, sound}
use Rattle.market.specs.Answers.{numbers_of}
use Rattle.market.specs.Calls.{Call}
use Rattle.market.specs.Parts.{Carries, HandedBack}
use Rattle.market.specs.Ledger.{around, first_deals, ledger_of, ledger_sound, records_sound, whole, with_day}
use Rattle.market.specs.Acts.{Act, day}
use Rattle.market.specs.ActStep.{ActReply}
use Rattle.market.specs.LedgerParts.{CarriesAct}
use Rattle.market.specs.Contract.{Does}
use Rattle.market.proofs.Logic.{and_true}
use Rattle.market.proofs.Acts.{act_unsound, lifted}

-- question 1 is asked of the day, and where that is sound, of the records
module _ (d : Day) (z : Records) where
  pub rules_hold : sound d ≡ true → rules_sound d.rules ≡ true
  unfolding sound
  rules_hold e = (and_true e).0

  pub day_unsound : sound d ≡ false → false ≡ ledger_sound (around d z)
  unfolding ledger_sound ◌and◌
  day_unsound e = rw e

  pub by_records : sound d ≡ true → ledger_sound (around d z) ≡ records_sound d.rules z.date (first_deals z.count z.deals)
  unfolding ledger_sound ◌and◌
  by_records e = rw e

-- a call of the trading day on a sound ledger leaves the records alone
pub carries_lifted : (r : Rules) (f : Floor) (z : Records) (l : List ℕ) (c : Call) → ledger_sound (ledger_of r f z) ≡ true
    → {f' : Floor} {l' : List ℕ} {a : Answer} → Carries r f l c f' l' a → CarriesAct r f z l (day c) f' z l' a
carries_lifted r f z l c t {f'} {l'} {a} h =
    let e = lifted (ledger_of r f z) l c t in
    record {
      answer = h.answer ∙ sym (ap (λ (y : ActReply). y.answer) e);
      ledger = ap (with_day (ledger_of r f z)) h.day ∙ sym (ap (λ (y : ActReply). y.ledger) e);
      list = h.list ∙ sym (ap (λ (y : ActReply). y.list) e);
      floor = h.refusal;
      records = same a;
    }
  where
    same : (a : Answer) → HandedBack z a z
    same (Refused number place) = refl
    same (Done code filled left trades) = tt

module _ (s : State) (l : List ℕ) (a : Act) where
  pub refuse_unsound : ledger_sound (whole s) ≡ false → Does s l a (record { answer = Refused 1 0; state = s }) l
  refuse_unsound e =
      let h = act_unsound (whole s) l a e in
      record {
        meets = record {
          answer = ap (λ (r : ActReply). r.answer) (sym h);
          numbers = ap (λ (r : ActReply). numbers_of r.answer) (sym h);
          state = ap (λ (r : ActReply). r.ledger) (sym h);
          list = ap (λ (r : ActReply). r.list) (sym h);
        };
        refusal = refl;
      }

  -- an act that was carried out on the state's floor and records
  pub act_does : {f' : Floor} {z' : Records} {l' : List ℕ} {b : Answer} → CarriesAct s.rules s.floor s.records l a f' z' l' b
      → Does s l a (record { answer = b; state = record { rules = s.rules; floor = f'; records = z' } }) l'
  act_does {f'} {z'} {l'} {b} h = record {
    meets = record { answer = h.answer; numbers = ap numbers_of h.answer; state = h.ledger; list = h.list };
    refusal = back b h.floor h.records;
  }
    where
      back : (b : Answer) → HandedBack s.floor b f' → HandedBack s.records b z'
          → HandedBack s b (record { rules = s.rules; floor = f'; records = z' })
      back (Refused number place) ef ez = rw (ef, ez)
      back (Done code filled left trades) ef ez = tt

-- an empty list stays empty
pub unlent_does : {s : State} {a : Act} {o : Outcome} (l' : List ℕ) → length l' ≡ 0 → Does s [] a o l' → Does s [] a o []
unlent_does [] n h = h
unlent_does (x ∷ l) n h = absurd (omega arith)
