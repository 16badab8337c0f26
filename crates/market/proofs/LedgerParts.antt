-- An act on the parts of a sound ledger, refused or accepted, as its contract asks for it.
use Prim.Native.Nat.{ℕ, zero, suc, ◌<◌}
use native.Mathlib.Omega.{arith}
use mathlib.Core.Path.{◌≡◌, refl, ap, sym, ◌∙◌}
use mathlib.Core.List.{List}
use mathlib.Core.Bool.{true}
use lib.ListN.{length}
use Rattle.market.specs.declared.Answer.{Answer}
use Rattle.market.specs.declared.Answer.TheVariants.{Refused}
use Rattle.market.specs.declared.Floor.{Floor}
use Rattle.market.specs.declared.Records.{Records}
use Rattle.market.specs.declared.Rules.{Rules}
use Rattle.market.specs.TradeList.{written}
use Rattle.market.specs.Questions.{first_no}
use Rattle.market.specs.Ledger.{Ledger, ledger_of, ledger_sound}
use Rattle.market.specs.Acts.{Act}
use Rattle.market.specs.ActStep.{ActReply, act_effect, act_questions}
use Rattle.market.specs.Parts.{HandedBack}
use Rattle.market.specs.LedgerParts.{CarriesAct}
use Rattle.market.proofs.Acts.{act_accepted, act_refused}

module _ (r : Rules) (f : Floor) (z : Records) (v : List ℕ) (a : Act) (t : ledger_sound (ledger_of r f z) ≡ true) where
  abbrev l : Ledger
  l = ledger_of r f z

  -- refused with the first "no", everything as it was
  pub act_refuse : (n : ℕ) → 0 < n → first_no (act_questions l (length v) a) ≡ n
      → CarriesAct r f z v a f z v (Refused n 0)
  act_refuse zero h e = absurd (omega arith)
  act_refuse (suc n) h e =
      let s = act_refused l v a n t e in
      record {
        answer = ap (λ (o : ActReply). o.answer) (sym s);
        ledger = ap (λ (o : ActReply). o.ledger) (sym s);
        list = ap (λ (o : ActReply). o.list) (sym s);
        floor = refl;
        records = refl;
      }

  -- every question is answered "yes", and this is what the effect says; a group's may be a refusal
  pub act_accept : (f' : Floor) (z' : Records) (v' : List ℕ) (o : Answer) → first_no (act_questions l (length v) a) ≡ 0
      → o ≡ (act_effect l a).answer → ledger_of r f' z' ≡ (act_effect l a).ledger → v' ≡ written (act_effect l a).trades v
      → HandedBack f o f' → HandedBack z o z' → CarriesAct r f z v a f' z' v' o
  act_accept f' z' v' o e answer ledger list floor records =
      let s = act_accepted l v a t e in
      record {
        answer = answer ∙ ap (λ (y : ActReply). y.answer) (sym s);
        ledger = ledger ∙ ap (λ (y : ActReply). y.ledger) (sym s);
        list = list ∙ ap (λ (y : ActReply). y.list) (sym s);
        floor = floor;
        records = records;
      }
