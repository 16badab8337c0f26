-- The answers of an opening: 17, 18 with its place, 23, 22, 24, or the opened ledger.
use Prim.Native.Nat.{ℕ, ◌<◌}
use native.Mathlib.Omega.{arith}
use mathlib.Core.Path.{◌≡◌, ap, sym, ◌∙◌}
use mathlib.Core.Bool.{Bool, true, false}
use borrow.Author.Tests.{ne_eqb}
use Rattle.market.specs.declared.Answer.TheVariants.{Done, Refused}
use Rattle.market.specs.declared.Outcome.{Outcome}
use Rattle.market.specs.declared.Rules.{Rules}
use Rattle.market.specs.Tests.{◌=?◌, all_below}
use Rattle.market.specs.Day.{row}
use Rattle.market.specs.Sound.{counts_sound, nominal_sound, rate_sound}
use Rattle.market.specs.Answers.{numbers_of}
use Rattle.market.specs.Opening.{no_rules, wrong_line}
use Rattle.market.specs.Ledger.{whole}
use Rattle.market.specs.ActStep.{on_table, open_ledger, opened_ledger}
use Rattle.market.specs.Contract.{Opens}
use Rattle.opening.specs.Opening.{RefusedOpening}

module _ (r : Rules) (date : ℕ) (o : Outcome) where
  abbrev counts : Bool
  counts = counts_sound r.participants r.currencies r.securities

  -- a refusal with the definition's answer and ledger
  refuses : (number place : ℕ) → RefusedOpening number place o → (open_ledger r date).answer ≡ Refused number place
      → (open_ledger r date).ledger ≡ opened_ledger no_rules 0 → Opens r date o
  refuses number place h answer ledger = record {
    answer = h.answer ∙ sym answer;
    numbers = ap numbers_of (h.answer ∙ sym answer);
    state = h.state ∙ sym ledger;
    refusal = rw h.answer h.zeros;
  }

  pub opens_counts : counts ≡ false → RefusedOpening 17 0 o → Opens r date o
  unfolding open_ledger
  opens_counts e h = refuses 17 0 h (rw e) (rw e)

  pub opens_row : (n : ℕ) → counts ≡ true → wrong_line r ≡ n → 0 < n → RefusedOpening 18 n o → Opens r date o
  unfolding open_ledger
  opens_row n e w some h =
      let wrong : (wrong_line r =? 0) ≡ false = ne_eqb (wrong_line r) 0 (λ none. omega arith) in
      refuses 18 n h (rw (e, wrong, w)) (rw (e, wrong))

  abbrev nominals : Bool
  nominals = all_below r.securities (λ s. nominal_sound (row r s))

  pub opens_nominal : counts ≡ true → wrong_line r ≡ 0 → nominals ≡ false → RefusedOpening 23 0 o → Opens r date o
  unfolding open_ledger
  opens_nominal e w m h = refuses 23 0 h (rw (e, w, m)) (rw (e, w, m))

  pub opens_rate : counts ≡ true → wrong_line r ≡ 0 → nominals ≡ true → rate_sound r.rate ≡ false
      → RefusedOpening 22 0 o → Opens r date o
  unfolding open_ledger
  opens_rate e w m q h = refuses 22 0 h (rw (e, w, m, q)) (rw (e, w, m, q))

  pub opens_date : counts ≡ true → wrong_line r ≡ 0 → nominals ≡ true → rate_sound r.rate ≡ true → on_table date ≡ false
      → RefusedOpening 24 0 o → Opens r date o
  unfolding open_ledger
  opens_date e w m q t h = refuses 24 0 h (rw (e, w, m, q, t)) (rw (e, w, m, q, t))

  pub opens_ledger : counts ≡ true → wrong_line r ≡ 0 → nominals ≡ true → rate_sound r.rate ≡ true → on_table date ≡ true
      → o.answer ≡ Done 0 0 0 0 → whole o.state ≡ opened_ledger r date → Opens r date o
  unfolding open_ledger
  opens_ledger e w m q t answer state = record {
    answer = rw (e, w, m, q, t) answer;
    numbers = rw (e, w, m, q, t, answer);
    state = rw (e, w, m, q, t) state;
    refusal = rw answer tt;
  }
