-- The `S` lines of a heading, one after another.
use Prim.Native.Nat.{ℕ, suc, ◌+◌, ◌-◌, ◌≤◌, ◌<◌}
use native.Mathlib.Numerals.{add-one}
use native.Mathlib.Omega.{arith}
use mathlib.Core.Path.{◌≡◌, refl, ap, sym, ◌∙◌}
use mathlib.Core.List.{List, [], ◌∷◌}
use lib.ListN.{drop, length, set, drop_of_length-le, length-drop, length-set}
use Rattle.market.specs.declared.Security.{Security}
use Rattle.market.specs.Limits.{max_securities}
use Rattle.lines.specs.declared.Line.{Line}
use Rattle.lines.specs.declared.Line.TheVariants as line
use Rattle.reading.specs.declared.Reading.{Reading}
use Rattle.reading.specs.Commands.{Reads, yield}
use Rattle.heading.specs.Heading.{Lines, ReadsSecurities, max_text, no_table, securities_from}
use Rattle.heading.specs.Heading.{security_by, wrong}
use Rattle.std.specs.Prelude.{Ok, Err}

-- a line that is no security's
no_security_lem : (says : Line) (n : ℕ) (next : Security → Lines)
    → ((currency lot step : ℕ) → says ≡ line.Security currency lot step → ⊥) → security_by says n next ≡ wrong n
no_security_lem (line.Call c) n next h = refl
no_security_lem (line.Heading a b c) n next h = refl
no_security_lem (line.Security a b c) n next h = absurd (h a b c refl)
no_security_lem (line.Member m) n next h = refl
no_security_lem line.Malformed n next h = refl

securities_missing : (n i : ℕ) (table : List Security) → securities_from (suc n) i table [] ≡ wrong (i + 2)
unfolding securities_from
securities_missing n i table = refl

securities_line : (n i : ℕ) (table : List Security) (t : List ℕ) → 0 < length t
    → securities_from (suc n) i table t
    ≡ security_by (yield t).says (i + 2) (λ s. securities_from n (suc i) (set table i s) (yield t).rest)
unfolding securities_from
securities_line n i table [] h = absurd (omega arith)
securities_line n i table (x ∷ t) h = refl

-- i of n `S` lines are read, and the text goes on at `at`
pub record Passed (text : List ℕ) (from n : ℕ) (table : List Security) (at i : ℕ) : Type 0 where
  pub short : length text ≤ max_text
  pub within : i ≤ n
  pub forward : i ≤ at
  pub few : i ≤ length text
  pub inside : 0 < i → at ≤ length text
  pub cells : length table ≡ max_securities
  pub rest : securities_from (n - i) i table (drop at text) ≡ securities_from n 0 no_table (drop from text)

pub passed_none : (text : List ℕ) (from n : ℕ) → length text ≤ max_text
    → Passed text from n no_table from 0
passed_none text from n short =
    let whole : n - 0 ≡ n = omega arith in
    record {
      short = short;
      within = omega arith;
      forward = omega arith;
      few = omega arith;
      inside = λ k. absurd (omega arith);
      cells = refl;
      rest = ap (λ (k : ℕ). securities_from k 0 no_table (drop from text)) whole;
    }

module _ {text : List ℕ} {from n : ℕ} {table : List Security} {at i : ℕ} (p : Passed text from n table at i) where
  pub passed_end : n ≤ i → ReadsSecurities text from n (Ok (record { table = table; next = at }))
  unfolding securities_from
  passed_end h =
      let none : n - i ≡ 0 = omega arith in
      record {
        lines = (rw none) ∙ p.rest;
        few = omega (arith, p.few);
        inside = λ k. p.inside (omega arith);
      }

  module _ (h : i < n) where
    all : securities_from (suc (n - suc i)) i table (drop at text) ≡ securities_from n 0 no_table (drop from text)
    all =
        let one : suc (n - suc i) ≡ n - i = omega arith in
        ap (λ (k : ℕ). securities_from k i table (drop at text)) one ∙ p.rest

    fault_here : securities_from (suc (n - suc i)) i table (drop at text) ≡ wrong (i + 2)
        → ReadsSecurities text from n (Err (i + 2))
    fault_here e = record { lines = sym e ∙ all; few = tt; inside = tt }

    pub passed_missing : length text ≤ at
        → ReadsSecurities text from n (Err (i + 2))
    passed_missing k =
        fault_here (ap (securities_from (suc (n - suc i)) i table) (drop_of_length-le text {i = at} k)
        ∙ securities_missing (n - suc i) i table)

    module _ {r : Reading} (k : at < length text) (reads : Reads text at r) where
      line_here : securities_from (suc (n - suc i)) i table (drop at text)
          ≡ security_by r.says (i + 2)
          (λ s. securities_from (n - suc i) (suc i) (set table i s) (drop r.next text))
      line_here =
          rw (reads.says, reads.rest)
          (securities_line (n - suc i) i table (drop at text) (simp length-drop (omega arith)))

      pub passed_wrong : ((currency lot step : ℕ) → r.says ≡ line.Security currency lot step → ⊥)
          → ReadsSecurities text from n (Err (i + 2))
      passed_wrong other = fault_here (line_here ∙ no_security_lem r.says (i + 2) _ other)

      pub passed_next : {currency lot step : ℕ} {table' : List Security}
          → r.says ≡ line.Security currency lot step
          → table' ≡ set table i (record { currency = currency; lot = lot; step = step; nominal = 0 })
          → Passed text from n table' r.next (i + 1)
      passed_next {currency} {lot} {step} {table'} e t =
          let forward = reads.forward k in
          let row : Security = record { currency = currency; lot = lot; step = step; nominal = 0 } in
          record {
            short = p.short;
            within = omega arith;
            forward = omega (arith, p.forward);
            few = omega (arith, p.forward);
            inside = λ z. forward.1;
            cells = ap length t ∙ length-set table i row ∙ p.cells;
            rest = rw (t, add-one i) (sym (line_here ∙ rw e) ∙ all);
          }

-- what `heading::securities_at` goes by
pub ruleset security_lines = (passed_none, passed_end, passed_missing, passed_wrong, passed_next)
