-- What holds between two securities at the end of a session: from here the definition comes to the same as from the start.
use Prim.Native.Nat.{ℕ, suc, ◌+◌, ◌*◌, ◌-◌, ◌≤◌, ◌<◌}
use native.Mathlib.Nat.{zero-add}
use native.Mathlib.Numerals.{add-one}
use native.Mathlib.Omega.{arith}
use mathlib.Core.Path.{◌≡◌, refl, ap, sym, ◌∙◌, subst}
use mathlib.Core.List.{List, [], ◌∷◌, ◌++◌}
use lib.ListN.{length, length-append, take-append-drop}
use Rattle.market.specs.declared.Floor.{Floor}
use Rattle.market.specs.Limits.{max_securities, numbers_per_trade}
use Rattle.market.specs.declared.Rules.{Rules}
use Rattle.market.specs.declared.Session.{Session}
use Rattle.market.specs.declared.Session.TheVariants.{Closing, Collecting}
use Rattle.market.specs.Day.{Day}
use Rattle.market.specs.View.{day_of, first_orders}
use Rattle.market.specs.Positions.{settle}
use Rattle.market.specs.TradeList.{Trade, lots_of}
use Rattle.market.specs.Pairing.{Paired, Terms, followed, paired_off, pairs, pairs_from}
use Rattle.market.specs.Closing.{closing_terms}
use Rattle.market.specs.Auction.{auction_terms}
use Rattle.market.proofs.Lists.{sum_append}
use Rattle.market.proofs.Pairs.{pairs_all}
use Rattle.invariant.specs.Standing.{Standing}
use Rattle.invariant.proofs.Pairing.{Fair, auction_fair, closing_fair}
use Rattle.matching.specs.Orders.{FewLots}
use Rattle.matching.specs.Written.{trade_written}
use Rattle.matching.proofs.Ready.{few_waiting}
use Rattle.matching.proofs.Writing.{written_length, written_next, written_from}
use Rattle.orders.proofs.Asking.{count_within}
use Rattle.pairing.specs.declared.Tally.{Tally}
use Rattle.pairing.specs.Pairing.{Counts, Pairable, Pairs}
use Rattle.session.specs.Sessions.{Endable, PairsAll, no_tally, paired_from, phase_of, terms_of, terms_with}

-- one list of trades written after another
written_append : (ts us : List Trade) (n : ℕ) (v : List ℕ) → numbers_per_trade * (n + length ts) ≤ length v
    → written_from n (ts ++ us) v ≡ written_from (n + length ts) us (written_from n ts v)
written_append [] us n v h =
    let same : n ≡ n + 0 = omega arith in
    ap (λ (k : ℕ). written_from k us v) same
    ∙ ap (written_from (n + 0) us) (sym (take-append-drop (numbers_per_trade * n) v))
written_append (t ∷ ts) us n v h =
    let room : numbers_per_trade * n + numbers_per_trade ≤ length v = omega arith in
    let v' = trade_written n t v in
    let same : n + 1 + length ts ≡ n + suc (length ts) = omega arith in
    written_next v n t room (ts ++ us)
    ∙ written_append ts us (n + 1) v' (omega (arith, written_length v n t room))
    ∙ ap (λ (k : ℕ). written_from k us (written_from (n + 1) ts v')) same
    ∙ ap (written_from (n + suc (length ts)) us) (sym (written_next v n t room ts))

-- the terms on a floor are those on its day, and they are fair
terms_of_lem : (z : Session) (r : Rules) (f : Floor) (s : ℕ) → terms_with z f s ≡ terms_of z (day_of r f) s
unfolding closing_terms auction_terms
terms_of_lem Closing r f s = refl
terms_of_lem Collecting r f s = refl

terms_fair : (z : Session) (d : Day) (s : ℕ) → Standing d → d.phase ≡ phase_of z → Fair s (terms_of z d s) d
terms_fair Closing d s st e = closing_fair d s st e
terms_fair Collecting d s st e = auction_fair d s

-- no trade changes the phase
phase_stays : (s : ℕ) (t : Terms) (d : Day) → (pairs s t d).day.phase ≡ d.phase
unfolding paired_off settle
phase_stays s t = pairs_all s t (λ d p. p.day.phase ≡ d.phase) (λ d. refl) (λ d i j b c rest e. e)

-- f₀ and v₀ are floor and lent list at the start; the securities before s are done
pub record Rounds (z : Session) (r : Rules) (f₀ : Floor) (v₀ : List ℕ) (f : Floor) (c : Tally) (v : List ℕ) (s : ℕ) : Type 0 where
  pub standing : Standing (day_of r f)
  pub phase : f.phase ≡ phase_of z
  pub counts : Counts f c v
  pub day : (paired_from z r (r.securities - s) s f).day ≡ (paired_from z r r.securities 0 f₀).day
  pub trades : c.trades + length (paired_from z r (r.securities - s) s f).trades ≡ length (paired_from z r r.securities 0 f₀).trades
  pub sum : c.lots + lots_of (paired_from z r (r.securities - s) s f).trades ≡ lots_of (paired_from z r r.securities 0 f₀).trades
  pub list : written_from c.trades (paired_from z r (r.securities - s) s f).trades v
      ≡ written_from 0 (paired_from z r r.securities 0 f₀).trades v₀

pub rounds_start : {z : Session} {r : Rules} {f : Floor} {v : List ℕ} → Endable z r f v → Rounds z r f v f no_tally v 0
rounds_start {z} {r} {f} {v} h =
    let same : paired_from z r (r.securities - 0) 0 f ≡ paired_from z r r.securities 0 f =
    ap (λ (q : ℕ). paired_from z r q 0 f) (omega arith) in
    record {
      standing = h.standing;
      phase = h.phase;
      counts = record { most = omega (arith, count_within r f h.standing); few = omega arith; lent = omega (arith, h.lent) };
      day = ap (λ (x : Paired). x.day) same;
      trades = zero-add _ ∙ ap (λ (x : Paired). length x.trades) same;
      sum = zero-add _ ∙ ap (λ (x : Paired). lots_of x.trades) same;
      list = ap (λ (x : Paired). written_from 0 x.trades v) same;
    }

module _ {z : Session} {r : Rules} {f₀ : Floor} {v₀ : List ℕ} {f : Floor} {c : Tally} {v : List ℕ} {s : ℕ}
    (g : Rounds z r f₀ v₀ f c v s) where
  abbrev d : Day
  d = day_of r f

  -- where no security is left, what the contract says holds
  pub rounds_end : r.securities ≤ s → PairsAll z r f₀ v₀ f v c
  unfolding pairs_from lots_of
  rounds_end h =
      let none : r.securities - s ≡ 0 = omega arith in
      let over : paired_from z r (r.securities - s) s f ≡ record { day = d; trades = [] } =
      ap (λ (q : ℕ). paired_from z r q s f) none in
      record {
        day = sym (ap (λ (x : Paired). x.day) over) ∙ g.day;
        standing = subst Standing (sym (ap (λ (x : Paired). x.day) over) ∙ g.day) g.standing;
        lots = omega (arith, g.sum, ap (λ (x : Paired). lots_of x.trades) over);
        trades = omega (arith, g.trades, ap (λ (x : Paired). length x.trades) over);
        list =
            sym (take-append-drop (numbers_per_trade * c.trades) v)
            ∙ sym (ap (λ (x : Paired). written_from c.trades x.trades v) over)
            ∙ g.list;
      }

  module _ (more : s < r.securities) where
    -- the terms can be reckoned
    pub rounds_terms : FewLots (first_orders f.count f.orders) × (s < max_securities)
    rounds_terms = (few_waiting d g.standing, omega (arith, g.standing.backed.rules_ok.securities))

    module _ {terms : Terms} (reckoned : terms ≡ terms_with z f s) where
      terms_are : terms ≡ terms_of z d s
      terms_are = reckoned ∙ terms_of_lem z r f s

      pub rounds_pairable : Pairable r f s terms c v
      rounds_pairable = record {
        known = more;
        standing = g.standing;
        fair = subst (λ (t : Terms). Fair s t d) (sym terms_are) (terms_fair z d s g.standing g.phase);
        counts = g.counts;
      }

      pub rounds_next : {f' : Floor} {c' : Tally} {v' : List ℕ} → Pairs r f s terms c v f' c' v' → Rounds z r f₀ v₀ f' c' v' (s + 1)
      unfolding pairs_from lots_of
      rounds_next {f'} {c'} {v'} paired =
          let done = paired.paired in
          let n = r.securities in
          let x = pairs s terms d in
          let rest = paired_from z r (n - (s + 1)) (s + 1) f' in
          let split : n - s ≡ suc (n - (s + 1)) = omega arith in
          let whole : paired_from z r (n - s) s f ≡ record { day = rest.day; trades = x.trades ++ rest.trades } =
          ap (λ (q : ℕ). paired_from z r q s f) split
          ∙ ap (λ (t : Terms). followed (pairs s t d) (pairs_from (terms_of z) (n - (s + 1)) (suc s))) (sym terms_are)
          ∙ ap (λ (q : ℕ). followed x (pairs_from (terms_of z) (n - (s + 1)) q)) (sym (add-one s))
          ∙ ap (λ (e : Day). record {
            day = (pairs_from (terms_of z) (n - (s + 1)) (s + 1) e).day;
            trades = x.trades ++ (pairs_from (terms_of z) (n - (s + 1)) (s + 1) e).trades;
          }) (sym done.day) in
          let room : numbers_per_trade * (c.trades + length x.trades) ≤ length v =
          omega (arith, paired.counts.lent, done.trades, paired.long) in
          record {
            standing = subst Standing (sym done.day) done.standing;
            phase = ap (λ (e : Day). e.phase) done.day ∙ phase_stays s terms d ∙ g.phase;
            counts = paired.counts;
            day = sym (ap (λ (y : Paired). y.day) whole) ∙ g.day;
            trades =
                omega (
                  arith,
                  g.trades,
                  done.trades,
                  ap (λ (y : Paired). length y.trades) whole,
                  length-append x.trades rest.trades,
                );
            sum =
                omega (
                  arith,
                  g.sum,
                  done.lots,
                  ap (λ (y : Paired). lots_of y.trades) whole,
                  sum_append (λ (y : Trade). y.lots) x.trades rest.trades,
                );
            list =
                ap (λ (q : ℕ). written_from q rest.trades v') done.trades
                ∙ ap (written_from (c.trades + length x.trades) rest.trades) done.list
                ∙ sym (written_append x.trades rest.trades c.trades v room)
                ∙ sym (ap (λ (y : Paired). written_from c.trades y.trades v) whole)
                ∙ g.list;
          }
