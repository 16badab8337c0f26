-- What the end of collecting trades: in each security exactly the volume at its price, all at that price.
use Prim.Native.Nat.{ℕ, zero, suc, ◌+◌, ◌-◌, ◌≤◌, ◌<◌, min}
use native.Mathlib.Omega.{arith}
use mathlib.Core.Path.{◌≡◌, refl, ap, sym, subst, ◌∙◌}
use mathlib.Core.List.{List, [], ◌∷◌, ◌++◌}
use mathlib.Core.Bool.{Bool, true, false, cond}
use lib.ListN.{length}
use borrow.Author.Tests.{eq-eqb, eqb-false, eqb-true, ltb-false, ltb-true, ne_eqb}
use Rattle.market.specs.declared.Kind.{Kind}
use Rattle.market.specs.declared.Kind.TheVariants as kind
use Rattle.market.specs.declared.Order.{Order}
use Rattle.market.specs.declared.Side.{Side}
use Rattle.market.specs.declared.Side.TheVariants.{Buy, Sell}
use Rattle.market.specs.Tests.{◌<?◌, ◌=?◌, ◌and◌}
use Rattle.market.specs.Day.{Day, order_at, with_lots}
use Rattle.market.specs.Positions.{settle}
use Rattle.market.specs.TradeList.{Trade, lots_of}
use Rattle.market.specs.Waiting.{filled_by, take_off}
use Rattle.market.specs.Matching.{Best, fits, fitting, fitting_lots, found, lots_at, none, opposite, reaches}
use Rattle.market.specs.Pairing.{Paired, Terms, counterparty, first_buy, first_sell, paired_off, pairs, pairs_from}
use Rattle.market.specs.Pairing.{take_both}
use Rattle.market.specs.Auction.{auction_price, auction_terms, gap, leading, lots_offered, lots_wanted, precedes, volume}
use Rattle.market.specs.Auction.{written_prices}
use Rattle.market.specs.Step.{effect}
use Rattle.market.proofs.Lists.{All, all_append, all_map, sum_append}
use Rattle.market.proofs.Waiting.{at_take_off, length_take_off, take_off_suc}
use Rattle.market.proofs.Matching.{Chosen, best_chosen, none_fitting}
use Rattle.market.proofs.Pairs.{Both, meets, pairs_no_buy, pairs_no_sell, pairs_one, stand_apart, take_both_lem}
use Rattle.auction.specs.Laws.{Auctioned, Crossing, auction_trades, lots_in, lots_traded_at, terms_at}
use Rattle.auction.proofs.Prices.{price_other}
use Rattle.auction.proofs.Auction.{apart_none, auction_most}

-- who doesn't fit: orders of the entry's own side, and of another security
own_side : (x : Side) (s : ℕ) (k : Kind) (o : Order) → o.side ≡ x → fits (counterparty x s k) o ≡ false
unfolding fits ◌and◌
own_side x s k o e = rw e (go x (s =? o.security))
  where
    go : (x : Side) (b : Bool) → b and opposite x x and reaches x k o.kind ≡ false
    go Buy true = refl
    go Buy false = refl
    go Sell true = refl
    go Sell false = refl

other_security : (x : Side) (u : ℕ) (k : Kind) (o : Order) → (u ≡ o.security → ⊥) → fits (counterparty x u k) o ≡ false
unfolding fits ◌and◌
other_security x u k o n = rw (ne_eqb u o.security n)

-- n lots off two orders, as an entry sees it
module _ (w v : List Order) (i j n : ℕ) (two : Both w i j n v) (ni : n ≤ (order_at w i).lots)
    (nj : n ≤ (order_at w j).lots) (e : Order) where
  no_lots : (o : Order) → fitting_lots e (with_lots o 0) ≡ 0
  no_lots o = go (fits e (with_lots o 0))
    where
      go : (k : Bool) → ◌≡◌ {A = ℕ} (cond k 0 0) 0
      go true = refl
      go false = refl

  fewer : (o : Order) (k : Bool) → fits e o ≡ k → n ≤ o.lots
      → fitting_lots e (with_lots o (o.lots - n)) + cond k n 0 ≡ fitting_lots e o
  unfolding fits
  fewer o true f l = rw f (omega arith)
  fewer o false f l = rw f (omega arith)

  both_fitting : (a b : Bool) → fits e (order_at w i) ≡ a → fits e (order_at w j) ≡ b
      → fitting e v + (cond a n 0 + cond b n 0) ≡ fitting e w
  unfolding fitting
  both_fitting a b fa fb =
      omega (
        arith,
        two.sums (fitting_lots e) ni nj (no_lots (order_at w i)) (no_lots (order_at w j)),
        fewer (order_at w i) a fa ni,
        fewer (order_at w j) b fb nj,
      )

-- the prices written for another security stay
module _ (u : ℕ) where
  unwritten : (o : Order) (w : List Order) → (u ≡ o.security → ⊥) → written_prices u (o ∷ w) ≡ written_prices u w
  unfolding written_prices
  unwritten o w n = rw (price_other u o n)

  written_tail : (o : Order) (v w : List Order) → written_prices u v ≡ written_prices u w
      → written_prices u (o ∷ v) ≡ written_prices u (o ∷ w)
  unfolding written_prices
  written_tail o v w e = rw e

  written_take_off : (w : List Order) (i n : ℕ) → i < length w → (u ≡ (order_at w i).security → ⊥)
      → written_prices u (take_off w i n) ≡ written_prices u w
  written_take_off [] i n h e = absurd (omega arith)
  written_take_off (o ∷ w) zero n h e = unfold take_off in (go (filled_by n o))
    where
      go : (k : Bool) → written_prices u (cond k w (with_lots o (o.lots - n) ∷ w)) ≡ written_prices u (o ∷ w)
      go true = sym (unwritten o w e)
      go false = unwritten (with_lots o (o.lots - n)) w e ∙ sym (unwritten o w e)
  written_take_off (o ∷ w) (suc i) n h e =
      ap (written_prices u) (take_off_suc o w i n)
      ∙ written_tail o (take_off w i n) w (written_take_off w i n (omega arith) e)

  written_both : (w : List Order) (i j n : ℕ) → i < length w → j < length w → (i ≡ j → ⊥)
      → (u ≡ (order_at w i).security → ⊥) → (u ≡ (order_at w j).security → ⊥)
      → written_prices u (take_both w i j n) ≡ written_prices u w
  unfolding take_both
  written_both w i j n hi hj ne ei ej = go (i <? j) refl
    where
      two : (i j : ℕ) → i < j → j < length w → (u ≡ (order_at w i).security → ⊥) → (u ≡ (order_at w j).security → ⊥)
          → written_prices u (take_off (take_off w j n) i n) ≡ written_prices u w
      two i j h hj ei ej =
          written_take_off (take_off w j n) i n (length_take_off w i j n h hj)
          (λ z. ei (z ∙ ap (λ (o : Order). o.security) (at_take_off w i j n h)))
          ∙ written_take_off w j n hj ej

      go : (k : Bool) → (i <? j) ≡ k
          → written_prices u (cond k (take_off (take_off w j n) i n) (take_off (take_off w i n) j n)) ≡ written_prices u w
      go true q = two i j (ltb-true i j q) hj ei ej
      go false q = two j i (let l = ltb-false i j q in omega arith) hi ej ei

-- what a pairing of security s under terms t comes to
pub record PairedLots (s : ℕ) (t : Terms) (d : Day) (r : Paired) : Type 0 where
  pub lots : lots_of r.trades
      ≡ min (fitting (counterparty Sell s t.limit) d.waiting)
      (fitting (counterparty Buy s t.limit) d.waiting)
  pub trades : All (λ x. (x.price ≡ t.price) × (x.security ≡ s)) r.trades
  pub others : (x : Side) (u : ℕ) (k : Kind) → (u ≡ s → ⊥)
      → fitting (counterparty x u k) r.day.waiting ≡ fitting (counterparty x u k) d.waiting
  pub written : (u : ℕ) → (u ≡ s → ⊥) → written_prices u r.day.waiting ≡ written_prices u d.waiting

module _ (s : ℕ) (t : Terms) where
  step : (d : Day) → ((d' : Day) → length d'.waiting < length d.waiting → PairedLots s t d' (pairs s t d'))
      → PairedLots s t d (pairs s t d)
  unfolding paired_off settle lots_of
  step d again =
      go (first_buy s t d) refl (best_chosen (counterparty Sell s t.limit) d.waiting)
      (first_sell s t d) refl (best_chosen (counterparty Buy s t.limit) d.waiting)
    where
      go : (x : Best) → first_buy s t d ≡ x → Chosen (counterparty Sell s t.limit) d.waiting x
          → (y : Best) → first_sell s t d ≡ y → Chosen (counterparty Buy s t.limit) d.waiting y
          → PairedLots s t d (pairs s t d)
      go none ex cx y ey cy =
          let z = none_fitting (counterparty Sell s t.limit) d.waiting cx in
          rw (pairs_no_buy s t d ex)
          (record { lots = omega arith; trades = tt; others = λ x u k h. refl; written = λ u h. refl })
      go (found i a) ex cx none ey cy =
          let z = none_fitting (counterparty Buy s t.limit) d.waiting cy in
          rw (pairs_no_sell s t d i a ex ey)
          (record { lots = omega arith; trades = tt; others = λ x u k h. refl; written = λ u h. refl })
      go (found i a) ex cx (found j b) ey cy =
          let w = d.waiting in
          let n = min (lots_at d i) (lots_at d j) in
          let mb = (meets Buy s t.limit w i a cx).stands in
          let ms = (meets Sell s t.limit w j b cy).stands in
          let apart = stand_apart s w i j mb ms in
          let two = take_both_lem w i j n mb.inside ms.inside apart in
          let r = again (paired_off d i j t.price n) (two.shorter (omega arith)) in
          let seen = both_fitting w (take_both w i j n) i j n two (omega arith) (omega arith) in
          let no-sell = own_side Sell s t.limit (order_at w j) ms.side in
          let no-buy = own_side Buy s t.limit (order_at w i) mb.side in
          let bought = seen (counterparty Sell s t.limit) true false cx.1 no-sell in
          let sold = seen (counterparty Buy s t.limit) false true no-buy cy.1 in
          rw (pairs_one s t d i j a b ex ey)
          (record {
            lots = omega (arith, r.lots);
            trades = ((refl, sym mb.security), r.trades);
            others = λ x u k h.
                r.others x u k h
                ∙ omega (
                  arith,
                  seen (counterparty x u k) false false
                      (other_security x u k (order_at w i) (λ z. h (z ∙ sym mb.security)))
                      (other_security x u k (order_at w j) (λ z. h (z ∙ sym ms.security))),
                );
            written = λ u h.
                r.written u h
                ∙ written_both u w i j n mb.inside ms.inside apart (λ z. h (z ∙ sym mb.security))
                (λ z. h (z ∙ sym ms.security));
          })

  within : (f : ℕ) (d : Day) → length d.waiting ≤ f → PairedLots s t d (pairs s t d)
  within zero d h = step d (λ d' l. absurd (omega arith))
  within (suc f) d h = step d (λ d' l. within f d' (omega arith))

  pub pairs_lots : (d : Day) → PairedLots s t d (pairs s t d)
  pairs_lots d = within (length d.waiting) d (omega arith)

-- the price in a security depends on its own orders only
module _ (v w : List Order) (u : ℕ)
    (same : (x : Side) (k : Kind) → fitting (counterparty x u k) v ≡ fitting (counterparty x u k) w) where
  volume_same : (p : ℕ) → volume v u p ≡ volume w u p
  unfolding volume lots_wanted lots_offered
  volume_same p = rw (same Sell (kind.Kept p), same Buy (kind.Kept p))

  gap_same : (p : ℕ) → gap v u p ≡ gap w u p
  unfolding gap lots_wanted lots_offered
  gap_same p = rw (same Sell (kind.Kept p), same Buy (kind.Kept p))

  precedes_same : (p q : ℕ) → precedes v u p q ≡ precedes w u p q
  unfolding precedes
  precedes_same p q = rw (volume_same p, volume_same q, gap_same p, gap_same q)

  leading_same : (l : List ℕ) (q : ℕ) → leading v u q l ≡ leading w u q l
  unfolding leading
  leading_same [] q = refl
  leading_same (p ∷ l) q =
      leading_same l _ ∙ ap (λ (k : Bool). leading w u (cond k p q) l) (precedes_same p q)

  pub price_same : written_prices u v ≡ written_prices u w → auction_price v u ≡ auction_price w u
  unfolding auction_price
  price_same e =
      let l : leading v u 0 (written_prices u v) ≡ leading w u 0 (written_prices u w) =
      leading_same (written_prices u v) 0 ∙ ap (leading w u 0) e in
      ap (λ (p : ℕ). cond (0 <? volume v u p) p 0) l
      ∙ ap (λ (n : ℕ). cond (0 <? n) (leading w u 0 (written_prices u w)) 0)
      (volume_same (leading w u 0 (written_prices u w)))

-- the lots of the trades in their own security, and in another
module _ (p s : ℕ) where
  lots_own : (ts : List Trade) → All (λ x. (x.price ≡ p) × (x.security ≡ s)) ts → lots_in s ts ≡ lots_of ts
  unfolding lots_in lots_of
  lots_own [] a = refl
  lots_own (t ∷ ts) a = let r = lots_own ts a.1 in rw (eq-eqb s t.security (sym a.0.1)) (omega arith)

  lots_other : (u : ℕ) → (u ≡ s → ⊥) → (ts : List Trade) → All (λ x. (x.price ≡ p) × (x.security ≡ s)) ts
      → lots_in u ts ≡ 0
  unfolding lots_in
  lots_other u n [] a = refl
  lots_other u n (t ∷ ts) a =
      let r = lots_other u n ts a.1 in
      rw (ne_eqb u t.security (λ z. n (z ∙ a.0.1))) (omega arith)

lots_both : (u : ℕ) (a b : List Trade) → lots_in u (a ++ b) ≡ lots_in u a + lots_in u b
unfolding lots_in
lots_both u a b = sum_append (λ t. cond (u =? t.security) t.lots 0) a b

-- the orders that wait in the securities from s on are those of w
record Untouched (v w : List Order) (s : ℕ) : Type 0 where
  fitting : (x : Side) (u : ℕ) (k : Kind) → s ≤ u → fitting (counterparty x u k) v ≡ fitting (counterparty x u k) w
  written : (u : ℕ) → s ≤ u → written_prices u v ≡ written_prices u w

-- one security, then those after it
module _ (w : List Order) (n s : ℕ) (d : Day) (h : Untouched d.waiting w s) (a : Paired)
    (r : PairedLots s (auction_terms d s) d a) where
  same_price : auction_price d.waiting s ≡ auction_price w s
  same_price = price_same d.waiting w s (λ x k. h.fitting x s k (omega arith)) (h.written s (omega arith))

  own_lots_lem : lots_of a.trades ≡ volume w s (auction_price w s)
  own_lots_lem =
      own_volume
      ∙ volume_same d.waiting w s (λ x k. h.fitting x s k (omega arith)) (auction_price d.waiting s)
      ∙ ap (volume w s) same_price
    where
      own_volume : lots_of a.trades ≡ volume d.waiting s (auction_price d.waiting s)
      own_volume = unfold volume lots_wanted lots_offered auction_terms in r.lots

  own_trades_lem : All (λ x. (x.price ≡ auction_price d.waiting s) × (x.security ≡ s)) a.trades
  unfolding auction_terms
  own_trades_lem = r.trades

  after_one : Untouched a.day.waiting w (suc s)
  after_one = record {
    fitting = λ x u k l. r.others x u k (λ z. omega arith) ∙ h.fitting x u k (omega arith);
    written = λ u l. r.written u (λ z. omega arith) ∙ h.written u (omega arith);
  }

  with_rest : (ts : List Trade) → Auctioned w n (suc s) ts → Auctioned w (suc n) s (a.trades ++ ts)
  with_rest ts t = record {
    lots = λ u lo hi. go u lo hi (u =? s) refl;
    before = λ u l.
        omega (
          arith,
          lots_both u a.trades ts,
          lots_other (auction_price d.waiting s) s u (λ z. omega arith) a.trades own_trades_lem,
          t.before u (omega arith),
        );
    prices =
        all_append (λ x. x.price ≡ auction_price w x.security) a.trades ts
        (all_map (λ x. (x.price ≡ auction_price d.waiting s) × (x.security ≡ s))
        (λ x. x.price ≡ auction_price w x.security) a.trades
        (λ x k. k.0 ∙ same_price ∙ ap (auction_price w) (sym k.1)) own_trades_lem)
        t.prices;
  }
    where
      go : (u : ℕ) → s ≤ u → u < s + suc n → (k : Bool) → (u =? s) ≡ k
          → lots_in u (a.trades ++ ts) ≡ volume w u (auction_price w u)
      go u lo hi true e =
          subst (λ (x : ℕ). lots_in x (a.trades ++ ts) ≡ volume w x (auction_price w x)) (sym (eqb-true u s e))
          (omega (
            arith,
            own_lots_lem,
            lots_both s a.trades ts,
            lots_own (auction_price d.waiting s) s a.trades own_trades_lem,
            t.before s (omega arith),
          ))
      go u lo hi false e =
          let ne = eqb-false u s e in
          omega (
            arith,
            lots_both u a.trades ts,
            lots_other (auction_price d.waiting s) s u ne a.trades own_trades_lem,
            t.lots u (omega arith) (omega arith),
          )

from_lots : (w : List Order) (n s : ℕ) (d : Day) → Untouched d.waiting w s
    → Auctioned w n s (pairs_from auction_terms n s d).trades
unfolding pairs_from lots_in
from_lots w zero s d h = record { lots = λ u a b. absurd (omega arith); before = λ u a. refl; prices = tt }
from_lots w (suc n) s d h =
    let a = pairs s (auction_terms d s) d in
    let r = pairs_lots s (auction_terms d s) d in
    with_rest w n s d h a r (pairs_from auction_terms n (suc s) a.day).trades
    (from_lots w n (suc s) a.day (after_one w n s d h a r))

-- "Its end finds, for each security, the written price at which most lots trade .. All trades are at that price"
pub auction_lots : (d : Day) → Auctioned d.waiting d.rules.securities 0 (auction_trades d)
unfolding effect
auction_lots d =
    from_lots d.waiting d.rules.securities 0 d (record { fitting = λ x u k l. refl; written = λ u l. refl })

module _ (d : Day) (u : ℕ) (known : u < d.rules.securities) where
  -- "No other price from 1 to 1,000,000 may trade more lots": no price at all does
  pub auction_trades_most : (p : ℕ) → lots_traded_at d u p ≤ lots_in u (auction_trades d)
  auction_trades_most p =
      omega (
        arith,
        (auction_lots d).lots u (omega arith) (omega arith),
        auction_most d.waiting u p,
        traded_volume,
      )
    where
      traded_volume : lots_traded_at d u p ≡ volume d.waiting u p
      traded_volume = unfold volume lots_wanted lots_offered in (pairs_lots u (terms_at p) d).lots

  -- "With no buy reaching a sell nothing trades"
  pub auction_trades_none : (Crossing d.waiting u → ⊥) → lots_in u (auction_trades d) ≡ 0
  auction_trades_none h =
      (auction_lots d).lots u (omega arith) (omega arith) ∙ apart_none d.waiting u h (auction_price d.waiting u)
