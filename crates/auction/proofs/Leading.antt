-- The leading price, one rung at a time.
use Rattle.std.proofs.Common.{ℕ, ◌+◌, ◌<◌, ◌≤◌, ◌≡◌, List, [], ◌∷◌, ◌++◌, take, length, get_or, map, Bool, true, false, cond, None, arith, refl, ap, ap₂, subst, sym, take_all, ◌∙◌}
use Rattle.std.specs.List.{cons_option}
use Rattle.std.proofs.lemmas.List.{map-append, take_more}
use borrow.Author.Tests.{le-ltb, lt-ltb, ltb-false}
use Rattle.market.specs.declared.Kind.{Kind}
use Rattle.market.specs.declared.Kind.TheVariants as kind
use Rattle.market.specs.declared.Order.{Order}
use Rattle.market.specs.declared.Side.TheVariants.{Buy, Sell}
use Rattle.market.specs.Tests.{◌<?◌, ◌=?◌}
use Rattle.market.specs.Needs.{kept_price}
use Rattle.market.specs.Auction.{auction_price, gap, leading, lots_offered, lots_wanted, precedes, price_on, volume, written_prices}
use Rattle.auction.specs.declared.Level.{Level}
use Rattle.auction.specs.declared.Rung.{Rung}
use Rattle.auction.specs.Laws.{Behind}
use Rattle.auction.specs.Ladder.{ahead, level_of, rung_with, rungs_of}
use Rattle.auction.proofs.Counting.{blank}
use Rattle.auction.proofs.Ladder.{lots_same}
use Rattle.auction.proofs.Ties.{behind_self, behind_stays, behind_trans, first_two, lead_next}

-- the prices of rungs
abbrev prices : List Rung → List ℕ
prices l = map (λ r. r.price) l

-- what a price comes to among orders, and on their ladder
abbrev pub level_at : List Order → ℕ → ℕ → Level
level_at w s p = record { price = p; volume = volume w s p; gap = gap w s p }

level_same : (w : List Order) (s p : ℕ) → level_of (rungs_of s w) p ≡ level_at w s p
unfolding volume gap lots_wanted lots_offered
level_same w s p = rw (lots_same Sell p s w, lots_same Buy p s w)

-- what holds between two steps
pub record Led (w : List Order) (s : ℕ) (l : List Rung) (i : ℕ) (lead : Level) : Type 0 where
  pub laid : l ≡ rungs_of s w
  pub leads : lead ≡ level_at w s (leading w s 0 (prices (take i l)))

module _ (w : List Order) (s : ℕ) where
  pub led_starts : {l : List Rung} {lead : Level} → l ≡ rungs_of s w → lead ≡ level_of l 0 → Led w s l 0 lead
  unfolding leading
  led_starts {l} e n =
      record { laid = e; leads = n ∙ ap (λ (m : List Rung). level_of m 0) e ∙ level_same w s 0 }

  pub led_next : {l : List Rung} {i : ℕ} {lead level next : Level} → Led w s l i lead → i < length l
      → level ≡ level_of l (get_or l i blank).price → next ≡ cond (ahead level lead) level lead
      → Led w s l (i + 1) next
  unfolding ahead precedes
  led_next {l} {i} {lead} {level} {next} h k el en = record {
    laid = h.laid;
    leads =
        en
        ∙ ap₂ (λ (a b : Level). cond (ahead a b) a b) (el ∙ ap (λ (m : List Rung). level_of m p) h.laid ∙ level_same w s p) h.leads
        ∙ choice (precedes w s p q)
        ∙ ap (level_at w s) (sym (ap (leading w s 0) one ∙ lead_next w s (prices (take i l)) 0 p));
  }
    where
      p : ℕ
      p = (get_or l i blank).price

      q : ℕ
      q = leading w s 0 (prices (take i l))

      one : prices (take (i + 1) l) ≡ prices (take i l) ++ (p ∷ [])
      one = ap prices (take_more l i blank k) ∙ map-append (λ (r : Rung). r.price) (take i l) (get_or l i blank ∷ [])

      choice : (b : Bool) → cond b (level_at w s p) (level_at w s q) ≡ level_at w s (cond b p q)
      choice true = refl
      choice false = refl

  -- to try 0 where no price is written changes nothing: it doesn't go before what was tried first
  skips : (v : List Order) (q : ℕ) → Behind w s 0 q → leading w s q (prices (rungs_of s v)) ≡ leading w s q (written_prices s v)
  unfolding leading written_prices price_on
  skips [] q h = refl
  skips (o ∷ v) q h = go (s =? o.security) o.kind (skips v)
    where
      go : (b : Bool) (k : Kind)
          → ((q : ℕ) → Behind w s 0 q → leading w s q (prices (rungs_of s v)) ≡ leading w s q (written_prices s v))
          → leading w s q (prices (cons_option (cond b (rung_with k o.side o.lots) None) (rungs_of s v)))
          ≡ leading w s q (cond (0 <? cond b (kept_price k) 0) (cond b (kept_price k) 0 ∷ written_prices s v) (written_prices s v))
      go true (kind.Kept p) again = tried (0 <? p) refl
        where
          tried : (a : Bool) → (0 <? p) ≡ a
              → leading w s q (p ∷ prices (rungs_of s v)) ≡ leading w s q (cond a (p ∷ written_prices s v) (written_prices s v))
          tried true e = again _ (behind_trans w s _ _ _ h (first_two w s p q).1)
          tried false e =
              let zero : 0 ≡ p = omega (arith, ltb-false 0 p e) in
              ap (λ (m : ℕ). leading w s m (prices (rungs_of s v)))
              (behind_stays w s p q (subst (λ (m : ℕ). Behind w s m q) zero h))
              ∙ again q h
      go true kind.Closing again = again q h
      go true (kind.Offer rate term p) again = again q h
      go false k again = again q h

  -- all rungs are passed
  module _ {l : List Rung} {i : ℕ} {lead : Level} (h : Led w s l i lead) (over : length l ≤ i) where
    ends : lead ≡ level_at w s (leading w s 0 (written_prices s w))
    ends =
        h.leads
        ∙ ap (λ (m : List Rung). level_at w s (leading w s 0 (prices m))) (take_all i l over ∙ h.laid)
        ∙ ap (level_at w s) (skips w 0 (behind_self w s 0))

    pub led_trades : 0 < lead.volume → lead.price ≡ auction_price w s
    unfolding auction_price
    led_trades z =
        let v = ap (λ (a : Level). a.volume) ends in
        ap (λ (a : Level). a.price) ends ∙ rw (lt-ltb 0 (volume w s (leading w s 0 (written_prices s w))) (omega arith))

    pub led_none : lead.volume ≤ 0 → 0 ≡ auction_price w s
    unfolding auction_price
    led_none z =
        let v = ap (λ (a : Level). a.volume) ends in
        rw (le-ltb 0 (volume w s (leading w s 0 (written_prices s w))) (omega arith))
