-- A pair that trades outside continuous trading keeps a day sound, whatever its terms; the terms of the closing session and
-- of the auction are fair.
use Prim.Native.Nat.{ℕ, ◌+◌, ◌≤◌}
use native.Mathlib.Omega.{arith}
use mathlib.Core.Path.{◌≡◌, refl, sym, ◌∙◌, subst}
use mathlib.Core.List.{List, [], ◌∷◌}
use mathlib.Core.Bool.{true}
use borrow.Author.Tests.{leb-true}
use Rattle.market.specs.declared.Kind.{Kind}
use Rattle.market.specs.declared.Kind.TheVariants as kind
use Rattle.market.specs.declared.Order.{Order}
use Rattle.market.specs.declared.Phase.{Phase}
use Rattle.market.specs.declared.Phase.TheVariants.{Closing}
use Rattle.market.specs.declared.Side.TheVariants.{Buy, Sell}
use Rattle.market.specs.declared.Turnover.{Turnover}
use Rattle.market.specs.declared.Asset.{Asset}
use Rattle.market.specs.Day.{Day, row, no_order, order_at, turnover_at}
use Rattle.market.specs.Codes.{codes_of, given}
use Rattle.market.specs.Needs.{limit_of, need_at, price_or}
use Rattle.market.specs.Positions.{settle}
use Rattle.market.specs.Sound.{is_open, kept_in, kind_sound}
use Rattle.market.specs.Matching.{lots_at, reaches}
use Rattle.market.specs.Pairing.{Terms, paired_off, take_both}
use Rattle.market.specs.Closing.{closing_terms}
use Rattle.market.specs.Auction.{auction_price, auction_terms}
use Rattle.market.proofs.Logic.{and_true, never}
use Rattle.market.proofs.Lists.{All, all_at, all_map}
use Rattle.market.proofs.Needs.{need_falls, need_none}
use Rattle.market.proofs.Known.{OrderOk}
use Rattle.market.proofs.Pairs.{Both, Stands, stand_apart, take_both_lem}
use Rattle.invariant.specs.Standing.{KindOk, Standing, needs_of}
use Rattle.invariant.proofs.Trade.{fall_at, trade_backed}
use Rattle.invariant.proofs.Flight.{less_ok}

-- while closing, closing orders wait, and no others
kinds_closing : (d : Day) → d.phase ≡ Closing → (o : Order) → KindOk d o → o.kind ≡ kind.Closing
kinds_closing d e o h = go o.kind h
  where
    go : (k : Kind)
        → kind_sound d.phase (row d.rules o.security) (turnover_at d.turnover o.security) k ≡ true
        → k ≡ kind.Closing
    go (kind.Kept p) h =
        never (subst (λ (x : Phase). kept_in x ≡ true) e (and_true h).0)
    go kind.Closing h = refl
    go (kind.Offer rate term p) h = never (subst (λ (x : Phase). is_open x ≡ true) e (and_true h).0)

-- the buys that the terms let in can pay their price
abbrev pub FairTo : ℕ → Terms → List Turnover → Order → Type 0
FairTo s t l o = s ≡ o.security → reaches Sell t.limit o.kind ≡ true → t.price ≤ limit_of l o

abbrev pub Fair : ℕ → Terms → Day → Type 0
Fair s t d = All (FairTo s t d.turnover) d.waiting

-- the terms of the closing session are fair
pub closing_fair : (d : Day) (s : ℕ) → Standing d → d.phase ≡ Closing → Fair s (closing_terms d s) d
unfolding closing_terms
closing_fair d s g e =
    all_map (KindOk d) (FairTo s (closing_terms d s) d.turnover) d.waiting
    (λ o k h z. rw (kinds_closing d e o k, h) (omega arith)) g.kinds

-- so are those of the auction: a buy that reaches its price can pay it
pub auction_fair : (d : Day) (s : ℕ) → Fair s (auction_terms d s) d
unfolding auction_terms
auction_fair d s = each d.waiting
  where
    price : ℕ
    price = auction_price d.waiting s

    pays : (other : ℕ) (k : Kind) → reaches Sell (kind.Kept price) k ≡ true → price ≤ price_or other k
    pays other (kind.Kept q) e = leb-true price q e
    pays other kind.Closing e = never e
    pays other (kind.Offer rate term q) e = never e

    each : (w : List Order) → All (FairTo s (record { limit = kind.Kept price; price = price }) d.turnover) w
    each [] = tt
    each (o ∷ w) = (λ h e. pays _ o.kind e, each w)

-- one pair, in any phase
module _ (d : Day) (st : Standing d) (s p i j n : ℕ)
    (buys : Stands Buy s d.waiting i) (sells : Stands Sell s d.waiting j)
    (price : p ≤ limit_of d.turnover (order_at d.waiting i))
    (ni : n ≤ lots_at d i) (nj : n ≤ lots_at d j) where
  abbrev buy : Order
  buy = order_at d.waiting i

  abbrev sell : Order
  sell = order_at d.waiting j

  pub pair_two : Both d.waiting i j n (take_both d.waiting i j n)
  pair_two =
      take_both_lem d.waiting i j n buys.inside sells.inside (stand_apart s d.waiting i j buys sells)

  pub pair_buy : OrderOk d.rules buy
  pair_buy = all_at (OrderOk d.rules) no_order d.waiting i st.orders buys.inside

  pub pair_sell : OrderOk d.rules sell
  pair_sell = all_at (OrderOk d.rules) no_order d.waiting j st.orders sells.inside

  pub pair_one_lem : sell.security ≡ buy.security
  pair_one_lem = sym sells.security ∙ buys.security

  pub pair_needs : (y : Asset) (q : ℕ)
      → needs_of y d (take_both d.waiting i j n) q + (fall_at y d buy n q + fall_at y d sell n q)
      ≡ needs_of y d d.waiting q
  pair_needs y q =
      let none = need_none y d.rules d.turnover q in
      let falls = need_falls y d.rules d.turnover q in
      omega (
        arith,
        pair_two.sums (need_at y d.rules d.turnover q) ni nj (none buy) (none sell),
        falls buy n ni,
        falls sell n nj,
      )

  pub pair_standing : Standing (paired_off d i j p n)
  unfolding paired_off settle
  pair_standing = record {
    backed =
        trade_backed [] [] (take_both d.waiting i j n) d buy sell p n d.turnover st.backed pair_buy pair_sell
        buys.side sells.side pair_one_lem price ni nj pair_needs (λ y q. refl);
    orders = pair_two.all (OrderOk d.rules) (less_ok d.rules n) st.orders;
    codes = pair_two.numbered (given d) (codes_of d) st.codes;
    kinds = pair_two.all (KindOk d) (λ o k l. k) st.kinds;
    limit = st.limit;
    room = omega (arith, pair_two.short, st.room);
    turnover_length = st.turnover_length;
    turnovers = st.turnovers;
  }
