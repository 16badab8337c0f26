-- The entry of an order that passed its questions, step by step on the floor.
use Prim.Native.Nat.{ℕ, ◌+◌, ◌-◌, ◌≤◌, ◌<◌, min}
use native.Mathlib.Omega.{arith}
use mathlib.Core.Path.{◌≡◌, refl, ap, sym, ◌∙◌, subst}
use mathlib.Core.List.{List, [], ◌∷◌}
use mathlib.Core.Bool.{true}
use lib.ListN.{length, set}
use borrow.Author.Tests.{ltb-true}
use Rattle.market.specs.declared.Answer.TheVariants.{Done}
use Rattle.market.specs.declared.Floor.{Floor}
use Rattle.market.specs.declared.Order.{Order}
use Rattle.market.specs.declared.Rules.{Rules}
use Rattle.market.specs.declared.TimeInForce.{TimeInForce}
use Rattle.market.specs.declared.TimeInForce.TheVariants.{FillOrKill, ImmediateOrCancel, Kept}
use Rattle.market.specs.declared.Turnover.{Turnover}
use Rattle.market.specs.Limits.{max_lots, max_price, max_waiting}
use Rattle.market.specs.Day.{Day, with_codes, with_lots}
use Rattle.market.specs.View.{day_of}
use Rattle.market.specs.Codes.{codes_of}
use Rattle.market.specs.Needs.{limit_of}
use Rattle.market.specs.Positions.{block, block_for, release, release_for}
use Rattle.market.specs.TradeList.{written}
use Rattle.market.specs.Questions.{covered, order_questions, room_for}
use Rattle.market.specs.Matching.{Filled, fill}
use Rattle.market.specs.Entry.{admitted, entered, finished, left_waiting}
use Rattle.market.proofs.Logic.{within_high}
use Rattle.market.proofs.Questions.{all_yes, yes}
use Rattle.market.proofs.Needs.{kept_limit}
use Rattle.market.proofs.Known.{is_kept_lem, kept_price_lem}
use Rattle.market.proofs.View.{first_append, first_length}
use Rattle.invariant.specs.Standing.{InFlight, EntryOk}
use Rattle.invariant.proofs.Flight.{FewTrades, fill_few, fill_flight}
use Rattle.invariant.proofs.Entry.{flight_starts}
use Rattle.matching.specs.declared.Matched.{Matched}
use Rattle.matching.specs.Orders.{coded}
use Rattle.matching.specs.Filling.{Fillable, Fills}
use Rattle.waiting.specs.Claims.{Blockable, Freeable, moved}
use Rattle.waiting.proofs.Claims.{blocks, frees, moved_day}
use Rattle.orders.specs.Entering.{Enterable, EntersAs}
use Rattle.orders.proofs.Finishing.{day_done, day_waits, part_frees, waits_part}

-- what its questions tell of an entry
record Passed (d : Day) (e : Order) (k : TimeInForce) : Type 0 where
  flight : InFlight (admitted d e) e
  covers : covered d e ≡ true
  participant : e.participant < d.rules.participants
  security : e.security < d.rules.securities
  top : e.lots ≤ max_lots
  priced : EntryOk d.rules e
  code : e.code ≡ codes_of d e.participant + 1
  room : room_for k d ≡ true

priced_limit : (r : Rules) (t : List Turnover) (e : Order) → EntryOk r e → limit_of t e ≤ max_price
priced_limit r t e h =
    omega (arith, kept_limit t e (is_kept_lem r e.security e.kind h), (kept_price_lem r e.security e.kind h).1)

module _ {r : Rules} {f : Floor} {e : Order} {k : TimeInForce} {v : List ℕ} (a : Enterable r f e k v) where
  abbrev d : Day
  d = day_of r f

  passed : Passed d e k
  unfolding order_questions
  passed =
      let p = a.participant in
      let q = a.member in
      let qs = order_questions d p q a.access k in
      let y = all_yes qs tt a.asked in
      subst (λ (x : Order). Passed d x k) (sym a.entry)
      (record {
        flight = flight_starts d p q a.access k a.standing a.opens a.asked;
        covers = yes 14 qs y;
        participant = ltb-true p r.participants (yes 4 qs y);
        security = ltb-true q.security r.securities (yes 5 qs y);
        top = within_high 1 max_lots q.lots (yes 7 qs y);
        priced = yes 8 qs y;
        code = refl;
        room = yes 12 qs y;
      })

  pub blockable : Blockable d e
  unfolding covered
  blockable =
      let p = passed in
      blocks d e [] a.standing.backed p.participant p.security (priced_limit r f.turnover e p.priced) p.top p.covers

  -- the need is blocked before the code is given, and no need reads codes
  day_admitted : day_of r (coded (moved block r f e) e) ≡ admitted d e
  unfolding admitted block_for
  day_admitted =
      ap (λ (x : Day). with_codes x (set f.codes e.participant e.code)) (moved_day block r f e)
      ∙ ap (λ (n : ℕ). block_for (with_codes d (set f.codes e.participant n)) e) passed.code

  -- its need is blocked
  module _ {f2 : Floor} (blocked : f2 ≡ moved block r f e) where
    starts : InFlight (day_of r (coded f2 e)) e
    starts = rw blocked (subst (λ (x : Day). InFlight x e) (sym day_admitted) passed.flight)

    pub fillable : Fillable r f2 e v
    fillable = record { flight = starts; lent = rw blocked a.lent }

    -- and it is matched
    module _ {f3 : Floor} {v2 : List ℕ} {m : Matched} (g : Fills r f2 e v f3 v2 m) where
      abbrev d2 : Day
      d2 = day_of r (coded f2 e)

      abbrev filled : Filled
      filled = fill d2 e

      abbrev d3 : Day
      d3 = day_of r f3

      abbrev rest : Order
      rest = with_lots e m.left

      few : FewTrades d2 e filled
      few = fill_few d2 e

      left_is : m.left ≡ filled.entry.lots
      left_is = ap (λ (o : Order). o.lots) g.entry

      pub part : m.left ≤ e.lots
      part = omega (arith, few.less, left_is)

      landed : InFlight d3 rest
      landed =
          subst (λ (x : Day). InFlight x rest) (sym g.day)
          (subst (λ (o : Order). InFlight filled.day o) (sym g.entry) (fill_flight d2 e starts))

      pub left_top : m.left ≤ max_lots
      left_top = landed.top

      -- what of it does not wait can be freed
      pub freeable : (n : ℕ) → n ≡ left_waiting k rest → Freeable d3 (with_lots rest (m.left - n))
      freeable n en =
          let h = landed in
          part_frees d3 rest n (omega (arith, waits_part k rest))
          (frees d3 rest (rest ∷ []) h.backed h.participant h.security (priced_limit r f3.turnover rest h.entry_priced) h.top
          (λ y j. omega arith))

      -- and there is a place for what waits
      pub index_left : (n : ℕ) → n ≡ left_waiting k rest → 0 < n → f3.count < max_waiting
      index_left n en h =
          let count : length d3.waiting ≡ length filled.day.waiting = ap (λ (x : Day). length x.waiting) g.day in
          let own : length d2.waiting ≡ length d.waiting = rw blocked in
          go k passed.room (omega (arith, en)) count (first_length f3.count f3.orders) (omega (arith, few.count, own))
        where
          go : (k : TimeInForce) → room_for k d ≡ true → 0 < left_waiting k rest
              → length d3.waiting ≡ length filled.day.waiting → length d3.waiting ≡ f3.count
              → length filled.trades + (length filled.day.waiting + min 1 filled.entry.lots) ≤ length d.waiting + min 1 e.lots
              → f3.count < max_waiting
          go Kept room some count own all = omega (arith, left_is, ltb-true (length d.waiting) max_waiting room)
          go ImmediateOrCancel room some count own all = absurd (omega arith)
          go FillOrKill room some count own all = absurd (omega arith)

      -- then n lots of it wait, and the others are freed
      module _ {f4 : Floor} (n : ℕ) (en : n ≡ left_waiting k rest)
          (freed : f4 ≡ moved release r f3 (with_lots rest (m.left - n))) where
        day_freed : day_of r f4 ≡ release_for d3 (with_lots rest (m.left - n))
        unfolding release_for
        day_freed = rw freed (moved_day release r f3 (with_lots rest (m.left - n)))

        whole : filled ≡ fill (admitted d e) e
        whole = rw blocked (ap (λ (x : Day). fill x e) day_admitted)

        -- on floor f5
        gives : (f5 : Floor) → day_of r f5 ≡ finished k d3 rest
            → EntersAs (entered d e k) r v f5 v2 (Done e.code (e.lots - m.left) n m.trades)
        unfolding entered
        gives f5 day =
            let x = fill (admitted d e) e in
            let lots : m.left ≡ x.entry.lots = left_is ∙ ap (λ (q : Filled). q.entry.lots) whole in
            let waits : n ≡ left_waiting k x.entry =
            en ∙ ap (left_waiting k) (g.entry ∙ ap (λ (q : Filled). q.entry) whole) in
            let made : m.trades ≡ length x.trades = g.count ∙ ap (λ (q : Filled). length q.trades) whole in
            record {
              answer = rw (lots, waits, made);
              day =
                  day ∙ ap (λ (q : Day). finished k q rest) (g.day ∙ ap (λ (q : Filled). q.day) whole)
                  ∙ ap (finished k x.day) (g.entry ∙ ap (λ (q : Filled). q.entry) whole);
              list = g.list ∙ ap (λ (q : Filled). written q.trades v) whole;
            }

        pub gives_done : n ≤ 0 → EntersAs (entered d e k) r v f4 v2 (Done e.code (e.lots - m.left) n m.trades)
        gives_done h = gives f4 (day_done k d3 (day_of r f4) rest n en day_freed h)

        pub gives_waits : 0 < n → f4.count < length f4.orders
            → EntersAs (entered d e k) r v (record f4 { orders = set f4.orders f4.count rest; count = f4.count + 1 }) v2
            (Done e.code (e.lots - m.left) n m.trades)
        gives_waits h inside =
            gives (record f4 { orders = set f4.orders f4.count rest; count = f4.count + 1 })
            (day_waits k d3 (day_of r f4) rest n en day_freed h _ (first_append f4.count f4.orders rest inside))
