-- The questions of an order, as the code asks them on a floor.
use Prim.Native.Nat.{ℕ, ◌≤◌, ◌<◌}
use native.Mathlib.Omega.{arith}
use mathlib.Core.Path.{◌≡◌, refl, sym, subst, ◌∙◌}
use mathlib.Core.List.{List, [], ◌∷◌, ◌++◌}
use mathlib.Core.Bool.{Bool, true, false}
use lib.ListN.{length, take}
use borrow.Author.Tests.{ltb-false, ltb-true}
use Rattle.market.specs.declared.Access.{Access}
use Rattle.market.specs.declared.Floor.{Floor}
use Rattle.market.specs.declared.Order.{Order}
use Rattle.market.specs.declared.Refusal.{Refusal}
use Rattle.market.specs.declared.Refusal.TheVariants.{Unsound}
use Rattle.market.specs.declared.Rules.{Rules}
use Rattle.market.specs.declared.Ticket.{Ticket}
use Rattle.market.specs.declared.TimeInForce.{TimeInForce}
use Rattle.market.specs.declared.TimeInForce.TheVariants.{FillOrKill, ImmediateOrCancel, Kept}
use Rattle.market.specs.Limits.{max_lots, max_waiting}
use Rattle.market.specs.Day.{Day, no_order, row}
use Rattle.market.specs.Tests.{◌<?◌}
use Rattle.market.specs.View.{day_of}
use Rattle.market.specs.Calls.{entry_of}
use Rattle.market.specs.Matching.{fits, fitting}
use Rattle.market.specs.Phases.{admits}
use Rattle.market.specs.Questions.{Question, ask, covered, entry_questions, fillable, first_no, order_questions, room_for}
use Rattle.market.specs.Refusals.{number_of}
use Rattle.market.specs.Sound.{price_sound}
use Rattle.market.proofs.Logic.{within_high}
use Rattle.market.proofs.Codes.{CodesWithin}
use Rattle.market.proofs.Known.{OrderOk, RulesOk, price_bounds}
use Rattle.market.proofs.Lists.{all_at}
use Rattle.market.proofs.Questions.{all_yes, hides, passes}
use Rattle.market.proofs.View.{cut_at, first_length, first_take}
use Rattle.std.proofs.lemmas.List.{get_or_past}
use Rattle.invariant.specs.Standing.{Standing}
use Rattle.codes.specs.Numbers.{Numberable, numbered_with}
use Rattle.matching.specs.Orders.{FewLots}
use Rattle.matching.proofs.Ready.{few_waiting}
use Rattle.waiting.specs.Claims.{Reckonable}
use Rattle.waiting.proofs.Claims.{known_reckons}
use Rattle.orders.specs.Entering.{Askable, claim_with, fillable_in, later_questions, open_questions, order_no, room_with}

-- a refusal has a number
pub positive : (q : Refusal) → 0 < number_of q
positive Unsound = omega arith
positive _ = omega arith

-- a known participant's order can be numbered
pub counted : {r : Rules} {codes : List ℕ} {p : ℕ} → RulesOk r → CodesWithin r.participants codes → p < r.participants
    → Numberable r.participants codes p
counted ok codes h = record { few = ok.participants; codes = codes; participant = h }

-- numbering changes nothing of what question 15 reads
pub numbered_alike : (k : TimeInForce) (w : List Order) (n : ℕ) (codes : List ℕ) (p : ℕ) (m : Ticket)
    → fillable_in k w (numbered_with n codes (claim_with p m)) ≡ fillable_in k w (claim_with p m)
unfolding fitting fits
numbered_alike Kept w n codes p m = refl
numbered_alike ImmediateOrCancel w n codes p m = refl
numbered_alike FillOrKill w n codes p m = refl

module _ (r : Rules) (f : Floor) where
  abbrev d : Day
  d = day_of r f

  pub count_within : Standing d → f.count ≤ max_waiting
  count_within st = omega (arith, st.room, first_length f.count f.orders)

  -- each counted order has its place: past the places is one of no lots
  inside : Standing d → f.count ≤ length f.orders
  inside st = go (length f.orders <? f.count) refl
    where
      go : (b : Bool) → (length f.orders <? f.count) ≡ b → f.count ≤ length f.orders
      go true e =
          let h = ltb-true (length f.orders) f.count e in
          let ok = all_at (OrderOk r) no_order d.waiting (length f.orders) st.orders (omega (arith, h, first_length f.count f.orders)) in
          let past = cut_at no_order f.count f.orders (length f.orders) h ∙ get_or_past f.orders (length f.orders) no_order (omega arith) in
          let none : 0 < no_order.lots = subst (λ (o : Order). 0 < o.lots) past ok.lots in
          omega (arith, none)
      go false e = ltb-false (length f.orders) f.count e

  -- the orders lent to the search
  pub lent_waiting : Standing d → take f.count f.orders ≡ d.waiting
  lent_waiting st = sym (first_take f.count f.orders (inside st))

  pub few_lent : Standing d → FewLots (take f.count f.orders)
  few_lent st = rw (lent_waiting st) (few_waiting d st)

  module _ (p : ℕ) (m : Ticket) where
    -- the need of a claim with a good price can be reckoned
    pub reckonable : Askable d p m → price_sound (row r m.security) m.price ≡ true → Reckonable d (claim_with p m)
    reckonable a price =
        known_reckons d (claim_with p m) a.rules a.participant a.security (price_bounds (row r m.security) m.price price).1 a.top

    module _ (a : Access) (k : TimeInForce) where
      abbrev early : List Question
      early = open_questions r (admits f.phase a) p m.security m.lots

      abbrev later : List Question
      later = later_questions r f p m k

      room_is : (k : TimeInForce) → room_with k f.count ≡ room_for k d
      room_is Kept = rw (first_length f.count f.orders)
      room_is ImmediateOrCancel = refl
      room_is FillOrKill = refl

      fillable_is : (k : TimeInForce) (e : Order) → fillable k d e ≡ fillable_in k d.waiting e
      fillable_is Kept e = refl
      fillable_is ImmediateOrCancel e = refl
      fillable_is FillOrKill e = refl

      -- no need reads code or arrival
      covered_is : covered d (claim_with p m) ≡ covered d (entry_of d p m)
      unfolding covered
      covered_is = refl

      -- the questions that read no waiting order, and the one that does
      abbrev asked : List Question
      asked = entry_questions d p m a k

      abbrev last : List Question
      last = ask 15 (fillable k d (entry_of d p m)) ∷ []

      -- the former are the early ones and the later ones
      asked_in_turn : first_no asked ≡ first_no (early ++ later)
      asked_in_turn = rw (room_is k, covered_is)

      module _ (none : first_no early ≡ 0) where
        pub askable : RulesOk r → Askable d p m
        askable ok =
            let y = all_yes early tt none in
            record {
              rules = ok;
              participant = ltb-true p r.participants y.0;
              security = ltb-true m.security r.securities y.1.0;
              top = within_high 1 max_lots m.lots y.1.1.1.0;
            }

        pub no_later : first_no later ≡ first_no asked
        no_later = sym (asked_in_turn ∙ passes early later (all_yes early tt none))

      pub no_early : (q : Refusal) → number_of q ≡ first_no early → number_of q ≡ first_no asked
      no_early q e = e ∙ sym (asked_in_turn ∙ hides early later (omega (arith, e, positive q)))

      pub no_asked : (q : Refusal) → number_of q ≡ first_no asked → number_of q ≡ order_no d p m a k
      unfolding order_questions
      no_asked q e = e ∙ sym (hides asked last (omega (arith, e, positive q)))

      -- all but 15 are answered "yes"
      module _ (none : 0 ≡ first_no asked) where
        pub in_lots : m.lots ≤ max_lots
        in_lots = within_high 1 max_lots m.lots (all_yes asked tt (sym none)).1.1.1.0

        pub only_fifteen : first_no (ask 15 (fillable_in k d.waiting (claim_with p m)) ∷ []) ≡ order_no d p m a k
        unfolding order_questions
        only_fifteen =
            rw (← numbered_alike k d.waiting r.participants f.codes p m, ← fillable_is k (entry_of d p m))
            (sym (passes asked last (all_yes asked tt (sym none))))
