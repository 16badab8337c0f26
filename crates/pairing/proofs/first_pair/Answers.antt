-- `pairing::first_pair` meets its contract: what the searches have found where they end is the best of all.
use Prim.Native.Nat.{ℕ, ◌+◌, ◌<◌}
use native.Mathlib.Omega.{arith}
use mathlib.Core.List.{List}
use mathlib.Core.Path.{◌≡◌, ◌∙◌, ap, sym}
use borrow.Author.Tests.{ne_eqb}
use lib.ListN.{length}
use Rattle.std.specs.Prelude.{Option}
use lib.Seq.{take-length}
use Rattle.market.specs.declared.Order.{Order}
use Rattle.market.specs.declared.Side.TheVariants.{Buy, Sell}
use Rattle.market.specs.Day.{order_at}
use Rattle.market.specs.Matching.{Best, best, fits}
use Rattle.market.specs.Tests.{◌and◌}
use Rattle.market.specs.Pairing.{counterparty}
use Rattle.market.specs.View.{first_orders}
use Rattle.market.proofs.View.{first_take}
use Rattle.matching.specs.declared.Found.{Found}
use Rattle.matching.specs.Search.{best_of, prefer_later}
use Rattle.matching.proofs.Search.{Searched, search_ends, search_starts, search_step}
use Rattle.pairing.proofs.Closing.{both_decided}
use Rattle.pairing.proofs.first_pair.Goals.{Left-loop-i, else-loop-i-test, then-loop-i-test+else-o-security+then-decided}
use Rattle.pairing.proofs.first_pair.Goals as goal

pub loop-i-init : goal.loop-i-init
loop-i-init c = (search_starts _ _ _, search_starts _ _ _)

-- an order of another security leaves what a search has found
passed_over : {e : Order} {w : List Order} {i : ℕ} {b : Option Found} → Searched e w (length w) i b → i < length w
    → (e.security ≡ (order_at w i).security → ⊥) → Searched e w (length w) (i + 1) b
unfolding prefer_later fits ◌and◌
passed_over {e} {w} {i} h more other =
    search_step h more (rw (ne_eqb e.security (order_at w i).security other))

pub loop-i-preserved-then-o-security : goal.loop-i-preserved-then-o-security
loop-i-preserved-then-o-security c =
    let l = c.loop-i in
    let another : (order_at c.args.waiting.now l.i).security ≡ c.args.security → ⊥ = c.if-o-security.true in
    let looks : (e : Order) → e.security ≡ c.args.security → e.security ≡ (order_at c.args.waiting.now l.i).security → ⊥ =
    λ e p q. another (sym q ∙ p)
    in (
      passed_over l.invariant.0 c.loop-i-test.true
          (looks c.counterparty-seller.result (ap (λ (o : Order). o.security) c.counterparty-seller.ensures)),
      passed_over l.invariant.1 c.loop-i-test.true
          (looks c.counterparty-buyer.result (ap (λ (o : Order). o.security) c.counterparty-buyer.ensures)),
    )

pub loop-i-preserved : goal.loop-i-preserved
loop-i-preserved c =
    let l = c.loop-i in (
      search_step l.invariant.0 c.loop-i-test.true c.preferred-buys.ensures,
      search_step l.invariant.1 c.loop-i-test.true c.preferred-sells.ensures,
    )

-- a search that stands in for another, on all orders of the list
stands_in : {e e' : Order} (w : List Order) {b : Best} → e ≡ e' → best e (first_orders (length w) w) ≡ b → best e' w ≡ b
stands_in {e} w p q =
    let all : first_orders (length w) w ≡ w = first_take (length w) w (omega arith) ∙ take-length w in
    ap (λ o. best o w) (sym p) ∙ ap (best e) (sym all) ∙ q

-- what both searches come to
finds : (c : Left-loop-i) →
    let a = c.args in
    (best (counterparty Sell a.security a.limit) a.waiting.now ≡ best_of c.loop-i-test.buys)
    × (best (counterparty Buy a.security a.limit) a.waiting.now ≡ best_of c.loop-i-test.sells)
finds c =
    let l = c.loop-i in
    let seller = c.counterparty-seller in
    let buyer = c.counterparty-buyer in
    elim c.loop-i-test.branch [
      | else-loop-i-test w ↦ (
        stands_in _ seller.ensures (search_ends l.invariant.0 w.loop-i-test.false ∙ sym (ap best_of w.buys-is)),
        stands_in _ buyer.ensures (search_ends l.invariant.1 w.loop-i-test.false ∙ sym (ap best_of w.sells-is)),
      )
      | then-loop-i-test+else-o-security+then-decided w ↦
          let f = both_decided seller.result buyer.result (ap (λ (o : Order). o.kind) seller.ensures)
          (ap (λ (o : Order). o.kind) buyer.ensures)
          (search_step l.invariant.0 w.loop-i-test.true w.preferred-buys.ensures)
          (search_step l.invariant.1 w.loop-i-test.true w.preferred-sells.ensures) (omega arith)
          (sym w.decided.ensures ∙ w.if-decided.true) in (
            stands_in _ seller.ensures (f.0 ∙ sym (ap best_of w.buys-is)),
            stands_in _ buyer.ensures (f.1 ∙ sym (ap best_of w.sells-is)),
          )
    ]

pub returns-in_err-buys : goal.returns-in_err-buys
returns-in_err-buys c =
    let f = finds c.before.before.before in
    rw (f.0, c.in_err-buys.was) c.from_residual.ensures

pub returns-in_err-sells : goal.returns-in_err-sells
returns-in_err-sells c =
    let f = finds c.before.before.before.before.before in
    rw (f.0, f.1, c.in_ok-buys.was, c.in_err-sells.was) c.from_residual-in_err-sells.ensures

pub returns : goal.returns
returns c =
    let f = finds c.before.before.before.before in
    rw (f.0, f.1, c.in_ok-buys.was, c.in_ok-sells.was)
