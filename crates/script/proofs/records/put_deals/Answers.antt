-- `script::records::put_deals` meets its contract: each open deal of sound records is a sound one.
use Rattle.std.proofs.Common.{get_or-take, arith, rules, ◌<◌, length-take}
use Rattle.market.specs.Deals.{no_deal}
use Rattle.deals.proofs.OpenDeals.{deal_right, few_deals}
use Rattle.script.proofs.records.put_deals.Goals as goal

pub shared_ref_as_front-deal-items : goal.shared_ref_as_front-deal-items
shared_ref_as_front-deal-items c = few_deals c.args.rules.now c.args.records.now c.requires.deals_value

pub offset_bounds-deal-items-i : goal.offset_bounds-deal-items-i
offset_bounds-deal-items-i c =
    let few = few_deals c.args.rules.now c.args.records.now c.requires.deals_value in
    omega (arith, few, length-take c.args.records.now.count c.args.records.now.deals, c.loop-i-test.true)

pub put_deal-end-requires : goal.put_deal-end-requires
put_deal-end-requires c =
    let few = few_deals c.args.rules.now c.args.records.now c.requires.deals_value in
    let known : c.loop-i.i < c.args.records.now.count =
    omega (arith, length-take c.args.records.now.count c.args.records.now.deals, c.loop-i-test.true) in
    record {
      rules_ok = rw (get_or-take c.args.records.now.count c.args.records.now.deals c.loop-i.i no_deal known)
          (c.requires.rules_ok, deal_right c.args.rules.now c.args.records.now c.requires.deals_value _ known);
      deal_room_in_bounds = omega (arith, few, known, c.loop-i.invariant, c.requires.deal_room_in_bounds);
    }

pub returns : goal.returns
returns c =
    let few = few_deals c.args.rules.now c.args.records.now c.requires.deals_value in
    record {
      size = search rules;
      most = omega (arith, few, length-take c.args.records.now.count c.args.records.now.deals, c.loop-i.invariant, c.loop-i.auto.i-end);
    }
