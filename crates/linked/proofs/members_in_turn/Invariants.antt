-- `linked::members_in_turn` meets its contract. The loop's invariant: the group comes to what is done and the members
-- from here on.
use Rattle.linked.proofs.Turns.{Turn}
use Rattle.linked.proofs.members_in_turn.Given as goal

abbrev pub invariant-loop-i : goal.invariant-loop-i
invariant-loop-i l =
    Turn (record {
      rules = l.fn.rules;
      floor = l.fn.floor;
      owner = l.fn.participant;
      count = l.fn.count;
      members = l.fn.members;
      list = l.fn.trades;
    }) l.floor l.trades l.filled l.made l.i
