-- All waiting orders leave.
use Rattle.std.specs.Prelude.{length}
use Rattle.market.specs.Day.{Day}
use Rattle.market.specs.Waiting.{leave_first}

-- the day that they leave, in the same phase: `all_leave` is this day in the next one
abbrev pub all_left : Day → Day
all_left d = leave_first (length d.waiting) d
