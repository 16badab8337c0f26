-- `dayfile::begin` meets its contract: a buffer that is too small, a text that is too long, or a heading.
use Rattle.dayfile.proofs.Beginning.{begins_headed, begins_long, begins_small}
use Rattle.dayfile.proofs.begin.Goals as goal

pub returns-then-out-lt-ROOM : goal.returns-then-out-lt-ROOM
returns-then-out-lt-ROOM c = begins_small c.if-out-lt-ROOM.true c.ended.ensures.0 c.ended.ensures.1 c.ended.ensures.2

pub returns-then-text-gt-MAX_TEXT : goal.returns-then-text-gt-MAX_TEXT
returns-then-text-gt-MAX_TEXT c =
    begins_long c.if-out-lt-ROOM.false c.if-text-gt-MAX_TEXT.true c.too_long.ensures

pub returns : goal.returns
returns c =
    begins_headed c.if-out-lt-ROOM.false c.if-text-gt-MAX_TEXT.false c.heading_of-heading.ensures c.put_answer.ensures
    c.is_done.result c.is_done.ensures
