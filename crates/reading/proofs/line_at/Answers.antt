-- `reading::line_at` meets its contract: the line goes up to the byte that ends it, or to the text's end.
use Rattle.reading.proofs.LineEnds.{ended, endless}
use Rattle.reading.proofs.line_at.Goals as goal

pub returns-then-end-text : goal.returns-then-end-text
returns-then-end-text c =
    ended _ _ _ _ c.find-end.ensures.first c.line_says-says.ensures c.if-end-text.true

pub returns-else-end-text : goal.returns-else-end-text
returns-else-end-text c =
    endless _ _ _ _ c.find-end.ensures.first c.line_says-says.ensures c.find-end.ensures.within
    c.if-end-text.false
