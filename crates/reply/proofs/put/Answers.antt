-- `reply::put` meets its contract: the search's answer, its line, and the line put into the output.
use Rattle.reply.proofs.Replying.{replied}
use borrow.Author.Rules.{rules}
use Rattle.reply.proofs.put.Goals as goal

pub returns : goal.returns
returns c =
    let a = c.args in
    let s = c.search_here-answer in
    replied a.sheet.now a.out.now c.put.new.out s.new.plan s.result c.line_for.result c.min-written.result c.put.result
    s.ensures
    (search rules)
    c.line_for.ensures
    c.min-written.ensures
    c.put.ensures
