-- The loop's start, its turn and its two ends: the search has ended within a try, or goes on with the next command; after the last one it goes on with the next place.
use Rattle.std.proofs.Common.{arith}
use Rattle.explore.proofs.TurnLaws.{at_first, and_goes_on, and_ends, expanded}
use Rattle.explore.proofs.Exploration.expand.Goals as goal

pub loop-command-init : goal.loop-command-init
loop-command-init c = at_first c.requires.going

pub loop-command-preserved : goal.loop-command-preserved
loop-command-preserved c = and_goes_on c.loop-command.invariant (omega arith) c.in_ok-count.ensures

pub returns-in_err-count : goal.returns-in_err-count
returns-in_err-count c = rw c.from_residual.ensures (and_ends c.loop-command.invariant (omega arith) c.in_err-count.ensures)

pub returns : goal.returns
returns c = expanded c.loop-command.invariant (omega arith)
