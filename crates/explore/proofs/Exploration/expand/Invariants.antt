-- `explore::Exploration::expand` meets its contract. The loop's invariant: command `command` at place i is to be tried next, with `count` places stored and the later ones as they were.
use Rattle.sets.specs.Words.{set_of}
use Rattle.follow.specs.Following.{domain_of}
use Rattle.store.specs.Nodes.{set_at}
use Rattle.explore.specs.Turns.{GoneOn}
use Rattle.explore.proofs.Exploration.expand.Given as goal

abbrev pub invariant-loop-command : goal.invariant-loop-command
invariant-loop-command l = GoneOn (domain_of l.self.scanner) (set_at l.fn.store 0) (set_of l.self.goal) l.self.room l.i l.command l.first l.fn.store l.store l.count
