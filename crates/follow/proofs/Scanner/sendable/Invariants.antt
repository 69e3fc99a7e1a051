-- `follow::Scanner::sendable` meets its contract. The loop's invariant: each state of the set below `state` can take the command.
use Rattle.meaning.proofs.StepLaws.{AllTake}
use Rattle.sets.specs.Words.{set_of}
use Rattle.follow.specs.Following.{domain_of}
use Rattle.follow.proofs.Scanner.sendable.Given as goal

abbrev pub invariant-loop-state : goal.invariant-loop-state
invariant-loop-state l = AllTake ((domain_of l.self).follow l.command) (set_of l.set) l.state
