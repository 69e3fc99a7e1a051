-- `judge::walk`. The loop's invariant: the first `at` commands are sendable in turn, and give `set`.
use Rattle.std.proofs.Common.{take}
use Rattle.meaning.specs.Walk.{step, Gives}
use Rattle.sets.specs.Words.{set_of}
use Rattle.follow.specs.Following.{domain_of}
use Rattle.judge.proofs.walk.Given as goal

abbrev pub invariant-loop-at : goal.invariant-loop-at
invariant-loop-at l = Gives (step (domain_of l.scanner)) (set_of l.scanner.head.initial) (take l.at l.plan) (set_of l.set)
