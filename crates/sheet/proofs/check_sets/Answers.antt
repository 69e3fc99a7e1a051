-- `sheet::check_sets` meets its contract: the loop keeps that the sets before place i name no missing state.
use Rattle.std.proofs.Common.{sym, below_more, arith}
use Rattle.meaning.proofs.Tests.{clash}
use Rattle.sheet.proofs.check_sets.Goals as goal

pub loop-i-preserved : goal.loop-i-preserved
loop-i-preserved g c = below_more _ _ c.loop-i.invariant (record { value = c.set_at.result; given = c.set_at.ensures; inside = sym c.if-names_missing.ensures })

pub returns : goal.returns
returns g c = record { passed = λ e i h. c.loop-i.invariant i (omega arith); failed = λ e. absurd (clash (cc)) }
