-- `sheet::check_following` meets its contract: the set at each index is the one whose bytes stand there.
use Rattle.std.proofs.Common.{rules}
use Rattle.sheet.specs.Sheet.{set_in}
use Rattle.sheet.proofs.Rows.{length_from, get_or_from_0}
use Rattle.sheet.proofs.EachSet.{each_checked}
use Rattle.sheet.proofs.check_following.Goals as goal

pub returns : goal.returns
returns c =
    let a = c.args in
    each_checked a.states _ _ _ (length_from (set_in a.sheet.now) 0 a.count) (λ i v h p. let e = get_or_from_0 (set_in a.sheet.now) a.count i h in search rules) _ c.check_sets.ensures
