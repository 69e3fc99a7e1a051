-- `sheet::check_given` meets its contract: the set at each index is the one that is given there.
use Rattle.std.proofs.Common.{refl, rules}
use Rattle.sheet.proofs.EachSet.{each_checked}
use Rattle.sheet.proofs.check_given.Goals as goal

pub returns : goal.returns
returns c = each_checked c.args.states c.args.given.now _ _ refl (λ i v h p. search rules) _ c.check_sets.ensures
