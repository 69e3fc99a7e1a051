-- `Set::union` meets its contract, word by word.
use mathlib.Core.Path.{refl, ap}
use mathlib.Core.List.{[]}
use borrow.Author.Rules.{rules}
use Rattle.sets.specs.Words.{set_of, set_for}
use Rattle.sets.proofs.ByWord.{union-by-word}
use Rattle.sets.proofs.Set.union.Goals as goal

pub returns : goal.returns
unfolding set_of set_for
returns c = ap set_for (union-by-word 64 c.args.self.word c.args.y.word [] [] (search rules) (search rules) [] refl)
