-- `judge::first_missing` meets its contract: the library's position is the first index where the test holds.
use Rattle.std.proofs.Common.{rules}
use Rattle.judge.proofs.Turns.{first_missing_is}
use Rattle.judge.proofs.first_missing.Goals as goal

pub returns : goal.returns
returns c = first_missing_is _ _ c.position.result (search rules) (search rules)
