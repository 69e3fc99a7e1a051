-- `numbers::put` meets its contract: the last N of the eight bytes are copied over the part.
use Rattle.std.proofs.Common.{◌-◌, arith}
use Rattle.numbers.proofs.Conversions.{copied_last}
use Rattle.numbers.proofs.put.Goals as goal

pub returns : goal.returns
returns g c = copied_last _ _ c.to_be_bytes.result _ _ g.row.N c.args.x _ (8 - g.row.N) (omega arith) (omega arith) c.requires.fits (omega arith) (omega (arith, c.requires.fits)) c.to_be_bytes.ensures c.copy_from_slice.ensures.after
