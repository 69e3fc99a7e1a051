-- `numbers::eight` meets its contract: the array that is read is a part of the slice.
use Rattle.std.proofs.Common.{◌≡◌, ◌+◌, ◌-◌, take, drop}
use native.Mathlib.Omega.{arith}
use Rattle.std.specs.Int.{w64}
use Rattle.std.proofs.lemmas.Grind.{common_steps}
use Rattle.numbers.proofs.Conversions.{read_at, bytes_at}
use Rattle.numbers.proofs.eight.Goals as goal

pub returns : goal.returns
returns c =
    let at = c.args.at in
    let l = c.args.bytes.now in
    let same : c.unwrap.result ≡ take (at + 8 - at) (drop at l) = grind (arith, common_steps) in
    let read = read_at w64 l c.unwrap.result at (at + 8 - at) (omega arith) (omega arith) same in
    (omega (arith, read), bytes_at at 8 l c.type_inv.bytes)
