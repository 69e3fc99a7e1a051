-- `reset::main`: the output has room for each line, so there is always an end, and it lies within the output.
use Rattle.std.proofs.Common.{ℕ, ◌≤◌, length, refl, sym, subst, arith, length-take-le}
use Rattle.std.proofs.lemmas.List.{length-replicate}
use Rattle.std.specs.Prelude.{IsOk}
use Rattle.line.proofs.PlacedLaws.{end_within}
use Rattle.reply.proofs.Fits.{always_fits}
use Rattle.reset.proofs.main.Goals as goal

pub unwrap-end-requires : goal.unwrap-end-requires
unwrap-end-requires c = subst IsOk (sym (always_fits c.put.ensures (omega (arith, length-replicate {A = ℕ} 12300 0)))) refl

pub slice_bounds-out-end : goal.slice_bounds-out-end
slice_bounds-out-end c = omega (arith, c.put.auto.out, (end_within c.put.ensures.printed c.unwrap-end.ensures).1)

pub slice_bounds-write_all-end : goal.slice_bounds-write_all-end
slice_bounds-write_all-end c =
    let h : c.unwrap-end.result ≤ length c.put.new.out = omega (arith, c.put.auto.out, (end_within c.put.ensures.printed c.unwrap-end.ensures).1) in
    sym (length-take-le c.unwrap-end.result c.put.new.out h)
