-- `line_table::print` is safe: the line ends within the buffer, by what `put` promises.
use Rattle.std.proofs.Common.{◌≤◌, length, sym, arith, length-take-le}
use Rattle.line.proofs.PlacedLaws.{end_within}
use Rattle.line_table.proofs.print.Goals as goal

pub slice_bounds-buffer-end : goal.slice_bounds-buffer-end
slice_bounds-buffer-end g c = omega (arith, c.put.auto.out, (end_within c.put.ensures c.in-Ok.is).1)

pub slice_bounds-write_all-end : goal.slice_bounds-write_all-end
slice_bounds-write_all-end g c =
    let h : c.in-Ok.end ≤ length c.put.new.out = omega (arith, c.put.auto.out, (end_within c.put.ensures c.in-Ok.is).1) in
    sym (length-take-le c.in-Ok.end c.put.new.out h)
