-- Two answers that the contract of writing permits are equal, and so are two contents of the output.
-- The idea: the contract is an equation for each.
use mathlib.Core.Path.{◌≡◌}
use mathlib.Core.List.{List}
use Prim.Native.Nat.{ℕ}
use Rattle.sheet.specs.Sheet.{Sheet}
use Rattle.sheet.proofs.Unique.{one_answer}
use Rattle.writer.specs.Written.{Wrote, Writing}

pub write_unique : (s : Sheet) (before after other : List ℕ) (r q : Writing) → Wrote s before after r → Wrote s before other q → (r ≡ q) × (after ≡ other)
write_unique s before after other r q v w = (one_answer v.answer w.answer, one_answer v.output w.output)
