-- Reading by a check of all its rows: what is answered goes by whether the check passes.
-- The idea: answer and refusal are ends of one `verdict` over the same rows.
use mathlib.Core.Path.{◌≡◌}
use mathlib.Core.List.{List}
use Prim.Native.Nat.{ℕ}
use Rattle.sheet.specs.Sheet.{sheet_in}
use Rattle.sheet.specs.Refusals.{reading_rows, check}
use Rattle.sheet.specs.Answers.{head_of, reading}
use Rattle.std.specs.Prelude.{Ok, Err}
use Rattle.std.specs.Prelude.{Ok, Err}
use Rattle.sheet.proofs.Rows.{on_check, by_check}

pub reading-by : (l : List ℕ) → reading l ≡ on_check Err (Ok (head_of (sheet_in l))) (check (reading_rows l))
unfolding reading
reading-by l = by_check Err (Ok (head_of (sheet_in l))) (reading_rows l)
