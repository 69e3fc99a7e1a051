-- What writing answers by the table of refusals, and what the output then holds.
use Rattle.std.specs.Prelude.{◌≡◌, List, [], ◌∷◌, ◌++◌, ℕ, ltb, length, drop, Result, Ok, Err}
use Rattle.sheet.specs.Sheet.{Sheet, encode, length_for}
use Rattle.sheet.specs.Refusals.{Row, row, verdict, number_of, sheet_rows}
use Rattle.sheet.specs.declared.Counted.TheVariants.{Given}
use Rattle.sheet.specs.declared.Reason.TheVariants.{Output}
use Rattle.sheet.specs.declared.Refusal.{Refusal}

-- a sheet is written, in so many bytes, or refused
abbrev pub Writing : Type 0
Writing = Result ℕ Refusal

-- row 9: `room` is the length of the output
abbrev pub room_row : Sheet → ℕ → Row
room_row s room = row (ltb room (length_for s.states s.commands)) Output (length_for s.states s.commands)

-- rows 4 to 9
unfoldable pub writing_rows : Sheet → ℕ → List Row
writing_rows s room = sheet_rows (Given (length s.sets)) s ++ (room_row s room ∷ [])

-- the answer of writing by some rows, and the output after it, of the output before
abbrev pub writing_by : List Row → Sheet → Writing
writing_by rows s = verdict Err (Ok (length_for s.states s.commands)) rows

abbrev pub written_by : List Row → Sheet → List ℕ → List ℕ
written_by rows s out = verdict (λ _. out) (encode s ++ drop (length_for s.states s.commands) out) rows

abbrev pub writing : Sheet → ℕ → Writing
writing s room = writing_by (writing_rows s room) s

abbrev pub written : Sheet → List ℕ → List ℕ
written s out = written_by (writing_rows s (length out)) s out

-- the numbers of each case: those of the table and the place for a refusal; and for a sheet that is written 0, which is no number of the table, and its bytes
abbrev pub values_of : Writing → List ℕ
values_of (Ok n) = 0 ∷ 0 ∷ n ∷ []
values_of (Err f) = number_of f.reason ∷ f.place ∷ 0 ∷ []

-- what writing promises: its answer, and the whole output
pub record Wrote (s : Sheet) (before after : List ℕ) (r : Writing) : Type 0 where
  pub answer : r ≡ writing s (length before)
  pub output : after ≡ written s before
