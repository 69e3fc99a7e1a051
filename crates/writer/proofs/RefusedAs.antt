-- In writing a number is given, with its place, exactly where its row's condition holds and no earlier row's does; and only 4 to 9.
-- The idea: by the rows, as in reading.
use mathlib.Core.Path.{◌≡◌, sym, ap, ◌∙◌}
use mathlib.Core.Logic.{◌↔◌}
use mathlib.Core.List.{[], ◌∷◌}
use Prim.Native.Nat.{ℕ}
use native.Mathlib.Omega.{arith}
use lib.ListN.{length}
use Rattle.std.specs.Prelude.{Err, Ok}
use Rattle.meaning.proofs.Tests.{clash}
use Rattle.sheet.specs.Sheet.{Sheet, length_for}
use Rattle.sheet.specs.Refusals.{sheet_rows, Check, check}
use Rattle.sheet.specs.declared.Counted.TheVariants as counted
use Rattle.sheet.specs.declared.Refusal.{Refusal}
use Rattle.sheet.proofs.Rows.{on_check}
use Rattle.sheet.proofs.RefusedAs.{Given, fails_given, given_fails, Between, each_append, each-sheet, each-gives}
use Rattle.writer.specs.Written.{writing, room_row, writing_rows, Writing}
use Rattle.writer.proofs.WriteLaws.{writing-by}

pub write_refused_as : (s : Sheet) (room : ℕ) (q : Refusal) → (writing s room ≡ Err q) ↔ Given (writing_rows s room) q
write_refused_as s room q = (λ e. fails_given (writing_rows s room) q (there (check (writing_rows s room)) (sym (writing-by s room) ∙ e)), λ g. writing-by s room ∙ ap (λ (k : Check). on_check Err done k) (given_fails (writing_rows s room) q g))
  where
    done : Writing
    done = Ok (length_for s.states s.commands)

    there : (k : Check) → on_check Err done k ≡ Err q → k ≡ Err q
    there (Ok tt) e = absurd (clash (cc))
    there (Err p) e = let f : p ≡ q = cc in ap Err f

pub writing-gives : (s : Sheet) (room : ℕ) (q : Refusal) → writing s room ≡ Err q → Between 4 9 q
unfolding writing_rows
writing-gives s room q e =
    each-gives 4 9 (writing_rows s room) q (each_append 4 9 (sheet_rows (counted.Given (length s.sets)) s) (room_row s room ∷ []) (each-sheet 4 9 (omega arith) (omega arith) (counted.Given (length s.sets)) s) (omega arith)) (given_fails (writing_rows s room) q ((write_refused_as s room q).0 e))
