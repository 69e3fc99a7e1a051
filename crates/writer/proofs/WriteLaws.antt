-- Writing, step by step: what the checks of the head and of the following sets say of the answer and of the output, and the output with a sheet stored in it.
-- The idea: answer and output go by the same rows, so one law over what is answered serves both.
use mathlib.Core.Path.{◌≡◌, sym, ap, ap₂, ◌∙◌}
use mathlib.Core.List.{List, [], ◌∷◌, ◌++◌, map, append_assoc}
use Prim.Native.Nat.{ℕ, ◌+◌, ◌*◌, ◌≤◌, ◌<◌}
use native.Mathlib.Nat.{zero-add}
use native.Mathlib.Omega.{arith}
use lib.ListN.{length, drop}
use lib.Seq.{sets, sets-eq}
use borrow.Author.Tests.{lt-ltb, le-ltb}
use Rattle.std.specs.Prelude.{Err, Ok}
use Rattle.numbers.specs.Bytes.{bytes_of_each}
use Rattle.sheet.specs.declared.Reason.TheVariants.{Output}
use Rattle.sheet.specs.Sheet.{Sheet, head_bytes, encode, sets_at, set_width, length_for}
use Rattle.sheet.specs.Refusals.{refusal, Row, verdict, head_rows, set_rows, Check, check, passes}
use Rattle.writer.specs.Written.{writing, written, writing_by, written_by, room_row, writing_rows, Writing}
use Rattle.sheet.specs.declared.Refusal.{Refusal}
use Rattle.sheet.specs.declared.Counted.TheVariants.{Given}
use Rattle.sheet.proofs.Rows.{on_check, checked, by_check}
use Rattle.sheet.proofs.ReadLaws.{check_by}
use Rattle.sheet.proofs.Fields.{field, head_fields, laid_head, laid_sets, laid_sheet, length-encode}
use Rattle.writer.proofs.Stores.{fields-stored}

-- the checks of the head and of the following sets of a sheet that is given
abbrev pub head_check : Sheet → Check
head_check s = check_by (Given (length s.sets)) s.states s.commands s.initial s.goal

abbrev pub sets_check : Sheet → Check
sets_check s = check (set_rows s.states sets_at s.sets)

-- whatever is answered by the rows of writing, with the length of the output
module _ {A : Type 0} (refused : Refusal → A) (otherwise : A) (s : Sheet) (room : ℕ) where
  -- the answer by row 9
  abbrev pub by_room : A
  by_room = verdict refused otherwise (room_row s room ∷ [])

  by_checks : verdict refused otherwise (writing_rows s room) ≡ on_check refused (on_check refused by_room (sets_check s)) (head_check s)
  unfolding writing_rows
  by_checks =
      ap (λ (rs : List Row). verdict refused otherwise rs) (append_assoc (head_rows (Given (length s.sets)) s.states s.commands s.initial s.goal) (set_rows s.states sets_at s.sets) (room_row s room ∷ []))
      ∙ checked refused otherwise (head_rows (Given (length s.sets)) s.states s.commands s.initial s.goal) (set_rows s.states sets_at s.sets ++ (room_row s room ∷ []))
      ∙ ap (λ (a : A). on_check refused a (head_check s)) (checked refused otherwise (set_rows s.states sets_at s.sets) (room_row s room ∷ []))

  pub head_fails : (q : Refusal) → head_check s ≡ Err q → verdict refused otherwise (writing_rows s room) ≡ refused q
  head_fails q e = by_checks ∙ ap (λ (k : Check). on_check refused (on_check refused by_room (sets_check s)) k) e

  pub sets_fail : head_check s ≡ passes → (q : Refusal) → sets_check s ≡ Err q → verdict refused otherwise (writing_rows s room) ≡ refused q
  sets_fail e q f = by_checks ∙ ap₂ (λ (k j : Check). on_check refused (on_check refused by_room j) k) e f

  pub both_pass : head_check s ≡ passes → sets_check s ≡ passes → {a : A} → a ≡ by_room → a ≡ verdict refused otherwise (writing_rows s room)
  both_pass e f r = r ∙ sym (by_checks ∙ ap₂ (λ (k j : Check). on_check refused (on_check refused by_room j) k) e f)

-- ---- a whole sheet, stored

-- the head, and then the following sets
pub sheet-stored : (s : Sheet) → length s.sets ≡ s.commands * s.states → (out : List ℕ) → length_for s.states s.commands ≤ length out
    → sets (sets out 0 (head_bytes s.states s.commands s.initial s.goal)) sets_at (bytes_of_each set_width s.sets)
    ≡ encode s ++ drop (length_for s.states s.commands) out
sheet-stored s e out h =
    ap₂ (λ (b c : List ℕ). sets (sets out 0 b) sets_at c) (sym (laid_head s.states s.commands s.initial s.goal)) (sym (laid_sets s.sets))
    ∙ fields-stored out 0 (head_fields s.states s.commands s.initial s.goal) (map (field set_width) s.sets)
    ∙ ap (λ (b : List ℕ). sets out 0 b) (laid_sheet s)
    ∙ sets-eq (encode s) out 0 (omega (arith, length-encode s e))
    ∙ ap (λ (n : ℕ). encode s ++ drop n out) (zero-add (length (encode s)) ∙ length-encode s e)

-- ---- row 9, for a sheet with all its following sets

module _ (s : Sheet) (e : length s.sets ≡ s.commands * s.states) (out : List ℕ) where
  needed : sets_at + set_width * length s.sets ≡ length_for s.states s.commands
  needed = ap (λ (n : ℕ). sets_at + set_width * n) e

  -- there is no room: the answer, and the output as it was
  pub no_room : length out < sets_at + set_width * length s.sets
      → (◌≡◌ {A = Writing} (Err (refusal Output (sets_at + set_width * length s.sets))) (writing_by (room_row s (length out) ∷ []) s)) × (out ≡ written_by (room_row s (length out) ∷ []) s out)
  unfolding verdict
  no_room h =
      let t = lt-ltb (length out) (length_for s.states s.commands) (omega (arith, h, needed)) in
      (ap (λ (n : ℕ). Err (refusal Output n)) needed ∙ simp t, simp t)

  pub room : sets_at + set_width * length s.sets ≤ length out
      → (Ok (sets_at + set_width * length s.sets) ≡ writing_by (room_row s (length out) ∷ []) s)
      × (sets (sets out 0 (head_bytes s.states s.commands s.initial s.goal)) sets_at (bytes_of_each set_width s.sets) ≡ written_by (room_row s (length out) ∷ []) s out)
  unfolding verdict
  room h =
      let l : length_for s.states s.commands ≤ length out = omega (arith, h, needed) in
      let t = le-ltb (length out) (length_for s.states s.commands) l in
      (ap Ok needed ∙ simp t, sheet-stored s e out l ∙ simp t)

-- ---- by a check of all the rows: answer, refusal and output are ends of one `verdict`

pub writing-by : (s : Sheet) (room : ℕ) → writing s room ≡ on_check Err (Ok (length_for s.states s.commands)) (check (writing_rows s room))
writing-by s room = by_check Err (Ok (length_for s.states s.commands)) (writing_rows s room)

pub written-by : (s : Sheet) (out : List ℕ) → written s out ≡ on_check (λ _. out) (encode s ++ drop (length_for s.states s.commands) out) (check (writing_rows s (length out)))
written-by s out = by_check (λ _. out) (encode s ++ drop (length_for s.states s.commands) out) (writing_rows s (length out))
