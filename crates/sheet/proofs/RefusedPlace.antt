-- Where a sheet is refused: however long the bytes are, the place lies below 16,400. The last following set of the largest sheet stands at 16,399.
-- The idea: by the row that decides. The place of the first row is a length below 5, that of a following set is bounded since both counts are in range where an
-- earlier row did not decide, and all others are fixed.
use mathlib.Core.Path.{◌≡◌, refl, ap}
use mathlib.Core.Bool.{true, false}
use mathlib.Core.Option.{some, none-ne-some}
use mathlib.Core.List.{List, [], ◌∷◌}
use Prim.Native.Nat.{ℕ, zero, suc, ◌+◌, ◌*◌, ◌<◌}
use native.Mathlib.Omega.{arith}
use lib.ListN.{length, get_elem?}
use borrow.Author.Tests.{ltb-true}
use Rattle.sheet.specs.Sheet.{sheet_in, sets_at, set_width, set_in, states_in, commands_in}
use Rattle.sheet.specs.Refusals.{Row, head_rows, set_rows, reading_rows}
use Rattle.sheet.specs.Answers.{reading}
use Rattle.sheet.specs.declared.Refusal.{Refusal}
use Rattle.std.specs.Prelude.{Err}
use Rattle.sheet.proofs.Rows.{length_from, product, most}
use Rattle.sheet.proofs.RefusedAs.{refused_as}

abbrev decides : Refusal → Row
decides q = record { holds = true; gives = q }

holds_is : {r p : Row} → some r ≡ some p → r.holds ≡ p.holds
holds_is {r} {p} e = let k : r ≡ p = cc in ap (λ (o : Row). o.holds) k

place_is : {r p : Row} → some r ≡ some p → r.gives.place ≡ p.gives.place
place_is {r} {p} e = let k : r ≡ p = cc in ap (λ (o : Row). o.gives.place) k

-- the rows of the following sets
set-place : (states at : ℕ) (xs : List ℕ) (k : ℕ) {p : Row} → get_elem? (set_rows states at xs) k ≡ some p → (p.gives.place ≡ at + set_width * k) × (k < length xs)
unfolding set_rows
set-place states at [] k {p} e = absurd (none-ne-some p e)
set-place states at (x ∷ xs) zero e = (omega (arith, place_is e), omega arith)
set-place states at (x ∷ xs) (suc k) e = let r = set-place states (at + set_width) xs k e in (omega (arith, r.0), omega (arith, r.1))

pub place_below : (l : List ℕ) {q : Refusal} → reading l ≡ Err q → q.place < 16400
unfolding reading_rows head_rows sheet_in
place_below l {q} e = let g = (refused_as l q).0 e in go g.at g.holds-there g.none_before
  where
    go : (k : ℕ) → get_elem? (reading_rows l) k ≡ some (decides q) → ((j : ℕ) (r : Row) → j < k → get_elem? (reading_rows l) j ≡ some r → r.holds ≡ false) → q.place < 16400
    go zero f n = omega (arith, place_is f, ltb-true (length l) 5 (holds_is f))
    go (suc zero) f n = omega (arith, place_is f)
    go (suc (suc zero)) f n = omega (arith, place_is f)
    go (suc (suc (suc zero))) f n = omega (arith, place_is f)
    go (suc (suc (suc (suc zero)))) f n = omega (arith, place_is f)
    go (suc (suc (suc (suc (suc zero))))) f n = omega (arith, place_is f)
    go (suc (suc (suc (suc (suc (suc zero)))))) f n = omega (arith, place_is f)
    go (suc (suc (suc (suc (suc (suc (suc zero))))))) f n = omega (arith, place_is f)
    go (suc (suc (suc (suc (suc (suc (suc (suc k)))))))) f n =
        let r = set-place (states_in l) sets_at (sheet_in l).sets k f in
        let states_fit = most 1 64 (states_in l) (n 3 _ (omega arith) refl) in
        let commands_fit = most 1 32 (commands_in l) (n 4 _ (omega arith) refl) in
        omega (arith, r.0, r.1, length_from (set_in l) 0 (commands_in l * states_in l), product commands_fit states_fit)
