-- A sheet's fields stored one after another in the output of writing.
-- The idea: two runs of stores, the second where the first ends, are one run.
use mathlib.Core.Path.{◌≡◌, refl, sym, ap, ap₂, ◌∙◌}
use mathlib.Core.List.{List, [], ◌∷◌, ◌++◌, map, append-nil}
use Prim.Native.Nat.{ℕ, ◌+◌, ◌*◌, ◌<◌}
use native.Mathlib.Numerals.{add-one}
use native.Mathlib.Omega.{arith}
use lib.ListN.{length, get_or, take}
use lib.Seq.{sets, take-suc, length-take-le}
use Rattle.meaning.proofs.Places.{sets-append}
use Rattle.numbers.specs.Bytes.{bytes_of}
use Rattle.sheet.specs.Sheet.{set_width}
use Rattle.sheet.proofs.Fields.{Field, field, laid, widths, length_laid, laid_append, widths_sets}

-- some fields stored after others
pub fields-stored : (l : List ℕ) (at : ℕ) (fs gs : List Field) → sets (sets l at (laid fs)) (at + widths fs) (laid gs) ≡ sets l at (laid (fs ++ gs))
fields-stored l at fs gs =
    ap (λ (m : ℕ). sets (sets l at (laid fs)) (at + m) (laid gs)) (sym (length_laid fs))
    ∙ sets-append l at (laid fs) (laid gs)
    ∙ ap (λ (b : List ℕ). sets l at b) (sym (laid_append fs gs))

pub laid_one : (f : Field) → laid (f ∷ []) ≡ bytes_of f.width f.content
unfolding laid
laid_one f = append-nil (bytes_of f.width f.content)

-- one field more, at the end of those that stand there
pub field_stored : (l : List ℕ) (at : ℕ) (fs : List Field) (f : Field) {m : List ℕ} → m ≡ sets l at (laid fs) → sets m (at + widths fs) (bytes_of f.width f.content) ≡ sets l at (laid (fs ++ (f ∷ [])))
field_stored l at fs f e =
    ap₂ (λ (m b : List ℕ). sets m (at + widths fs) b) e (sym (laid_one f)) ∙ fields-stored l at fs (f ∷ [])

-- ---- the following sets

map_snoc : (xs : List ℕ) (x : ℕ) → map (field set_width) (xs ++ (x ∷ [])) ≡ map (field set_width) xs ++ (field set_width x ∷ [])
map_snoc [] x = refl
map_snoc (y ∷ xs) x = ap (λ (fs : List Field). field set_width y ∷ fs) (map_snoc xs x)

-- one following set more
pub set-stored : (l : List ℕ) (at : ℕ) (xs : List ℕ) (i : ℕ) → i < length xs → {m : List ℕ} → m ≡ sets l at (laid (map (field set_width) (take i xs)))
    → sets m (at + set_width * i) (bytes_of set_width (get_or xs i 0)) ≡ sets l at (laid (map (field set_width) (take (i + 1) xs)))
set-stored l at xs i h {m} e =
    ap (λ (k : ℕ). sets m (at + k) (bytes_of set_width (get_or xs i 0))) (sym (widths_sets (take i xs) ∙ ap (λ (k : ℕ). set_width * k) (length-take-le i xs (omega arith))))
    ∙ field_stored l at (map (field set_width) (take i xs)) (field set_width (get_or xs i 0)) e
    ∙ ap (λ (fs : List Field). sets l at (laid fs)) (sym (ap (λ (k : ℕ). map (field set_width) (take k xs)) (add-one i) ∙ ap (λ (ys : List ℕ). map (field set_width) ys) (take-suc xs i 0 h) ∙ map_snoc (take i xs) (get_or xs i 0)))
