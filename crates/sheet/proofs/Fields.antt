-- The layout as a list of fields, each a width and a content: a sheet's bytes are its fields laid out one after the other, each field is read back from where it
-- stands, and bytes are laid out again from the numbers in them.
-- The idea: a field stands after the widths of those before it.
use mathlib.Core.Path.{◌≡◌, refl, sym, ap, ap₂, ◌∙◌}
use mathlib.Core.List.{List, [], ◌∷◌, ◌++◌, map, append_assoc, append-nil}
use Prim.Native.Nat.{ℕ, ◌+◌, ◌*◌, ◌^◌, ◌≤◌, ◌<◌}
use native.Mathlib.Omega.{arith}
use lib.ListN.{length, take, length-append}
use lib.Seq.{take_at, drop_at}
use Rattle.numbers.specs.Bytes.{number, bytes_of, bytes_of_each, part, number_at, AreBytes}
use Rattle.numbers.proofs.Numbers.{part-add, length_part}
use Rattle.numbers.proofs.Storing.{length-bytes}
use Rattle.numbers.proofs.Inverse.{number_of_bytes, bytes_of-number, part_bytes}
use Rattle.sheet.specs.Sheet.{Sheet, set_width, stated_for, length_for, head_bytes, encode}

-- a number in so many bytes
pub record Field : Type 0 where
  pub width : ℕ
  pub content : ℕ

abbrev pub field : ℕ → ℕ → Field
field w n = record { width = w; content = n }

unfoldable pub laid : List Field → List ℕ
laid [] = []
laid (f ∷ fs) = bytes_of f.width f.content ++ laid fs

-- the bytes of some fields
abbrev pub widths : List Field → ℕ
widths [] = 0
widths (f ∷ fs) = f.width + widths fs

pub length_laid : (fs : List Field) → length (laid fs) ≡ widths fs
unfolding laid
length_laid [] = refl
length_laid (f ∷ fs) = length-append (bytes_of f.width f.content) (laid fs) ∙ ap₂ (λ (m n : ℕ). m + n) (length-bytes f.width f.content) (length_laid fs)

pub laid_append : (fs gs : List Field) → laid (fs ++ gs) ≡ laid fs ++ laid gs
unfolding laid
laid_append [] gs = refl
laid_append (f ∷ fs) gs = ap (λ (r : List ℕ). bytes_of f.width f.content ++ r) (laid_append fs gs) ∙ sym (append_assoc (bytes_of f.width f.content) (laid fs) (laid gs))

-- ---- the fields of a sheet

abbrev pub head_fields : ℕ → ℕ → ℕ → ℕ → List Field
head_fields states commands initial goal =
    field 1 1 ∷
    field 4 (stated_for states commands) ∷
    field 1 states ∷
    field 1 commands ∷
    field set_width initial ∷
    field set_width goal ∷
    []

abbrev pub fields : Sheet → List Field
fields s = head_fields s.states s.commands s.initial s.goal ++ map (field set_width) s.sets

pub widths_sets : (xs : List ℕ) → widths (map (field set_width) xs) ≡ set_width * length xs
widths_sets [] = refl
widths_sets (x ∷ xs) = omega (arith, widths_sets xs)

pub laid_head : (states commands initial goal : ℕ) → laid (head_fields states commands initial goal) ≡ head_bytes states commands initial goal
unfolding laid
laid_head states commands initial goal = simp (append_assoc, append-nil)

pub laid_sets : (xs : List ℕ) → laid (map (field set_width) xs) ≡ bytes_of_each set_width xs
unfolding laid bytes_of_each
laid_sets [] = refl
laid_sets (x ∷ xs) = ap (λ (r : List ℕ). bytes_of set_width x ++ r) (laid_sets xs)

pub laid_sheet : (s : Sheet) → laid (fields s) ≡ encode s
laid_sheet s =
    laid_append (head_fields s.states s.commands s.initial s.goal) (map (field set_width) s.sets)
    ∙ ap₂ (λ (b c : List ℕ). b ++ c) (laid_head s.states s.commands s.initial s.goal) (laid_sets s.sets)

pub length-encode : (s : Sheet) → length s.sets ≡ s.commands * s.states → length (encode s) ≡ length_for s.states s.commands
length-encode s e = ap length (sym (laid_sheet s)) ∙ length_laid (fields s) ∙ omega (arith, widths_sets s.sets)

-- ---- a field of those that are laid out

pub field_at : (fs : List Field) (f : Field) (gs : List Field) → f.content < 256 ^ f.width → number_at (widths fs) f.width (laid (fs ++ (f ∷ gs))) ≡ f.content
unfolding laid
field_at fs f gs h =
    ap (λ (l : List ℕ). number_at (widths fs) f.width l) (laid_append fs (f ∷ gs))
    ∙ ap (λ (l : List ℕ). number (take f.width l)) (drop_at (laid fs) (bytes_of f.width f.content ++ laid gs) (widths fs) (length_laid fs))
    ∙ ap number (take_at (bytes_of f.width f.content) (laid gs) f.width (length-bytes f.width f.content))
    ∙ number_of_bytes f.width f.content h

-- ---- the fields in bytes, by their widths from an offset on

abbrev pub fields_in : List ℕ → ℕ → List ℕ → List Field
fields_in [] at l = []
fields_in (w ∷ ws) at l = field w (number_at at w l) ∷ fields_in ws (at + w) l

abbrev pub total : List ℕ → ℕ
total [] = 0
total (w ∷ ws) = w + total ws

pub laid_in : (ws : List ℕ) (at : ℕ) (l : List ℕ) → AreBytes l → at + total ws ≤ length l → laid (fields_in ws at l) ≡ part at (total ws) l
unfolding laid
laid_in [] at l a h = refl
laid_in (w ∷ ws) at l a h =
    ap₂ (λ (b c : List ℕ). b ++ c)
    (bytes_of-number (part at w l) w (length_part at w l (omega arith)) (part_bytes at w l a))
    (laid_in ws (at + w) l a (omega arith))
    ∙ sym (part-add at w (total ws) l)
