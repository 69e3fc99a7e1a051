-- A valid sheet is held by its own bytes, and accepted bytes are the bytes of the sheet that they hold.
-- The idea: each field stands after the widths of those before it, so it is read at the offset that the layout names.
use mathlib.Core.Path.{◌≡◌, refl, sym, ap, ap₂, ◌∙◌, subst}
use mathlib.Core.List.{List, [], ◌∷◌, ◌++◌, map}
use Prim.Native.Nat.{ℕ, zero, suc, ◌+◌, ◌*◌, ◌^◌, ◌<◌}
use native.Mathlib.Nat.{lt_of_lt_of_le}
use native.Mathlib.Omega.{arith}
use lib.Pow.{pow_mono}
use lib.ListN.{length, get_or, take, drop, replicate}
use lib.Seq.{take_all, split_at, ext_get_or, length-take-le}
use Rattle.numbers.specs.Bytes.{number_at, AreBytes}
use Rattle.sheet.specs.Sheet.{Sheet, Valid, encode, sheet_in, set_in, set_offset, set_width, states_in, commands_in, from, stated_for, length_for}
use Rattle.sheet.specs.Refusals.{stated}
use Rattle.sheet.proofs.Rows.{length_from, get_or_from_0, product}
use Rattle.sheet.proofs.Fields.{Field, field, laid, head_fields, fields, widths, widths_sets, laid_sheet, length-encode, field_at, fields_in, total, laid_in}
use Rattle.sheet.proofs.Accepts.{Accepts}

-- ---- the sheet that a sheet's bytes hold

map-append : (xs ys : List ℕ) → map (field set_width) (xs ++ ys) ≡ map (field set_width) xs ++ map (field set_width) ys
map-append [] ys = refl
map-append (x ∷ xs) ys = ap (λ (fs : List Field). field set_width x ∷ fs) (map-append xs ys)

module _ (s : Sheet) (v : Valid s) where
  abbrev head : List Field
  head = head_fields s.states s.commands s.initial s.goal

  abbrev rows : List Field
  rows = map (field set_width) s.sets

  abbrev bytes : List ℕ
  bytes = laid (fields s)

  -- a set fits its width
  fits : {x : ℕ} → x < 2 ^ s.states → x < 256 ^ set_width
  fits {x} h = lt_of_lt_of_le h (pow_mono v.states_fit)

  version_of : number_at 0 1 bytes ≡ 1
  version_of = field_at [] (field 1 1) (take 5 (drop 1 head) ++ rows) (omega arith)

  stated_of : stated bytes ≡ stated_for s.states s.commands
  stated_of = field_at (take 1 head) (field 4 (stated_for s.states s.commands)) (take 4 (drop 2 head) ++ rows) (omega (arith, product v.commands_fit v.states_fit))

  states_of_at : states_in bytes ≡ s.states
  states_of_at = field_at (take 2 head) (field 1 s.states) (take 3 (drop 3 head) ++ rows) (omega (arith, v.states_fit))

  commands_of_at : commands_in bytes ≡ s.commands
  commands_of_at = field_at (take 3 head) (field 1 s.commands) (take 2 (drop 4 head) ++ rows) (omega (arith, v.commands_fit))

  initial_of : number_at 7 set_width bytes ≡ s.initial
  initial_of = field_at (take 4 head) (field set_width s.initial) (take 1 (drop 5 head) ++ rows) (fits v.initial_within)

  goal_of : number_at 15 set_width bytes ≡ s.goal
  goal_of = field_at (take 5 head) (field set_width s.goal) rows (fits v.goal-within)

  set_of_at : (i : ℕ) → i < length s.sets → set_in bytes i ≡ get_or s.sets i 0
  set_of_at i h =
      ap₂ (λ (at : ℕ) (fs : List Field). number_at at set_width (laid (head ++ fs))) place split
      ∙ field_at (head ++ map (field set_width) (take i s.sets)) (field set_width (get_or s.sets i 0)) (map (field set_width) (drop (suc i) s.sets)) (fits (v.sets-within i))
    where
      place : set_offset i ≡ widths (head ++ map (field set_width) (take i s.sets))
      place = omega (arith, widths_sets (take i s.sets), length-take-le i s.sets (omega arith))

      split : rows ≡ map (field set_width) (take i s.sets) ++ (field set_width (get_or s.sets i 0) ∷ map (field set_width) (drop (suc i) s.sets))
      split = ap (λ (xs : List ℕ). map (field set_width) xs) (split_at s.sets i 0 h) ∙ map-append (take i s.sets) (get_or s.sets i 0 ∷ drop (suc i) s.sets)

  sets_of : map (set_in bytes) (from 0 (s.commands * s.states)) ≡ s.sets
  sets_of = ext_get_or 0 (map (set_in bytes) (from 0 (s.commands * s.states))) s.sets (long ∙ sym v.complete) (λ i h. get_or_from_0 (set_in bytes) (s.commands * s.states) i (below i h) ∙ set_of_at i (there i h))
    where
      long : length (map (set_in bytes) (from 0 (s.commands * s.states))) ≡ s.commands * s.states
      long = length_from (set_in bytes) 0 (s.commands * s.states)

      below : (i : ℕ) → i < length (map (set_in bytes) (from 0 (s.commands * s.states))) → i < s.commands * s.states
      below i h = omega (arith, h, long)

      there : (i : ℕ) → i < length (map (set_in bytes) (from 0 (s.commands * s.states))) → i < length s.sets
      there i h = omega (arith, h, long, v.complete)

  sheet_laid : sheet_in bytes ≡ s
  unfolding sheet_in
  sheet_laid = λ i. record {
    states = states_of_at i;
    commands = commands_of_at i;
    initial = initial_of i;
    goal = goal_of i;
    sets = (ap₂ (λ (m n : ℕ). map (set_in bytes) (from 0 (m * n))) commands_of_at states_of_at ∙ sets_of) i;
  }

  pub sheet_of_encode : sheet_in (encode s) ≡ s
  sheet_of_encode = ap sheet_in (sym (laid_sheet s)) ∙ sheet_laid

  pub accepts_encode : Accepts (encode s)
  accepts_encode = record {
    version_is = ap (λ (l : List ℕ). number_at 0 1 l) (sym (laid_sheet s)) ∙ version_of;
    stated_is = ap stated (sym (laid_sheet s)) ∙ stated_of ∙ ap (λ (t : Sheet). stated_for t.states t.commands) (sym sheet_of_encode);
    long = length-encode s v.complete ∙ ap (λ (t : Sheet). length_for t.states t.commands) (sym sheet_of_encode);
    is_valid = subst (λ (t : Sheet). Valid t) (sym sheet_of_encode) v;
  }

-- ---- accepted bytes

total_sets : (k : ℕ) → total (replicate k set_width) ≡ set_width * k
total_sets zero = refl
total_sets (suc k) = omega (arith, total_sets k)

rows_in : (l : List ℕ) (i k : ℕ) → map (field set_width) (map (set_in l) (from i k)) ≡ fields_in (replicate k set_width) (set_offset i) l
rows_in l i zero = refl
rows_in l i (suc k) = ap (λ (fs : List Field). field set_width (set_in l i) ∷ fs) (rows_in l (suc i) k ∙ ap (λ (at : ℕ). fields_in (replicate k set_width) at l) (next i))
  where
    next : (i : ℕ) → set_offset (suc i) ≡ set_offset i + set_width
    next i = omega arith

pub encode_in : (l : List ℕ) → AreBytes l → Accepts l → encode (sheet_in l) ≡ l
unfolding sheet_in
encode_in l b a =
    sym (laid_sheet (sheet_in l))
    ∙ ap laid
    (ap₂ (λ (v n : ℕ). field 1 v ∷ field 4 n ∷ field 1 (states_in l) ∷ field 1 (commands_in l) ∷ field set_width (number_at 7 set_width l) ∷ field set_width (number_at 15 set_width l) ∷ map (field set_width) (map (set_in l) (from 0 k))) (sym a.version_is) (sym a.stated_is)
    ∙ ap (λ (fs : List Field). fields_in (1 ∷ 4 ∷ 1 ∷ 1 ∷ set_width ∷ set_width ∷ []) 0 l ++ fs) (rows_in l 0 k))
    ∙ laid_in (1 ∷ 4 ∷ 1 ∷ 1 ∷ set_width ∷ set_width ∷ replicate k set_width) 0 l b (omega (arith, total_sets k, a.long))
    ∙ take_all (total (1 ∷ 4 ∷ 1 ∷ 1 ∷ set_width ∷ set_width ∷ replicate k set_width)) l (omega (arith, total_sets k, a.long))
  where
    k : ℕ
    k = commands_in l * states_in l
