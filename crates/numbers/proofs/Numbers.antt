-- Laws of big-endian numbers, over the width: a number of j + k bytes is put together of one of j bytes and one of k.
-- The idea: `number` of two lists one after the other; all else is that at a width.
use mathlib.Core.Path.{◌≡◌, sym, ap, ap₂, ◌∙◌}
use mathlib.Core.List.{List, [], ◌∷◌, ◌++◌}
use Prim.Native.Nat.{ℕ, ◌+◌, ◌*◌, ◌^◌, ◌≤◌, ◌<◌}
use native.Mathlib.Nat.{zero-mul, zero-add, add-mul, add_assoc, mul_assoc}
use native.Mathlib.Omega.{arith}
use lib.Pow.{pow-add}
use lib.ListN.{length, get_or, take, drop, length-append, length-take, length-drop}
use lib.Seq.{take-add, drop-drop, drop-cons}
use Rattle.numbers.specs.Bytes.{number, part, number_at}

pub number_append : (a b : List ℕ) → number (a ++ b) ≡ number a * 256 ^ length b + number b
unfolding number
number_append [] b = sym (ap (λ (n : ℕ). n + number b) (zero-mul (256 ^ length b)) ∙ zero-add (number b))
number_append (x ∷ a) b =
    ap₂ (λ (m n : ℕ). x * m + n) (ap (λ (n : ℕ). 256 ^ n) (length-append a b) ∙ pow-add 256 (length a) (length b)) (number_append a b)
    ∙ sym (add_assoc (x * (256 ^ length a * 256 ^ length b)) (number a * 256 ^ length b) (number b))
    ∙ ap (λ (n : ℕ). n + number b) (ap (λ (n : ℕ). n + number a * 256 ^ length b) (sym (mul_assoc x (256 ^ length a) (256 ^ length b))) ∙ sym (add-mul (x * 256 ^ length a) (number a) (256 ^ length b)))

-- ---- parts of bytes

module _ (at : ℕ) where
  pub part-add : (j k : ℕ) (l : List ℕ) → part at (j + k) l ≡ part at j l ++ part (at + j) k l
  part-add j k l = take-add j k (drop at l) ∙ ap (λ (r : List ℕ). part at j l ++ take k r) (drop-drop j at l)

  pub length_part : (k : ℕ) (l : List ℕ) → at + k ≤ length l → length (part at k l) ≡ k
  length_part k l h = simp (length-take, length-drop) (omega arith)

  pub number_at-add : (j k : ℕ) (l : List ℕ) → at + (j + k) ≤ length l → number_at at (j + k) l ≡ number_at at j l * 256 ^ k + number_at (at + j) k l
  number_at-add j k l h =
      ap number (part-add j k l)
      ∙ number_append (part at j l) (part (at + j) k l)
      ∙ ap (λ (n : ℕ). number_at at j l * 256 ^ n + number_at (at + j) k l) (after (omega arith))
    where
      after : at + j + k ≤ length l → length (part (at + j) k l) ≡ k
      after i = simp (length-take, length-drop) (omega arith)

  pub number_at_one : (l : List ℕ) → at < length l → number_at at 1 l ≡ get_or l at 0
  unfolding number
  number_at_one l h = ap (λ (r : List ℕ). number (take 1 r)) (drop-cons l at 0 h) ∙ omega arith
