-- A number's bytes, over the width, and their storing as two runs.
-- The idea: two runs of stores, the second where the first ends, are one run.
use mathlib.Core.Path.{◌≡◌, refl, sym, ap, ap₂, ◌∙◌}
use mathlib.Core.List.{List, [], ◌∷◌, ◌++◌}
use Prim.Native.Nat.{ℕ, zero, suc, ◌+◌, ◌/◌, ◌%◌, ◌^◌}
use native.Mathlib.Nat.{zero-add, suc-add, div-one, div-div-eq-div-mul, mul_comm}
use lib.Pow.{pow-add}
use lib.ListN.{length}
use lib.Seq.{sets}
use Rattle.meaning.proofs.Places.{sets-append}
use Rattle.numbers.specs.Bytes.{bytes_of}

pub length-bytes : (k n : ℕ) → length (bytes_of k n) ≡ k
unfolding bytes_of
length-bytes zero n = refl
length-bytes (suc k) n = ap suc (length-bytes k n)

pub bytes_one : (n : ℕ) → bytes_of 1 n ≡ n % 256 ∷ []
unfolding bytes_of
bytes_one n = ap (λ (m : ℕ). m % 256 ∷ []) (div-one n)

pub bytes-add : (j k n : ℕ) → bytes_of (j + k) n ≡ bytes_of j (n / 256 ^ k) ++ bytes_of k n
unfolding bytes_of
bytes-add zero k n = ap (λ (m : ℕ). bytes_of m n) (zero-add k)
bytes-add (suc j) k n =
    ap (λ (m : ℕ). bytes_of m n) (suc-add j k)
    ∙ ap₂ (λ (q : ℕ) (r : List ℕ). q % 256 ∷ r) (ap (λ (m : ℕ). n / m) (pow-add 256 j k ∙ mul_comm (256 ^ j) (256 ^ k)) ∙ sym (div-div-eq-div-mul n (256 ^ k) (256 ^ j))) (bytes-add j k n)

-- a number of j + k bytes, stored as two runs
pub two_stores : (l : List ℕ) (at j k n : ℕ) → sets (sets l at (bytes_of j (n / 256 ^ k))) (at + j) (bytes_of k n) ≡ sets l at (bytes_of (j + k) n)
two_stores l at j k n =
    ap (λ (m : ℕ). sets (sets l at (bytes_of j (n / 256 ^ k))) (at + m) (bytes_of k n)) (sym (length-bytes j (n / 256 ^ k)))
    ∙ sets-append l at (bytes_of j (n / 256 ^ k)) (bytes_of k n)
    ∙ ap (λ (b : List ℕ). sets l at b) (sym (bytes-add j k n))
