-- A number stored from its last digit on.
-- The idea: a run's last byte may be stored first, so what is stored already and what is left to store are together the whole.
use mathlib.Core.Path.{◌≡◌, sym, ap, ◌∙◌}
use mathlib.Core.List.{List, [], ◌∷◌, ◌++◌}
use Prim.Native.Nat.{ℕ, zero, suc, ◌+◌, ◌-◌, ◌/◌, ◌%◌, ◌≤◌, ◌<◌}
use native.Mathlib.Numerals.{add-one}
use native.Mathlib.Omega.{arith}
use lib.ListN.{length, set, length-append}
use lib.Seq.{sets}
use Rattle.decimal.specs.Decimal.{digit, decimal}
use Rattle.decimal.proofs.DecimalLaws.{by_tenths, decimal_small, decimal_large, length_small, length_large}
use Rattle.decimal.proofs.Stores.{sets_last}

-- the last k digits of a number
unfoldable pub last_digits : ℕ → ℕ → List ℕ
last_digits zero n = []
last_digits (suc k) n = last_digits k (n / 10) ++ (digit (n % 10) ∷ [])

length-last_digits : (k n : ℕ) → length (last_digits k n) ≡ k
unfolding last_digits
length-last_digits zero n = omega arith
length-last_digits (suc k) n = omega (arith, length-append (last_digits k (n / 10)) (digit (n % 10) ∷ []), length-last_digits k (n / 10))

-- as many as a number has are all
pub all_digits : (n : ℕ) → last_digits (length (decimal n)) n ≡ decimal n
unfolding last_digits
all_digits =
    by_tenths (λ (n : ℕ). last_digits (length (decimal n)) n ≡ decimal n)
    (λ n h. rw (length_small n h) (ap (λ (d : ℕ). digit d ∷ []) (omega arith) ∙ sym (decimal_small n h)))
    (λ n h e. ap (λ (k : ℕ). last_digits k n) (length_large n h ∙ add-one _) ∙ ap (λ (ds : List ℕ). ds ++ (digit (n % 10) ∷ [])) e ∙ sym (decimal_large n h))

-- the last of k + 1 digits stored, and then the others
pub one_digit : (l : List ℕ) (at i n : ℕ) → at < i → sets (set l (i - 1) (digit (n % 10))) at (last_digits (i - 1 - at) (n / 10)) ≡ sets l at (last_digits (i - at) n)
unfolding last_digits
one_digit l at i n h =
    let k : i - at ≡ suc (i - 1 - at) = omega (arith, h) in
    let e : i - 1 ≡ at + length (last_digits (i - 1 - at) (n / 10)) = omega (arith, h, length-last_digits (i - 1 - at) (n / 10)) in
    ap (λ (j : ℕ). sets (set l j (digit (n % 10))) at (last_digits (i - 1 - at) (n / 10))) e
    ∙ sets_last l at (last_digits (i - 1 - at) (n / 10)) (digit (n % 10))
    ∙ ap (λ (j : ℕ). sets l at (last_digits j n)) (sym k)

pub no_digit : (l : List ℕ) (at i n : ℕ) → i ≤ at → sets l at (last_digits (i - at) n) ≡ l
unfolding last_digits
no_digit l at i n h = let e : i - at ≡ 0 = omega (arith, h) in ap (λ (j : ℕ). sets l at (last_digits j n)) e
