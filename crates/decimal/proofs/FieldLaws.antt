-- Laws of fields, each a blank and a number: of two lists of them, and of how many bytes they take.
use mathlib.Core.Path.{◌≡◌, refl, sym, ap, ◌∙◌}
use mathlib.Core.List.{List, [], ◌∷◌, ◌++◌, append_assoc}
use Prim.Native.Nat.{ℕ, suc, ◌+◌, ◌*◌, ◌^◌, ◌≤◌, ◌<◌}
use native.Mathlib.Nat.{mul-suc}
use native.Mathlib.Omega.{arith}
use lib.ListN.{length, get_or, length-append}
use Rattle.decimal.specs.Decimal.{decimal}
use Rattle.decimal.specs.Fields.{blank, spaced}
use Rattle.decimal.proofs.DecimalLaws.{length_below}

pub spaced-append : (a b : List ℕ) → spaced (a ++ b) ≡ spaced a ++ spaced b
unfolding spaced
spaced-append [] b = refl
spaced-append (n ∷ a) b = ap (λ (r : List ℕ). blank ∷ decimal n ++ r) (spaced-append a b) ∙ sym (append_assoc (blank ∷ decimal n) (spaced a) (spaced b))

-- fields of at most k + 1 digits take at most k + 2 bytes each
pub length-spaced : (k : ℕ) (ns : List ℕ) → ((i : ℕ) → get_or ns i 0 < 10 ^ suc k) → length (spaced ns) ≤ (k + 2) * length ns
unfolding spaced
length-spaced k [] h = omega arith
length-spaced k (n ∷ ns) h =
    omega (arith, length-append (decimal n) (spaced ns), length_below k n (h 0), length-spaced k ns (λ i. h (suc i)), mul-suc (k + 2) (length ns))
