-- Some numbers, computed: the least and the largest, and one with zeros in it.
use mathlib.Core.Path.{◌≡◌, refl}
use mathlib.Core.List.{[], ◌∷◌}
use Rattle.decimal.specs.Decimal.{spelled, decimal}

zero-digit : decimal 0 ≡ 48 ∷ []
unfolding decimal spelled
zero-digit = refl

inner_zeros : decimal 10050 ≡ 49 ∷ 48 ∷ 48 ∷ 53 ∷ 48 ∷ []
unfolding decimal spelled
inner_zeros = refl

largest_digits : decimal 18446744073709551615 ≡ 49 ∷ 56 ∷ 52 ∷ 52 ∷ 54 ∷ 55 ∷ 52 ∷ 52 ∷ 48 ∷ 55 ∷ 51 ∷ 55 ∷ 48 ∷ 57 ∷ 53 ∷ 53 ∷ 49 ∷ 54 ∷ 49 ∷ 53 ∷ []
unfolding decimal spelled
largest_digits = refl
