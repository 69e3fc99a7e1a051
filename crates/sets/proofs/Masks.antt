-- What masks and shifts tell of a word: the lowest bit of x shifted by s is bit s of x, and nothing is left of a set that is shifted by its number of states.
use mathlib.Core.Path.{◌≡◌, sym, ap, ◌∙◌}
use Prim.Native.Nat.{ℕ, ◌*◌, ◌/◌, ◌%◌, ◌^◌, ◌<◌}
use native.Mathlib.Nat.{one-mul, mod-eq_of_lt, div-lt_iff_lt-mul, div-eq_of_lt}
use native.Mathlib.Omega.{arith}
use lib.Pow.{pow_pos, pow-lt}
use lib.Bits.{bit_and, and_mask}
use lib.Dec.{eqb}
use Rattle.meaning.specs.Sets.{◌∈◌, Tells}
use Rattle.meaning.proofs.SetLaws.{member}
use Rattle.meaning.proofs.Tests.{equal_tells, told_as}

pub bit_tells : (s x : ℕ) → Tells (eqb (bit_and (x / 2 ^ s) 1) 1) (s ∈ x)
bit_tells s x = let e = and_mask (x / 2 ^ s) 1 in told_as (λ q. member (sym e ∙ q)) (λ m. e ∙ m.is_one) (equal_tells (bit_and (x / 2 ^ s) 1) 1)

-- what is left of x beyond n bits is nothing exactly where x is below 2 ^ n
pub within_tells : (n x : ℕ) → Tells (eqb (x / 2 ^ n) 0) (x < 2 ^ n)
within_tells n x =
    told_as (λ e. omega (arith, (div-lt_iff_lt-mul {k = 2 ^ n} {x = x} {y = 1} (pow_pos n)).0 (omega (arith, e)))) (λ h. div-eq_of_lt h) (equal_tells (x / 2 ^ n) 0)

-- the lowest bit shifted to s, in a word of w bits
pub one_shl : (w s : ℕ) → s < w → (1 * 2 ^ s) % 2 ^ w ≡ 2 ^ s
one_shl w s l = ap (λ (z : ℕ). z % 2 ^ w) (one-mul (2 ^ s)) ∙ mod-eq_of_lt (pow-lt l)
