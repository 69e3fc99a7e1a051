-- Laws of decimal: the two equations by which the code goes, and what a reader wants to know of the digits. They stand for the number again, each is
-- a digit, the first of a number above 0 is no zero, and numbers with the same digits are equal.
-- The idea: whatever holds of the numbers below ten, and of a number where it holds of a tenth of it, holds of all (`by_tenths`).
use mathlib.Core.Path.{◌≡◌, refl, sym, ap, ◌∙◌}
use mathlib.Core.Bool.{Bool, true, false}
use mathlib.Core.List.{List, [], ◌∷◌, ◌++◌}
use Prim.Native.Nat.{ℕ, zero, suc, ◌+◌, ◌-◌, ◌*◌, ◌/◌, ◌%◌, ◌^◌, ◌≤◌, ◌<◌}
use native.Mathlib.Nat.{pow-suc}
use native.Mathlib.Omega.{arith}
use lib.Dec.{ltb}
use lib.ListN.{length, get_or, length-append, get_or-append}
use borrow.Author.Tests.{lt-ltb, le-ltb, ltb-true, ltb-false}
use Rattle.std.specs.Prelude.{Option, Some, None, IfSome, IfNone}
use Rattle.std.specs.Option.{unwrap_or}
use Rattle.decimal.specs.Decimal.{digit, spelled, decimal, read_on, value}

-- below ten, or not
abbrev pub below_ten : {P : Type 0} (n : ℕ) → (n < 10 → P) → (10 ≤ n → P) → P
below_ten {P} n small large = go (ltb n 10) refl
  where
    go : (t : Bool) → ltb n 10 ≡ t → P
    go true e = small (ltb-true n 10 e)
    go false e = large (ltb-false n 10 e)

pub by_tenths : (P : ℕ → Type 0) → ((n : ℕ) → n < 10 → P n) → ((n : ℕ) → 10 ≤ n → P (n / 10) → P n) → (n : ℕ) → P n
by_tenths P small large n = within (suc n) n (omega arith)
  where
    within : (most n : ℕ) → n < most → P n
    within zero n h = absurd (omega (arith, h))
    within (suc most) n h = below_ten n (small n) (λ t. large n t (within most (n / 10) (omega arith)))

-- ---- the two equations

spelled_small : (most n : ℕ) → n < 10 → spelled (suc most) n ≡ digit n ∷ []
unfolding spelled
spelled_small most n h = simp (lt-ltb n 10 h)

spelled_large : (most n : ℕ) → 10 ≤ n → spelled (suc most) n ≡ spelled most (n / 10) ++ (digit (n % 10) ∷ [])
unfolding spelled
spelled_large most n h = simp (le-ltb n 10 h)

-- a larger bound changes nothing
enough : (j k n : ℕ) → n < j → n < k → spelled j n ≡ spelled k n
enough zero k n h i = absurd (omega (arith, h))
enough (suc j) zero n h i = absurd (omega (arith, i))
enough (suc j) (suc k) n h i =
    below_ten n
    (λ t. spelled_small j n t ∙ sym (spelled_small k n t))
    (λ t. spelled_large j n t ∙ ap (λ (ds : List ℕ). ds ++ (digit (n % 10) ∷ [])) (enough j k (n / 10) (omega arith) (omega arith)) ∙ sym (spelled_large k n t))

pub decimal_small : (n : ℕ) → n < 10 → decimal n ≡ digit n ∷ []
unfolding decimal
decimal_small n h = spelled_small n n h

pub decimal_large : (n : ℕ) → 10 ≤ n → decimal n ≡ decimal (n / 10) ++ (digit (n % 10) ∷ [])
unfolding decimal
decimal_large n h = spelled_large n n h ∙ ap (λ (ds : List ℕ). ds ++ (digit (n % 10) ∷ [])) (enough n (suc (n / 10)) (n / 10) (omega arith) (omega arith))

-- ---- how many digits there are

pub length_small : (n : ℕ) → n < 10 → length (decimal n) ≡ 1
length_small n h = ap length (decimal_small n h)

pub length_large : (n : ℕ) → 10 ≤ n → length (decimal n) ≡ length (decimal (n / 10)) + 1
length_large n h = ap length (decimal_large n h) ∙ length-append (decimal (n / 10)) (digit (n % 10) ∷ [])

pub length_some : (n : ℕ) → 0 < length (decimal n)
length_some n = below_ten n (λ t. omega (arith, length_small n t)) (λ t. omega (arith, length_large n t))

-- k + 1 digits hold a number below 10 ^ (k + 1), and twenty any number of 64 bits
pub length_below : (k n : ℕ) → n < 10 ^ suc k → length (decimal n) ≤ suc k
length_below zero n h = omega (arith, h, length_small n (omega (arith, h)))
length_below (suc k) n h = below_ten n (λ t. omega (arith, length_small n t)) (λ t. omega (arith, length_large n t, length_below k (n / 10) (omega (arith, h, pow-suc 10 (suc k)))))

pub twenty : (n : ℕ) → n < 2 ^ 64 → length (decimal n) ≤ 20
twenty n h = length_below 19 n (omega (arith, h))

ten-power : (k : ℕ) → 0 < 10 ^ k
ten-power zero = omega arith
ten-power (suc k) = omega (arith, pow-suc 10 k, ten-power k)

-- a number from 10 ^ k on has more than k digits
length_above : (k n : ℕ) → 10 ^ k ≤ n → k < length (decimal n)
length_above zero n h = length_some n
length_above (suc k) n h =
    let p = pow-suc 10 k in
    below_ten n (λ t. absurd (omega (arith, h, p, t, ten-power k))) (λ t. omega (arith, length_large n t, length_above k (n / 10) (omega (arith, h, p))))

length_between : (k n : ℕ) → 10 ^ k ≤ n → n < 10 * 10 ^ k → length (decimal n) ≡ k + 1
length_between k n l h = omega (arith, length_above k n l, length_below k n (omega (arith, h, pow-suc 10 k)))

-- one more than the logarithm
pub length-log : (n : ℕ) (o : Option ℕ) → IfNone o (n ≡ 0) → IfSome o (λ k. 10 ^ k ≤ n) → IfSome o (λ k. n < 10 * 10 ^ k) → unwrap_or o 0 + 1 ≡ length (decimal n)
length-log n None z l h = omega (arith, length_small n (omega (arith, z)))
length-log n (Some k) z l h = omega (arith, length_between k n l h)

-- ---- what the digits stand for

read_append : (m : ℕ) (bs : List ℕ) (b : ℕ) → read_on m (bs ++ (b ∷ [])) ≡ read_on m bs * 10 + (b - 48)
unfolding read_on
read_append m [] b = refl
read_append m (a ∷ bs) b = read_append (m * 10 + (a - 48)) bs b

pub decimal_read : (n : ℕ) → value (decimal n) ≡ n
unfolding read_on
decimal_read =
    by_tenths (λ (n : ℕ). value (decimal n) ≡ n)
    (λ n h. ap value (decimal_small n h) ∙ omega arith)
    (λ n h e. ap value (decimal_large n h) ∙ read_append 0 (decimal (n / 10)) (digit (n % 10)) ∙ omega (arith, e))

pub decimal_same : (m n : ℕ) → decimal m ≡ decimal n → m ≡ n
decimal_same m n e = sym (decimal_read m) ∙ ap value e ∙ decimal_read n

-- ---- what the digits are

-- every byte lies between two bounds
pub data Within (low high : ℕ) : List ℕ → Type 0 where
  nothing : Within low high []
  also : {b : ℕ} {bs : List ℕ} → low ≤ b → b ≤ high → Within low high bs → Within low high (b ∷ bs)

within-last : {low high b : ℕ} {bs : List ℕ} → Within low high bs → low ≤ b → b ≤ high → Within low high (bs ++ (b ∷ []))
within-last nothing l h = also l h nothing
within-last (also k i w) l h = also k i (within-last w l h)

-- every byte is a digit
pub decimal_digits : (n : ℕ) → Within (digit 0) (digit 9) (decimal n)
decimal_digits =
    by_tenths (λ (n : ℕ). Within (digit 0) (digit 9) (decimal n))
    (λ n h. rw (decimal_small n h) (also {b = digit n} (omega arith) (omega arith) nothing))
    (λ n h w. rw (decimal_large n h) (within-last {b = digit (n % 10)} w (omega arith) (omega arith)))

-- no leading zero
pub decimal_leads : (n : ℕ) → 0 < n → 48 < get_or (decimal n) 0 0
decimal_leads =
    by_tenths (λ (n : ℕ). 0 < n → 48 < get_or (decimal n) 0 0)
    (λ n h p. rw (decimal_small n h) (omega arith))
    (λ n h l p. rw (decimal_large n h, get_or-append (decimal (n / 10)) (digit (n % 10) ∷ []) 0 0 (length_some (n / 10))) (l (omega arith)))
