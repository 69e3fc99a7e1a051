-- k different numbers below n: k is at most n. By n: the last number takes the place of the largest where that stands, so that the others lie below it.
use mathlib.Core.Path.{◌≡◌, sym, ◌∙◌, subst}
use mathlib.Core.Logic.{◌≢◌}
use Prim.Native.Nat.{ℕ, zero, suc, ◌≤◌, ◌<◌, zero-le, suc-le-suc}
use native.Mathlib.Nat.{not-suc-le-zero, lt_irrefl, le_refl}
use native.Mathlib.Decide.{ℕ_discrete}
use native.Mathlib.Omega.{arith}

-- v in the place of n
instead : (n v x : ℕ) → Dec (x ≡ n) → ℕ
instead n v x (yes e) = v
instead n v x (no h) = x

pub pigeon : (n k : ℕ) (f : ℕ → ℕ) → ((i : ℕ) → i < k → f i < n) → ((i j : ℕ) → i < k → j < k → f i ≡ f j → i ≡ j) → k ≤ n
unfolding instead
pigeon n zero f lt inj = zero-le
pigeon zero (suc k) f lt inj = absurd (not-suc-le-zero (lt k (le_refl (suc k))))
pigeon (suc n) (suc k) f lt inj = suc-le-suc (pigeon n k (λ i. instead n (f k) (f i) (ℕ_discrete (f i) n))
    (λ i h. below i h (ℕ_discrete (f i) n)) (λ i j h g. once i j h g (ℕ_discrete (f i) n) (ℕ_discrete (f j) n)))
  where
    up : {i : ℕ} → i < k → i < suc k
    up h = omega arith

    apart : (i : ℕ) → i < k → f i ≢ f k
    apart i h e = lt_irrefl k (subst (λ (x : ℕ). x < k) (inj i k (up h) (le_refl (suc k)) e) h)

    below : (i : ℕ) → i < k → (d : Dec (f i ≡ n)) → instead n (f k) (f i) d < n
    below i h (yes e) = let ne : f k ≢ n = λ q. apart i h (e ∙ sym q) in omega (arith, lt k (le_refl (suc k)), ne)
    below i h (no q) = omega (arith, lt i (up h), q)

    once : (i j : ℕ) → i < k → j < k → (d : Dec (f i ≡ n)) (c : Dec (f j ≡ n)) → instead n (f k) (f i) d ≡ instead n (f k) (f j) c → i ≡ j
    once i j h g (yes e) (yes q) r = inj i j (up h) (up g) (e ∙ sym q)
    once i j h g (yes e) (no q) r = absurd (apart j g (sym r))
    once i j h g (no e) (yes q) r = absurd (apart i h r)
    once i j h g (no e) (no q) r = inj i j (up h) (up g) r
