-- The lowest state by counting zeros, a set less one of its states, and the size of a set. Each goes by halving the number.
use mathlib.Core.Path.{◌≡◌, refl, sym, ap, ap₂, ◌∙◌, subst}
use mathlib.Core.Logic.{◌⊎◌, inl, inr, ⊎_elim, ◌≢◌, ◌↔◌}
use Prim.Native.Nat.{ℕ, zero, suc, ◌+◌, ◌-◌, ◌*◌, ◌/◌, ◌%◌, ◌^◌, ◌≤◌, ◌<◌, zero-le, suc-le-suc, max}
use native.Mathlib.Nat.{le_trans, le_of_eq, lt_irrefl, lt_of_not-le, pow-suc, not-suc-le-zero, le_of_suc-le-suc, zero-add}
use native.Mathlib.Omega.{arith}
use lib.Arith.{bin_ind, lt-one}
use lib.Bits.{or_shr}
use lib.Count.{ones, ones_step, count_trailing_zeros, under}
use Rattle.meaning.specs.Sets.{bit, ◌∈◌, union, without, size}
use Rattle.meaning.proofs.SetLaws.{member, bit_cases, bit-zero, bit-suc, ∈_lt, bit-or, some_member}

-- ---- the lowest state

pub lowest_in : (k x : ℕ) → count_trailing_zeros k x < k → count_trailing_zeros k x ∈ x
unfolding count_trailing_zeros
lowest_in zero x h = absurd (not-suc-le-zero h)
lowest_in (suc k) x h = go (bit_cases 0 x) (lowest_in k (x / 2))
  where
    t : ℕ
    t = count_trailing_zeros k (x / 2)

    go : (bit 0 x ≡ 0) ⊎ (bit 0 x ≡ 1) → (t < k → t ∈ x / 2) → count_trailing_zeros (suc k) x ∈ x
    go (inl e) ih =
        let even : x % 2 ≡ 0 = sym (bit-zero x) ∙ e in
        let up : under (x % 2) t ≡ suc t = ap (λ (d : ℕ). under d t) even in
        subst (λ (s : ℕ). s ∈ x) (sym up) (member (bit-suc t x ∙ (ih (le_of_suc-le-suc (subst (λ (s : ℕ). s < suc k) up h))).is_one))
    go (inr e) ih =
        let odd : x % 2 ≡ 1 = sym (bit-zero x) ∙ e in
        subst (λ (s : ℕ). s ∈ x) (sym (ap (λ (d : ℕ). under d t) odd)) (member e)

pub lowest_le : (k x s : ℕ) → s ∈ x → s < k → count_trailing_zeros k x ≤ s
unfolding count_trailing_zeros
lowest_le zero x s m h = absurd (not-suc-le-zero h)
lowest_le (suc k) x zero m h = le_of_eq (ap (λ (d : ℕ). under d (count_trailing_zeros k (x / 2))) (sym (bit-zero x) ∙ m.is_one))
lowest_le (suc k) x (suc s) m h = go (bit_cases 0 x) (lowest_le k (x / 2) s (member (sym (bit-suc s x) ∙ m.is_one)) (le_of_suc-le-suc h))
  where
    t : ℕ
    t = count_trailing_zeros k (x / 2)

    go : (bit 0 x ≡ 0) ⊎ (bit 0 x ≡ 1) → t ≤ s → under (x % 2) t ≤ suc s
    go (inl e) ih = le_trans (le_of_eq (ap (λ (d : ℕ). under d t) (sym (bit-zero x) ∙ e))) (suc-le-suc ih)
    go (inr e) ih = le_trans (le_of_eq (ap (λ (d : ℕ). under d t) (sym (bit-zero x) ∙ e))) zero-le

-- ---- a set less one of its states

pub member_ge : {s x : ℕ} → s ∈ x → 2 ^ s ≤ x
member_ge {s} {x} m = le_of_suc-le-suc (lt_of_not-le λ (h : suc x ≤ 2 ^ s). lt_irrefl s (∈_lt s h m))

half_member : {s x : ℕ} → suc s ∈ x → s ∈ x / 2
half_member {s} {x} m = member (sym (bit-suc s x) ∙ m.is_one)

half_remove : (s x : ℕ) → (x - 2 ^ suc s) / 2 ≡ x / 2 - 2 ^ s
half_remove s x = omega (arith, pow-suc 2 s)

low_remove : (s x : ℕ) → 2 ^ suc s ≤ x → (x - 2 ^ suc s) % 2 ≡ x % 2
low_remove s x h = omega (arith, pow-suc 2 s, h)

odd : {x : ℕ} → 0 ∈ x → x % 2 ≡ 1
odd {x} m = sym (bit-zero x) ∙ m.is_one

pub removed : (s x : ℕ) → s ∈ x → bit s (x - 2 ^ s) ≡ 0
removed zero x m = bit-zero (x - 1) ∙ omega (arith, odd m)
removed (suc s) x m = bit-suc s (x - 2 ^ suc s) ∙ ap (bit s) (half_remove s x) ∙ removed s (x / 2) (half_member m)

pub kept : (s t x : ℕ) → s ∈ x → t ≢ s → bit t (x - 2 ^ s) ≡ bit t x
kept zero zero x m h = absurd (h refl)
kept zero (suc t) x m h = bit-suc t (x - 1) ∙ ap (bit t) (omega (arith, odd m)) ∙ sym (bit-suc t x)
kept (suc s) zero x m h = bit-zero (x - 2 ^ suc s) ∙ low_remove s x (member_ge m) ∙ sym (bit-zero x)
kept (suc s) (suc t) x m h = bit-suc t (x - 2 ^ suc s) ∙ ap (bit t) (half_remove s x) ∙ kept s t (x / 2) (half_member m) (λ e. h (ap suc e)) ∙ sym (bit-suc t x)

-- whether it has the state or not
pub without_in : {s x : ℕ} → s ∈ x → without x s ≡ x - 2 ^ s
without_in {s} {x} m = ap (λ (b : ℕ). x - b * 2 ^ s) m.is_one ∙ omega arith

pub without_not : (s x : ℕ) → bit s x ≡ 0 → without x s ≡ x
without_not s x e = ap (λ (b : ℕ). x - b * 2 ^ s) e ∙ omega arith

bit-without : (s t x : ℕ) → t ≢ s → bit t (without x s) ≡ bit t x
bit-without s t x h = ⊎_elim (λ e. ap (bit t) (without_not s x e)) (λ e. ap (bit t) (without_in (member e)) ∙ kept s t x (member e) h) (bit_cases s x)

pub without_removes : (s x : ℕ) → ¬ (s ∈ without x s)
without_removes s x m = omega (arith, m.is_one, ⊎_elim (λ e. ap (bit s) (without_not s x e) ∙ e) (λ e. ap (bit s) (without_in (member e)) ∙ removed s x (member e)) (bit_cases s x))

pub without_keeps : (s t x : ℕ) → t ≢ s → t ∈ without x s ↔ t ∈ x
without_keeps s t x h = let e = bit-without s t x h in (λ m. member (sym e ∙ m.is_one), λ m. member (e ∙ m.is_one))

-- ---- size

pub size_remove : (s x : ℕ) → s ∈ x → size x ≡ suc (size (x - 2 ^ s))
size_remove zero x m =
    let up : size x ≡ x % 2 + size (x / 2) = ones_step x in
    let down : size (x - 1) ≡ (x - 1) % 2 + size ((x - 1) / 2) = ones_step (x - 1) in
    let same : (x - 1) / 2 ≡ x / 2 = omega (arith, odd m) in
    let even : (x - 1) % 2 ≡ 0 = omega (arith, odd m) in
    omega (arith, up, down, even, odd m, ap size same)
size_remove (suc s) x m =
    let up : size x ≡ x % 2 + size (x / 2) = ones_step x in
    let y : ℕ = x - 2 ^ suc s in
    let down : size y ≡ y % 2 + size (y / 2) = ones_step y in
    let ih = size_remove s (x / 2) (half_member m) in
    omega (arith, up, down, low_remove s x (member_ge m), ap size (half_remove s x), ih)

-- only the empty set has no state
pub size-zero : (n x : ℕ) → x < 2 ^ n → x ≢ 0 → 0 < size x
size-zero n x h ne = let s = some_member n x h ne in omega (arith, size_remove s.0 x s.1)

pub size-union : (x y : ℕ) → size (union x y) ≤ size x + size y
unfolding ones
size-union = bin_ind (λ (x : ℕ). (y : ℕ) → size (union x y) ≤ size x + size y) (λ y. le_of_eq (sym (zero-add (size y)))) step
  where
    step : (x : ℕ) → ((y : ℕ) → size (union (x / 2) y) ≤ size (x / 2) + size y) → (y : ℕ) → size (union x y) ≤ size x + size y
    step x ih y =
        let both : size (union x y) ≡ union x y % 2 + size (union x y / 2) = ones_step (union x y) in
        let rest : union x y / 2 ≡ union (x / 2) (y / 2) = or_shr x y 1 in
        let lowest : union x y % 2 ≡ max (x % 2) (y % 2) = sym (bit-zero (union x y)) ∙ bit-or 0 x y ∙ ap₂ max (bit-zero x) (bit-zero y) in
        omega (arith, both, ap size rest, lowest, ones_step x, ones_step y, ih (y / 2))

-- the states of x below k, counted
unfoldable pub count_to : ℕ → ℕ → ℕ
count_to x zero = zero
count_to x (suc k) = count_to x k + bit k x

count_half : (x k : ℕ) → count_to x (suc k) ≡ x % 2 + count_to (x / 2) k
unfolding count_to
count_half x zero = omega (arith, bit-zero x)
count_half x (suc k) = omega (arith, count_half x k, bit-suc k x)

pub size-count : (n x : ℕ) → x < 2 ^ n → size x ≡ count_to x n
unfolding count_to ones
size-count zero x h = ap ones (lt-one h)
size-count (suc n) x h =
    let half : x / 2 < 2 ^ n = omega (arith, h, pow-suc 2 n) in
    ones_step x ∙ ap (λ (k : ℕ). x % 2 + k) (size-count n (x / 2) half) ∙ sym (count_half x n)
