-- Laws of sets of states, over any number of states. They are shown bit by bit: a bit of a union is the greater of two bits, and two numbers with
-- the same bits are equal by halving.
use mathlib.Core.Path.{◌≡◌, refl, sym, ap, ap₂, ◌∙◌, subst}
use mathlib.Core.Logic.{◌⊎◌, inl, inr, ◌≢◌, ⊎_elim}
use Prim.Native.Nat.{ℕ, zero, suc, ◌+◌, ◌*◌, ◌/◌, ◌%◌, ◌^◌, ◌≤◌, ◌<◌, zero-le, suc-le-suc, max, min}
use native.Mathlib.Nat.{mod-lt, div-one, div-eq_of_lt, div-add-mod', lt_of_lt_of_le, lt_of_le_of_lt, lt_of_not-le, pow-suc, mul-div_cancel, mul-mod_left}
use native.Mathlib.Numerals.{one-add}
use native.Mathlib.Omega.{arith}
use lib.Bits.{bit_or, bit_and, or_step, and_step, or_shr, and_shr, or_lt, and_le_l}
use lib.Arith.{digits_mod, lt-one}
use lib.Pow.{pow_mono, shr-shr, pow_pos}
use Rattle.meaning.specs.Sets.{bit, ◌∈◌, ◌⊆◌, union}

two_pos : 0 < 2
two_pos = omega arith

pub bit-lt : (s x : ℕ) → bit s x < 2
bit-lt s x = mod-lt (x / 2 ^ s) two_pos

-- a bit is 0 or 1
pub bit_cases : (s x : ℕ) → (bit s x ≡ 0) ⊎ (bit s x ≡ 1)
bit_cases s x = go (bit s x) (bit-lt s x)
  where
    go : (b : ℕ) → b < 2 → (b ≡ 0) ⊎ (b ≡ 1)
    go zero h = inl refl
    go (suc zero) h = inr refl
    go (suc (suc b)) h = absurd (omega arith)

pub member : {s x : ℕ} → bit s x ≡ 1 → s ∈ x
member e = record { is_one = e }

-- a state is in a set, or its bit there is 0
pub ∈_cases : (s x : ℕ) → (bit s x ≡ 0) ⊎ (s ∈ x)
∈_cases s x = ⊎_elim (λ e. inl e) (λ e. inr (member e)) (bit_cases s x)

pub bit-zero : (x : ℕ) → bit 0 x ≡ x % 2
bit-zero x = ap (λ (y : ℕ). y % 2) (div-one x)

pub bit-suc : (s x : ℕ) → bit (suc s) x ≡ bit s (x / 2)
bit-suc s x = sym (ap (λ (y : ℕ). y % 2) (shr-shr x 1 s ∙ ap (λ (k : ℕ). x / 2 ^ k) (one-add s)))

-- no state is in the empty set
pub ∉_empty : {s : ℕ} → ¬ (s ∈ 0)
∉_empty {s} h = omega (arith, sym (bit_of_0 s) ∙ h.is_one)
  where
    bit_of_0 : (s : ℕ) → bit s 0 ≡ 0
    bit_of_0 s = ap (λ (y : ℕ). y % 2) (div-eq_of_lt (pow_pos s))

-- a set below 2 ^ n has only states below n
pub ∈_lt : {s x : ℕ} (n : ℕ) → x < 2 ^ n → s ∈ x → s < n
∈_lt {s} {x} n h e = lt_of_not-le λ (l : n ≤ s).
    let none : x / 2 ^ s ≡ 0 = div-eq_of_lt (lt_of_lt_of_le h (pow_mono l)) in
    let zero_bit : bit s x ≡ 0 = ap (λ (y : ℕ). y % 2) none in
    omega (arith, zero_bit, e.is_one)

-- ---- equal sets

half_lt : (n z : ℕ) → z < 2 ^ suc n → z / 2 < 2 ^ n
half_lt n z h = omega (arith, subst (λ (w : ℕ). z < w) (pow-suc 2 n) h)

pub ext_bits : (n x y : ℕ) → x < 2 ^ n → y < 2 ^ n → ((s : ℕ) → bit s x ≡ bit s y) → x ≡ y
ext_bits zero x y hx hy e = lt-one hx ∙ sym (lt-one hy)
ext_bits (suc n) x y hx hy e =
    let tops : x / 2 ≡ y / 2 = ext_bits n (x / 2) (y / 2) (half_lt n x hx) (half_lt n y hy) (λ s. sym (bit-suc s x) ∙ e (suc s) ∙ bit-suc s y) in
    let lows : x % 2 ≡ y % 2 = sym (bit-zero x) ∙ e 0 ∙ bit-zero y in
    sym (div-add-mod' x 2) ∙ ap₂ (λ (q r : ℕ). q * 2 + r) tops lows ∙ div-add-mod' y 2

-- two sets with the same states are equal
pub ∈_ext : (n : ℕ) {x y : ℕ} → x < 2 ^ n → y < 2 ^ n → x ⊆ y → y ⊆ x → x ≡ y
∈_ext n {x} {y} hx hy i j = ext_bits n x y hx hy (λ s. pick s (∈_cases s x) (∈_cases s y))
  where
    pick : (s : ℕ) → (bit s x ≡ 0) ⊎ (s ∈ x) → (bit s y ≡ 0) ⊎ (s ∈ y) → bit s x ≡ bit s y
    pick s (inl a) (inl b) = a ∙ sym b
    pick s (inl a) (inr b) = (j s b).is_one ∙ sym b.is_one
    pick s (inr a) c = a.is_one ∙ sym (i s a).is_one

-- ---- union and common part

max-lt : (a b : ℕ) → a < 2 → b < 2 → max a b < 2
max-lt a b h k = omega arith

min-lt : (a b : ℕ) → a < 2 → b < 2 → min a b < 2
min-lt a b h k = omega arith

pub bit-or : (s x y : ℕ) → bit s (bit_or x y) ≡ max (bit s x) (bit s y)
bit-or s x y = ap (λ (z : ℕ). z % 2) (or_shr x y s ∙ or_step (x / 2 ^ s) (y / 2 ^ s))
    ∙ digits_mod (bit_or (x / 2 ^ s / 2) (y / 2 ^ s / 2)) (max-lt (bit s x) (bit s y) (bit-lt s x) (bit-lt s y))

pub bit-and : (s x y : ℕ) → bit s (bit_and x y) ≡ min (bit s x) (bit s y)
bit-and s x y = ap (λ (z : ℕ). z % 2) (and_shr x y s ∙ and_step (x / 2 ^ s) (y / 2 ^ s))
    ∙ digits_mod (bit_and (x / 2 ^ s / 2) (y / 2 ^ s / 2)) (min-lt (bit s x) (bit s y) (bit-lt s x) (bit-lt s y))

pub ∈_union : (s x y : ℕ) → s ∈ union x y → (s ∈ x) ⊎ (s ∈ y)
∈_union s x y h = go (∈_cases s x)
  where
    go : (bit s x ≡ 0) ⊎ (s ∈ x) → (s ∈ x) ⊎ (s ∈ y)
    go (inl e) = inr (member (omega (arith, e, bit-lt s y, sym (bit-or s x y) ∙ h.is_one)))
    go (inr e) = inl e

pub ∈_left : {s x : ℕ} (y : ℕ) → s ∈ x → s ∈ union x y
∈_left {s} {x} y h = member (bit-or s x y ∙ omega (arith, h.is_one, bit-lt s y))

pub ∈_right : {s y : ℕ} (x : ℕ) → s ∈ y → s ∈ union x y
∈_right {s} {y} x h = member (bit-or s x y ∙ omega (arith, h.is_one, bit-lt s x))

pub ∈_both : (s x y : ℕ) → s ∈ bit_and x y → (s ∈ x) × (s ∈ y)
∈_both s x y h = (member (omega (arith, bit-lt s x, bit-lt s y, e)), member (omega (arith, bit-lt s x, bit-lt s y, e)))
  where
    e : min (bit s x) (bit s y) ≡ 1
    e = sym (bit-and s x y) ∙ h.is_one

pub ∈_and : {s x y : ℕ} → s ∈ x → s ∈ y → s ∈ bit_and x y
∈_and {s} {x} {y} h k = member (bit-and s x y ∙ omega (arith, h.is_one, k.is_one))

-- ---- inside: by states, by the common part, by the union

-- every number is a set of enough states
pub lt-pow : (x : ℕ) → x < 2 ^ x
lt-pow zero = pow_pos 0
lt-pow (suc x) = omega (arith, lt-pow x, pow-suc 2 x)

pub inside-and : (x y : ℕ) → x ⊆ y → bit_and x y ≡ x
inside-and x y i = ∈_ext x (lt_of_le_of_lt (and_le_l x y) (lt-pow x)) (lt-pow x) (λ s h. (∈_both s x y h).0) (λ s h. ∈_and h (i s h))

pub and-inside : (x y : ℕ) → bit_and x y ≡ x → x ⊆ y
and-inside x y e s h = (∈_both s x y (subst (λ (z : ℕ). s ∈ z) (sym e) h)).1

pub inside-or : (n x y : ℕ) → x < 2 ^ n → y < 2 ^ n → x ⊆ y → bit_or x y ≡ y
inside-or n x y hx hy i = ∈_ext n (or_lt n x y hx hy) hy (λ s h. ⊎_elim (i s) (λ k. k) (∈_union s x y h)) (λ s h. ∈_right x h)

pub or-inside : (x y : ℕ) → bit_or x y ≡ y → x ⊆ y
or-inside x y e s h = subst (λ (z : ℕ). s ∈ z) e (∈_left y h)

-- ---- a set that is not empty has a lowest state

-- s is in x, and no lower state is
pub record Lowest (x s : ℕ) : Type 0 where
  pub present : s ∈ x
  pub least : (t : ℕ) → t ∈ x → s ≤ t

pub lowest : (n x : ℕ) → x < 2 ^ n → x ≢ 0 → (s : ℕ) × Lowest x s
lowest zero x hx ne = absurd (ne (lt-one hx))
lowest (suc n) x hx ne = go (lowest n (x / 2) (half_lt n x hx)) (∈_cases 0 x)
  where
    after : {s : ℕ} → bit 0 x ≡ 0 → Lowest (x / 2) s → Lowest x (suc s)
    after {s} e l = record { present = member (bit-suc s x ∙ l.present.is_one); least = above }
      where
        above : (t : ℕ) → t ∈ x → suc s ≤ t
        above zero m = absurd (omega (arith, e, m.is_one))
        above (suc t) m = suc-le-suc (l.least t (member (sym (bit-suc t x) ∙ m.is_one)))

    go : (x / 2 ≢ 0 → (s : ℕ) × Lowest (x / 2) s) → (bit 0 x ≡ 0) ⊎ (0 ∈ x) → (s : ℕ) × Lowest x s
    go ih (inr m) = (0, record { present = m; least = λ t i. zero-le })
    go ih (inl e) =
        let even : x % 2 ≡ 0 = sym (bit-zero x) ∙ e in
        let r = ih (λ z. ne (omega (arith, even, z))) in
        (suc r.0, after e r.1)

pub some_member : (n x : ℕ) → x < 2 ^ n → x ≢ 0 → (s : ℕ) × (s ∈ x)
some_member n x hx ne = let r = lowest n x hx ne in (r.0, r.1.present)

pub member_some : {s x : ℕ} → s ∈ x → x ≢ 0
member_some {s} h e = ∉_empty (subst (λ (z : ℕ). s ∈ z) e h)

-- ---- one state

half_pow : (s : ℕ) → 2 ^ suc s / 2 ≡ 2 ^ s
half_pow s = ap (λ (z : ℕ). z / 2) (pow-suc 2 s) ∙ mul-div_cancel (2 ^ s) two_pos

bit-pow : (t s : ℕ) → bit (suc t) (2 ^ suc s) ≡ bit t (2 ^ s)
bit-pow t s = bit-suc t (2 ^ suc s) ∙ ap (λ (z : ℕ). bit t z) (half_pow s)

pub ∈_single : (s : ℕ) → s ∈ 2 ^ s
∈_single zero = member refl
∈_single (suc s) = member (bit-pow s s ∙ (∈_single s).is_one)

pub single_∈ : (s t : ℕ) → t ∈ 2 ^ s → t ≡ s
single_∈ zero zero h = refl
single_∈ zero (suc t) h = absurd (∉_empty (member {s = t} {x = 0} (sym (bit-suc t 1) ∙ h.is_one)))
single_∈ (suc s) zero h =
    absurd (omega (arith, sym (ap (λ (z : ℕ). z % 2) (pow-suc 2 s) ∙ mul-mod_left (2 ^ s) 2) ∙ sym (bit-zero (2 ^ suc s)) ∙ h.is_one))
single_∈ (suc s) (suc t) h = ap suc (single_∈ s t (member (sym (bit-pow t s) ∙ h.is_one)))
