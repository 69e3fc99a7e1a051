-- What a test's outcome says, beyond the library's laws: whether a set lies inside another; and what follows from an equation that cannot hold.
use mathlib.Core.Path.{◌≡◌, refl, sym}
use mathlib.Core.Logic.{◌⊎◌, inl, inr, ⊎_elim}
use mathlib.Core.Bool.{Bool, true, false, true≢false, ◌&&◌}
use Prim.Native.Nat.{ℕ}
use native.Mathlib.Omega.{arith}
use lib.Bits.{bit_and}
use lib.Dec.{eqb}
use borrow.Author.Tests.{eqb-true, eqb-false, eq-eqb, ne_eqb}
use Rattle.meaning.specs.Sets.{◌⊆◌, Tells}
use Rattle.meaning.specs.Computed.{is_inside}
use Rattle.meaning.proofs.SetLaws.{inside-and, and-inside}

-- two different constructors are never equal: from an equation that says so `cc` shows 0 ≡ 1
pub clash : ◌≡◌ {A = ℕ} 0 1 → ⊥
clash e = omega arith

pub test : (b : Bool) → (b ≡ true) ⊎ (b ≡ false)
test true = inl refl
test false = inr refl

pub inside_test : (x g : ℕ) → x ⊆ g → is_inside x g ≡ true
inside_test x g i = eq-eqb (bit_and x g) x (inside-and x g i)

pub test_inside : (x g : ℕ) → is_inside x g ≡ true → x ⊆ g
test_inside x g e = and-inside x g (eqb-true (bit_and x g) x e)

pub outside_test : (x g : ℕ) → ¬ (x ⊆ g) → is_inside x g ≡ false
outside_test x g h = ne_eqb (bit_and x g) x (λ e. h (and-inside x g e))

pub test_outside : (x g : ℕ) → is_inside x g ≡ false → ¬ (x ⊆ g)
test_outside x g e i = eqb-false (bit_and x g) x e (inside-and x g i)

pub inside_dec : (x g : ℕ) → (x ⊆ g) ⊎ (¬ (x ⊆ g))
inside_dec x g = ⊎_elim (λ e. inl (test_inside x g e)) (λ e. inr (test_outside x g e)) (test (is_inside x g))

pub inside_tells : (x g : ℕ) → Tells (is_inside x g) (x ⊆ g)
inside_tells x g = record { if_true = test_inside x g; if_false = test_outside x g }

pub equal_tells : (x y : ℕ) → Tells (eqb x y) (x ≡ y)
equal_tells x y = record { if_true = eqb-true x y; if_false = eqb-false x y }

-- ---- questions

pub yes_tells : {P : Type 0} → P → Tells true P
yes_tells p = record { if_true = λ e. p; if_false = λ e. absurd (true≢false e) }

pub no_tells : {P : Type 0} → ¬ P → Tells false P
no_tells n = record { if_true = λ e. absurd (true≢false (sym e)); if_false = λ e. n }

-- the same question in other words
pub told_as : {b : Bool} {P Q : Type 0} → (P → Q) → (Q → P) → Tells b P → Tells b Q
told_as f g t = record { if_true = λ e. f (t.if_true e); if_false = λ e q. t.if_false e (g q) }

-- two questions at once
pub both_tell : (a : Bool) {b : Bool} {P Q : Type 0} → Tells a P → Tells b Q → Tells (a && b) (P × Q)
both_tell true t u = told_as (λ q. (t.if_true refl, q)) (λ p. p.1) u
both_tell false t u = no_tells (λ p. t.if_false refl p.0)

-- a question has one answer
pub tells_unique : {P : Type 0} (a b : Bool) → Tells a P → Tells b P → a ≡ b
tells_unique true true t u = refl
tells_unique true false t u = absurd (u.if_false refl (t.if_true refl))
tells_unique false true t u = absurd (t.if_false refl (u.if_true refl))
tells_unique false false t u = refl
