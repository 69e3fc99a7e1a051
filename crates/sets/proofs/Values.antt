-- What the values of type `Set` stand for: each set has its value, and a value is told by its set. Callers use these laws and leave `set_of` and `set_for` shut.
use mathlib.Core.Path.{◌≡◌, refl, sym, ap, ◌∙◌}
use mathlib.Core.Logic.{◌≢◌}
use mathlib.Core.Bool.{true, false}
use Prim.Native.Nat.{ℕ}
use lib.Dec.{eqb}
use Rattle.meaning.specs.Sets.{Tells}
use Rattle.meaning.proofs.Tests.{equal_tells}
use Rattle.sets.specs.Words.{Value, set_of, set_for, IsValue}

-- the value for a set stands for it
pub set_for_lem : (y : ℕ) → set_of (set_for y) ≡ y
unfolding set_of set_for
set_for_lem y = refl

pub stands_for : {x : Value} {y : ℕ} → x ≡ set_for y → set_of x ≡ y
stands_for {x} {y} e = ap set_of e ∙ set_for_lem y

-- and so it is the value of what it stands for
pub is_value : {x : Value} (y : ℕ) → x ≡ set_for y → IsValue x
is_value {x} y e = e ∙ ap set_for (sym (stands_for e))

-- two values that stand for one set are the same
pub set_of_inj : (x y : Value) → set_of x ≡ set_of y → x ≡ y
unfolding set_of set_for
set_of_inj x y e = ap set_for e

-- `==` on values compares their words, and so it tells whether they stand for the same set
pub same_tells : (x y : Value) → Tells (eqb x.word y.word) (set_of x ≡ set_of y)
unfolding set_of
same_tells x y = equal_tells x.word y.word

pub equal_sets : (x y : Value) → eqb x.word y.word ≡ true → set_of x ≡ set_of y
equal_sets x y = (same_tells x y).if_true

pub other_sets : (x y : Value) → eqb x.word y.word ≡ false → set_of x ≢ set_of y
other_sets x y = (same_tells x y).if_false

-- so every value is the one for the set that it stands for
pub own_value : (x : Value) → IsValue x
own_value x = set_of_inj x (set_for (set_of x)) (sym (set_for_lem (set_of x)))
