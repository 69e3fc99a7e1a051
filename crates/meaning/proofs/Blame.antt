-- The lowest state of a set that cannot take a command, found by looking at the states in turn.
use mathlib.Core.Path.{◌≡◌, refl, subst}
use mathlib.Core.Logic.{⊎_elim, ◌≢◌}
use mathlib.Core.Bool.{Bool, true, false, cond, ◌&&◌}
use Prim.Native.Nat.{ℕ, zero, suc, ◌+◌, ◌≤◌, ◌<◌}
use native.Mathlib.Nat.{eq-or-lt_of_le, le_refl}
use native.Mathlib.Omega.{arith}
use lib.Dec.{eqb}
use borrow.Author.Tests.{eqb-false, eqb-true}
use Rattle.meaning.specs.Sets.{bit, ◌∈◌}
use Rattle.meaning.proofs.SetLaws.{member}

-- the first of the d states from s on that is in x and has nothing that follows it; s + d where there is none
unfoldable pub blame : (ℕ → ℕ) → ℕ → ℕ → ℕ → ℕ
blame f x s zero = s
blame f x s (suc d) = cond (eqb (bit s x) 1 && eqb (f s) 0) s (blame f x (suc s) d)

pub record Blames (f : ℕ → ℕ) (x s d b : ℕ) : Type 0 where
  pub from : s ≤ b
  pub upto : b ≤ s + d
  pub lower_take : (t : ℕ) → s ≤ t → t < b → t ∈ x → f t ≢ 0
  pub cannot : b < s + d → (b ∈ x) × (f b ≡ 0)

pub blame_is : (f : ℕ → ℕ) (x s d : ℕ) → Blames f x s d (blame f x s d)
unfolding blame
blame_is f x s zero = record {
  from = le_refl s;
  upto = omega arith;
  lower_take = λ t h k m. absurd (omega (arith, h, k));
  cannot = λ h. absurd (omega (arith, h));
}
blame_is f x s (suc d) = go (eqb (bit s x) 1) (eqb (f s) 0) refl refl (blame_is f x (suc s) d)
  where
    r : ℕ
    r = blame f x (suc s) d

    pass : ((s ∈ x) → f s ≢ 0) → Blames f x (suc s) d r → Blames f x s (suc d) r
    pass ok b = record {
      from = omega (arith, b.from);
      upto = omega (arith, b.upto);
      lower_take = λ t h k m. ⊎_elim (λ e. subst (λ (u : ℕ). u ∈ x → f u ≢ 0) e ok m) (λ l. b.lower_take t l k m) (eq-or-lt_of_le h);
      cannot = λ h. b.cannot (omega (arith, h));
    }

    go : (u v : Bool) → eqb (bit s x) 1 ≡ u → eqb (f s) 0 ≡ v → Blames f x (suc s) d r → Blames f x s (suc d) (cond (u && v) s r)
    go true true p q b = record {
      from = le_refl s;
      upto = omega arith;
      lower_take = λ t h k m. absurd (omega (arith, h, k));
      cannot = λ h. (member (eqb-true (bit s x) 1 p), eqb-true (f s) 0 q);
    }
    go true false p q b = pass (λ m. eqb-false (f s) 0 q) b
    go false true p q b = pass (λ m. absurd (eqb-false (bit s x) 1 p m.is_one)) b
    go false false p q b = pass (λ m. eqb-false (f s) 0 q) b
