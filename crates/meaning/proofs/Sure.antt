-- Sure domains, where each state is followed by at most one: the number of possible states never rises along a plan, since the image of a set is no
-- larger than the set.
use mathlib.Core.Path.{sym, ap}
use mathlib.Core.List.{List, [], ◌∷◌}
use Prim.Native.Nat.{ℕ, zero, suc, ◌≤◌, ◌<◌, zero-le, suc-le-suc}
use native.Mathlib.Nat.{le_refl, le_trans, le_of_eq}
use native.Mathlib.Omega.{arith}
use Rattle.meaning.specs.Sets.{bit, size}
use Rattle.meaning.specs.Domain.{Domain, Within, WellFormed}
use Rattle.meaning.specs.Walk.{Gives, step, image}
use Rattle.meaning.proofs.StepLaws.{step_some}
use Rattle.meaning.specs.Walk.{only_if}
use lib.Count.{ones}
use Rattle.meaning.proofs.SizeLaws.{count_to, size-union, size-count}
use Rattle.meaning.proofs.WalkLaws.{nil-gives, cons-gives}

-- where each state is followed by at most one, the image is no larger
pub image-size : (f : ℕ → ℕ) (x k : ℕ) → ((s : ℕ) → s < k → size (f s) ≤ 1) → size (image f x k) ≤ count_to x k
unfolding image count_to ones
image-size f x zero h = zero-le
image-size f x (suc k) h =
    let ih = image-size f x k (λ s l. h s (omega (arith, l))) in
    let u = size-union (image f x k) (only_if (bit k x) (f k)) in
    omega (arith, ih, u, last (bit k x) (h k (le_refl (suc k))))
  where
    last : (b : ℕ) → size (f k) ≤ 1 → size (only_if b (f k)) ≤ b
    last zero g = zero-le
    last (suc b) g = le_trans g (suc-le-suc zero-le)

pub record Sure (D : Domain) : Type 0 where
  pub one : (a s : ℕ) → s < D.states → size (D.follow a s) ≤ 1

pub sure_size : (D : Domain) → WellFormed D → Sure D → {x y : ℕ} {p : List ℕ} → Within D x → Gives (step D) x p y → size y ≤ size x
sure_size D ok sure {p = []} w g = le_of_eq (ap size (sym (nil-gives (step D) g)))
sure_size D ok sure {x = x} {y = y} {p = a ∷ p} w g =
    let r = cons-gives (step D) g in
    let i = step_some D ok w r.1 in
    let small : size (image (D.follow a) x D.states) ≤ size x =
    le_trans (image-size (D.follow a) x D.states (sure.one a)) (le_of_eq (sym (size-count D.states x w))) in
    le_trans (sure_size D ok sure {x = r.0} {y = y} {p = p} i.within r.2) (le_trans (le_of_eq (ap size i.value)) small)
