-- The contracts of the look-up and of reading a plan back leave one answer. The idea: a place has one path, and among distinct sets one place holds a given set.
use mathlib.Core.Path.{◌≡◌, refl, sym, ap, ◌∙◌}
use mathlib.Core.List.{List, ◌++◌}
use Rattle.std.specs.Prelude.{Option, Some, None}
use Prim.Native.Nat.{ℕ, ◌≤◌, ◌<◌}
use native.Mathlib.Nat.{lt_of_not-le}
use native.Mathlib.Decide.{dec_le}
use native.Mathlib.Omega.{arith}
use lib.ListN.{length, take, drop}
use lib.Seq.{get_or-take, length-take-le}
use Rattle.sets.specs.Words.{set_of}
use Rattle.store.specs.declared.Node.{Node}
use Rattle.store.specs.Nodes.{nothing, set_at, Found}
use Rattle.store.specs.Paths.{ReadBack}
use Rattle.store.proofs.PathLaws.{path_fun}

-- where the first `count` places hold distinct sets, a look-up has one answer
pub found_unique : {l : List Node} {count y : ℕ} {r q : Option ℕ} → ((j k : ℕ) → j < count → k < count → set_at l j ≡ set_at l k → j ≡ k) → Found l count y r → Found l count y q → r ≡ q
found_unique {r = None} {q = None} distinct u v = refl
found_unique {r = None} {q = Some k} distinct u v = absurd (u.nowhere refl k (v.here k refl).0 (v.here k refl).1)
found_unique {r = Some j} {q = None} distinct u v = absurd (v.nowhere refl j (u.here j refl).0 (u.here j refl).1)
found_unique {r = Some j} {q = Some k} distinct u v = ap Some (distinct j k (u.here j refl).0 (v.here k refl).0 ((u.here j refl).1 ∙ sym (v.here k refl).1))

-- what a look-up among the first `count` places says of the store
pub found_within : {l : List Node} {count y : ℕ} {r : Option ℕ} → count ≤ length l → Found (take count l) (length (take count l)) y r → Found l count y r
found_within {l} {count} {y} b f = record {
  here = λ k e. let h = f.here k e in let below : k < count = omega (arith, h.0, long) in (below, sym (same k below) ∙ h.1);
  nowhere = λ e k h q. f.nowhere e k (omega (arith, h, long)) (same k h ∙ q);
}
  where
    long : length (take count l) ≡ count
    long = length-take-le count l b

    same : (k : ℕ) → k < count → set_at (take count l) k ≡ set_at l k
    same k h = ap (λ (n : Node). set_of n.set) (get_or-take count l k nothing h)

-- reading a plan back leaves one length and one content of the plan buffer
pub read_back_unique : {l : List Node} {at r q : ℕ} {before after other : List ℕ} → ReadBack l at before after r → ReadBack l at before other q → (r ≡ q) × (after ≡ other)
read_back_unique {before = before} {after} {other} u v = (sym u.as_long ∙ ap length same ∙ v.as_long, go (dec_le (length u.path) (length before)))
  where
    same : u.path ≡ v.path
    same = path_fun u.follows v.follows

    go : Dec (length u.path ≤ length before) → after ≡ other
    go (yes h) = u.fits h ∙ ap (λ (p : List ℕ). p ++ drop (length p) before) same ∙ sym (v.fits (omega (arith, h, ap length same)))
    go (no h) = u.too_long (lt_of_not-le h) ∙ sym (v.too_long (omega (arith, h, ap length same)))
