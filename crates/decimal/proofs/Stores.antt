-- Bytes stored one run after another.
-- The idea: two runs of stores, the second where the first ends, are one run, and a run's last byte may be stored first.
use mathlib.Core.Path.{◌≡◌, ap, ap₂, ◌∙◌}
use mathlib.Core.List.{List, [], ◌∷◌, ◌++◌}
use Prim.Native.Nat.{ℕ, suc, ◌+◌}
use native.Mathlib.Omega.{arith}
use lib.ListN.{length, set}
use lib.Seq.{sets, set_comm}
use Rattle.meaning.proofs.Places.{sets-append}

-- a run that goes on where another ends
pub sets-on : (l : List ℕ) (at : ℕ) (a b : List ℕ) {m : List ℕ} {k : ℕ} → m ≡ sets l at a → k ≡ at + length a → sets m k b ≡ sets l at (a ++ b)
sets-on l at a b e f = ap₂ (λ (m : List ℕ) (k : ℕ). sets m k b) e f ∙ sets-append l at a b

-- the byte after a run, stored before it
pub sets_last : (l : List ℕ) (i : ℕ) (a : List ℕ) (x : ℕ) → sets (set l (i + length a) x) i a ≡ sets l i (a ++ (x ∷ []))
sets_last l i [] x = ap (λ (k : ℕ). set l k x) (omega arith)
sets_last l i (y ∷ a) x =
    ap (λ (m : List ℕ). sets m (suc i) a) (set_comm l (i + suc (length a)) i x y (λ e. omega (arith, e)) ∙ ap (λ (k : ℕ). set (set l i y) k x) (omega arith))
    ∙ sets_last (set l i y) (suc i) a x
