-- Laws of the order of sequences: by length first, and at equal length by the first difference.
use mathlib.Core.Path.{◌≡◌, refl, sym, ap, ◌∙◌, subst, subst₂}
use mathlib.Core.Logic.{◌⊎◌, inl, inr, ⊎_elim}
use mathlib.Core.List.{List, [], ◌∷◌, ◌++◌, append_assoc, append-nil}
use Prim.Native.Nat.{ℕ, zero, suc, ◌≤◌, ◌<◌, zero-le, suc-le-suc}
use native.Mathlib.Nat.{suc_inj, suc-ne-zero, lt_irrefl, le_of_suc-le-suc, not-suc-le-zero, lt_of_not-le, eq-or-lt_of_le, le_refl}
use native.Mathlib.Decide.{dec_le}
use native.Mathlib.Omega.{arith}
use lib.ListN.{length}
use Rattle.meaning.specs.Order.{Smaller, Before, shorter, smaller}
use Rattle.meaning.specs.Listing.{then}

-- ---- numbers

pub compare3 : (a b : ℕ) → (a < b) ⊎ ((a ≡ b) ⊎ (b < a))
compare3 a b = go (dec_le a b)
  where
    go : Dec (a ≤ b) → (a < b) ⊎ ((a ≡ b) ⊎ (b < a))
    go (yes h) = ⊎_elim (λ e. inr (inl e)) (λ l. inl l) (eq-or-lt_of_le h)
    go (no h) = inr (inr (lt_of_not-le h))

-- ---- one command more at the end

pub length-then : (p : List ℕ) (a : ℕ) → length (then p a) ≡ suc (length p)
length-then [] a = refl
length-then (b ∷ p) a = ap suc (length-then p a)

-- induction by the last command
pub then_ind {ℓ} : (P : List ℕ → Type ℓ) → P [] → ((p : List ℕ) (a : ℕ) → P p → P (then p a)) → (p : List ℕ) → P p
then_ind P base more p = go [] p base
  where
    go : (q p : List ℕ) → P q → P (q ++ p)
    go q [] h = subst P (sym (append-nil q)) h
    go q (a ∷ p) h = subst P (append_assoc q (a ∷ []) p) (go (then q a) p (more q a h))

-- ---- at equal length

smaller_irrefl : (p : List ℕ) → ¬ Smaller p p
smaller_irrefl [] h = h
smaller_irrefl (a ∷ p) (inl h) = lt_irrefl a h
smaller_irrefl (a ∷ p) (inr (e, h)) = smaller_irrefl p h

smaller_trans : (p q r : List ℕ) → Smaller p q → Smaller q r → Smaller p r
smaller_trans [] q r h k = absurd h
smaller_trans (a ∷ p) [] r h k = absurd h
smaller_trans (a ∷ p) (b ∷ q) [] h k = absurd k
smaller_trans (a ∷ p) (b ∷ q) (c ∷ r) (inl h) (inl k) = inl (omega arith)
smaller_trans (a ∷ p) (b ∷ q) (c ∷ r) (inl h) (inr (f, k)) = inl (omega arith)
smaller_trans (a ∷ p) (b ∷ q) (c ∷ r) (inr (e, h)) (inl k) = inl (omega arith)
smaller_trans (a ∷ p) (b ∷ q) (c ∷ r) (inr (e, h)) (inr (f, k)) = inr (e ∙ f, smaller_trans p q r h k)

smaller_total : (p q : List ℕ) → length p ≡ length q → Smaller p q ⊎ ((p ≡ q) ⊎ Smaller q p)
smaller_total [] [] e = inr (inl refl)
smaller_total [] (b ∷ q) e = absurd (suc-ne-zero (length q) (sym e))
smaller_total (a ∷ p) [] e = absurd (suc-ne-zero (length p) e)
smaller_total (a ∷ p) (b ∷ q) e = go (compare3 a b) (smaller_total p q (suc_inj e))
  where
    go : (a < b) ⊎ ((a ≡ b) ⊎ (b < a)) → Smaller p q ⊎ ((p ≡ q) ⊎ Smaller q p) → Smaller (a ∷ p) (b ∷ q) ⊎ ((a ∷ p ≡ b ∷ q) ⊎ Smaller (b ∷ q) (a ∷ p))
    go (inl h) r = inl (inl h)
    go (inr (inr h)) r = inr (inr (inl h))
    go (inr (inl e)) (inl h) = inl (inr (e, h))
    go (inr (inl e)) (inr (inl f)) = inr (inl (λ i. e i ∷ f i))
    go (inr (inl e)) (inr (inr h)) = inr (inr (inr (sym e, h)))

smaller-then : (p q : List ℕ) (a b : ℕ) → Smaller p q → Smaller (then p a) (then q b)
smaller-then [] q a b h = absurd h
smaller-then (c ∷ p) [] a b h = absurd h
smaller-then (c ∷ p) (d ∷ q) a b (inl h) = inl h
smaller-then (c ∷ p) (d ∷ q) a b (inr (e, h)) = inr (e, smaller-then p q a b h)

smaller-last : (p : List ℕ) (a b : ℕ) → a < b → Smaller (then p a) (then p b)
smaller-last [] a b h = inl h
smaller-last (c ∷ p) a b h = inr (refl, smaller-last p a b h)

then-smaller : (p q : List ℕ) (a b : ℕ) → length p ≡ length q → Smaller (then p a) (then q b) → Smaller p q ⊎ ((p ≡ q) × (a < b))
then-smaller [] [] a b e (inl h) = inr (refl, h)
then-smaller [] [] a b e (inr (f, h)) = absurd h
then-smaller [] (d ∷ q) a b e h = absurd (suc-ne-zero (length q) (sym e))
then-smaller (c ∷ p) [] a b e h = absurd (suc-ne-zero (length p) e)
then-smaller (c ∷ p) (d ∷ q) a b e (inl h) = inl (inl h)
then-smaller (c ∷ p) (d ∷ q) a b e (inr (f, h)) = go (then-smaller p q a b (suc_inj e) h)
  where
    go : Smaller p q ⊎ ((p ≡ q) × (a < b)) → Smaller (c ∷ p) (d ∷ q) ⊎ ((c ∷ p ≡ d ∷ q) × (a < b))
    go (inl k) = inl (inr (f, k))
    go (inr (g, k)) = inr (λ i. f i ∷ g i, k)

-- ---- the order

pub before_irrefl : {p : List ℕ} → ¬ Before p p
before_irrefl {p} (shorter h) = lt_irrefl (length p) h
before_irrefl {p} (smaller e h) = smaller_irrefl p h

pub before_trans : {p q r : List ℕ} → Before p q → Before q r → Before p r
before_trans (shorter h) (shorter k) = shorter (omega arith)
before_trans (shorter h) (smaller f k) = shorter (omega arith)
before_trans (smaller e h) (shorter k) = shorter (omega arith)
before_trans {p} {q} {r} (smaller e h) (smaller f k) = smaller (e ∙ f) (smaller_trans p q r h k)

pub before_asym : {p q : List ℕ} → Before p q → ¬ Before q p
before_asym h k = before_irrefl (before_trans h k)

pub before_total : (p q : List ℕ) → Before p q ⊎ ((p ≡ q) ⊎ Before q p)
before_total p q = go (compare3 (length p) (length q))
  where
    go : (length p < length q) ⊎ ((length p ≡ length q) ⊎ (length q < length p)) → Before p q ⊎ ((p ≡ q) ⊎ Before q p)
    go (inl h) = inl (shorter h)
    go (inr (inr h)) = inr (inr (shorter h))
    go (inr (inl e)) = ⊎_elim (λ h. inl (smaller e h)) (λ r. inr (⊎_elim (λ f. inl f) (λ h. inr (smaller (sym e) h)) r)) (smaller_total p q e)

pub not_before_nil : {p : List ℕ} → ¬ Before p []
not_before_nil (shorter h) = not-suc-le-zero h
not_before_nil {p = []} (smaller e h) = h
not_before_nil {p = a ∷ p} (smaller e h) = h

pub nil-before-then : (p : List ℕ) (a : ℕ) → Before [] (then p a)
nil-before-then p a = shorter (subst (λ (n : ℕ). zero < n) (sym (length-then p a)) (suc-le-suc zero-le))

pub before-then_self : (p : List ℕ) (a : ℕ) → Before p (then p a)
before-then_self p a = shorter (subst (λ (n : ℕ). length p < n) (sym (length-then p a)) (le_refl (suc (length p))))

-- p, then a, comes before q, then b, exactly where p comes before q, or p is q and a < b
pub before-then : {p q : List ℕ} (a b : ℕ) → Before p q → Before (then p a) (then q b)
before-then {p} {q} a b (shorter h) = shorter (subst₂ (λ (m n : ℕ). m < n) (sym (length-then p a)) (sym (length-then q b)) (suc-le-suc h))
before-then {p} {q} a b (smaller e h) = smaller (length-then p a ∙ ap suc e ∙ sym (length-then q b)) (smaller-then p q a b h)

pub before_last : (p : List ℕ) {a b : ℕ} → a < b → Before (then p a) (then p b)
before_last p {a} {b} h = smaller (length-then p a ∙ sym (length-then p b)) (smaller-last p a b h)

pub then-before : (p q : List ℕ) (a b : ℕ) → Before (then p a) (then q b) → Before p q ⊎ ((p ≡ q) × (a < b))
then-before p q a b (shorter h) = inl (shorter (le_of_suc-le-suc (subst₂ (λ (m n : ℕ). m < n) (length-then p a) (length-then q b) h)))
then-before p q a b (smaller e h) =
    let f : length p ≡ length q = suc_inj (sym (length-then p a) ∙ e ∙ length-then q b) in
    ⊎_elim (λ k. inl (smaller f k)) (λ r. inr r) (then-smaller p q a b f h)
