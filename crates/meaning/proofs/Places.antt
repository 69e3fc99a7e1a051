-- Laws of places in a list, over any type of element, each by going along the list; and in a list of entries that stands in the order of its sequences.
use mathlib.Core.Path.{◌≡◌, refl, sym, ap, ◌∙◌, subst}
use mathlib.Core.Logic.{◌⊎◌, inl, inr, ⊎_elim}
use mathlib.Core.Option.{some, none-ne-some, some-injective}
use mathlib.Core.List.{List, [], ◌∷◌, ◌++◌, map}
use Prim.Native.Nat.{ℕ, zero, suc, ◌+◌, ◌<◌, zero-le, suc-le-suc}
use native.Mathlib.Omega.{arith}
use native.Mathlib.Nat.{le_of_suc-le-suc, not-suc-le-zero, suc_inj, suc-ne-zero}
use lib.ListN.{length, take, get_or, set}
use lib.Seq.{sets}
use Rattle.meaning.specs.Order.{Before}
use Rattle.meaning.specs.Listing.{Entry, At, Sorted}
use Rattle.meaning.proofs.OrderLaws.{before_irrefl, before_asym, compare3}

module _ {A : Type 0} where
  pub at_head : (e : A) (l : List A) → At (e ∷ l) zero e
  at_head e l = record { held = refl }

  pub at_tail : {l : List A} {k : ℕ} {e : A} (f : A) → At l k e → At (f ∷ l) (suc k) e
  at_tail f h = record { held = h.held }

  pub tail_at : {l : List A} {k : ℕ} {e f : A} → At (f ∷ l) (suc k) e → At l k e
  tail_at h = record { held = h.held }

  pub head_at : {l : List A} {e f : A} → At (f ∷ l) zero e → f ≡ e
  head_at {e = e} {f} h = some-injective f e h.held

  pub at_lt : {l : List A} {k : ℕ} {e : A} → At l k e → k < length l
  at_lt {l = []} {e = e} h = absurd (none-ne-some e h.held)
  at_lt {l = f ∷ l} {k = zero} h = suc-le-suc zero-le
  at_lt {l = f ∷ l} {k = suc k} h = suc-le-suc (at_lt {l = l} {k = k} (tail_at h))

  pub lt_at : (l : List A) (k : ℕ) → k < length l → (e : A) × At l k e
  lt_at [] k h = absurd (not-suc-le-zero h)
  lt_at (f ∷ l) zero h = (f, at_head f l)
  lt_at (f ∷ l) (suc k) h = let r = lt_at l k (le_of_suc-le-suc h) in (r.0, at_tail f r.1)

  pub at_fun : {l : List A} {k : ℕ} {e f : A} → At l k e → At l k f → e ≡ f
  at_fun {e = e} {f} g h = some-injective e f (sym g.held ∙ h.held)

  pub at-append : {l : List A} {k : ℕ} {e : A} (r : List A) → At l k e → At (l ++ r) k e
  at-append {l = []} {e = e} r h = absurd (none-ne-some e h.held)
  at-append {l = f ∷ l} {k = zero} r h = record { held = h.held }
  at-append {l = f ∷ l} {k = suc k} r h = at_tail f (at-append {l = l} {k = k} r (tail_at h))

  pub at_last : (l : List A) (e : A) → At (l ++ (e ∷ [])) (length l) e
  at_last [] e = at_head e []
  at_last (f ∷ l) e = at_tail f (at_last l e)

  pub at_snoc : (l : List A) {k : ℕ} {e f : A} → At (l ++ (e ∷ [])) k f → At l k f ⊎ ((k ≡ length l) × (e ≡ f))
  at_snoc [] {k = zero} h = inr (refl, head_at h)
  at_snoc [] {k = suc k} {f = f} h = absurd (none-ne-some f h.held)
  at_snoc (g ∷ l) {k = zero} h = inl (record { held = h.held })
  at_snoc (g ∷ l) {k = suc k} h = ⊎_elim (λ i. inl (at_tail g i)) (λ r. inr (ap suc r.0, r.1)) (at_snoc l (tail_at h))

  pub at_take : {l : List A} {k : ℕ} {e : A} (c : ℕ) → At (take c l) k e → At l k e
  at_take {e = e} zero h = absurd (none-ne-some e h.held)
  at_take {l = []} (suc c) h = h
  at_take {l = f ∷ l} {k = zero} (suc c) h = record { held = h.held }
  at_take {l = f ∷ l} {k = suc k} (suc c) h = at_tail f (at_take {l = l} {k = k} c (tail_at h))

  pub take_at : {l : List A} {k c : ℕ} {e : A} → k < c → At l k e → At (take c l) k e
  take_at {c = zero} b h = absurd (not-suc-le-zero b)
  take_at {l = []} {c = suc c} b h = h
  take_at {l = f ∷ l} {k = zero} {c = suc c} b h = record { held = h.held }
  take_at {l = f ∷ l} {k = suc k} {c = suc c} b h = at_tail f (take_at {l = l} {k = k} {c = c} (le_of_suc-le-suc b) (tail_at h))

  pub take-lt : (l : List A) {k : ℕ} {e : A} (c : ℕ) → At (take c l) k e → k < c
  take-lt l {e = e} zero h = absurd (none-ne-some e h.held)
  take-lt [] {e = e} (suc c) h = absurd (none-ne-some e h.held)
  take-lt (f ∷ l) {k = zero} (suc c) h = suc-le-suc zero-le
  take-lt (f ∷ l) {k = suc k} (suc c) h = suc-le-suc (take-lt l c (tail_at h))

  pub get_d_at : (l : List A) (d : A) (k : ℕ) → k < length l → At l k (get_or l k d)
  get_d_at [] d k h = absurd (not-suc-le-zero h)
  get_d_at (f ∷ l) d zero h = at_head f l
  get_d_at (f ∷ l) d (suc k) h = at_tail f (get_d_at l d k (le_of_suc-le-suc h))

  pub at_get_or : {l : List A} {k : ℕ} {e : A} (d : A) → At l k e → get_or l k d ≡ e
  at_get_or {l} {k} d u = at_fun (get_d_at l d k (at_lt u)) u

  -- two runs of stores, the second where the first ends, are one run
  pub sets-append : (l : List A) (i : ℕ) (a b : List A) → sets (sets l i a) (i + length a) b ≡ sets l i (a ++ b)
  sets-append l i [] b = ap (λ (k : ℕ). sets l k b) (omega arith)
  sets-append l i (x ∷ a) b = ap (λ (k : ℕ). sets (sets (set l i x) (suc i) a) k b) (omega arith) ∙ sets-append (set l i x) (suc i) a b

  -- two lists are equal that are as long and agree at each place
  pub at_ext : (l r : List A) → length l ≡ length r → ((k : ℕ) (e f : A) → At l k e → At r k f → e ≡ f) → l ≡ r
  at_ext [] [] h a = refl
  at_ext [] (f ∷ r) h a = absurd (suc-ne-zero (length r) (sym h))
  at_ext (e ∷ l) [] h a = absurd (suc-ne-zero (length l) h)
  at_ext (e ∷ l) (f ∷ r) h a =
      λ i. a zero e f (at_head e l) (at_head f r) i ∷ at_ext l r (suc_inj h) (λ k u v i j. a (suc k) u v (at_tail e i) (at_tail f j)) i

pub at_map : {A B : Type 0} {l : List A} {k : ℕ} {e : A} (f : A → B) → At l k e → At (map f l) k (f e)
at_map {l = []} {e = e} f h = absurd (none-ne-some e h.held)
at_map {l = x ∷ l} {k = zero} f h = record { held = ap (λ y. some (f y)) (head_at h) }
at_map {l = x ∷ l} {k = suc k} f h = at_tail (f x) (at_map f (tail_at h))

pub map_at : {A B : Type 0} (l : List A) {k : ℕ} {y : B} (f : A → B) → At (map f l) k y → (e : A) × At l k e × (f e ≡ y)
map_at [] {y = y} f h = absurd (none-ne-some y h.held)
map_at (x ∷ l) {k = zero} f h = (x, at_head x l, head_at h)
map_at (x ∷ l) {k = suc k} f h = let r = map_at l f (tail_at h) in (r.0, at_tail x r.1, r.2)

-- two functions that agree all along a list agree at each of its places
pub map_same : {A B : Type 0} (f g : A → B) {l : List A} {k : ℕ} {e : A} → map f l ≡ map g l → At l k e → f e ≡ g e
map_same f g {k = k} {e} q u = at_fun (subst (λ m. At m k (f e)) q (at_map f u)) (at_map g u)

-- ---- a list in the order of its sequences

module _ {l : List Entry} (s : Sorted l) where
  -- an entry whose sequence comes before another's stands before it
  pub place-lt : {j k : ℕ} {e f : Entry} → At l j e → At l k f → Before e.seq f.seq → j < k
  place-lt {j} {k} {e} {f} u v h = go (compare3 j k)
    where
      go : (j < k) ⊎ ((j ≡ k) ⊎ (k < j)) → j < k
      go (inl c) = c
      go (inr (inl c)) = absurd (before_irrefl (subst (λ (g : Entry). Before e.seq g.seq) (sym (at_fun (subst (λ (n : ℕ). At l n e) c u) v)) h))
      go (inr (inr c)) = absurd (before_asym h (s.before v u c))

  -- a sequence stands at one place
  pub place_of-seq : {j k : ℕ} {e f : Entry} → At l j e → At l k f → e.seq ≡ f.seq → j ≡ k
  place_of-seq {j} {k} {e} {f} u v q = go (compare3 j k)
    where
      go : (j < k) ⊎ ((j ≡ k) ⊎ (k < j)) → j ≡ k
      go (inl c) = absurd (before_irrefl (subst (λ (p : List ℕ). Before p f.seq) q (s.before u v c)))
      go (inr (inl c)) = c
      go (inr (inr c)) = absurd (before_irrefl (subst (λ (p : List ℕ). Before f.seq p) q (s.before v u c)))
