-- Laws of the walk, for any `next`: one command more in front or at the end, two plans in a row, and where a walk is blocked.
use mathlib.Core.Path.{◌≡◌, refl, sym, ap, ◌∙◌, subst}
use mathlib.Core.Logic.{◌⊎◌, inl, inr}
use mathlib.Core.Option.{Option, none, some, none-ne-some}
use mathlib.Core.List.{List, [], ◌∷◌, ◌++◌}
use Prim.Native.Nat.{ℕ, zero, suc}
use lib.ListN.{take, drop, take-append-drop}
use Rattle.meaning.specs.Walk.{Walked, ended, blocked, later, onward, walk, Gives}
use Rattle.meaning.specs.Listing.{At}
use Rattle.meaning.proofs.Places.{at_head, at_tail, head_at, tail_at}

-- ---- the two ends of a walk are told apart

IsEnded : Walked → Type 0
IsEnded (ended y) = Unit {0}
IsEnded (blocked k y) = ⊥

last_of : Walked → ℕ
last_of (ended y) = y
last_of (blocked k y) = y

index_of : Walked → ℕ
index_of (ended y) = zero
index_of (blocked k y) = k

pub ended_inj : {y z : ℕ} → ended y ≡ ended z → y ≡ z
unfolding last_of
ended_inj e = ap last_of e

pub blocked_ne_ended : {k y z : ℕ} → ¬ (blocked k y ≡ ended z)
unfolding IsEnded
blocked_ne_ended e = subst IsEnded (sym e) tt

pub blocked-index : {j k y z : ℕ} → blocked j y ≡ blocked k z → j ≡ k
unfolding index_of
blocked-index e = ap index_of e

pub blocked-set : {j k y z : ℕ} → blocked j y ≡ blocked k z → y ≡ z
unfolding last_of
blocked-set e = ap last_of e

pub later-ended : (w : Walked) {y : ℕ} → later w ≡ ended y → w ≡ ended y
later-ended (ended z) e = e
later-ended (blocked k z) e = absurd (blocked_ne_ended e)

pub later-blocked : (w : Walked) {k y : ℕ} → later w ≡ blocked k y → (j : ℕ) × (k ≡ suc j) × (w ≡ blocked j y)
later-blocked (ended z) e = absurd (blocked_ne_ended (sym e))
later-blocked (blocked j z) e = (j, sym (blocked-index e), ap (λ (v : ℕ). blocked j v) (blocked-set e))

-- ---- one command more in front

module _ (next : ℕ → ℕ → Option ℕ) where
  pub walk-nil : (x : ℕ) → walk next x [] ≡ ended x
  unfolding walk
  walk-nil x = refl

  pub walk_some : {x a z : ℕ} (p : List ℕ) → next x a ≡ some z → walk next x (a ∷ p) ≡ later (walk next z p)
  unfolding walk
  walk_some {x} p e = ap (λ (o : Option ℕ). onward x o (λ y. walk next y p)) e

  pub walk_none : {x a : ℕ} (p : List ℕ) → next x a ≡ none → walk next x (a ∷ p) ≡ blocked zero x
  unfolding walk
  walk_none {x} p e = ap (λ (o : Option ℕ). onward x o (λ y. walk next y p)) e

  pub gives_nil : (x : ℕ) → Gives next x [] x
  gives_nil x = record { walked = walk-nil x }

  pub nil-gives : {x y : ℕ} → Gives next x [] y → x ≡ y
  nil-gives {x} g = ended_inj (sym (walk-nil x) ∙ g.walked)

  pub gives_cons : {x a z y : ℕ} {p : List ℕ} → next x a ≡ some z → Gives next z p y → Gives next x (a ∷ p) y
  gives_cons {p = p} e g = record { walked = walk_some p e ∙ ap later g.walked }

  -- a plan that gives a set goes through its first command
  pub cons-gives : {x a y : ℕ} {p : List ℕ} → Gives next x (a ∷ p) y → (z : ℕ) × (next x a ≡ some z) × Gives next z p y
  cons-gives {x} {a} {y} {p} g = go (next x a) refl
    where
      go : (o : Option ℕ) → next x a ≡ o → (z : ℕ) × (next x a ≡ some z) × Gives next z p y
      go none h = absurd (blocked_ne_ended (sym (walk_none p h) ∙ g.walked))
      go (some z) h = (z, h, record { walked = later-ended (walk next z p) (sym (walk_some p h) ∙ g.walked) })

  -- a plan gives one set
  pub gives_fun : {x y z : ℕ} {p : List ℕ} → Gives next x p y → Gives next x p z → y ≡ z
  gives_fun g h = ended_inj (sym g.walked ∙ h.walked)

  -- a walk that is blocked is blocked at its first command, or later
  pub blocked-cons : {x a k y : ℕ} (p : List ℕ) → walk next x (a ∷ p) ≡ blocked k y
      → ((next x a ≡ none) × (k ≡ zero) × (y ≡ x)) ⊎ ((z : ℕ) × (j : ℕ) × (next x a ≡ some z) × (k ≡ suc j) × (walk next z p ≡ blocked j y))
  blocked-cons {x} {a} {k} {y} p e = go (next x a) refl
    where
      go : (o : Option ℕ) → next x a ≡ o
          → ((next x a ≡ none) × (k ≡ zero) × (y ≡ x)) ⊎ ((z : ℕ) × (j : ℕ) × (next x a ≡ some z) × (k ≡ suc j) × (walk next z p ≡ blocked j y))
      go none h = let b : blocked k y ≡ blocked zero x = sym e ∙ walk_none p h in inl (h, blocked-index b, blocked-set b)
      go (some z) h = let r = later-blocked (walk next z p) (sym (walk_some p h) ∙ e) in inr (z, r.0, h, r.1, r.2)

  -- a walk that is blocked at index k comes to the set there by the first k commands, and the next command is not sendable
  pub blocked-at : (x k y : ℕ) (p : List ℕ) → walk next x p ≡ blocked k y → (a : ℕ) × At p k a × Gives next x (take k p) y × (next y a ≡ none)
  blocked-at x k y [] e = absurd (blocked_ne_ended (sym e ∙ walk-nil x))
  blocked-at x k y (a ∷ p) e = go (λ z j. blocked-at z j y p) (blocked-cons p e)
    where
      Claim : ℕ → Type 0
      Claim i = (b : ℕ) × At (a ∷ p) i b × Gives next x (take i (a ∷ p)) y × (next y b ≡ none)

      go : ((z j : ℕ) → walk next z p ≡ blocked j y → (b : ℕ) × At p j b × Gives next z (take j p) y × (next y b ≡ none))
          → ((next x a ≡ none) × (k ≡ zero) × (y ≡ x)) ⊎ ((z : ℕ) × (j : ℕ) × (next x a ≡ some z) × (k ≡ suc j) × (walk next z p ≡ blocked j y))
          → Claim k
      go ih (inl (h, q, v)) = subst Claim (sym q)
          (a, at_head a p, subst (λ (u : ℕ). Gives next x [] u) (sym v) (gives_nil x), subst (λ (u : ℕ). next u a ≡ none) (sym v) h)
      go ih (inr (z, j, h, q, g)) =
          let r = ih z j g in
          subst Claim (sym q) (r.0, at_tail a r.1, gives_cons h r.2, r.3)

  -- and the other way round
  pub at-blocked : {x y b : ℕ} (k : ℕ) (p : List ℕ) → At p k b → Gives next x (take k p) y → next y b ≡ none → walk next x p ≡ blocked k y
  at-blocked {b = b} k [] u g e = absurd (none-ne-some b u.held)
  at-blocked {x} {y} {b} zero (a ∷ p) u g e =
      let q : x ≡ y = nil-gives g in
      walk_none p (ap (λ (c : ℕ). next x c) (head_at u) ∙ ap (λ (v : ℕ). next v b) q ∙ e) ∙ ap (blocked zero) q
  at-blocked {x = x} {y = y} {b = b} (suc k) (a ∷ p) u g e = let r = cons-gives g in walk_some p r.1 ∙ ap later (at-blocked {x = r.0} {y = y} {b = b} k p (tail_at u) r.2 e)

  -- ---- two plans in a row

  pub gives-append : {x z y : ℕ} {p q : List ℕ} → Gives next x p z → Gives next z q y → Gives next x (p ++ q) y
  gives-append {y = y} {p = []} {q} e f = subst (λ (v : ℕ). Gives next v q y) (sym (nil-gives e)) f
  gives-append {x = x} {z = z} {y = y} {p = a ∷ p} {q = q} e f =
      let r = cons-gives e in
      gives_cons r.1 (gives-append {x = r.0} {z = z} {y = y} {p = p} {q = q} r.2 f)

  pub append-gives : {x y : ℕ} (p q : List ℕ) → Gives next x (p ++ q) y → (z : ℕ) × Gives next x p z × Gives next z q y
  append-gives {x} [] q g = (x, gives_nil x, g)
  append-gives {x = x} {y = y} (a ∷ p) q g =
      let r = cons-gives g in
      let s = append-gives {x = r.0} {y = y} p q r.2 in
      (s.0, gives_cons r.1 s.1, s.2)

  -- each start of a plan that gives a set gives a set
  pub gives-take : {x y : ℕ} {p : List ℕ} (k : ℕ) → Gives next x p y → (z : ℕ) × Gives next x (take k p) z
  gives-take {x} {y} {p} k g =
      let r = append-gives (take k p) (drop k p) (subst (λ (q : List ℕ). Gives next x q y) (sym (take-append-drop k p)) g) in
      (r.0, r.1)

  -- ---- one command more at the end

  pub gives_snoc : {x z a y : ℕ} {p : List ℕ} → Gives next x p z → next z a ≡ some y → Gives next x (p ++ (a ∷ [])) y
  gives_snoc {y = y} g h = gives-append g (gives_cons h (gives_nil y))

  pub snoc_gives : {x a y : ℕ} (p : List ℕ) → Gives next x (p ++ (a ∷ [])) y → (z : ℕ) × Gives next x p z × (next z a ≡ some y)
  snoc_gives {x} {a} {y} p g =
      let r = append-gives p (a ∷ []) g in
      let s = cons-gives r.2 in
      (r.0, r.1, s.1 ∙ ap {B = Option ℕ} some (nil-gives s.2))
