-- Laws of the listing: its first sequences, its parents, and that there is one. Two starts of it agree at each place, since neither leaves out a set
-- that comes before one of its own.
use mathlib.Core.Path.{◌≡◌, refl, sym, ap, ◌∙◌, subst}
use mathlib.Core.Logic.{◌⊎◌, inl, inr}
use mathlib.Core.Option.{Option, some}
use mathlib.Core.List.{List, [], ◌∷◌, ◌++◌, append_assoc, append-nil}
use Prim.Native.Nat.{ℕ, zero, suc, ◌≤◌, ◌<◌, zero-le, suc-le-suc}
use native.Mathlib.Nat.{not-suc-le-zero, lt_trans, le_refl, lt_irrefl, lt_of_lt_of_le, lt_of_le_of_lt, eq-or-lt_of_le, le_of_suc-le-suc, le_trans, le_of_eq, min-le_left}
use native.Mathlib.Omega.{arith}
use lib.ListN.{length, take, length-take}
use lib.Seq.{length-take-le, take_all}
use Rattle.meaning.specs.Walk.{Gives}
use Rattle.meaning.specs.Order.{Before}
use Rattle.meaning.specs.Listing.{Entry, At, then, First, Prefix, Complete, Listing, FirstOf}
use Rattle.meaning.specs.Enumeration.{root}
use Rattle.meaning.proofs.OrderLaws.{length-then, before_irrefl, before_total, before-then, before-then_self, not_before_nil, nil-before-then, compare3, then_ind}
use Rattle.meaning.proofs.WalkLaws.{gives_nil, nil-gives, gives_fun, gives_snoc, snoc_gives}
use Rattle.meaning.proofs.Places.{at_lt, take-lt, lt_at, at_take, take_at, at_ext, place-lt, place_of-seq}

module _ (next : ℕ → ℕ → Option ℕ) (init : ℕ) where
  -- ---- first sequences

  -- a set has one first sequence
  pub first_fun : {p q : List ℕ} {y : ℕ} → First next init p y → First next init q y → p ≡ q
  first_fun {p} {q} f g = go (before_total p q)
    where
      go : Before p q ⊎ ((p ≡ q) ⊎ Before q p) → p ≡ q
      go (inl h) = absurd (g.least f.gives h)
      go (inr (inl e)) = e
      go (inr (inr h)) = absurd (f.least g.gives h)

  -- the empty sequence is the initial set's first
  pub first-nil : First next init [] init
  first-nil = record { gives = gives_nil next init; least = λ g. not_before_nil }

  -- a first sequence without its last command is the first sequence of its own set
  pub first_then : {a y : ℕ} (p : List ℕ) → First next init (then p a) y → (z : ℕ) × First next init p z × (next z a ≡ some y)
  first_then {a} {y} p f =
      let r = snoc_gives next p f.gives in
      (r.0, record { gives = r.1; least = λ g h. f.least (gives_snoc next g r.2) (before-then a a h) }, r.2)

  -- so each start of a first sequence is the first sequence of its own set
  pub first-start : (p q : List ℕ) {y : ℕ} → First next init (p ++ q) y → (z : ℕ) × First next init p z × Gives next z q y
  first-start p q {y} f = then_ind Claim base more q y f
    where
      Claim : List ℕ → Type 0
      Claim q = (y : ℕ) → First next init (p ++ q) y → (z : ℕ) × First next init p z × Gives next z q y

      base : Claim []
      base y f = (y, subst (λ (u : List ℕ). First next init u y) (append-nil p) f, gives_nil next y)

      more : (q : List ℕ) (a : ℕ) → Claim q → Claim (then q a)
      more q a ih y f =
          let r = first_then (p ++ q) (subst (λ (u : List ℕ). First next init u y) (sym (append_assoc p q (a ∷ []))) f) in
          let m = ih r.0 r.1 in
          (m.0, m.1, gives_snoc next m.2 r.2)

  -- ---- in a start of the listing

  module _ {l : List Entry} (s : Prefix next init l) where
    -- a set stands at one place
    pub place_fun : {j k : ℕ} {e f : Entry} → At l j e → At l k f → e.set ≡ f.set → j ≡ k
    place_fun {e = e} {f} a b q = place_of-seq s.sorted a b (first_fun (subst (λ (y : ℕ). First next init e.seq y) q (s.first a)) (s.first b))

    -- a set whose first sequence comes before an entry's stands at an earlier place, with that sequence
    pub earlier : {k : ℕ} {e : Entry} {p : List ℕ} {y : ℕ} → At l k e → First next init p y → Before p e.seq
        → (j : ℕ) × (j < k) × At l j (record { set = y; seq = p })
    earlier {k} {e} {p} {y} a f h =
        let q = s.no_gap a f h in
        let same : q.entry.seq ≡ p = first_fun (subst (λ (z : ℕ). First next init q.entry.seq z) q.its_set (s.first q.at_place)) f in
        let at : At l q.place (record { set = y; seq = p }) = subst (λ (g : Entry). At l q.place g) (λ i. record { set = q.its_set i; seq = same i }) q.at_place in
        (q.place, place-lt s.sorted at a h, at)

    -- the parent: the entry whose sequence lacks the last command stands at an earlier place
    pub parent : {k a : ℕ} {e : Entry} (p : List ℕ) → At l k e → e.seq ≡ then p a
        → (j : ℕ) × (z : ℕ) × (j < k) × At l j (record { set = z; seq = p }) × (next z a ≡ some e.set)
    parent {k} {a} {e} p at q =
        let r = first_then p (subst (λ (u : List ℕ). First next init u e.set) q (s.first at)) in
        let m = earlier at r.1 (subst (λ (u : List ℕ). Before p u) (sym q) (before-then_self p a)) in
        (m.0, r.0, m.1, m.2, r.2)

    -- a sequence is no longer than its place: a plan is shorter than the count
    pub seq-length : {k : ℕ} {e : Entry} → At l k e → length e.seq ≤ k
    seq-length {k} {e} a = then_ind (λ p. (k : ℕ) (e : Entry) → At l k e → e.seq ≡ p → length e.seq ≤ k)
        (λ k e a q. le_trans (le_of_eq (ap length q)) zero-le)
        (λ p b ih k e a q.
        let r = parent p a q in
        le_trans (le_of_eq (ap length q ∙ length-then p b)) (le_trans (suc-le-suc (ih r.0 _ r.3 refl)) r.2))
        e.seq k e a refl

    -- the initial set stands at place 0
    pub place-zero : {e : Entry} → At l zero e → e ≡ root init
    place-zero {e} a = go e.seq refl
      where
        go : (p : List ℕ) → e.seq ≡ p → e ≡ root init
        go = then_ind (λ p. e.seq ≡ p → e ≡ root init)
            (λ q. λ i. record {
              set = sym (nil-gives next (subst (λ (u : List ℕ). Gives next init u e.set) q (s.first a).gives)) i;
              seq = q i;
            })
            (λ p b ih q. absurd (not-suc-le-zero (earlier a first-nil (subst (λ (u : List ℕ). Before [] u) (sym q) (nil-before-then p b))).1))

    -- the first c places of a start are a start
    pub prefix-take : (c : ℕ) → Prefix next init (take c l)
    prefix-take c = record {
      first = λ a. s.first (at_take c a);
      sorted = record { before = λ a b h. s.sorted.before (at_take c a) (at_take c b) h };
      no_gap = λ a f h. (let r = earlier (at_take c a) f h in
          record { place = r.0; entry = _; at_place = take_at (lt_trans r.1 (take-lt l c a)) r.2; its_set = refl });
    }

  -- place 0 of every listing is there: it is the initial set, with the empty sequence
  pub first-place_is_start : {l : List Entry} → Listing next init l → At l 0 (record { set = init; seq = [] })
  first-place_is_start {l} s =
      let z = lt_at l zero (lt_of_le_of_lt zero-le (at_lt (s.complete.lists first-nil.gives).at_place)) in
      subst (λ (e : Entry). At l zero e) (place-zero s.prefix z.1) z.1

  -- ---- there is one listing

  -- the entries below place k agree
  abbrev Same : List Entry → List Entry → ℕ → Type 0
  Same l r k = (j : ℕ) (e f : Entry) → j < k → At l j e → At r j f → e ≡ f

  -- then the entry of r at place k comes no later than that of l
  no_later : {l r : List Entry} → Prefix next init l → Prefix next init r → (k : ℕ) → Same l r k → {e f : Entry} → At l k e → At r k f → ¬ Before e.seq f.seq
  no_later {l} {r} s t k ih {e} {f} a b h =
      let m = earlier t b (s.first a) h in
      let o = lt_at l m.0 (lt_trans m.1 (at_lt a)) in
      let same : o.0 ≡ e = ih m.0 o.0 e m.1 o.1 m.2 in
      before_irrefl (subst (λ (g : Entry). Before g.seq e.seq) same (s.sorted.before o.1 a m.1))

  same_at : {l r : List Entry} → Prefix next init l → Prefix next init r → (k : ℕ) → Same l r k → {e f : Entry} → At l k e → At r k f → e ≡ f
  same_at {l} {r} s t k ih {e} {f} a b = go (before_total e.seq f.seq)
    where
      go : Before e.seq f.seq ⊎ ((e.seq ≡ f.seq) ⊎ Before f.seq e.seq) → e ≡ f
      go (inl h) = absurd (no_later s t k ih a b h)
      go (inr (inr h)) = absurd (no_later t s k (λ j u v c x y. sym (ih j v u c y x)) b a h)
      go (inr (inl q)) =
          let set_same : e.set ≡ f.set = gives_fun next (subst (λ (p : List ℕ). Gives next init p e.set) q (s.first a).gives) (t.first b).gives in
          λ i. record { set = set_same i; seq = q i }

  -- two starts of the listing agree as far as both go
  pub same_below : {l r : List Entry} → Prefix next init l → Prefix next init r → (k : ℕ) → Same l r k
  same_below s t zero j e f h a b = absurd (not-suc-le-zero h)
  same_below {l} {r} s t (suc k) j e f h a b = go (eq-or-lt_of_le (le_of_suc-le-suc h)) (same_below s t k)
    where
      go : (j ≡ k) ⊎ (j < k) → Same l r k → e ≡ f
      go (inl q) ih = same_at s t k ih (subst (λ (n : ℕ). At l n e) q a) (subst (λ (n : ℕ). At r n f) q b)
      go (inr i) ih = ih j e f i a b

  -- a start of the listing is known by its length
  pub prefix_equal : {l r : List Entry} → Prefix next init l → Prefix next init r → length l ≡ length r → l ≡ r
  prefix_equal {l} {r} s t n = at_ext l r n (λ k e f a b. same_below s t (suc k) k e f (le_refl (suc k)) a b)

  -- a start is the first places of any longer one
  pub prefix_of : {l r : List Entry} → Prefix next init l → Prefix next init r → length l ≤ length r → l ≡ take (length l) r
  prefix_of {l} {r} s t h = prefix_equal s (prefix-take t (length l)) (sym (length-take-le (length l) r h))

  -- a start that leaves no set out is as long as any other
  pub complete_longest : {l r : List Entry} → Prefix next init l → Complete next init l → Prefix next init r → ¬ (length l < length r)
  complete_longest {l} {r} s c t h =
      let f = lt_at r (length l) h in
      let q = c.lists (t.first f.1).gives in
      let m = at_lt q.at_place in
      let g = lt_at r q.place (lt_trans m h) in
      let same : q.entry ≡ g.0 = same_below s t (length l) q.place q.entry g.0 m q.at_place g.1 in
      let twice : q.place ≡ length l = place_fun t g.1 f.1 (ap (λ (e : Entry). e.set) (sym same) ∙ q.its_set) in
      lt_irrefl (length l) (subst (λ (n : ℕ). n < length l) twice m)

  -- two starts of which the shorter leaves no set out are one
  same_start : {l r : List Entry} → Prefix next init l → Prefix next init r
      → (length l < length r → Complete next init l) → (length r < length l → Complete next init r) → l ≡ r
  same_start {l} {r} s t u v = prefix_equal s t (go (compare3 (length l) (length r)))
    where
      go : (length l < length r) ⊎ ((length l ≡ length r) ⊎ (length r < length l)) → length l ≡ length r
      go (inl h) = absurd (complete_longest s (u h) t h)
      go (inr (inl q)) = q
      go (inr (inr h)) = absurd (complete_longest t (v h) s h)

  -- the first c of the listing are one list
  pub first_of_unique : {c : ℕ} {l r : List Entry} → FirstOf next init c l → FirstOf next init c r → l ≡ r
  first_of_unique s t = same_start s.prefix t.prefix (λ h. s.or_all (lt_of_lt_of_le h t.at_most)) (λ h. t.or_all (lt_of_lt_of_le h s.at_most))

  -- there is one listing
  pub listing_unique : {l r : List Entry} → Listing next init l → Listing next init r → l ≡ r
  listing_unique s t = same_start s.prefix t.prefix (λ h. s.complete) (λ h. t.complete)

  -- the first c of a listing
  pub listing-first_of : {l : List Entry} → Listing next init l → (c : ℕ) → FirstOf next init c (take c l)
  listing-first_of {l} s c = record {
    prefix = prefix-take s.prefix c;
    at_most = le_trans (le_of_eq (length-take c l)) (min-le_left c (length l));
    or_all = λ h. subst (Complete next init) (sym (take_all c l (go h))) s.complete;
  }
    where
      go : length (take c l) < c → length l ≤ c
      go h = omega (arith, h, length-take c l)
