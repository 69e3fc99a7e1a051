-- The records of the store: each place of the listing has one, and only one. A sequence is taken apart by its last command, and its parent is the
-- place of what is left.
use mathlib.Core.Path.{◌≡◌, refl, sym, ap, ◌∙◌, subst}
use mathlib.Core.Logic.{◌⊎◌, inl, inr, ◌≢◌}
use mathlib.Core.Bool.{Bool, true, false, ◌&&◌, cond, true≢false}
use mathlib.Core.Option.{Option, none-ne-some}
use mathlib.Core.List.{List, [], ◌∷◌, head-eq_of_cons-eq, tail-eq_of_cons-eq}
use Prim.Native.Nat.{ℕ, zero, suc, ◌≤◌, ◌<◌, zero-le}
use native.Mathlib.Nat.{lt_of_le_of_lt}
use native.Mathlib.Omega.{arith}
use lib.Dec.{T, eqb}
use lib.ListN.{length, take, length-map}
use lib.Seq.{length-take-le}
use borrow.Author.Tests.{eq-eqb, eqb-true}
use Rattle.meaning.specs.Order.{Before}
use Rattle.meaning.specs.Listing.{Entry, At, then, Prefix, Node, Link, initial, later, Holds, Stores}
use Rattle.meaning.specs.Computed.{by_last, same_seq, place_of, node_of, nodes}
use Rattle.meaning.proofs.Tests.{test}
use Rattle.meaning.proofs.OrderLaws.{before-then_self, length-then, then_ind}
use Rattle.meaning.proofs.Places.{at_head, at_tail, head_at, tail_at, at_lt, lt_at, at_fun, at_take, at_ext, map_at, place-lt, place_of-seq}
use Rattle.meaning.proofs.ListingLaws.{place-zero, parent}

-- ---- one command more at the end: the parts are known

pub then_not_nil : (p : List ℕ) (a : ℕ) → ¬ (then p a ≡ [])
then_not_nil p a e = omega (arith, length-then p a, ap length e)

pub then_inj : (p q : List ℕ) (a b : ℕ) → then p a ≡ then q b → (p ≡ q) × (a ≡ b)
then_inj [] [] a b e = (refl, head-eq_of_cons-eq e)
then_inj [] (d ∷ q) a b e = absurd (then_not_nil q b (sym (tail-eq_of_cons-eq e)))
then_inj (c ∷ p) [] a b e = absurd (then_not_nil p a (tail-eq_of_cons-eq e))
then_inj (c ∷ p) (d ∷ q) a b e = let r = then_inj p q a b (tail-eq_of_cons-eq e) in (λ i. head-eq_of_cons-eq e i ∷ r.0 i, r.1)

by-last-then {ℓ} : {A : Type ℓ} (p : List ℕ) (a : ℕ) (z : A) (w : List ℕ → ℕ → A) → by_last (then p a) z w ≡ w p a
unfolding by_last
by-last-then [] a z w = refl
by-last-then (c ∷ p) a z w = by-last-then p a (w [] c) (λ q b. w (c ∷ q) b)

by-last-nil {ℓ} : {A : Type ℓ} (z : A) (w : List ℕ → ℕ → A) → by_last [] z w ≡ z
unfolding by_last
by-last-nil z w = refl

-- ---- the place of a sequence, by a test

same_refl : (p : List ℕ) → same_seq p p ≡ true
unfolding same_seq
same_refl [] = refl
same_refl (a ∷ p) = ap (λ (b : Bool). b && same_seq p p) (eq-eqb a a refl) ∙ same_refl p

same_eq : (p q : List ℕ) → same_seq p q ≡ true → p ≡ q
unfolding same_seq
same_eq [] [] e = refl
same_eq [] (b ∷ q) e = absurd (subst T (sym e) tt)
same_eq (a ∷ p) [] e = absurd (subst T (sym e) tt)
same_eq (a ∷ p) (b ∷ q) e = go (same_eq p q) (test (eqb a b))
  where
    go : (same_seq p q ≡ true → p ≡ q) → (eqb a b ≡ true) ⊎ (eqb a b ≡ false) → a ∷ p ≡ b ∷ q
    go ih (inl h) = λ i. eqb-true a b h i ∷ ih (sym (ap (λ (c : Bool). c && same_seq p q) h) ∙ e) i
    go ih (inr h) = absurd (subst T (sym e ∙ ap (λ (c : Bool). c && same_seq p q) h) tt)

-- where a sequence is listed, `place_of` gives a place of it
place_of-at : (p : List ℕ) (l : List Entry) {k : ℕ} {e : Entry} → At l k e → e.seq ≡ p → (f : Entry) × At l (place_of p l) f × (f.seq ≡ p)
unfolding place_of
place_of-at p [] {e = e} u q = absurd (none-ne-some e u.held)
place_of-at p (x ∷ l) {k} {e} u q = go k u (λ j v. place_of-at p l v q) (test (same_seq p x.seq))
  where
    Claim : ℕ → Type 0
    Claim n = (f : Entry) × At (x ∷ l) n f × (f.seq ≡ p)

    value : {c : Bool} → same_seq p x.seq ≡ c → place_of p (x ∷ l) ≡ cond c zero (suc (place_of p l))
    value h = ap (λ (c : Bool). cond c zero (suc (place_of p l))) h

    go : (k : ℕ) → At (x ∷ l) k e → ((j : ℕ) → At l j e → (f : Entry) × At l (place_of p l) f × (f.seq ≡ p))
        → (same_seq p x.seq ≡ true) ⊎ (same_seq p x.seq ≡ false) → Claim (place_of p (x ∷ l))
    go k v ih (inl h) = subst Claim (sym (value h)) (x, at_head x l, sym (same_eq p x.seq h))
    go zero v ih (inr h) = absurd (true≢false (sym (same_refl p) ∙ ap (same_seq p) (sym q ∙ ap (λ (y : Entry). y.seq) (sym (head_at v))) ∙ h))
    go (suc k) v ih (inr h) = let r = ih k (tail_at v) in subst Claim (sym (value h)) (r.0, at_tail x r.1, r.2)

-- ---- records

module _ (next : ℕ → ℕ → Option ℕ) (init : ℕ) {l : List Entry} (s : Prefix next init l) where
  not_initial : {e : Entry} (p : List ℕ) (a : ℕ) → At l zero e → ¬ (e.seq ≡ then p a)
  not_initial p a u q = then_not_nil p a (sym q ∙ ap (λ (x : Entry). x.seq) (place-zero next init s u))

  -- a place holds one record
  pub holds_fun : {k : ℕ} {n m : Node} → Holds l k n → Holds l k m → n ≡ m
  holds_fun {k} {n} {m} a b = go a.link b.link
    where
      same : a.entry ≡ b.entry
      same = at_fun a.at_place b.at_place

      sets : n.set ≡ m.set
      sets = a.its_set ∙ ap (λ (x : Entry). x.set) same ∙ sym b.its_set

      go : Link l k a.entry n → Link l k b.entry m → n ≡ m
      go (initial u v w) (initial u' v' w') = λ i. record { set = sets i; parent = (v ∙ sym v') i; command = (w ∙ sym w') i }
      go (initial u v w) (later {f} h q) = absurd (not_initial f.seq m.command (subst (λ (x : ℕ). At l x b.entry) u b.at_place) q)
      go (later {f} h q) (initial u v w) = absurd (not_initial f.seq n.command (subst (λ (x : ℕ). At l x a.entry) u a.at_place) q)
      go (later {f} h q) (later {f = f'} h' q') =
          let r = then_inj f.seq f'.seq n.command m.command (sym q ∙ ap (λ (x : Entry). x.seq) same ∙ q') in
          let parents : n.parent ≡ m.parent = omega (arith, place_of-seq s.sorted h h' r.0) in
          λ i. record { set = sets i; parent = parents i; command = r.1 i }

  -- a parent stands at an earlier place
  pub parent-lt : {k : ℕ} {n : Node} → Holds l k n → k ≢ 0 → n.parent < k
  parent-lt {k} {n} a ne = go a.link
    where
      go : Link l k a.entry n → n.parent < k
      go (initial u v w) = absurd (ne u)
      go (later {f} h q) = omega (arith, place-lt s.sorted h a.at_place (subst (λ (p : List ℕ). Before f.seq p) (sym q) (before-then_self f.seq n.command)))

  -- every place has its record, and it is the computed one
  pub node-holds : {k : ℕ} {e : Entry} → At l k e → Holds l k (node_of l e)
  unfolding node_of
  node-holds {k} {e} u = go e.seq refl
    where
      zero-place : e.seq ≡ [] → k ≡ 0
      zero-place q =
          let z = lt_at l zero (lt_of_le_of_lt zero-le (at_lt u)) in
          place_of-seq s.sorted u z.1 (q ∙ sym (ap (λ (x : Entry). x.seq) (place-zero next init s z.1)))

      base : Node
      base = record { set = e.set; parent = 0; command = 255 }

      node : List ℕ → ℕ → Node
      node p a = record { set = e.set; parent = place_of p l; command = a }

      more : (p : List ℕ) (a : ℕ) → e.seq ≡ then p a → Holds l k (node p a)
      more p a q =
          let r = parent next init s p u q in
          let m = place_of-at p l r.3 refl in
          record { entry = e; at_place = u; its_set = refl; link = later m.1 (q ∙ ap (λ (x : List ℕ). then x a) (sym m.2)) }

      go : (p : List ℕ) → e.seq ≡ p → Holds l k (by_last e.seq base node)
      go = then_ind (λ p. e.seq ≡ p → Holds l k (by_last e.seq base node))
          (λ q. subst (Holds l k) (sym (ap (λ (x : List ℕ). by_last x base node) q ∙ by-last-nil base node))
          (record { entry = e; at_place = u; its_set = refl; link = initial (zero-place q) refl refl }))
          (λ p a ih q. subst (Holds l k) (sym (ap (λ (x : List ℕ). by_last x base node) q ∙ by-last-then p a base node)) (more p a q))

  -- ---- the store's first places

  pub nodes-stored : (c : ℕ) → c ≤ length l → Stores l c (nodes l c)
  unfolding nodes
  nodes-stored c h = record {
    as_many = length-map (take c l) (node_of l) ∙ length-take-le c l h;
    holds = λ {k} {n} u. (let r = map_at (take c l) (node_of l) u in subst (Holds l k) r.2 (node-holds (at_take c r.1)));
  }

  pub stores_unique : {c : ℕ} {m n : List Node} → Stores l c m → Stores l c n → m ≡ n
  stores_unique {m = m} {n} a b = at_ext m n (a.as_many ∙ sym b.as_many) (λ k x y u v. holds_fun (a.holds u) (b.holds v))
