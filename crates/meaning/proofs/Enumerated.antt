-- The enumeration gives the listing, and what holds of the listing's sets. It ends, since there are fewer than 2 ^ states sets that are not empty.
use mathlib.Core.Path.{◌≡◌, refl, sym, ap, ◌∙◌, subst}
use mathlib.Core.Logic.{◌⊎◌, inl, inr, ⊎_elim, ◌≢◌}
use mathlib.Core.Bool.{Bool, true, false, ◌||◌, cond}
use mathlib.Core.Option.{Option, none, some, none-ne-some, some-injective}
use mathlib.Core.List.{List, [], ◌∷◌, ◌++◌}
use Prim.Native.Nat.{ℕ, zero, suc, ◌+◌, ◌-◌, ◌^◌, ◌≤◌, ◌<◌, zero-le, suc-le-suc}
use native.Mathlib.Nat.{le_of_suc-le-suc, lt_of_not-le}
use native.Mathlib.Omega.{arith}
use lib.Dec.{eqb}
use lib.ListN.{length, get_elem?, take}
use borrow.Author.Tests.{eqb-false, eqb-true}
use Rattle.meaning.specs.Domain.{Domain, WellFormed, Start}
use Rattle.meaning.specs.Walk.{Gives, step}
use Rattle.meaning.specs.Listing.{Entry, At, Lists, then, Prefix, Listing}
use Rattle.meaning.specs.Enumeration.{root, has_set, add, on_entry, tried, expanded, listing}
use Rattle.meaning.specs.Progress.{Reached}
use Rattle.meaning.proofs.Tests.{test}
use Rattle.meaning.proofs.StepLaws.{step_some, image_some, command-lt}
use Rattle.meaning.proofs.WalkLaws.{gives_nil, nil-gives, cons-gives}
use Rattle.meaning.proofs.Places.{at_head, at_tail, tail_at, head_at, lt_at, at-append}
use Rattle.meaning.proofs.Pigeon.{pigeon}
use Rattle.meaning.proofs.ListingLaws.{place_fun, complete_longest, prefix_of}
use Rattle.meaning.proofs.Expansion.{skip, grow, turn, begin, reached-prefix, reached-complete}

-- ---- whether a set is listed

not_in_nil : {y : ℕ} → ¬ Lists [] y
not_in_nil m = none-ne-some m.entry m.at_place.held

pub has_cases : (y : ℕ) (l : List Entry) → ((has_set y l ≡ true) × Lists l y) ⊎ ((has_set y l ≡ false) × ¬ Lists l y)
unfolding has_set
has_cases y [] = inr (refl, not_in_nil)
has_cases y (e ∷ l) = go (test (eqb y e.set)) (has_cases y l)
  where
    go : (eqb y e.set ≡ true) ⊎ (eqb y e.set ≡ false) → ((has_set y l ≡ true) × Lists l y) ⊎ ((has_set y l ≡ false) × ¬ Lists l y)
        → ((has_set y (e ∷ l) ≡ true) × Lists (e ∷ l) y) ⊎ ((has_set y (e ∷ l) ≡ false) × ¬ Lists (e ∷ l) y)
    go (inl q) r = inl (ap (λ (b : Bool). b || has_set y l) q, record { place = zero; entry = e; at_place = at_head e l; its_set = sym (eqb-true y e.set q) })
    go (inr q) (inl (h, m)) = inl (ap (λ (b : Bool). b || has_set y l) q ∙ h, record { place = suc m.place; entry = m.entry; at_place = at_tail e m.at_place; its_set = m.its_set })
    go (inr q) (inr (h, m)) = inr (ap (λ (b : Bool). b || has_set y l) q ∙ h, λ u. nowhere u.place u.entry u.at_place u.its_set)
      where
        nowhere : (k : ℕ) (f : Entry) → At (e ∷ l) k f → ¬ (f.set ≡ y)
        nowhere zero f v c = eqb-false y e.set q (sym c ∙ ap (λ (x : Entry). x.set) (sym (head_at v)))
        nowhere (suc k) f v c = m (record { place = k; entry = f; at_place = tail_at v; its_set = c })

-- ---- the expansion keeps what `Reached` says

module _ (next : ℕ → ℕ → Option ℕ) (init m : ℕ)
    (below : (p : List ℕ) (x b y : ℕ) → Gives next init p x → next x b ≡ some y → b < m) where
  added : {l : List Entry} {i a : ℕ} {e : Entry} → Reached next init l i a → At l i e
      → Reached next init (add l (then e.seq a) (next e.set a)) i (suc a) × At (add l (then e.seq a) (next e.set a)) i e
  unfolding add
  added {l} {i} {a} {e} s u = go (next e.set a) refl
    where
      go : (o : Option ℕ) → next e.set a ≡ o → Reached next init (add l (then e.seq a) o) i (suc a) × At (add l (then e.seq a) o) i e
      go none q = (skip next init s u (λ y h. absurd (none-ne-some y (sym q ∙ h))), u)
      go (some y) q = pick (has_cases y l)
        where
          n : Entry
          n = record { set = y; seq = then e.seq a }

          Claim : Bool → Type 0
          Claim b = Reached next init (cond b l (l ++ (n ∷ []))) i (suc a) × At (cond b l (l ++ (n ∷ []))) i e

          pick : ((has_set y l ≡ true) × Lists l y) ⊎ ((has_set y l ≡ false) × ¬ Lists l y) → Claim (has_set y l)
          pick (inl (h, c)) = subst Claim (sym h)
              (skip next init s u (λ z g. subst (Lists l) (some-injective y z (sym q ∙ g)) c), u)
          pick (inr (h, c)) = subst Claim (sym h) (grow next init s u q c, at-append (n ∷ []) u)

  tried-reached : {l : List Entry} {i : ℕ} {e : Entry} → Reached next init l i zero → At l i e → (a : ℕ)
      → Reached next init (tried next m l e a) i a × At (tried next m l e a) i e
  unfolding tried
  tried-reached s u zero = (s, u)
  tried-reached s u (suc a) = let r = tried-reached s u a in added r.0 r.1

  -- after so many rounds: every place that there is has been expanded, or as many places as there were rounds
  pub record Expanded (l : List Entry) (i rounds : ℕ) : Type 0 where
    pub upto : ℕ
    pub reached : Reached next init l upto zero
    pub enough : (length l ≤ upto) ⊎ (upto ≡ i + rounds)

  pub expanded-reached : (rounds : ℕ) (l : List Entry) (i : ℕ) → Reached next init l i zero → Expanded (expanded next m rounds l i) i rounds
  unfolding expanded
  expanded-reached zero l i s = record { upto = i; reached = s; enough = inr (omega arith) }
  expanded-reached (suc rounds) l i s = go (get_elem? l i) refl (λ e. expanded-reached rounds (tried next m l e m) (suc i))
    where
      go : (o : Option Entry) → get_elem? l i ≡ o
          → ((e : Entry) → Reached next init (tried next m l e m) (suc i) zero → Expanded (expanded next m rounds (tried next m l e m) (suc i)) (suc i) rounds)
          → Expanded (on_entry l o (λ e. expanded next m rounds (tried next m l e m) (suc i))) i (suc rounds)
      go none q ih = record { upto = i; reached = s; enough = inl (past l i q) }
        where
          past : (l : List Entry) (i : ℕ) → get_elem? l i ≡ none → length l ≤ i
          past [] i q = zero-le
          past (f ∷ l) zero q = absurd (none-ne-some f (sym q))
          past (f ∷ l) (suc i) q = suc-le-suc (past l i q)
      go (some e) q ih =
          let r = ih e (turn next init m below (tried-reached s (record { held = q }) m).0) in
          record { upto = r.upto; reached = r.reached; enough = ⊎_elim (λ h. inl h) (λ h. inr (omega (arith, h))) r.enough }

-- ---- how long a start of the listing can be

set_of : Option Entry → ℕ
set_of none = zero
set_of (some e) = e.set

module _ (next : ℕ → ℕ → Option ℕ) (init n : ℕ)
    (bounded : (p : List ℕ) (y : ℕ) → Gives next init p y → (y < n) × (y ≢ 0)) where
  -- fewer than n: no set is empty, and none stands twice
  pub prefix-length : {l : List Entry} → Prefix next init l → length l < n
  unfolding set_of
  prefix-length {l} s = room (pigeon (n - 1) (length l) f small once)
    where
      f : ℕ → ℕ
      f k = set_of (get_elem? l k) - 1

      value : (k : ℕ) → k < length l → (e : Entry) × At l k e × (set_of (get_elem? l k) ≡ e.set) × (e.set < n) × (e.set ≢ 0)
      value k h =
          let r = lt_at l k h in
          let b = bounded r.0.seq r.0.set (s.first r.1).gives in
          (r.0, r.1, ap set_of r.1.held, b.0, b.1)

      small : (k : ℕ) → k < length l → f k < n - 1
      small k h = let v = value k h in omega (arith, v.2, v.3, v.4)

      once : (j k : ℕ) → j < length l → k < length l → f j ≡ f k → j ≡ k
      once j k h g q =
          let v = value j h in
          let w = value k g in
          place_fun next init s v.1 w.1 (omega (arith, v.2, v.4, w.2, w.4, q))

      room : length l ≤ n - 1 → length l < n
      room h = omega (arith, h, (bounded [] init (gives_nil next init)).0)

-- ---- the listing of a domain

-- every set that a plan gives is a set of states that exist, and is not empty
pub gives-start : (D : Domain) → WellFormed D → {x y : ℕ} {p : List ℕ} → Start D x → Gives (step D) x p y → Start D y
gives-start D ok {p = []} st g = subst (Start D) (nil-gives (step D) g) st
gives-start D ok {x = x} {y = y} {p = a ∷ p} st g =
    let r = cons-gives (step D) g in
    gives-start D ok {x = r.0} {y = y} {p = p} (image_some D ok st (step_some D ok st.within r.1)) r.2

module _ (D : Domain) (ok : WellFormed D) (init : ℕ) (st : Start D init) where
  pub below : (p : List ℕ) (x b y : ℕ) → Gives (step D) init p x → step D x b ≡ some y → b < D.commands
  below p x b y g h = let s = gives-start D ok st g in command-lt D ok s (step_some D ok s.within h)

  bounded : (p : List ℕ) (y : ℕ) → Gives (step D) init p y → (y < 2 ^ D.states) × (y ≢ 0)
  bounded p y g = let s = gives-start D ok st g in (s.within, s.some_state)

  -- a start of the listing has fewer than 2 ^ states sets
  pub domain-length : {l : List Entry} → Prefix (step D) init l → length l < 2 ^ D.states
  domain-length s = prefix-length (step D) init (2 ^ D.states) bounded s

  -- the computed list is the listing
  pub listing_correct : Listing (step D) init (listing D init)
  unfolding listing
  listing_correct =
      let r = expanded-reached (step D) init D.commands below (2 ^ D.states) (root init ∷ []) zero (begin (step D) init) in
      let s = reached-prefix (step D) init r.reached in
      let n : length (listing D init) ≤ r.upto = ⊎_elim (λ h. h) (λ h. omega (arith, h, domain-length s)) r.enough in
      record { prefix = s; complete = reached-complete (step D) init r.reached n }

  -- any start of the listing is the first places of the computed list
  pub prefix_is : {l : List Entry} → Prefix (step D) init l → l ≡ take (length l) (listing D init)
  prefix_is {l} s = prefix_of (step D) init s listing_correct.prefix (le_of_suc-le-suc (lt_of_not-le (λ h. complete_longest (step D) init listing_correct.prefix listing_correct.complete s h)))
