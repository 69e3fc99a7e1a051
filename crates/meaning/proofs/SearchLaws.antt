-- The search's answer for a list: every list, goal, room and plan buffer is in one of four cases, so the statement is met by the computed function
-- and by nothing else.
use mathlib.Core.Path.{◌≡◌, refl, sym, ap, ◌∙◌, subst}
use mathlib.Core.Logic.{◌⊎◌, inl, inr, ⊎_elim}
use mathlib.Core.Bool.{Bool, cond}
use mathlib.Core.Option.{none-ne-some}
use mathlib.Core.List.{List, [], ◌∷◌}
use Prim.Native.Nat.{ℕ, zero, suc, ◌+◌, ◌≤◌, ◌<◌, zero-le, suc-le-suc}
use native.Mathlib.Nat.{add-zero, add-suc, suc-add, zero-add, not-suc-le-zero, le_of_suc-le-suc, lt_of_lt_of_le, lt_of_not-le, lt_irrefl, le_refl, le_trans}
use native.Mathlib.Decide.{dec_le, dec_lt}
use native.Mathlib.Omega.{arith}
use lib.Dec.{leb}
use lib.ListN.{length, take}
use lib.Seq.{take_all}
use borrow.Author.Tests.{le-leb, lt-leb}
use Rattle.meaning.specs.Sets.{◌⊆◌}
use Rattle.meaning.specs.Listing.{Entry, At}
use Rattle.meaning.specs.Answers.{Searched, found, long_plan, none_of, out_of_room, FirstInside, NoneInside, Answers}
use Rattle.meaning.specs.Computed.{is_inside, first_inside, planned, answer}
use Rattle.meaning.proofs.Tests.{inside_test, outside_test, inside_dec}
use Rattle.meaning.proofs.OrderLaws.{compare3}
use Rattle.meaning.proofs.Places.{at_head, at_tail, head_at, tail_at, at_lt, at_take, take_at, take-lt}

module _ (g : ℕ) where
  -- ---- the first set inside the goal

  pub first-place : {l : List Entry} {j k : ℕ} {e f : Entry} → FirstInside g l j e → FirstInside g l k f → j ≡ k
  first-place {j = j} {k} {e} {f} a b = go (compare3 j k)
    where
      go : (j < k) ⊎ ((j ≡ k) ⊎ (k < j)) → j ≡ k
      go (inl h) = absurd (b.none_before j e h a.at_place a.inside)
      go (inr (inl h)) = h
      go (inr (inr h)) = absurd (a.none_before k f h b.at_place b.inside)

  pub inside_cases : (l : List Entry) → ((k : ℕ) × (e : Entry) × FirstInside g l k e) ⊎ NoneInside g l
  inside_cases [] = inr (λ k e u. absurd (none-ne-some e u.held))
  inside_cases (x ∷ l) = go (inside_dec x.set g) (inside_cases l)
    where
      go : (x.set ⊆ g) ⊎ (¬ (x.set ⊆ g)) → ((k : ℕ) × (e : Entry) × FirstInside g l k e) ⊎ NoneInside g l
          → ((k : ℕ) × (e : Entry) × FirstInside g (x ∷ l) k e) ⊎ NoneInside g (x ∷ l)
      go (inl i) r = inl (zero, x, record { at_place = at_head x l; inside = i; none_before = λ j f h. absurd (not-suc-le-zero h) })
      go (inr h) (inl (k, e, a)) = inl (suc k, e, record { at_place = at_tail x a.at_place; inside = a.inside; none_before = before })
        where
          before : (j : ℕ) (f : Entry) → j < suc k → At (x ∷ l) j f → ¬ (f.set ⊆ g)
          before zero f b u = subst (λ (y : Entry). ¬ (y.set ⊆ g)) (head_at u) h
          before (suc j) f b u = a.none_before j f (le_of_suc-le-suc b) (tail_at u)
      go (inr h) (inr n) = inr each
        where
          each : NoneInside g (x ∷ l)
          each zero e u = subst (λ (y : Entry). ¬ (y.set ⊆ g)) (head_at u) h
          each (suc k) e u = n k e (tail_at u)

  -- ---- the computed scan

  scan_first : (l : List Entry) (k₀ k : ℕ) {e : Entry} (w : ℕ → Entry → Searched) (o : Searched) → FirstInside g l k e → first_inside g k₀ l w o ≡ w (k₀ + k) e
  unfolding first_inside
  scan_first [] k₀ k {e} w o a = absurd (none-ne-some e a.at_place.held)
  scan_first (x ∷ l) k₀ zero {e} w o a =
      ap (λ (b : Bool). cond b (w k₀ x) (first_inside g (suc k₀) l w o)) (ap (λ (y : Entry). is_inside y.set g) (head_at a.at_place) ∙ inside_test e.set g a.inside)
      ∙ ap (w k₀) (head_at a.at_place) ∙ ap (λ (n : ℕ). w n e) (sym (add-zero k₀))
  scan_first (x ∷ l) k₀ (suc k) {e} w o a =
      ap (λ (b : Bool). cond b (w k₀ x) (first_inside g (suc k₀) l w o)) (outside_test x.set g (a.none_before zero x (suc-le-suc zero-le) (at_head x l)))
      ∙ scan_first l (suc k₀) k w o (record { at_place = tail_at a.at_place; inside = a.inside; none_before = λ j f h u. a.none_before (suc j) f (suc-le-suc h) (at_tail x u) })
      ∙ ap (λ (n : ℕ). w n e) (suc-add k₀ k ∙ sym (add-suc k₀ k))

  scan_none : (l : List Entry) (k₀ : ℕ) (w : ℕ → Entry → Searched) (o : Searched) → NoneInside g l → first_inside g k₀ l w o ≡ o
  unfolding first_inside
  scan_none [] k₀ w o n = refl
  scan_none (x ∷ l) k₀ w o n =
      ap (λ (b : Bool). cond b (w k₀ x) (first_inside g (suc k₀) l w o)) (outside_test x.set g (n zero x (at_head x l)))
      ∙ scan_none l (suc k₀) w o (λ k e u. n (suc k) e (at_tail x u))

  -- ---- in the first c places

  first-take : {l : List Entry} {k c : ℕ} {e : Entry} → k < c → FirstInside g l k e → FirstInside g (take c l) k e
  first-take {c = c} h a = record {
    at_place = take_at h a.at_place;
    inside = a.inside;
    none_before = λ j f b u. a.none_before j f b (at_take c u);
  }

  pub none-take : (l : List Entry) (c : ℕ) → ((k : ℕ) (e : Entry) → FirstInside g l k e → c ≤ k) → NoneInside g (take c l)
  none-take l c h k e u i = go (inside_cases l)
    where
      go : ((k : ℕ) × (e : Entry) × FirstInside g l k e) ⊎ NoneInside g l → ⊥
      go (inr n) = n k e (at_take c u) i
      go (inl (j, f, a)) = ⊎_elim
          (λ (b : k < j). a.none_before k e b (at_take c u) i)
          (λ b. ⊎_elim (λ (q : k ≡ j). omega (arith, h j f a, take-lt l c u, q)) (λ (q : j < k). omega (arith, h j f a, take-lt l c u, q)) b)
          (compare3 k j)

  module _ (l : List Entry) (c b : ℕ) where
    -- ---- the four cases

    -- an answer with the case that it is given in
    pub data Answered (r : Searched) : Type 0 where
      plan : {k : ℕ} {e : Entry} → FirstInside g l k e → k < c → length e.seq ≤ b → r ≡ found k e.seq → Answered r
      too_long : {k : ℕ} {e : Entry} → FirstInside g l k e → k < c → b < length e.seq → r ≡ long_plan k e.seq → Answered r
      no_plan : NoneInside g l → length l ≤ c → r ≡ none_of (length l) → Answered r
      no_room : ((k : ℕ) (e : Entry) → FirstInside g l k e → c ≤ k) → c < length l → r ≡ out_of_room c → Answered r

    -- every answer that the statement permits has one
    pub answered : {r : Searched} → Answers l g c b r → Answered r
    answered {r} u = go (inside_cases l)
      where
        fits : {k : ℕ} {e : Entry} → FirstInside g l k e → k < c → Dec (length e.seq ≤ b) → Answered r
        fits a h (yes q) = plan a h q (u.plan a h q)
        fits a h (no q) = let q' = lt_of_not-le q in too_long a h q' (u.too_long a h q')

        full : ((k : ℕ) (e : Entry) → FirstInside g l k e → c ≤ k) → c < length l → Answered r
        full p h = no_room p h (u.otherwise p (λ n. h))

        placed : {k : ℕ} {e : Entry} → FirstInside g l k e → Dec (k < c) → Answered r
        placed {e = e} a (yes h) = fits a h (dec_le (length e.seq) b)
        placed {k} {e} a (no h) = full (λ j f i. omega (arith, first-place a i, h)) (omega (arith, at_lt a.at_place, h))

        whole : NoneInside g l → Dec (length l ≤ c) → Answered r
        whole n (yes h) = no_plan n h (u.no_plan n h)
        whole n (no h) = full (λ k e a. absurd (n k e a.at_place a.inside)) (lt_of_not-le h)

        go : ((k : ℕ) × (e : Entry) × FirstInside g l k e) ⊎ NoneInside g l → Answered r
        go (inl (k, e, a)) = placed a (dec_lt k c)
        go (inr n) = whole n (dec_le (length l) c)

    -- so two of them are equal
    pub answers_unique : {r s : Searched} → Answers l g c b r → Answers l g c b s → r ≡ s
    answers_unique {r} {s} u v = go (answered u)
      where
        go : Answered r → r ≡ s
        go (plan a h q e) = e ∙ sym (v.plan a h q)
        go (too_long a h q e) = e ∙ sym (v.too_long a h q)
        go (no_plan n h e) = e ∙ sym (v.no_plan n h)
        go (no_room p h e) = e ∙ sym (v.otherwise p (λ n. h))

    -- the count is within the room, and within the listing
    pub count_fits : {r : Searched} → Answers l g c b r → (r.count ≤ c) × (r.count ≤ length l)
    count_fits {r} u = go (answered u)
      where
        Fits : Searched → Type 0
        Fits s = (s.count ≤ c) × (s.count ≤ length l)

        go : Answered r → Fits r
        go (plan a h q e) = subst Fits (sym e) (h, at_lt a.at_place)
        go (too_long a h q e) = subst Fits (sym e) (h, at_lt a.at_place)
        go (no_plan n h e) = subst Fits (sym e) (h, le_refl (length l))
        go (no_room p h e) = subst Fits (sym e) (le_refl c, omega (arith, h))

    -- the computed answer is one
    pub answer_meets : Answers l g c b (answer l g c b)
    unfolding answer
    answer_meets = record {
      plan = λ {k} {e} a h q. placed a h ∙ ap (λ (t : Bool). cond t (found k e.seq) (long_plan k e.seq)) (le-leb (length e.seq) b q);
      too_long = λ {k} {e} a h q. placed a h
          ∙ ap (λ (t : Bool). cond t (found k e.seq) (long_plan k e.seq)) (lt-leb (length e.seq) b q);
      no_plan = λ n h. scan_none (take c l) 0 (planned b) rest (λ k e u. n k e (at_take c u))
          ∙ ap (λ (t : Bool). cond t (none_of (length l)) (out_of_room c)) (le-leb (length l) c h);
      otherwise = λ p q. scan_none (take c l) 0 (planned b) rest (none-take l c p)
          ∙ ap (λ (t : Bool). cond t (none_of (length l)) (out_of_room c)) (lt-leb (length l) c (lt_of_not-le (more p q)));
    }
      where
        rest : Searched
        rest = cond (leb (length l) c) (none_of (length l)) (out_of_room c)

        placed : {k : ℕ} {e : Entry} → FirstInside g l k e → k < c → answer l g c b ≡ planned b k e
        placed {k} {e} a h = scan_first (take c l) 0 k (planned b) rest (first-take h a) ∙ ap (λ (n : ℕ). planned b n e) (zero-add k)

        more : ((k : ℕ) (e : Entry) → FirstInside g l k e → c ≤ k) → (NoneInside g l → c < length l) → ¬ (length l ≤ c)
        more p q h = lt_irrefl c (lt_of_lt_of_le (q (subst (NoneInside g) (take_all c l h) (none-take l c p))) h)

    -- how a search shows its answer: by what it knows where it ends
    pub answers-plan : {k : ℕ} {e : Entry} → FirstInside g l k e → k < c → length e.seq ≤ b → Answers l g c b (found k e.seq)
    answers-plan a h q = subst (Answers l g c b) (answer_meets.plan a h q) answer_meets

    pub answers_too_long : {k : ℕ} {e : Entry} → FirstInside g l k e → k < c → b < length e.seq → Answers l g c b (long_plan k e.seq)
    answers_too_long a h q = subst (Answers l g c b) (answer_meets.too_long a h q) answer_meets

    pub answers_no_plan : NoneInside g l → length l ≤ c → Answers l g c b (none_of (length l))
    answers_no_plan n h = subst (Answers l g c b) (answer_meets.no_plan n h) answer_meets

    -- no set of the first c is inside the goal, and there is one more
    pub answers_no_room : ((k : ℕ) (e : Entry) → FirstInside g l k e → c ≤ k) → c < length l → Answers l g c b (out_of_room c)
    answers_no_room p h = subst (Answers l g c b) (answer_meets.otherwise p (λ n. h)) answer_meets

  -- a larger room changes no answer but 13
  pub larger_room : {l : List Entry} {c d b : ℕ} {r : Searched} → c ≤ d → Answers l g c b r → (r ≡ out_of_room c) ⊎ Answers l g d b r
  larger_room {l} {c} {d} {b} {r} h u = go (answered l c b u)
    where
      go : Answered l c b r → (r ≡ out_of_room c) ⊎ Answers l g d b r
      go (plan a k q e) = inr (subst (Answers l g d b) (sym e) (answers-plan l d b a (lt_of_lt_of_le k h) q))
      go (too_long a k q e) = inr (subst (Answers l g d b) (sym e) (answers_too_long l d b a (lt_of_lt_of_le k h) q))
      go (no_plan n k e) = inr (subst (Answers l g d b) (sym e) (answers_no_plan l d b n (le_trans k h)))
      go (no_room p k e) = inl e
