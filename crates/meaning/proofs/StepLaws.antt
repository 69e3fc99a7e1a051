-- One command from a set: when it is sendable, and which states its image has. Both go state by state, from 0 up.
use mathlib.Core.Path.{◌≡◌, refl, sym, ap, ◌∙◌, subst}
use mathlib.Core.Logic.{◌⊎◌, inl, inr, ◌≢◌, ⊎_elim}
use mathlib.Core.Bool.{Bool, true, false, ◌&&◌, ◌||◌, not, cond}
use mathlib.Core.Option.{none, some, none-ne-some, some-injective}
use Prim.Native.Nat.{ℕ, zero, suc, ◌+◌, ◌^◌, ◌≤◌, ◌<◌}
use native.Mathlib.Nat.{eq-or-lt_of_le, le_of_suc-le-suc, not-suc-le-zero, le_refl, lt_of_not-le}
use native.Mathlib.Omega.{arith}
use lib.Dec.{eqb}
use lib.Bits.{or_lt, or_zero_r}
use native.Mathlib.Numerals.{add-one}
use lib.Pow.{pow_pos}
use borrow.Author.Tests.{eqb-false, eqb-true}
use Rattle.meaning.specs.Sets.{bit, ◌∈◌, union}
use Rattle.meaning.specs.Domain.{Domain, Within, WellFormed, Start}
use Rattle.meaning.specs.Walk.{sendable, image, only_if, step}
use Rattle.meaning.proofs.Tests.{test}
use Rattle.meaning.proofs.SetLaws.{bit_cases, ∈_cases, ∉_empty, ∈_lt, ∈_union, ∈_left, ∈_right, some_member, member_some}

-- ---- sendable

-- each state of x below k has something that follows it
abbrev pub AllTake : (ℕ → ℕ) → ℕ → ℕ → Type 0
AllTake f x k = (s : ℕ) → s < k → s ∈ x → f s ≢ 0

-- some state of x below k has nothing that follows it
abbrev pub SomeCannot : (ℕ → ℕ) → ℕ → ℕ → Type 0
SomeCannot f x k = (s : ℕ) × (s < k) × (s ∈ x) × (f s ≡ 0)

-- a state below k + 1 is k or is below k
pub below_suc : {s k : ℕ} → s < suc k → (s ≡ k) ⊎ (s < k)
below_suc h = eq-or-lt_of_le (le_of_suc-le-suc h)

pub sendable_cases : (f : ℕ → ℕ) (x k : ℕ) → ((sendable f x k ≡ true) × AllTake f x k) ⊎ ((sendable f x k ≡ false) × SomeCannot f x k)
unfolding sendable
sendable_cases f x zero = inl (refl, λ s h. absurd (not-suc-le-zero h))
sendable_cases f x (suc k) = go (sendable_cases f x k) (test (eqb (bit k x) 0)) (test (eqb (f k) 0))
  where
    this : Bool → Bool → Bool
    this b c = b || not c

    allow : AllTake f x k → (k ∈ x → f k ≢ 0) → AllTake f x (suc k)
    allow all h s l m = ⊎_elim (λ e. subst (λ (j : ℕ). j ∈ x → f j ≢ 0) (sym e) h m) (λ b. all s b m) (below_suc l)

    present : bit k x ≢ 0 → k ∈ x
    present h = ⊎_elim (λ e. absurd (h e)) (λ m. m) (∈_cases k x)

    go : ((sendable f x k ≡ true) × AllTake f x k) ⊎ ((sendable f x k ≡ false) × SomeCannot f x k)
        → (eqb (bit k x) 0 ≡ true) ⊎ (eqb (bit k x) 0 ≡ false) → (eqb (f k) 0 ≡ true) ⊎ (eqb (f k) 0 ≡ false)
        → ((sendable f x (suc k) ≡ true) × AllTake f x (suc k)) ⊎ ((sendable f x (suc k) ≡ false) × SomeCannot f x (suc k))
    go (inr (e, (s, l, m, z))) u v = inr (ap (λ (b : Bool). b && this (eqb (bit k x) 0) (eqb (f k) 0)) e, (s, omega arith, m, z))
    go (inl (e, all)) (inl u) v = inl (
      ap (λ (b : Bool). b && this (eqb (bit k x) 0) (eqb (f k) 0)) e ∙ ap (λ (b : Bool). this b (eqb (f k) 0)) u,
      allow all (λ m. absurd (omega (arith, eqb-true (bit k x) 0 u, m.is_one))),
    )
    go (inl (e, all)) (inr u) (inl v) = inr (
      ap (λ (b : Bool). b && this (eqb (bit k x) 0) (eqb (f k) 0)) e ∙ ap (λ (b : Bool). this b (eqb (f k) 0)) u ∙ ap not v,
      (k, le_refl (suc k), present (eqb-false (bit k x) 0 u), eqb-true (f k) 0 v),
    )
    go (inl (e, all)) (inr u) (inr v) = inl (
      ap (λ (b : Bool). b && this (eqb (bit k x) 0) (eqb (f k) 0)) e ∙ ap (λ (b : Bool). this b (eqb (f k) 0)) u ∙ ap not v,
      allow all (λ m. eqb-false (f k) 0 v),
    )

-- ---- image

only_in : (t b y : ℕ) → t ∈ only_if b y → (b ≢ 0) × (t ∈ y)
only_in t zero y h = absurd (∉_empty h)
only_in t (suc b) y h = (λ e. omega (arith, e), h)

in_only : (t b y : ℕ) → b ≡ 1 → t ∈ y → t ∈ only_if b y
in_only t b y e h = subst (λ (c : ℕ). t ∈ only_if c y) (sym e) h

only_lt : (n b y : ℕ) → y < 2 ^ n → only_if b y < 2 ^ n
only_lt n zero y h = pow_pos n
only_lt n (suc b) y h = h

-- a state of the image follows some state of the set
pub image-from : (f : ℕ → ℕ) (x k t : ℕ) → t ∈ image f x k → (s : ℕ) × (s < k) × (s ∈ x) × (t ∈ f s)
unfolding image
image-from f x zero t h = absurd (∉_empty h)
image-from f x (suc k) t h = go (image-from f x k t) (∈_union t (image f x k) (only_if (bit k x) (f k)) h)
  where
    go : (t ∈ image f x k → (s : ℕ) × (s < k) × (s ∈ x) × (t ∈ f s)) → (t ∈ image f x k) ⊎ (t ∈ only_if (bit k x) (f k))
        → (s : ℕ) × (s < suc k) × (s ∈ x) × (t ∈ f s)
    go ih (inl m) = let r = ih m in (r.0, omega (arith, r.1), r.2, r.3)
    go ih (inr m) =
        let r = only_in t (bit k x) (f k) m in
        (k, le_refl (suc k), ⊎_elim (λ e. absurd (r.0 e)) (λ i. i) (∈_cases k x), r.1)

-- what follows a state of the set is in the image
pub image_into : (f : ℕ → ℕ) (x k : ℕ) {s t : ℕ} → s < k → s ∈ x → t ∈ f s → t ∈ image f x k
unfolding image
image_into f x zero h i j = absurd (not-suc-le-zero h)
image_into f x (suc k) {s} {t} h i j = go (λ l. image_into f x k l i j) (below_suc h)
  where
    go : (s < k → t ∈ image f x k) → (s ≡ k) ⊎ (s < k) → t ∈ image f x (suc k)
    go ih (inl e) = ∈_right (image f x k)
        (in_only t (bit k x) (f k) (subst (λ (z : ℕ). bit z x ≡ 1) e i.is_one) (subst (λ (z : ℕ). t ∈ f z) e j))
    go ih (inr l) = ∈_left (only_if (bit k x) (f k)) (ih l)

lt-suc : {s k : ℕ} → s < k → s < suc k
lt-suc h = omega arith

pub image-lt : (n : ℕ) (f : ℕ → ℕ) (x k : ℕ) → ((s : ℕ) → s < k → f s < 2 ^ n) → image f x k < 2 ^ n
unfolding image
image-lt n f x zero h = pow_pos n
image-lt n f x (suc k) h = or_lt n (image f x k) (only_if (bit k x) (f k)) (image-lt n f x k (λ s l. h s (lt-suc l))) (only_lt n (bit k x) (f k) (h k (le_refl (suc k))))

-- ---- a step, by its states

-- a is sendable in x, and y has exactly the states that follow the states of x
pub record Image (D : Domain) (x a y : ℕ) : Type 0 where
  pub taken : (s : ℕ) → s ∈ x → D.follow a s ≢ 0
  pub from : (t : ℕ) → t ∈ y → (s : ℕ) × (s ∈ x) × (t ∈ D.follow a s)
  pub into : (s t : ℕ) → s ∈ x → t ∈ D.follow a s → t ∈ y
  pub within : Within D y
  pub value : y ≡ image (D.follow a) x D.states

-- a state of x cannot take a
pub record Cannot (D : Domain) (x a : ℕ) : Type 0 where
  pub state : ℕ
  pub present : state ∈ x
  pub nothing : D.follow a state ≡ 0

pub step_cases : (D : Domain) → WellFormed D → (x a : ℕ) → Within D x
    → ((y : ℕ) × (step D x a ≡ some y) × Image D x a y) ⊎ ((step D x a ≡ none) × Cannot D x a)
unfolding step
step_cases D ok x a w = go (sendable_cases f x n)
  where
    n : ℕ
    n = D.states

    f : ℕ → ℕ
    f = D.follow a

    go : ((sendable f x n ≡ true) × AllTake f x n) ⊎ ((sendable f x n ≡ false) × SomeCannot f x n)
        → ((y : ℕ) × (step D x a ≡ some y) × Image D x a y) ⊎ ((step D x a ≡ none) × Cannot D x a)
    go (inl (e, all)) = inl (
      image f x n,
      ap (λ (b : Bool). cond b (some (image f x n)) none) e,
      record {
        taken = λ s m. all s (∈_lt n w m) m;
        from = λ t m. (let r = image-from f x n t m in (r.0, r.2, r.3));
        into = λ s t m l. image_into f x n (∈_lt n w m) m l;
        within = image-lt n f x n (ok.rows a);
        value = refl;
      },
    )
    go (inr (e, (s, l, m, z))) = inr (
      ap (λ (b : Bool). cond b (some (image f x n)) none) e,
      record { state = s; present = m; nothing = z },
    )

pub step_some : (D : Domain) → WellFormed D → {x a y : ℕ} → Within D x → step D x a ≡ some y → Image D x a y
step_some D ok {x} {a} {y} w e = ⊎_elim
    (λ r. subst (λ (z : ℕ). Image D x a z) (some-injective r.0 y (sym r.1 ∙ e)) r.2)
    (λ r. absurd (none-ne-some y (sym r.0 ∙ e)))
    (step_cases D ok x a w)

pub step-none : (D : Domain) → WellFormed D → {x a : ℕ} → Within D x → step D x a ≡ none → Cannot D x a
step-none D ok {x} {a} w e = ⊎_elim
    (λ r. absurd (none-ne-some r.0 (sym e ∙ r.1)))
    (λ r. r.1)
    (step_cases D ok x a w)

-- the image of a set that is not empty is not empty
pub image_some : (D : Domain) → WellFormed D → {x a y : ℕ} → Start D x → Image D x a y → Start D y
image_some D ok {x} {a} st i =
    let s = some_member D.states x st.within st.some_state in
    let t = some_member D.states (D.follow a s.0) (ok.rows a s.0 (∈_lt D.states st.within s.1)) (i.taken s.0 s.1) in
    record { within = i.within; some_state = member_some (i.into s.0 t.0 s.1 t.1) }

-- a command that is sendable is one of the sheet's
pub command-lt : (D : Domain) → WellFormed D → {x a y : ℕ} → Start D x → Image D x a y → a < D.commands
command-lt D ok {x} {a} st i = lt_of_not-le λ (l : D.commands ≤ a).
    let s = some_member D.states x st.within st.some_state in
    i.taken s.0 s.1 (ok.no_other a s.0 l)

-- ---- a step by the two functions

module _ (D : Domain) (x a : ℕ) where
  pub step_sends : sendable (D.follow a) x D.states ≡ true → step D x a ≡ some (image (D.follow a) x D.states)
  unfolding step
  step_sends e = ap (λ (b : Bool). cond b (some (image (D.follow a) x D.states)) none) e

  pub step_stops : sendable (D.follow a) x D.states ≡ false → step D x a ≡ none
  unfolding step
  step_stops e = ap (λ (b : Bool). cond b (some (image (D.follow a) x D.states)) none) e

-- ---- one turn of a loop over the states

pub image-turn_in : (f : ℕ → ℕ) (x k : ℕ) → bit k x ≡ 1 → image f x (k + 1) ≡ union (image f x k) (f k)
unfolding image
image-turn_in f x k e = ap (image f x) (add-one k) ∙ ap (λ (b : ℕ). union (image f x k) (only_if b (f k))) e

pub image-turn_out : (f : ℕ → ℕ) (x k : ℕ) → bit k x ≢ 1 → image f x (k + 1) ≡ image f x k
unfolding image
image-turn_out f x k h = ap (image f x) (add-one k)
    ∙ ap (λ (b : ℕ). union (image f x k) (only_if b (f k))) (⊎_elim (λ e. e) (λ e. absurd (h e)) (bit_cases k x)) ∙ or_zero_r (image f x k)

pub all_take_sendable : (f : ℕ → ℕ) (x k : ℕ) → AllTake f x k → sendable f x k ≡ true
all_take_sendable f x k h = ⊎_elim (λ r. r.0) (λ r. absurd (h r.1.0 r.1.1 r.1.2 r.1.3)) (sendable_cases f x k)

pub cannot_sendable : (f : ℕ → ℕ) (x k s : ℕ) → s < k → s ∈ x → f s ≡ 0 → sendable f x k ≡ false
cannot_sendable f x k s h m z = ⊎_elim (λ r. absurd (r.1 s h m z)) (λ r. r.0) (sendable_cases f x k)

-- what a loop over the states knows of the states below k + 1
pub take_more : {f : ℕ → ℕ} {x k : ℕ} → AllTake f x k → (k ∈ x → f k ≢ 0) → AllTake f x (k + 1)
take_more {f} {x} {k} all h s l m = ⊎_elim (λ e. subst (λ (j : ℕ). j ∈ x → f j ≢ 0) (sym e) h m) (λ b. all s b m) (below_suc (subst (λ (j : ℕ). s < j) (add-one k) l))
