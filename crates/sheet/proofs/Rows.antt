-- The first row whose condition holds decides. Laws of a table of refusals, over any rows and any answers; then of row 8, which has one row for each following set,
-- and of what the code tests.
-- The idea: one row at a time, by its condition.
use mathlib.Core.Path.{◌≡◌, refl, sym, ap, ap₂, ◌∙◌}
use mathlib.Core.Bool.{Bool, true, false, cond, not, ◌||◌}
use mathlib.Core.List.{List, [], ◌∷◌, ◌++◌, map}
use Prim.Native.Nat.{ℕ, zero, suc, ◌+◌, ◌*◌, ◌^◌, ◌≤◌, ◌<◌}
use native.Mathlib.Nat.{mul-le-mul, le_of_suc-le-suc, lt_of_not-le}
use native.Mathlib.Numerals.{add-one}
use native.Mathlib.Omega.{arith}
use lib.Dec.{ltb}
use lib.ListN.{length, get_or, drop, drop_of_length-le}
use lib.Seq.{drop-cons}
use borrow.Author.Tests.{le-leb, lt-leb, ltb-false}
use Rattle.meaning.proofs.Tests.{clash}
use Rattle.sets.specs.Words.{Value, set_of, set_for}
use Rattle.sets.proofs.Values.{stands_for}
use Rattle.meaning.specs.Sets.{Tells}
use Rattle.sheet.specs.Sheet.{set_offset, from}
use Rattle.sheet.specs.Refusals.{Row, row, refusal, verdict, missing, outside, set_rows, Check, check, passes}
use Rattle.sheet.specs.declared.Reason.TheVariants.{Following}
use Rattle.sheet.specs.declared.Refusal.{Refusal}
use Rattle.std.specs.Prelude.{Ok, Err}

-- an answer by a check of rows
abbrev pub on_check : {A : Type 0} → (Refusal → A) → A → Check → A
on_check refused otherwise (Ok tt) = otherwise
on_check refused otherwise (Err q) = refused q

pub not_failed : {q : Refusal} → ¬ (◌≡◌ {A = Check} (Err q) passes)
not_failed e = clash (cc)

module _ {A : Type 0} (refused : Refusal → A) (otherwise : A) where
  pub holds-here : (r : Row) (rs : List Row) → r.holds ≡ true → verdict refused otherwise (r ∷ rs) ≡ refused r.gives
  unfolding verdict
  holds-here r rs e = ap (λ (b : Bool). cond b (refused r.gives) (verdict refused otherwise rs)) e

  pub holds_not : (r : Row) (rs : List Row) → r.holds ≡ false → verdict refused otherwise (r ∷ rs) ≡ verdict refused otherwise rs
  unfolding verdict
  holds_not r rs e = ap (λ (b : Bool). cond b (refused r.gives) (verdict refused otherwise rs)) e

  pub verdict-append : (rs qs : List Row) → verdict refused otherwise (rs ++ qs) ≡ verdict refused (verdict refused otherwise qs) rs
  unfolding verdict
  verdict-append [] qs = refl
  verdict-append (r ∷ rs) qs = ap (λ (a : A). cond r.holds (refused r.gives) a) (verdict-append rs qs)

  -- what a check of some rows says of any answer by them
  pub by_check : (rs : List Row) → verdict refused otherwise rs ≡ on_check refused otherwise (check rs)
  unfolding verdict
  by_check [] = refl
  by_check (r ∷ rs) = go r.holds (by_check rs)
    where
      go : (b : Bool) → verdict refused otherwise rs ≡ on_check refused otherwise (check rs)
          → cond b (refused r.gives) (verdict refused otherwise rs) ≡ on_check refused otherwise (cond b (Err r.gives) (check rs))
      go true ih = refl
      go false ih = ih

-- the same where other rows follow
pub checked : {A : Type 0} (refused : Refusal → A) (otherwise : A) (rs qs : List Row) → verdict refused otherwise (rs ++ qs) ≡ on_check refused (verdict refused otherwise qs) (check rs)
checked refused otherwise rs qs = verdict-append refused otherwise rs qs ∙ by_check refused (verdict refused otherwise qs) rs

-- rows that pass: no condition holds
pub passes_here : (r : Row) (rs : List Row) → check (r ∷ rs) ≡ passes → r.holds ≡ false
unfolding verdict
passes_here r rs e = go r.holds e
  where
    go : (b : Bool) → cond b (Err r.gives) (check rs) ≡ passes → b ≡ false
    go true e = absurd (clash (cc))
    go false e = refl

pub passes_rest : (r : Row) (rs : List Row) → check (r ∷ rs) ≡ passes → check rs ≡ passes
passes_rest r rs e = sym (holds_not Err passes r rs (passes_here r rs e)) ∙ e

-- ---- row 8

module _ {A : Type 0} (refused : Refusal → A) (otherwise : A) (states : ℕ) (xs : List ℕ) where
  -- the answer by the following sets from place i on
  abbrev pub rest : ℕ → A
  rest i = verdict refused otherwise (set_rows states (set_offset i) (drop i xs))

  pub rows_at : (i : ℕ) → i < length xs → set_rows states (set_offset i) (drop i xs) ≡ row (missing states (get_or xs i 0)) Following (set_offset i) ∷ set_rows states (set_offset (i + 1)) (drop (i + 1) xs)
  unfolding set_rows
  rows_at i h =
      ap (λ (l : List ℕ). set_rows states (set_offset i) l) (drop-cons xs i 0 h)
      ∙ ap₂ (λ (at j : ℕ). row (missing states (get_or xs i 0)) Following (set_offset i) ∷ set_rows states at (drop j xs)) (omega arith) (sym (add-one i))

  pub set_fails : (i : ℕ) → i < length xs → missing states (get_or xs i 0) ≡ true → rest i ≡ refused (refusal Following (set_offset i))
  set_fails i h e = ap (λ (rs : List Row). verdict refused otherwise rs) (rows_at i h) ∙ holds-here refused otherwise (row (missing states (get_or xs i 0)) Following (set_offset i)) (set_rows states (set_offset (i + 1)) (drop (i + 1) xs)) e

  pub set_passes : (i : ℕ) → i < length xs → missing states (get_or xs i 0) ≡ false → rest i ≡ rest (i + 1)
  set_passes i h e = ap (λ (rs : List Row). verdict refused otherwise rs) (rows_at i h) ∙ holds_not refused otherwise (row (missing states (get_or xs i 0)) Following (set_offset i)) (set_rows states (set_offset (i + 1)) (drop (i + 1) xs)) e

  pub set_ends : (i : ℕ) → length xs ≤ i → rest i ≡ otherwise
  unfolding set_rows verdict
  set_ends i h = ap (λ (l : List ℕ). verdict refused otherwise (set_rows states (set_offset i) l)) (drop_of_length-le xs h)

-- ---- numbers in order

pub length_from : (f : ℕ → ℕ) (i k : ℕ) → length (map f (from i k)) ≡ k
length_from f i zero = refl
length_from f i (suc k) = ap suc (length_from f (suc i) k)

pub get_or_from : (f : ℕ → ℕ) (i k j : ℕ) → j < k → get_or (map f (from i k)) j 0 ≡ f (i + j)
get_or_from f i zero j h = absurd (omega arith)
get_or_from f i (suc k) zero h = ap f (omega arith)
get_or_from f i (suc k) (suc j) h = get_or_from f (suc i) k j (omega arith) ∙ ap f (omega arith)

pub get_or_from_0 : (f : ℕ → ℕ) (k j : ℕ) → j < k → get_or (map f (from 0 k)) j 0 ≡ f j
get_or_from_0 f k j h = get_or_from f 0 k j h ∙ ap f (omega arith)

-- ---- what the code tests

-- a set that does not lie within the states names a missing one
pub not_within : (states x : ℕ) (b : Bool) → Tells b (x < 2 ^ states) → not b ≡ missing states x
not_within states x true t = sym (lt-leb (2 ^ states) x (t.if_true refl))
not_within states x false t = sym (le-leb (2 ^ states) x (le_of_suc-le-suc (lt_of_not-le (t.if_false refl))))

-- what the test says of the set that a value stands for
pub tested : (states x : ℕ) {s : Value} {b : Bool} → s ≡ set_for x → b ≡ missing states (set_of s) → missing states x ≡ b
tested states x e f = ap (λ (y : ℕ). missing states y) (sym (stands_for e)) ∙ sym f

-- the greatest sheet has 2048 following sets
pub product : {a b : ℕ} → a ≤ 32 → b ≤ 64 → a * b ≤ 2048
product h k = mul-le-mul h k

pub or_false : (a b : Bool) → (a || b) ≡ false → (a ≡ false) × (b ≡ false)
or_false true b e = absurd (clash (cc))
or_false false b e = (refl, e)

pub both_false : {a b : Bool} → a ≡ false → b ≡ false → (a || b) ≡ false
both_false {a} {b} p q = ap (λ (c : Bool). c || b) p ∙ q

-- a number that is not outside
pub least : (low high n : ℕ) → outside low high n ≡ false → low ≤ n
least low high n e = ltb-false n low (or_false (ltb n low) (ltb high n) e).0

pub most : (low high n : ℕ) → outside low high n ≡ false → n ≤ high
most low high n e = ltb-false high n (or_false (ltb n low) (ltb high n) e).1
