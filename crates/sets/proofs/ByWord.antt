-- Sets in words of w states, any number of them, by the lowest word and the words above it: union, inside, equality, emptiness and size go word by word,
-- and a state is asked for, put in and taken out in its own word. The idea: the words above the lowest stand for one set, so each law is that of two words
-- (`meaning`'s WordLaws), and a function over sets of k words cites it k times.
use mathlib.Core.Path.{◌≡◌, refl, sym, ap, ap₂, ◌∙◌, subst}
use mathlib.Core.Logic.{◌≢◌, ⊎_elim}
use mathlib.Core.Bool.{Bool, ◌&&◌}
use mathlib.Core.List.{List, [], ◌∷◌}
use Prim.Native.Nat.{ℕ, zero, suc, ◌+◌, ◌-◌, ◌*◌, ◌/◌, ◌%◌, ◌^◌, ◌≤◌, ◌<◌}
use native.Mathlib.Nat.{lt_of_lt_of_le, lt_of_le_of_lt, mul-one, add-mul, add-zero, zero-add, add-suc, pow-suc, div-lt_iff_lt-mul, div-eq_of_lt}
use native.Mathlib.Omega.{arith}
use lib.Arith.{lt-one}
use lib.Bits.{bit_and, block_odd, block_half}
use lib.Count.{count_trailing_zeros, under}
use lib.Dec.{eqb}
use lib.Pow.{pow_pos, pow_mono, pow-add, high}
use Rattle.meaning.specs.Sets.{bit, ◌∈◌, ◌⊆◌, union, without, size, Tells}
use Rattle.meaning.proofs.SetLaws.{member, bit_cases}
use Rattle.meaning.proofs.SizeLaws.{without_in, without_not, member_ge}
use Rattle.meaning.proofs.Tests.{inside_tells, equal_tells, told_as, both_tell}
use Rattle.meaning.proofs.WordLaws.{words, bit_low, bit_high, ∈_low, ∈_high, union_words, inside_words, size_words, words_equal}
use Rattle.sets.specs.Words.{of_words}
use Rattle.sets.proofs.Masks.{bit_tells, within_tells}

-- the words above the lowest are one set
pub cons_is : (w x : ℕ) (xs : List ℕ) → of_words w (x ∷ xs) ≡ words w (of_words w xs) x
cons_is w x [] = omega arith
cons_is w x (y ∷ xs) = refl

-- 2 ^ n, for a state of the words above
pow_up : (w n : ℕ) → w ≤ n → 2 ^ (n - w) * 2 ^ w ≡ 2 ^ n
pow_up w n l = sym (pow-add 2 (n - w) w) ∙ ap (λ (k : ℕ). 2 ^ k) (omega (arith, l))

-- ---- two sets

module _ (w x y : ℕ) (xs ys : List ℕ) (h : x < 2 ^ w) (k : y < 2 ^ w) where
  pub union-by-word : (zs : List ℕ) → of_words w zs ≡ union (of_words w xs) (of_words w ys) → of_words w (union x y ∷ zs) ≡ union (of_words w (x ∷ xs)) (of_words w (y ∷ ys))
  union-by-word zs e =
      cons_is w (union x y) zs ∙ ap (λ (z : ℕ). words w z (union x y)) e ∙ sym (union_words w (of_words w xs) x (of_words w ys) y h k)
      ∙ ap₂ union (sym (cons_is w x xs)) (sym (cons_is w y ys))

  pub inside-by-word : {b : Bool} → Tells b (of_words w xs ⊆ of_words w ys) → Tells (b && eqb (bit_and x y) x) (of_words w (x ∷ xs) ⊆ of_words w (y ∷ ys))
  inside-by-word {b} t =
      let two = inside_words w (of_words w xs) x (of_words w ys) y h k in
      rw (cons_is w x xs, cons_is w y ys) (told_as two.1 two.0 (both_tell b t (inside_tells x y)))

  pub same_by_word : {b : Bool} → Tells b (of_words w xs ≡ of_words w ys) → Tells (b && eqb x y) (of_words w (x ∷ xs) ≡ of_words w (y ∷ ys))
  same_by_word {b} t =
      rw (cons_is w x xs, cons_is w y ys)
      (told_as (λ p. ap₂ (words w) p.0 p.1) (words_equal w (of_words w xs) x (of_words w ys) y h k) (both_tell b t (equal_tells x y)))

-- ---- one set

module _ (w x : ℕ) (xs : List ℕ) (h : x < 2 ^ w) where
  pub empty-by-word : {b : Bool} → Tells b (of_words w xs ≡ 0) → Tells (b && eqb x 0) (of_words w (x ∷ xs) ≡ 0)
  empty-by-word {b} t =
      let none : words w 0 0 ≡ 0 = omega arith in
      rw (cons_is w x xs)
      (told_as (λ p. ap₂ (words w) p.0 p.1 ∙ none) (λ e. words_equal w (of_words w xs) x 0 0 h (pow_pos w) (e ∙ sym none)) (both_tell b t (equal_tells x 0)))

  pub size-by-word : size (of_words w (x ∷ xs)) ≡ size (of_words w xs) + size x
  size-by-word = ap size (cons_is w x xs) ∙ size_words w (of_words w xs) x h

  -- ---- a state of the lowest word, and of the words above it

  pub has_here : (s : ℕ) → s < w → Tells (eqb (bit_and (x / 2 ^ s) 1) 1) (s ∈ of_words w (x ∷ xs))
  has_here s l = let two = ∈_low w (of_words w xs) x s h l in rw (cons_is w x xs) (told_as two.1 two.0 (bit_tells s x))

  pub has_above : (s : ℕ) → w ≤ s → {b : Bool} → Tells b ((s - w) ∈ of_words w xs) → Tells b (s ∈ of_words w (x ∷ xs))
  has_above s l {b} t =
      let e : w + (s - w) ≡ s = omega (arith, l) in
      let two = ∈_high w (of_words w xs) x (s - w) h in
      rw (cons_is w x xs) (subst (λ (k : ℕ). Tells b (k ∈ words w (of_words w xs) x)) e (told_as two.1 two.0 t))

  -- ---- how far a set goes

  pub within-here : (n : ℕ) → n ≤ w → {b : Bool} → Tells b (of_words w xs ≡ 0) → Tells (b && eqb (x / 2 ^ n) 0) (of_words w (x ∷ xs) < 2 ^ n)
  within-here n l {b} t = rw (cons_is w x xs) (told_as to (λ i. (above i, lt_of_le_of_lt low_le i)) (both_tell b t (within_tells n x)))
    where
      hi : ℕ
      hi = of_words w xs

      low_le : x ≤ words w hi x
      low_le = omega arith

      to : (hi ≡ 0) × (x < 2 ^ n) → words w hi x < 2 ^ n
      to p = subst (λ (z : ℕ). words w z x < 2 ^ n) (sym p.0) (subst (λ (z : ℕ). z < 2 ^ n) (omega arith) p.1)

      above : words w hi x < 2 ^ n → hi ≡ 0
      above i = sym (high hi w h) ∙ div-eq_of_lt (lt_of_lt_of_le i (pow_mono l))

  pub within_above : (n : ℕ) → w ≤ n → {b : Bool} → Tells b (of_words w xs < 2 ^ (n - w)) → Tells b (of_words w (x ∷ xs) < 2 ^ n)
  within_above n l t =
      let hi : ℕ = of_words w xs in
      let two = div-lt_iff_lt-mul {k = 2 ^ w} {x = words w hi x} {y = 2 ^ (n - w)} (pow_pos w) in
      rw (cons_is w x xs) (told_as
      (λ k. subst (λ (m : ℕ). words w hi x < m) (pow_up w n l) (two.0 (subst (λ (m : ℕ). m < 2 ^ (n - w)) (sym (high hi w h)) k)))
      (λ k. subst (λ (m : ℕ). m < 2 ^ (n - w)) (high hi w h) (two.1 (subst (λ (m : ℕ). words w hi x < m) (sym (pow_up w n l)) k)))
      t)

-- ---- the lowest state, with k states in the words above

under_is : (d t u : ℕ) → (d ≡ 0 → t ≡ u) → under d t ≡ under d u
under_is zero t u f = ap suc (f refl)
under_is (suc d) t u f = refl

zeros_low : (k w hi lo : ℕ) → lo < 2 ^ w → lo ≢ 0 → count_trailing_zeros (k + w) (words w hi lo) ≡ count_trailing_zeros w lo
unfolding count_trailing_zeros
zeros_low k zero hi lo h ne = absurd (ne (lt-one h))
zeros_low k (suc w) hi lo h ne =
    ap (λ (n : ℕ). count_trailing_zeros n (words (suc w) hi lo)) (add-suc k w)
    ∙ ap₂ (λ (d r : ℕ). under d (count_trailing_zeros (k + w) r)) (block_odd hi w lo) (block_half hi w lo)
    ∙ under_is (lo % 2) (count_trailing_zeros (k + w) (words w hi (lo / 2))) (count_trailing_zeros w (lo / 2)) (λ e. zeros_low k w hi (lo / 2) (omega (arith, h, pow-suc 2 w)) (λ z. ne (omega (arith, e, z))))

zeros_high : (k w hi : ℕ) → count_trailing_zeros (k + w) (words w hi 0) ≡ w + count_trailing_zeros k hi
unfolding count_trailing_zeros
zeros_high k zero hi = ap₂ count_trailing_zeros (add-zero k) (add-zero (hi * 1) ∙ mul-one hi) ∙ sym (zero-add (count_trailing_zeros k hi))
zeros_high k (suc w) hi =
    ap (λ (n : ℕ). count_trailing_zeros n (words (suc w) hi 0)) (add-suc k w)
    ∙ ap₂ (λ (d r : ℕ). under d (count_trailing_zeros (k + w) r)) (block_odd hi w 0) (block_half hi w 0)
    ∙ ap suc (zeros_high k w hi) ∙ omega arith

module _ (w x : ℕ) (xs : List ℕ) (k : ℕ) where
  pub lowest_here : x < 2 ^ w → x ≢ 0 → count_trailing_zeros (k + w) (of_words w (x ∷ xs)) ≡ count_trailing_zeros w x
  lowest_here h ne = ap (count_trailing_zeros (k + w)) (cons_is w x xs) ∙ zeros_low k w (of_words w xs) x h ne

  pub lowest_above : x ≡ 0 → count_trailing_zeros (k + w) (of_words w (x ∷ xs)) ≡ w + count_trailing_zeros k (of_words w xs)
  lowest_above e = ap (count_trailing_zeros (k + w)) (cons_is w x xs ∙ ap (words w (of_words w xs)) e) ∙ zeros_high k w (of_words w xs)

-- ---- one state put in, and one taken out

-- words above that are empty add nothing
pub lone_word : (w y : ℕ) (zs : List ℕ) → of_words w zs ≡ 0 → of_words w (y ∷ zs) ≡ y
lone_word w y zs e = cons_is w y zs ∙ ap (λ (z : ℕ). words w z y) e ∙ omega arith

pub single_above : (w s : ℕ) (zs : List ℕ) → w ≤ s → of_words w zs ≡ 2 ^ (s - w) → of_words w (0 ∷ zs) ≡ 2 ^ s
single_above w s zs l e = cons_is w 0 zs ∙ ap (λ (z : ℕ). words w z 0) e ∙ add-zero (2 ^ (s - w) * 2 ^ w) ∙ pow_up w s l

module _ (w x : ℕ) (xs : List ℕ) (h : x < 2 ^ w) (s : ℕ) where
  -- a state that the set does not have is nowhere, and one that it has is taken out of its own word
  pub without-here : s < w → of_words w (without x s ∷ xs) ≡ without (of_words w (x ∷ xs)) s
  without-here l = cons_is w (without x s) xs ∙ ⊎_elim absent present (bit_cases s x) ∙ ap (λ (z : ℕ). without z s) (sym (cons_is w x xs))
    where
      hi : ℕ
      hi = of_words w xs

      same_bit : bit s (words w hi x) ≡ bit s x
      same_bit = bit_low w hi x s h l

      absent : bit s x ≡ 0 → words w hi (without x s) ≡ without (words w hi x) s
      absent e = ap (words w hi) (without_not s x e) ∙ sym (without_not s (words w hi x) (same_bit ∙ e))

      present : bit s x ≡ 1 → words w hi (without x s) ≡ without (words w hi x) s
      present e = ap (words w hi) (without_in (member e)) ∙ omega (arith, member_ge {s = s} {x = x} (member e)) ∙ sym (without_in (member (same_bit ∙ e)))

  pub without_above : w ≤ s → (zs : List ℕ) → of_words w zs ≡ without (of_words w xs) (s - w) → of_words w (x ∷ zs) ≡ without (of_words w (x ∷ xs)) s
  without_above l zs e = cons_is w x zs ∙ ap (λ (z : ℕ). words w z x) e ∙ ⊎_elim absent present (bit_cases (s - w) hi) ∙ ap (λ (z : ℕ). without z s) (sym (cons_is w x xs))
    where
      hi : ℕ
      hi = of_words w xs

      p : ℕ
      p = 2 ^ (s - w)

      same_bit : bit s (words w hi x) ≡ bit (s - w) hi
      same_bit = ap (λ (t : ℕ). bit t (words w hi x)) (omega (arith, l)) ∙ bit_high w hi x (s - w) h

      absent : bit (s - w) hi ≡ 0 → words w (without hi (s - w)) x ≡ without (words w hi x) s
      absent e = ap (λ (z : ℕ). words w z x) (without_not (s - w) hi e) ∙ sym (without_not s (words w hi x) (same_bit ∙ e))

      less : p ≤ hi → words w (hi - p) x ≡ words w hi x - 2 ^ s
      less f =
          let back : (hi - p) * 2 ^ w + p * 2 ^ w ≡ hi * 2 ^ w = sym (add-mul (hi - p) p (2 ^ w)) ∙ ap (λ (z : ℕ). z * 2 ^ w) (omega (arith, f)) in
          omega (arith, back, pow_up w s l)

      present : bit (s - w) hi ≡ 1 → words w (without hi (s - w)) x ≡ without (words w hi x) s
      present e = ap (λ (z : ℕ). words w z x) (without_in (member e)) ∙ less (member_ge (member e)) ∙ sym (without_in (member (same_bit ∙ e)))
