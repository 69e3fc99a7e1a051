-- From numbers to bytes and back: a number's bytes stand for it, and bytes are the bytes of the number that they stand for.
-- The idea: bytes of one length that stand for one number are equal.
use mathlib.Core.Path.{◌≡◌, refl, sym, ap, ap₂, ◌∙◌, subst}
use mathlib.Core.List.{List, [], ◌∷◌, ◌++◌}
use Prim.Native.Nat.{ℕ, zero, suc, ◌+◌, ◌*◌, ◌/◌, ◌%◌, ◌^◌, ◌≤◌, ◌<◌}
use native.Mathlib.Nat.{pow-suc, mul_comm, mod-lt, mod-eq_of_lt, mod-one, lt_of_not-le}
use native.Mathlib.Omega.{arith}
use lib.Arith.{mod-mul, digits_lt, digits_div, digits_mod}
use native.Mathlib.Decide.{dec_lt}
use lib.ListN.{length, get_or, take, drop, length-take, get_or-eq_default}
use lib.Seq.{get_or-take, get_or-drop, drop-cons}
use Rattle.numbers.specs.Bytes.{number, bytes_of, part, AreBytes}
use Rattle.numbers.proofs.Numbers.{part-add}
use Rattle.numbers.proofs.Storing.{length-bytes}

pow_256 : (k : ℕ) → zero < 256 ^ k
pow_256 zero = omega arith
pow_256 (suc k) = omega (arith, pow-suc 256 k, pow_256 k)

-- ---- a number's bytes stand for it

pub number-bytes : (k n : ℕ) → number (bytes_of k n) ≡ n % 256 ^ k
unfolding number bytes_of
number-bytes zero n = sym (mod-one n)
number-bytes (suc k) n =
    ap₂ (λ (j m : ℕ). n / 256 ^ k % 256 * 256 ^ j + m) (length-bytes k n) (number-bytes k n)
    ∙ sym (ap (λ (m : ℕ). n % m) (pow-suc 256 k ∙ mul_comm (256 ^ k) 256) ∙ mod-mul n {m = 256} {c = 256 ^ k} (omega arith) (pow_256 k))

pub number_of_bytes : (k n : ℕ) → n < 256 ^ k → number (bytes_of k n) ≡ n
number_of_bytes k n h = number-bytes k n ∙ mod-eq_of_lt h

-- ---- bytes are a number's bytes

tail_bytes : {b : ℕ} {bs : List ℕ} → AreBytes (b ∷ bs) → AreBytes bs
tail_bytes a = record { each = λ i. a.each (suc i) }

pub number_lt : (bs : List ℕ) → AreBytes bs → number bs < 256 ^ length bs
unfolding number
number_lt [] a = omega arith
number_lt (b ∷ bs) a = subst (λ (m : ℕ). b * 256 ^ length bs + number bs < m) (mul_comm 256 (256 ^ length bs) ∙ sym (pow-suc 256 (length bs))) (digits_lt {q = b} {m = 256} (a.each 0) (number_lt bs (tail_bytes a)))

pub number_one : (bs cs : List ℕ) → AreBytes bs → AreBytes cs → length bs ≡ length cs → number bs ≡ number cs → bs ≡ cs
unfolding number
number_one [] [] a b e f = refl
number_one [] (c ∷ cs) a b e f = absurd (omega (arith, e))
number_one (x ∷ bs) [] a b e f = absurd (omega (arith, e))
number_one (x ∷ bs) (c ∷ cs) a b e f =
    let same : length bs ≡ length cs = omega (arith, e) in
    let p = 256 ^ length cs in
    let r : number bs < p = subst (λ (k : ℕ). number bs < 256 ^ k) same (number_lt bs (tail_bytes a)) in
    let q : number cs < p = number_lt cs (tail_bytes b) in
    let g : x * p + number bs ≡ c * p + number cs = ap (λ (k : ℕ). x * 256 ^ k + number bs) (sym same) ∙ f in
    ap₂ (λ (y : ℕ) (ys : List ℕ). y ∷ ys)
    (sym (digits_div x r) ∙ ap (λ (m : ℕ). m / p) g ∙ digits_div c q)
    (number_one bs cs (tail_bytes a) (tail_bytes b) same (sym (digits_mod x r) ∙ ap (λ (m : ℕ). m % p) g ∙ digits_mod c q))

byte_lt : (k n i : ℕ) → get_or (bytes_of k n) i 0 < 256
unfolding bytes_of
byte_lt zero n i = omega arith
byte_lt (suc k) n zero = mod-lt (n / 256 ^ k) (omega arith)
byte_lt (suc k) n (suc i) = byte_lt k n i

pub bytes_of-number : (bs : List ℕ) (k : ℕ) → length bs ≡ k → AreBytes bs → bytes_of k (number bs) ≡ bs
bytes_of-number bs k e a =
    number_one (bytes_of k (number bs)) bs (record { each = byte_lt k (number bs) }) a (length-bytes k (number bs) ∙ sym e)
    (number_of_bytes k (number bs) (subst (λ (m : ℕ). number bs < 256 ^ m) e (number_lt bs a)))

-- ---- bytes one after the other

append-each : (a b : List ℕ) → AreBytes a → AreBytes b → (i : ℕ) → get_or (a ++ b) i 0 < 256
append-each [] b h k i = k.each i
append-each (x ∷ a) b h k zero = h.each 0
append-each (x ∷ a) b h k (suc i) = append-each a b (tail_bytes h) k i

pub bytes-add : (at j k n : ℕ) (l : List ℕ) → j + k ≡ n → AreBytes (part at j l) → AreBytes (part (at + j) k l) → AreBytes (part at n l)
bytes-add at j k n l e h i = subst AreBytes (sym (part-add at j k l) ∙ ap (λ (m : ℕ). part at m l) e) (record { each = append-each (part at j l) (part (at + j) k l) h i })

pub bytes-upto : (at j k : ℕ) (l : List ℕ) → j ≡ k → AreBytes (part at j l) → AreBytes (part at k l)
bytes-upto at j k l e h = subst (λ (n : ℕ). AreBytes (part at n l)) e h

pub bytes-none : (at : ℕ) (l : List ℕ) → AreBytes (part at 0 l)
bytes-none at l = record { each = λ i. omega arith }

pub bytes_one : (at : ℕ) (l : List ℕ) → at < length l → get_or l at 0 < 256 → AreBytes (part at 1 l)
bytes_one at l h b = subst (λ (r : List ℕ). AreBytes (take 1 r)) (sym (drop-cons l at 0 h)) (record { each = only })
  where
    only : (i : ℕ) → get_or (get_or l at 0 ∷ []) i 0 < 256
    only zero = b
    only (suc i) = omega arith

-- ---- a part of bytes

pub part_bytes : (at k : ℕ) (l : List ℕ) → AreBytes l → AreBytes (part at k l)
part_bytes at k l a = record { each = λ i. go i (dec_lt i k) }
  where
    go : (i : ℕ) → Dec (i < k) → get_or (part at k l) i 0 < 256
    go i (yes h) = subst (λ (x : ℕ). x < 256) (sym (get_or-take k (drop at l) i 0 h ∙ get_or-drop at l i 0)) (a.each (at + i))
    go i (no h) = subst (λ (x : ℕ). x < 256) (sym (get_or-eq_default (part at k l) 0 (past h))) (omega arith)
      where
        past : ¬ (i < k) → length (part at k l) ≤ i
        past h = simp length-take (omega (arith, lt_of_not-le h))
