-- std's big-endian conversions, over the width, say the numbers and bytes of this crate; and a copy over a part of a slice stores its bytes.
-- The idea: std's sum over the places is what the first byte is worth and the number of the others.
use mathlib.Core.Path.{◌≡◌, refl, sym, ap, ap₂, ◌∙◌}
use mathlib.Core.List.{List, [], ◌∷◌, ◌++◌, append_assoc}
use Prim.Native.Nat.{ℕ, zero, suc, ◌+◌, ◌-◌, ◌*◌, ◌/◌, ◌%◌, ◌^◌, ◌≤◌}
use native.Mathlib.Nat.{div-one, sub-zero, suc-sub-suc, zero-add, suc-add}
use native.Mathlib.Omega.{arith}
use lib.ListN.{length, take, drop}
use lib.Seq.{sets, sets-eq, drop-drop, take_all}
use borrow.Rule.Slice.PartMut.{put_mid}
use Rattle.std.specs.Int.{Width, w8, w16, w32, w64, w128, byte_len, byte_worth, bytes_high_first, sum_through, from_be_bytes}
use Rattle.std.specs.List.{slice_index}
use mir.Facts.{Fits-lt-pow}
use mir.Val.{Fits}
use Rattle.numbers.specs.Bytes.{number, bytes_of, part, number_at, AreBytes}
use Rattle.numbers.proofs.Numbers.{length_part}
use Rattle.numbers.proofs.Inverse.{part_bytes}
use Rattle.numbers.proofs.Storing.{length-bytes}

-- ---- a number from bytes

-- a sum's first place taken out
sum_first : (f : ℕ → ℕ) (k : ℕ) → sum_through f (suc k) ≡ f 0 + sum_through (λ i. f (suc i)) k
sum_first f zero = refl
sum_first f (suc k) = omega (arith, sum_first f k)

sum-number : (bs : List ℕ) (k : ℕ) → length bs ≡ suc k → sum_through (λ i. byte_worth (k - i) (slice_index bs i)) k ≡ number bs
unfolding number
sum-number [] k e = absurd (omega (arith, e))
sum-number (b ∷ []) zero e = omega arith
sum-number (b ∷ c ∷ bs) zero e = absurd (omega (arith, e))
sum-number (b ∷ bs) (suc k) e =
    let long : suc k ≡ length bs = omega (arith, e) in
    let first : byte_worth (suc k) b ≡ b * 256 ^ length bs = ap (λ (m : ℕ). b * 256 ^ m) long in
    sum_first (λ i. byte_worth (suc k - i) (slice_index (b ∷ bs) i)) k ∙ simp (sub-zero, suc-sub-suc) (ap₂ (λ (m n : ℕ). m + n) first (sum-number bs k (sym long)))

whole : (w : Width) → byte_len w ≡ suc (byte_len w - 1)
whole w8 = refl
whole w16 = refl
whole w32 = refl
whole w64 = refl
whole w128 = refl

pub from_be_bytes-number : (w : Width) (bs : List ℕ) → length bs ≡ byte_len w → from_be_bytes w bs ≡ number bs
from_be_bytes-number w bs e = sum-number bs (byte_len w - 1) (e ∙ whole w)

-- the bytes of a part of a slice, read at a width
pub read_at : (w : Width) (l ys : List ℕ) (at j : ℕ) → j ≡ byte_len w → at + j ≤ length l → ys ≡ take j (drop at l) → from_be_bytes w ys ≡ number_at at (byte_len w) l
read_at w l ys at j i h e =
    let long : length ys ≡ byte_len w = ap length e ∙ length_part at j l h ∙ i in
    from_be_bytes-number w ys long ∙ ap number (e ∙ ap (λ (m : ℕ). take m (drop at l)) i)

-- a slice of bytes holds bytes, and so does each part of it
pub all_bytes : {l : List ℕ} → ((i : ℕ) → Fits w8 (slice_index l i)) → AreBytes l
all_bytes fits = record { each = λ i. Fits-lt-pow (fits i) }

pub bytes_at : (at k : ℕ) (l : List ℕ) → ((i : ℕ) → Fits w8 (slice_index l i)) → AreBytes (part at k l)
bytes_at at k l fits = part_bytes at k l (all_bytes fits)

-- ---- a number's bytes

-- std's bytes of a number, the highest first
pub high_first-bytes : (k n : ℕ) → bytes_high_first k n ≡ bytes_of k n
unfolding bytes_of
high_first-bytes zero n = refl
high_first-bytes (suc zero) n = ap (λ (m : ℕ). m % 256 ∷ []) (sym (div-one n))
high_first-bytes (suc (suc k)) n = ap (λ (r : List ℕ). n / 256 ^ suc k % 256 ∷ r) (high_first-bytes (suc k) n)

-- the k bytes of x, copied over a part of a slice
pub copied : (l ys : List ℕ) (at j k x : ℕ) → at + k ≤ length l → j ≡ k → ys ≡ bytes_high_first k x → put_mid at j l ys ≡ sets l at (bytes_of k x)
copied l ys at j k x h i e =
    let long : length (bytes_of k x) ≡ k = length-bytes k x in
    let end : drop j (drop at l) ≡ drop (at + length (bytes_of k x)) l = drop-drop j at l ∙ ap (λ (m : ℕ). drop (at + m) l) (i ∙ sym long) in
    ap₂ (λ (a b : List ℕ). take at l ++ (a ++ b)) (e ∙ high_first-bytes k x) end ∙ sym (append_assoc (take at l) (bytes_of k x) (drop (at + length (bytes_of k x)) l)) ∙ sym (sets-eq (bytes_of k x) l at (omega arith))

-- the last k bytes of several
last_bytes : (j k n : ℕ) → drop j (bytes_high_first (j + k) n) ≡ bytes_high_first k n
last_bytes zero k n = ap (λ (m : ℕ). bytes_high_first m n) (zero-add k)
last_bytes (suc j) k n = ap (λ (m : ℕ). drop (suc j) (bytes_high_first m n)) (suc-add j k) ∙ last_bytes j k n

-- the last k of the eight bytes of x, cut off and copied
pub copied_last : (l ys b : List ℕ) (at j k x t i : ℕ) → at + k ≤ length l → j ≡ k → k ≤ 8 → i ≡ 8 - k → k ≤ t → b ≡ bytes_high_first 8 x → ys ≡ take t (drop i b) → put_mid at j l ys ≡ sets l at (bytes_of k x)
copied_last l ys b at j k x t i h e f d more eb ey =
    let eight : 8 ≡ i + k = omega (arith, f, d) in
    let last : drop i b ≡ bytes_high_first k x = ap (drop i) (eb ∙ ap (λ (m : ℕ). bytes_high_first m x) eight) ∙ last_bytes i k x in
    let long : length (bytes_high_first k x) ≡ k = ap length (high_first-bytes k x) ∙ length-bytes k x in
    copied l ys at j k x h e (ey ∙ ap (take t) last ∙ take_all t (bytes_high_first k x) (omega (arith, long, more)))
