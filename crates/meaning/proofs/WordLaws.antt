-- A set of more than w states as two words of w bits, `high * 2 ^ w + low`: membership, union, inside, size and equality go word by word, for
-- every w. A state below w is the low word's, and state w + s is the high word's state s.
use mathlib.Core.Path.{◌≡◌, sym, ap, ◌∙◌, subst}
use mathlib.Core.Logic.{◌↔◌}
use Prim.Native.Nat.{ℕ, zero, suc, ◌+◌, ◌-◌, ◌*◌, ◌/◌, ◌%◌, ◌^◌, ◌≤◌, ◌<◌}
use native.Mathlib.Nat.{lt_of_not-le, pow-suc, not-suc-le-zero, le_of_suc-le-suc}
use native.Mathlib.Decide.{dec_le}
use native.Mathlib.Omega.{arith}
use lib.Bits.{block_odd, block_half, bit_and, or_block, and_block}
use lib.Count.{ones_cat}
use lib.Pow.{high, low, shr-shr}
use Rattle.meaning.specs.Sets.{bit, ◌∈◌, ◌⊆◌, union, size}
use Rattle.meaning.proofs.SetLaws.{member, bit-zero, bit-suc, ∈_lt}

-- the set whose words are hi and lo
abbrev pub words : ℕ → ℕ → ℕ → ℕ
words w hi lo = hi * 2 ^ w + lo

-- ---- membership

pub bit_low : (w hi lo s : ℕ) → lo < 2 ^ w → s < w → bit s (words w hi lo) ≡ bit s lo
bit_low zero hi lo s h l = absurd (not-suc-le-zero l)
bit_low (suc w) hi lo zero h l = bit-zero (words (suc w) hi lo) ∙ block_odd hi w lo ∙ sym (bit-zero lo)
bit_low (suc w) hi lo (suc s) h l =
    bit-suc s (words (suc w) hi lo) ∙ ap (bit s) (block_half hi w lo) ∙ bit_low w hi (lo / 2) s (omega (arith, h, pow-suc 2 w)) (le_of_suc-le-suc l) ∙ sym (bit-suc s lo)

pub bit_high : (w hi lo s : ℕ) → lo < 2 ^ w → bit (w + s) (words w hi lo) ≡ bit s hi
bit_high w hi lo s h = ap (λ (z : ℕ). z % 2) (sym (shr-shr (words w hi lo) w s) ∙ ap (λ (z : ℕ). z / 2 ^ s) (high hi w h))

pub ∈_low : (w hi lo s : ℕ) → lo < 2 ^ w → s < w → s ∈ words w hi lo ↔ s ∈ lo
∈_low w hi lo s h l = let e = bit_low w hi lo s h l in (λ m. member (sym e ∙ m.is_one), λ m. member (e ∙ m.is_one))

pub ∈_high : (w hi lo s : ℕ) → lo < 2 ^ w → (w + s) ∈ words w hi lo ↔ s ∈ hi
∈_high w hi lo s h = let e = bit_high w hi lo s h in (λ m. member (sym e ∙ m.is_one), λ m. member (e ∙ m.is_one))

-- ---- union, common part, inside, size, equality

pub union_words : (w hi lo hi' lo' : ℕ) → lo < 2 ^ w → lo' < 2 ^ w → union (words w hi lo) (words w hi' lo') ≡ words w (union hi hi') (union lo lo')
union_words w hi lo hi' lo' h h' = or_block w hi hi' lo lo' h h'

pub and_words : (w hi lo hi' lo' : ℕ) → lo < 2 ^ w → lo' < 2 ^ w → bit_and (words w hi lo) (words w hi' lo') ≡ words w (bit_and hi hi') (bit_and lo lo')
and_words w hi lo hi' lo' h h' = and_block w hi hi' lo lo' h h'

pub inside_words : (w hi lo hi' lo' : ℕ) → lo < 2 ^ w → lo' < 2 ^ w → words w hi lo ⊆ words w hi' lo' ↔ ((hi ⊆ hi') × (lo ⊆ lo'))
inside_words w hi lo hi' lo' h h' = (
  λ i. (
    λ s m. (∈_high w hi' lo' s h').0 (i (w + s) ((∈_high w hi lo s h).1 m)),
    λ s m. (let l : s < w = ∈_lt w h m in (∈_low w hi' lo' s h' l).0 (i s ((∈_low w hi lo s h l).1 m))),
  ),
  λ r s m. go r s m (dec_le w s),
)
  where
    go : ((hi ⊆ hi') × (lo ⊆ lo')) → (s : ℕ) → s ∈ words w hi lo → Dec (w ≤ s) → s ∈ words w hi' lo'
    go r s m (yes l) =
        let e : w + (s - w) ≡ s = omega (arith, l) in
        let m' : (w + (s - w)) ∈ words w hi lo = subst (λ (t : ℕ). t ∈ words w hi lo) (sym e) m in
        subst (λ (t : ℕ). t ∈ words w hi' lo') e ((∈_high w hi' lo' (s - w) h').1 (r.0 (s - w) ((∈_high w hi lo (s - w) h).0 m')))
    go r s m (no l) =
        let b : s < w = lt_of_not-le l in
        (∈_low w hi' lo' s h' b).1 (r.1 s ((∈_low w hi lo s h b).0 m))

pub size_words : (w hi lo : ℕ) → lo < 2 ^ w → size (words w hi lo) ≡ size hi + size lo
size_words w hi lo h = ones_cat w hi lo h

-- two sets are equal exactly where their words are; so a set is empty exactly where both words are
pub words_equal : (w hi lo hi' lo' : ℕ) → lo < 2 ^ w → lo' < 2 ^ w → words w hi lo ≡ words w hi' lo' → (hi ≡ hi') × (lo ≡ lo')
words_equal w hi lo hi' lo' h h' e =
    (sym (high hi w h) ∙ ap (λ (z : ℕ). z / 2 ^ w) e ∙ high hi' w h', sym (low hi w h) ∙ ap (λ (z : ℕ). z % 2 ^ w) e ∙ low hi' w h')
