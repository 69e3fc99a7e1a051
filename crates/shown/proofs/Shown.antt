-- What is known of a following set that is shown: the counts fit, and its bytes are within the sheet.
-- The idea: the four tests, taken apart.
use mathlib.Core.Path.{◌≡◌, refl, ap, ◌∙◌, subst}
use Rattle.std.specs.Prelude.{Option, Some, None}
use mathlib.Core.Bool.{Bool, true, false, cond, ◌&&◌}
use mathlib.Core.List.{List, []}
use Prim.Native.Nat.{ℕ, ◌+◌, ◌*◌, ◌≤◌, ◌<◌}
use native.Mathlib.Omega.{arith}
use lib.Dec.{ltb, leb}
use lib.ListN.{length}
use borrow.Author.Tests.{ltb-true, leb-true}
use Rattle.meaning.proofs.Tests.{clash}
use Rattle.numbers.specs.Bytes.{part}
use Rattle.sheet.specs.Sheet.{set_offset, set_width}
use Rattle.shown.specs.Shown.{is_shown, offset_of, shown_from, shown_at}
use Rattle.numbers.proofs.Numbers.{length_part}
use Rattle.sheet.proofs.Rows.{product}

pub and_true : (a b : Bool) → (a && b) ≡ true → (a ≡ true) × (b ≡ true)
and_true true b e = (refl, e)
and_true false b e = absurd (clash (cc))

pub record Shown (n states a s : ℕ) : Type 0 where
  pub state : s < states
  pub states_fit : states ≤ 64
  pub command : a < 32
  pub product_fits : a * states ≤ 2048
  pub inside : set_offset (a * states + s) + set_width ≤ n

pub shown : (n states a s : ℕ) → is_shown n states a s ≡ true → Shown n states a s
unfolding is_shown
shown n states a s e =
    let h = and_true (ltb s states && leb states 64 && ltb a 32) (leb (set_offset (a * states + s) + set_width) n) e in
    let k = and_true (ltb s states && leb states 64) (ltb a 32) h.0 in
    let m = and_true (ltb s states) (leb states 64) k.0 in
    record {
      state = ltb-true s states m.0;
      states_fit = leb-true states 64 m.1;
      command = ltb-true a 32 k.1;
      product_fits = product (omega (arith, ltb-true a 32 k.1)) (leb-true states 64 m.1);
      inside = leb-true (set_offset (a * states + s) + set_width) n h.1;
    }

pub shown_part : (l : List ℕ) (states a s : ℕ) → is_shown (length l) states a s ≡ true → shown_at l states a s ≡ part (set_offset (a * states + s)) set_width l
unfolding shown_at
shown_part l states a s e = ap (λ (b : Bool). cond b (part (set_offset (a * states + s)) set_width l) []) e

pub shown_none : (l : List ℕ) (states a s : ℕ) → is_shown (length l) states a s ≡ false → shown_at l states a s ≡ []
unfolding shown_at
shown_none l states a s e = ap (λ (b : Bool). cond b (part (set_offset (a * states + s)) set_width l) []) e

pub from-part : (l : List ℕ) (states a s : ℕ) → is_shown (length l) states a s ≡ true → shown_from l states a s ≡ set_offset (a * states + s)
unfolding shown_from
from-part l states a s e = ap (λ (b : Bool). cond b (set_offset (a * states + s)) 0) e

pub from-none : (l : List ℕ) (states a s : ℕ) → is_shown (length l) states a s ≡ false → shown_from l states a s ≡ 0
unfolding shown_from
from-none l states a s e = ap (λ (b : Bool). cond b (set_offset (a * states + s)) 0) e

-- a following set has 8 bytes or none
pub shown_length : (l : List ℕ) (states a s : ℕ) → (length (shown_at l states a s) ≡ set_width → ⊥) → shown_at l states a s ≡ []
shown_length l states a s ne = go (is_shown (length l) states a s) refl
  where
    go : (b : Bool) → is_shown (length l) states a s ≡ b → shown_at l states a s ≡ []
    go true e = absurd (ne (ap length (shown_part l states a s e) ∙ length_part (set_offset (a * states + s)) set_width l (shown (length l) states a s e).inside))
    go false e = shown_none l states a s e

-- ---- by its offset

-- what is known where the set stands at an offset
pub record StandsAt (l : List ℕ) (states a s at : ℕ) : Type 0 where
  pub inside : at + set_width ≤ length l
  pub bytes : shown_at l states a s ≡ part at set_width l
  pub place : shown_from l states a s ≡ at

pub record StandsNowhere (l : List ℕ) (states a s : ℕ) : Type 0 where
  pub bytes : shown_at l states a s ≡ []
  pub place : shown_from l states a s ≡ 0

module _ (l : List ℕ) (states a s : ℕ) where
  abbrev place_of : ℕ
  place_of = set_offset (a * states + s)

  pub stands_at : (at : ℕ) → ◌≡◌ {A = Option ℕ} (Some at) (offset_of (length l) states a s) → StandsAt l states a s at
  unfolding offset_of
  stands_at at e = go (is_shown (length l) states a s) refl e
    where
      go : (b : Bool) → is_shown (length l) states a s ≡ b → ◌≡◌ {A = Option ℕ} (Some at) (cond b (Some place_of) None) → StandsAt l states a s at
      go true f i =
          let same : place_of ≡ at = cc in
          record {
            inside = subst (λ (k : ℕ). k + set_width ≤ length l) same (shown (length l) states a s f).inside;
            bytes = shown_part l states a s f ∙ ap (λ (k : ℕ). part k set_width l) same;
            place = from-part l states a s f ∙ same;
          }
      go false f i = absurd (clash (cc))

  pub stands_nowhere : ◌≡◌ {A = Option ℕ} None (offset_of (length l) states a s) → StandsNowhere l states a s
  unfolding offset_of
  stands_nowhere e = go (is_shown (length l) states a s) refl e
    where
      go : (b : Bool) → is_shown (length l) states a s ≡ b → ◌≡◌ {A = Option ℕ} None (cond b (Some place_of) None) → StandsNowhere l states a s
      go true f i = absurd (clash (cc))
      go false f i = record { bytes = shown_none l states a s f; place = from-none l states a s f }
