-- Bytes put at a place: what is promised where the buffer has no room, and where it has; and what a caller learns of the promise, so that a program can print
-- one line after another.
-- The idea: an end that is at most the length of a buffer is no capped one, and where the bytes fit the promise is a run of stores.
use mathlib.Core.Path.{◌≡◌, refl, sym, ap, ◌∙◌, subst}
use mathlib.Core.Bool.{Bool, true, false}
use mathlib.Core.List.{List, ◌++◌}
use Prim.Native.Nat.{ℕ, ◌+◌, ◌≤◌, ◌<◌}
use native.Mathlib.Omega.{arith}
use lib.Dec.{leb}
use lib.ListN.{length, length-append}
use lib.Seq.{sets, sets-eq, length-sets}
use borrow.Author.Tests.{le-leb, lt-leb, leb-true}
use Rattle.decimal.specs.Fields.{capped}
use Rattle.std.specs.Prelude.{Result, Ok, Err}
use Rattle.line.specs.Placing.{answered, placed, Placed}
use Rattle.line.specs.declared.Short.{Short}
use Rattle.decimal.proofs.Stores.{sets-on}

abbrev pub short : ℕ → Short
short n = record { needed = n }

-- the bytes fit: the end is answered, and they are stored
pub stored_whole : (bytes : List ℕ) (at : ℕ) (before : List ℕ) {after : List ℕ} → at + length bytes ≤ length before → after ≡ sets before at bytes → Placed bytes at before after (Ok (at + length bytes))
unfolding answered placed
stored_whole bytes at before h f =
    let t = le-leb (at + length bytes) (length before) h in
    record { answer = simp t; output = f ∙ sets-eq bytes before at h ∙ simp t }

-- what the code knows: the end, capped, and whether it lies within the buffer
module _ (bytes : List ℕ) (at : ℕ) (before : List ℕ) {end : ℕ} (e : end ≡ capped (at + length bytes)) where
  pub no_room : length before < end → Placed bytes at before before (Err (short end))
  unfolding answered placed
  no_room h =
      let t = lt-leb (at + length bytes) (length before) (omega arith) in
      record { answer = ap (λ (n : ℕ). Err (short n)) e ∙ simp t; output = simp t }

  pub room : {after : List ℕ} → length before < 18446744073709551615 → end ≤ length before → after ≡ sets before at bytes → Placed bytes at before after (Ok end)
  room {after} s h f =
      let x : at + length bytes ≡ end = omega (arith, s, h) in
      subst (λ (n : ℕ). Placed bytes at before after (Ok n)) x (stored_whole bytes at before (omega arith) f)

-- ---- what a caller learns

-- two answers and two buffers that the promise permits are equal
pub one_result : {bytes : List ℕ} {at : ℕ} {before after other : List ℕ} {r q : Result ℕ Short} → Placed bytes at before after r → Placed bytes at before other q → (r ≡ q) × (after ≡ other)
one_result p o = (p.answer ∙ sym o.answer, p.output ∙ sym o.output)

module _ {bytes : List ℕ} {at : ℕ} {before after : List ℕ} {r : Result ℕ Short} (p : Placed bytes at before after r) where
  -- the bytes fit and are stored, or they do not and the buffer is as it was
  by-room : {P : Type 0} → (at + length bytes ≤ length before → r ≡ Ok (at + length bytes) → after ≡ sets before at bytes → P) → (r ≡ Err (short (capped (at + length bytes))) → after ≡ before → P) → P
  unfolding answered placed
  by-room {P} fits too_short = go (leb (at + length bytes) (length before)) refl
    where
      go : (t : Bool) → leb (at + length bytes) (length before) ≡ t → P
      go true l = let h = leb-true (at + length bytes) (length before) l in fits h (p.answer ∙ simp l) (p.output ∙ (simp l) ∙ sym (sets-eq bytes before at h))
      go false l = too_short (p.answer ∙ simp l) (p.output ∙ simp l)

  -- an end is where the bytes end, and lies within the buffer
  pub end_within : {end : ℕ} → r ≡ Ok end → (end ≡ at + length bytes) × (end ≤ length before)
  end_within {end} e = by-room (λ h q s. let x : end ≡ at + length bytes = cc in (x, omega arith)) (λ q s. let z : ◌≡◌ {A = ℕ} 0 1 = cc in absurd (omega arith))

  -- too short a buffer is as it was
  pub short_kept : {e : Short} → r ≡ Err e → (e.needed ≡ capped (at + length bytes)) × (after ≡ before)
  short_kept {e} f = by-room (λ h q s. let z : ◌≡◌ {A = ℕ} 0 1 = cc in absurd (omega arith)) (λ q s. let x : e ≡ short (capped (at + length bytes)) = cc in (ap (λ (t : Short). t.needed) x, s))

  -- an end: the bytes are stored
  pub end_stored : {end : ℕ} → r ≡ Ok end → after ≡ sets before at bytes
  end_stored e = by-room (λ h q s. s) (λ q s. let z : ◌≡◌ {A = ℕ} 0 1 = cc in absurd (omega arith))

  -- a buffer that is long enough gets them
  pub enough : at + length bytes ≤ length before → r ≡ Ok (at + length bytes)
  unfolding answered
  enough h = let t = le-leb (at + length bytes) (length before) h in p.answer ∙ simp t

-- what is put where something else ended, and ends itself, is one with it
pub in_turn : {a b : List ℕ} {at end last : ℕ} {before middle after : List ℕ} {r q : Result ℕ Short}
    → Placed a at before middle r → r ≡ Ok end → Placed b end middle after q → q ≡ Ok last → Placed (a ++ b) at before after (Ok last)
in_turn {a} {b} {at} {end} {last} {before} {middle} {after} p e o f =
    let x : end ≡ at + length a = (end_within p e).0 in
    let l : length middle ≡ length before = ap length (end_stored p e) ∙ length-sets before at a in
    let y : at + length (a ++ b) ≡ last = omega (arith, x, length-append a b, (end_within o f).0) in
    let s : after ≡ sets before at (a ++ b) = end_stored o f ∙ sets-on before at a b (end_stored p e) x in
    subst (λ (n : ℕ). Placed (a ++ b) at before after (Ok n)) y (stored_whole (a ++ b) at before (omega (arith, l, y, (end_within o f).1)) s)
