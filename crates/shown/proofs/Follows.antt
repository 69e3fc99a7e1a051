-- In an accepted sheet a following set is shown exactly where its command and its state are there, and as a number it is the domain's.
-- The idea: the sheet's length leaves room for exactly the commands that it has.
use mathlib.Core.Path.{◌≡◌, refl, sym, ap, ◌∙◌, subst}
use mathlib.Core.Bool.{Bool, true, false, cond, ◌&&◌}
use mathlib.Core.List.{List, []}
use Prim.Native.Nat.{ℕ, ◌+◌, ◌*◌, ◌≤◌, ◌<◌}
use native.Mathlib.Nat.{mul-le-mul_right}
use native.Mathlib.Omega.{arith}
use lib.Arith.{digits_lt}
use lib.Dec.{ltb, leb}
use lib.ListN.{length, get_or}
use borrow.Author.Tests.{lt-ltb, le-ltb, le-leb, lt-leb, ltb-true, ltb-false}
use Rattle.std.specs.Prelude.{Err, Ok}
use Rattle.numbers.specs.Bytes.{number, part}
use Rattle.sheet.specs.Sheet.{sheet_in, domain, domain_in, set_offset, set_in, set_width, length_for, states_in, commands_in}
use Rattle.sheet.specs.Answers.{shown_head, reading, Reading}
use Rattle.shown.specs.Following.{following, following_from}
use Rattle.shown.specs.Shown.{is_shown, shown_at, shown_from}
use Rattle.sheet.specs.declared.Head.{Head}
use Rattle.sheet.proofs.Rows.{get_or_from_0}
use Rattle.sheet.proofs.Accepts.{Accepts, reading_accepts}

-- the place of a command and a state is there
pub placed : {a s m n : ℕ} → a < m → s < n → a * n + s < m * n
placed h k = digits_lt h k

pub shown_there : (n m a s : ℕ) → n ≤ 64 → m ≤ 32 → is_shown (length_for n m) n a s ≡ (ltb a m && ltb s n)
unfolding is_shown
shown_there n m a s hn hm = go (ltb s n) refl (ltb a m) refl
  where
    go : (b : Bool) → ltb s n ≡ b → (c : Bool) → ltb a m ≡ c → (ltb s n && leb n 64 && ltb a 32 && leb (set_offset (a * n + s) + set_width) (length_for n m)) ≡ (ltb a m && ltb s n)
    go false e false f = simp (e, f)
    go false e true f = simp (e, f)
    go true e true f =
        let p : a * n + s < m * n = placed (ltb-true a m f) (ltb-true s n e) in
        let i : a < 32 = omega (arith, ltb-true a m f) in
        let r : set_offset (a * n + s) + set_width ≤ length_for n m = omega arith in
        simp (e, f, le-leb n 64 hn, lt-ltb a 32 i, le-leb (set_offset (a * n + s) + set_width) (length_for n m) r)
    go true e false f =
        let p : m * n ≤ a * n = mul-le-mul_right n (ltb-false a m f) in
        let r : length_for n m < set_offset (a * n + s) + set_width = omega arith in
        simp (e, f, le-leb n 64 hn, lt-leb (set_offset (a * n + s) + set_width) (length_for n m) r) (none (ltb a 32))
      where
        none : (b : Bool) → (b && false) ≡ false
        none true = refl
        none false = refl

module _ (l : List ℕ) (t : Accepts l) (a s : ℕ) where
  there : is_shown (length l) (sheet_in l).states a s ≡ (ltb a (sheet_in l).commands && ltb s (sheet_in l).states)
  there =
      ap (λ (k : ℕ). is_shown k (sheet_in l).states a s) t.long
      ∙ shown_there (sheet_in l).states (sheet_in l).commands a s t.is_valid.states_fit t.is_valid.commands_fit

  shown_by : shown_at l (sheet_in l).states a s ≡ cond (ltb a (sheet_in l).commands && ltb s (sheet_in l).states) (part (set_offset (a * (sheet_in l).states + s)) set_width l) []
  unfolding shown_at
  shown_by = ap (λ (b : Bool). cond b (part (set_offset (a * (sheet_in l).states + s)) set_width l) []) there

  follows : number (shown_at l (sheet_in l).states a s) ≡ (domain_in l).follow a s
  unfolding number domain sheet_in
  follows = ap number shown_by ∙ go (ltb a (commands_in l)) refl (ltb s (states_in l)) refl
    where
      go : (b : Bool) → ltb a (commands_in l) ≡ b → (c : Bool) → ltb s (states_in l) ≡ c
          → number (cond (ltb a (commands_in l) && ltb s (states_in l)) (part (set_offset (a * states_in l + s)) set_width l) [])
          ≡ cond (ltb a (commands_in l) && ltb s (states_in l)) (get_or (sheet_in l).sets (a * states_in l + s) 0) 0
      go true e true f = simp (e, f) (sym (get_or_from_0 (set_in l) (commands_in l * states_in l) (a * states_in l + s) (placed (ltb-true a (commands_in l) e) (ltb-true s (states_in l) f))))
      go true e false f = simp (e, f)
      go false e c f = simp e

module _ (l : List ℕ) (h : Head) (e : reading l ≡ Ok h) (a s : ℕ) where
  -- as a number it is the domain's following set, for any command and any state
  pub set_is_follow : number (shown_at l h.states a s) ≡ (domain_in l).follow a s
  set_is_follow =
      let t = reading_accepts l h e in
      ap (λ (g : Head). number (shown_at l g.states a s)) t.head ∙ follows l t.accepts a s

-- ---- for any bytes, by the head that the sheet has

module _ (l : List ℕ) (a s : ℕ) where
  -- a set is shown by the count of states exactly where the sheet says that both are there
  shown_test : is_shown (length l) (shown_head (reading l)).states a s ≡ (ltb a (shown_head (reading l)).commands && ltb s (shown_head (reading l)).states)
  unfolding is_shown
  shown_test = go (reading l) refl
    where
      Claim : Head → Type 0
      Claim h = is_shown (length l) h.states a s ≡ (ltb a h.commands && ltb s h.states)

      go : (r : Reading) → reading l ≡ r → Claim (shown_head (reading l))
      go (Ok h) e = let t = reading_accepts l h e in subst (λ (r : Reading). Claim (shown_head r)) (sym e) (subst Claim (sym t.head) (there l t.accepts a s))
      go (Err q) e = subst (λ (r : Reading). Claim (shown_head r)) (sym e) (simp (le-ltb s 0 (omega arith), le-ltb a 0 (omega arith)))

  pub shown_following : shown_at l (shown_head (reading l)).states a s ≡ following l a s
  unfolding shown_at
  shown_following = ap (λ (b : Bool). cond b (part (set_offset (a * (shown_head (reading l)).states + s)) set_width l) []) shown_test

  pub from-following : shown_from l (shown_head (reading l)).states a s ≡ following_from l a s
  unfolding shown_from
  from-following = ap (λ (b : Bool). cond b (set_offset (a * (shown_head (reading l)).states + s)) 0) shown_test
