-- An accepted sheet's domain is well formed, its initial set is one to start from, and its goal names no missing state; and how long a sheet can be.
-- The idea: these are parts of what makes a sheet valid.
use mathlib.Core.Path.{◌≡◌, sym, ap, ap₂, ◌∙◌, subst}
use mathlib.Core.Bool.{Bool, true, false, cond, ◌&&◌}
use mathlib.Core.List.{List}
use Prim.Native.Nat.{ℕ, ◌+◌, ◌*◌, ◌^◌, ◌≤◌, ◌<◌}
use native.Mathlib.Omega.{arith}
use lib.Dec.{ltb}
use lib.Pow.{pow_pos}
use lib.ListN.{length, get_or}
use borrow.Author.Tests.{le-ltb}
use Rattle.meaning.specs.Domain.{Within, WellFormed, Start}
use Rattle.sets.specs.Words.{set_of}
use Rattle.sets.proofs.Values.{set_for_lem}
use Rattle.sheet.specs.Sheet.{Sheet, Valid, encode, sheet_in, domain, domain_in, length_for}
use Rattle.sheet.specs.Answers.{reading}
use Rattle.sheet.specs.declared.Head.{Head}
use Rattle.std.specs.Prelude.{Ok}
use Rattle.sheet.proofs.Rows.{product}
use Rattle.sheet.proofs.Fields.{length-encode}
use Rattle.sheet.proofs.Accepts.{reading_accepts}

pub valid_well_formed : (s : Sheet) → Valid s → WellFormed (domain s)
unfolding domain
valid_well_formed s v = record { rows = λ a t h. pick (ltb a s.commands && ltb t s.states) (a * s.states + t); no_other = λ a t h. simp (le-ltb a s.commands h) }
  where
    pick : (b : Bool) (i : ℕ) → cond b (get_or s.sets i 0) 0 < 2 ^ s.states
    pick true i = v.sets-within i
    pick false i = pow_pos s.states

module _ (l : List ℕ) (h : Head) (e : reading l ≡ Ok h) where
  pub domain_well_formed : WellFormed (domain_in l)
  domain_well_formed = valid_well_formed (sheet_in l) (reading_accepts l h e).accepts.is_valid

  -- the head's count of states is the domain's
  pub domain-states : (domain_in l).states ≡ h.states
  unfolding domain
  domain-states = sym (ap (λ (g : Head). g.states) (reading_accepts l h e).head)

  pub initial-start : Start (domain_in l) (set_of h.initial)
  unfolding domain
  initial-start =
      let t = reading_accepts l h e in
      let v = t.accepts.is_valid in
      subst (λ (g : Head). Start (domain_in l) (set_of g.initial)) (sym t.head) (subst (λ (x : ℕ). Start (domain_in l) x) (sym (set_for_lem _)) (record { within = v.initial_within; some_state = v.initial_some }))

  pub goal-within : Within (domain_in l) (set_of h.goal)
  unfolding domain
  goal-within =
      let t = reading_accepts l h e in
      subst (λ (g : Head). Within (domain_in l) (set_of g.goal)) (sym t.head) (subst (λ (x : ℕ). Within (domain_in l) x) (sym (set_for_lem _)) t.accepts.is_valid.goal-within)

-- what a caller may rely on in an accepted sheet's head
pub record HeadFits (l : List ℕ) (h : Head) : Type 0 where
  pub some_state : 1 ≤ h.states
  pub states_fit : h.states ≤ 64
  pub some_command : 1 ≤ h.commands
  pub commands_fit : h.commands ≤ 32
  pub long : length l ≡ length_for h.states h.commands

pub head-fits : (l : List ℕ) (h : Head) → reading l ≡ Ok h → HeadFits l h
head-fits l h e =
    let t = reading_accepts l h e in
    let v = t.accepts.is_valid in
    subst (λ (g : Head). HeadFits l g) (sym t.head) (record { some_state = v.some_state; states_fit = v.states_fit; some_command = v.some_command; commands_fit = v.commands_fit; long = t.accepts.long })

-- ---- the largest sheet

-- no sheet that is accepted has more than 16,407 bytes
pub at_most_16407 : (l : List ℕ) (h : Head) → reading l ≡ Ok h → length l ≤ 16407
at_most_16407 l h e =
    let f = head-fits l h e in
    omega (arith, f.long, product f.commands_fit f.states_fit)

-- and one of 64 states and 32 commands has as many
pub largest_16407 : (s : Sheet) → Valid s → s.states ≡ 64 → s.commands ≡ 32 → length (encode s) ≡ 16407
largest_16407 s v e f = length-encode s v.complete ∙ ap₂ (λ (m n : ℕ). length_for m n) e f
