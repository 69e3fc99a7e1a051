-- The two ends of what can be asked for: the empty plan is good exactly when the initial set lies inside the goal, and an empty goal has no good plan.
-- The idea of the second: an applicable plan has a full run, and that run would end in a state of the empty set.
use mathlib.Core.Logic.{◌↔◌}
use mathlib.Core.List.{List, [], ◌∷◌}
use Prim.Native.Nat.{ℕ}
use Rattle.meaning.specs.Sets.{◌∈◌, ◌⊆◌, empty}
use Rattle.meaning.specs.Domain.{Domain, Start}
use Rattle.meaning.specs.Runs.{Run, stop, move, Applicable, Good}
use Rattle.meaning.proofs.SetLaws.{some_member, ∉_empty}

module _ (D : Domain) where
  pub empty-plan-good : {x g : ℕ} → Good D x g [] ↔ (x ⊆ g)
  empty-plan-good {x} {g} = (λ h s m. h.arrives s s m stop, λ i. record { applicable = λ s m. tt; arrives = λ s t m r. go i m r })
    where
      go : x ⊆ g → {s t : ℕ} → s ∈ x → Run D s [] t → t ∈ g
      go i {s} m stop = i s m

  -- an applicable plan has a full run
  pub full_run : (p : List ℕ) {s : ℕ} → Applicable D p s → (t : ℕ) × Run D s p t
  full_run [] {s} h = (s, stop)
  full_run (a ∷ p) h =
      let next = h.0 in
      let rest = full_run p (h.1 next.0 next.1) in
      (rest.0, move next.1 rest.1)

  pub empty-goal-none : {x : ℕ} → Start D x → (p : List ℕ) → ¬ Good D x empty p
  empty-goal-none {x} b p h =
      let m = some_member D.states x b.within b.some_state in
      let r = full_run p (h.applicable m.0 m.1) in
      ∉_empty (h.arrives m.0 r.0 m.1 r.1)
