-- The agreement of the sets met by a plan's commands with the states met by its runs, for plans of every length: by the plan's first command, and
-- then by its rest from the set that this command gives.
use mathlib.Core.Path.{◌≡◌, refl, sym, ◌∙◌, subst}
use mathlib.Core.Logic.{◌⊎◌, inl, inr, ◌≢◌, ◌↔◌}
use mathlib.Core.Option.{none, some}
use mathlib.Core.List.{List, [], ◌∷◌}
use Prim.Native.Nat.{ℕ, zero, suc, ◌<◌}
use lib.ListN.{take}
use Rattle.meaning.specs.Sets.{◌∈◌}
use Rattle.meaning.specs.Domain.{Domain, Within, WellFormed}
use Rattle.meaning.specs.Runs.{Leads, Takes, Run, stop, move, Applicable, Good, Stuck, here, after, NeverFails}
use Rattle.meaning.specs.Walk.{Walked, ended, blocked, walk, step, Gives, Solves}
use Rattle.meaning.proofs.SetLaws.{∈_lt, some_member, ∉_empty}
use Rattle.meaning.proofs.StepLaws.{Image, step_some, step-none}
use Rattle.meaning.specs.Listing.{At}
use Rattle.meaning.specs.Answers.{NotSendable}
use Rattle.meaning.proofs.WalkLaws.{blocked-cons, walk-nil, blocked_ne_ended, nil-gives, cons-gives, gives-take}

module _ (D : Domain) (ok : WellFormed D) where
  -- a command can be taken in a state exactly where its following set is not empty
  pub takes : {s a : ℕ} → s < D.states → D.follow a s ≢ 0 → Takes D s a
  takes {s} {a} b h = some_member D.states (D.follow a s) (ok.rows a s b) h

  -- what follows a state that exists exists
  pub leads_lt : {s a t : ℕ} → s < D.states → Leads D s a t → t < D.states
  leads_lt {s} {a} b l = ∈_lt D.states (ok.rows a s b) l

  -- what a walk that ends says of the runs
  pub record Agrees (x : ℕ) (p : List ℕ) (y : ℕ) : Type 0 where
    pub within : Within D y
    pub applicable : (s : ℕ) → s ∈ x → Applicable D p s
    pub reached : (t : ℕ) → t ∈ y → (s : ℕ) × (s ∈ x) × Run D s p t
    pub reaches : (s t : ℕ) → s ∈ x → Run D s p t → t ∈ y

  agrees_nil : {x : ℕ} → Within D x → Agrees x [] x
  agrees_nil {x} w = record {
    within = w;
    applicable = λ s h. tt;
    reached = λ t h. (t, h, stop);
    reaches = λ s t h r. go h r;
  }
    where
      go : {s t : ℕ} → s ∈ x → Run D s [] t → t ∈ x
      go h stop = h

  agrees_cons : {x a z y : ℕ} {p : List ℕ} → Within D x → Image D x a z → Agrees z p y → Agrees x (a ∷ p) y
  agrees_cons {x} {a} {z} {y} {p} w i g = record {
    within = g.within;
    applicable = λ s h. (takes (∈_lt D.states w h) (i.taken s h), λ t l. g.applicable t (i.into s t h l));
    reached = λ t h. (let r = g.reached t h in let q = i.from r.0 r.1 in (q.0, q.1, move q.2 r.2));
    reaches = λ s t h r. go h r;
  }
    where
      go : {s t : ℕ} → s ∈ x → Run D s (a ∷ p) t → t ∈ y
      go {s} {t} h (move {t = u} l r) = g.reaches u t (i.into s u h l) r

  -- up to the end of a walk that ends, the last set has exactly the states that the runs reach
  pub agree : {x y : ℕ} {p : List ℕ} → Within D x → Gives (step D) x p y → Agrees x p y
  agree {x} {p = []} w e = subst (λ (v : ℕ). Agrees x [] v) (nil-gives (step D) e) (agrees_nil w)
  agree {x = x} {y = y} {p = a ∷ p} w e =
      let r = cons-gives (step D) e in
      let i = step_some D ok w r.1 in
      agrees_cons w i (agree {x = r.0} {y = y} {p = p} i.within r.2)

  -- a plan with a run that gets stuck is not applicable
  pub stuck_not_applicable : {s : ℕ} {p : List ℕ} → Stuck D s p → ¬ Applicable D p s
  stuck_not_applicable (here h) g = h g.0.0 g.0.1
  stuck_not_applicable (after {t = t} l k) g = stuck_not_applicable k (g.1 t l)

  -- where a walk is blocked, some run gets stuck
  pub blocked_stuck : (x k y : ℕ) (p : List ℕ) → Within D x → walk (step D) x p ≡ blocked k y → (s : ℕ) × (s ∈ x) × Stuck D s p
  blocked_stuck x k y [] w e = absurd (blocked_ne_ended (sym e ∙ walk-nil (step D) x))
  blocked_stuck x k y (a ∷ p) w e = go (λ z j v. blocked_stuck z j y p v) (blocked-cons (step D) p e)
    where
      go : ((z j : ℕ) → Within D z → walk (step D) z p ≡ blocked j y → (s : ℕ) × (s ∈ z) × Stuck D s p)
          → ((step D x a ≡ none) × (k ≡ zero) × (y ≡ x)) ⊎ ((z : ℕ) × (j : ℕ) × (step D x a ≡ some z) × (k ≡ suc j) × (walk (step D) z p ≡ blocked j y))
          → (s : ℕ) × (s ∈ x) × Stuck D s (a ∷ p)
      go ih (inl (h, q, v)) =
          let c = step-none D ok w h in
          (c.state, c.present, here (λ t l. ∉_empty (subst (λ (z : ℕ). t ∈ z) c.nothing l)))
      go ih (inr (z, j, h, q, g)) =
          let i = step_some D ok w h in
          let r = ih z j i.within g in
          let f = i.from r.0 r.1 in
          (f.0, f.1, after f.2 r.2)

  -- ---- the agreement

  pub solves_good : {x g : ℕ} {p : List ℕ} → Within D x → Solves D x g p → Good D x g p
  solves_good w v =
      let h = agree w v.gives in
      record { applicable = h.applicable; arrives = λ s t i r. v.inside t (h.reaches s t i r) }

  pub good_solves : {x g : ℕ} {p : List ℕ} → Within D x → Good D x g p → Solves D x g p
  good_solves {x} {g} {p} w v = go (walk (step D) x p) refl
    where
      go : (r : Walked) → walk (step D) x p ≡ r → Solves D x g p
      go (ended y) e = let h = agree w (record { walked = e }) in record {
        last = y;
        gives = record { walked = e };
        inside = λ t i. (let q = h.reached t i in v.arrives q.0 t q.1 q.2);
      }
      go (blocked k y) e = let q = blocked_stuck x k y p w e in absurd (stuck_not_applicable q.2 (v.applicable q.0 q.1))

  pub good_iff_solves : {x g : ℕ} {p : List ℕ} → Within D x → Good D x g p ↔ Solves D x g p
  good_iff_solves w = (good_solves w, solves_good w)

  -- the product's words and Definition 6
  pub not_stuck-applicable : {s : ℕ} (p : List ℕ) → s < D.states → ¬ Stuck D s p → Applicable D p s
  not_stuck-applicable [] b h = tt
  not_stuck-applicable {s} (a ∷ p) b h =
      (takes b (λ z. h (here (λ t l. ∉_empty (subst (λ (v : ℕ). t ∈ v) z l)))), λ t l. not_stuck-applicable p (leads_lt b l) (λ k. h (after l k)))

  pub never_fails_iff_good : {x g : ℕ} {p : List ℕ} → Within D x → NeverFails D x g p ↔ Good D x g p
  never_fails_iff_good {p = p} w = (
    λ v. record { applicable = λ s i. not_stuck-applicable p (∈_lt D.states w i) (v.not_stuck s i); arrives = v.arrives },
    λ v. record { not_stuck = λ s i k. stuck_not_applicable k (v.applicable s i); arrives = v.arrives },
  )

  -- ---- along the walk

  -- after each number of commands that are sendable in turn, the set has exactly the states that the runs reach
  pub walk_is_runs : {x y : ℕ} {p : List ℕ} → Within D x → Gives (step D) x p y → (k : ℕ) → (z : ℕ) × Gives (step D) x (take k p) z × Agrees x (take k p) z
  walk_is_runs w g k = let r = gives-take (step D) k g in (r.0, r.1, agree w r.1)

  -- up to the first command that is not sendable; there a run of the commands before it has come to a state that cannot take it
  pub record Blocks (x : ℕ) (p : List ℕ) (k y : ℕ) : Type 0 where
    pub until : Agrees x (take k p) y
    pub command : ℕ
    pub at-index : At p k command
    pub from : ℕ
    pub at : ℕ
    pub present : from ∈ x
    pub run : Run D from (take k p) at
    pub stuck : (t : ℕ) → ¬ Leads D at command t

  pub blocked_is_stuck : {x k y : ℕ} {p : List ℕ} → Within D x → NotSendable D x p k y → Blocks x p k y
  blocked_is_stuck w b =
      let g = agree w b.gives in
      let c = step-none D ok g.within b.no_image in
      let r = g.reached c.state c.present in
      record {
        until = g;
        command = b.command;
        at-index = b.at-index;
        from = r.0;
        at = c.state;
        present = r.1;
        run = r.2;
        stuck = λ t l. ∉_empty (subst (λ (z : ℕ). t ∈ z) c.nothing l);
      }
