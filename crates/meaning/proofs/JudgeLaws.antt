-- The judge's answer: every plan is in one of four cases, so its statement is met by the computed function and by nothing else; and it says good
-- exactly of the plans that are good by the published meaning.
use mathlib.Core.Path.{◌≡◌, refl, sym, ap, ◌∙◌, subst, subst₂}
use mathlib.Core.Logic.{◌⊎◌, inl, inr, ⊎_elim, ◌↔◌}
use mathlib.Core.Bool.{Bool, cond}
use mathlib.Core.Option.{Option, none, some, none-ne-some}
use mathlib.Core.List.{List, [], ◌∷◌}
use Prim.Native.Nat.{ℕ, zero, suc, ◌+◌, ◌<◌, zero-le, suc-le-suc}
use native.Mathlib.Nat.{not-suc-le-zero, le_of_suc-le-suc, add-zero, suc-add, add-suc}
use native.Mathlib.Decide.{dec_lt}
use native.Mathlib.Omega.{arith}
use lib.ListN.{length}
use borrow.Author.Tests.{le-ltb, lt-ltb}
use Rattle.meaning.specs.Sets.{◌⊆◌, empty}
use Rattle.meaning.specs.Domain.{Domain, WellFormed, Start}
use Rattle.meaning.specs.Runs.{Good}
use Rattle.meaning.specs.Walk.{Walked, ended, blocked, walk, step, Gives, Solves}
use Rattle.meaning.specs.Listing.{At}
use Rattle.meaning.specs.Answers.{Verdict, good, plan, no_plan, refused, Judged, judged, AllCommands, NoCommand, NotSendable, Judges}
use Rattle.meaning.specs.Computed.{first_missing, by_walk, unless_missing, judge}
use Rattle.meaning.proofs.Tests.{clash, inside_test, outside_test, inside_dec}
use Rattle.meaning.proofs.StepLaws.{step_some, command-lt, image_some}
use Rattle.meaning.proofs.Places.{at_head, at_tail, head_at, tail_at}
use Rattle.meaning.proofs.WalkLaws.{blocked-at, at-blocked, cons-gives, gives_fun, blocked_ne_ended}
use Rattle.meaning.proofs.Agreement.{good_solves, solves_good}

-- ---- the verdicts are told apart

pub refused_inj : {m n : ℕ} → refused m ≡ refused n → m ≡ n
refused_inj e = cc

pub refused_not_good : {n : ℕ} → ¬ (refused n ≡ good)
refused_not_good e = clash (cc)

apart : {m n k l y z : ℕ} {j : Judged} → ¬ (m ≡ n) → j ≡ judged (refused m) k y → ¬ (j ≡ judged (refused n) l z)
apart h e f = h (refused_inj (ap (λ (i : Judged). i.verdict) (sym e ∙ f)))

good_apart : {n k l y z : ℕ} {j : Judged} → j ≡ judged good k y → ¬ (j ≡ judged (refused n) l z)
good_apart e f = refused_not_good (ap (λ (i : Judged). i.verdict) (sym f ∙ e))

-- ---- whether each number of a plan is a command

module _ (m : ℕ) where
  pub commands_cases : (p : List ℕ) → ((k : ℕ) × NoCommand m p k) ⊎ AllCommands m p
  commands_cases [] = inr (λ j a u. absurd (none-ne-some a u.held))
  commands_cases (a ∷ p) = go (dec_lt a m) (commands_cases p)
    where
      this : {b : ℕ} → a < m → At (a ∷ p) zero b → b < m
      this h u = subst (λ (c : ℕ). c < m) (head_at u) h

      go : Dec (a < m) → ((k : ℕ) × NoCommand m p k) ⊎ AllCommands m p → ((k : ℕ) × NoCommand m (a ∷ p) k) ⊎ AllCommands m (a ∷ p)
      go (no h) r = inl (zero, record { number = a; at-index = at_head a p; missing = omega (arith, h); before = λ j b l. absurd (not-suc-le-zero l) })
      go (yes h) (inl (k, n)) = inl (suc k, record { number = n.number; at-index = at_tail a n.at-index; missing = n.missing; before = before })
        where
          before : (j b : ℕ) → j < suc k → At (a ∷ p) j b → b < m
          before zero b l u = this h u
          before (suc j) b l u = n.before j b (le_of_suc-le-suc l) (tail_at u)
      go (yes h) (inr all) = inr each
        where
          each : AllCommands m (a ∷ p)
          each zero b u = this h u
          each (suc j) b u = all j b (tail_at u)

  all_not_missing : {k : ℕ} {p : List ℕ} → AllCommands m p → ¬ NoCommand m p k
  all_not_missing {k} all n = omega (arith, all k n.number n.at-index, n.missing)

  missing_is : (k₀ k : ℕ) (p : List ℕ) → NoCommand m p k → first_missing m k₀ p ≡ some (k₀ + k)
  unfolding first_missing
  missing_is k₀ k [] n = absurd (none-ne-some n.number n.at-index.held)
  missing_is k₀ zero (a ∷ p) n =
      ap (λ (b : Bool). cond b (first_missing m (suc k₀) p) (some k₀))
      (le-ltb a m (omega (arith, head_at n.at-index, n.missing)))
      ∙ ap {B = Option ℕ} some (sym (add-zero k₀))
  missing_is k₀ (suc k) (a ∷ p) n =
      ap (λ (b : Bool). cond b (first_missing m (suc k₀) p) (some k₀)) (lt-ltb a m (n.before zero a (suc-le-suc zero-le) (at_head a p)))
      ∙ missing_is (suc k₀) k p (record {
        number = n.number;
        at-index = tail_at n.at-index;
        missing = n.missing;
        before = λ j b l u. n.before (suc j) b (suc-le-suc l) (at_tail a u);
      })
      ∙ ap {B = Option ℕ} some (suc-add k₀ k ∙ sym (add-suc k₀ k))

  none-missing : (k₀ : ℕ) (p : List ℕ) → AllCommands m p → first_missing m k₀ p ≡ none
  unfolding first_missing
  none-missing k₀ [] all = refl
  none-missing k₀ (a ∷ p) all =
      ap (λ (b : Bool). cond b (first_missing m (suc k₀) p) (some k₀)) (lt-ltb a m (all zero a (at_head a p)))
      ∙ none-missing (suc k₀) p (λ j b u. all (suc j) b (at_tail a u))

-- ---- the four cases

module _ (D : Domain) (x g : ℕ) (p : List ℕ) where
  -- an answer with the case that it is given in
  pub data JudgedAs (j : Judged) : Type 0 where
    no_command : {k : ℕ} → NoCommand D.commands p k → j ≡ judged (refused 10) k empty → JudgedAs j
    not_sendable : {k y : ℕ} → AllCommands D.commands p → NotSendable D x p k y → j ≡ judged (refused 11) k y → JudgedAs j
    outside : {y : ℕ} → AllCommands D.commands p → Gives (step D) x p y → ¬ (y ⊆ g) → j ≡ judged (refused 12) (length p) y → JudgedAs j
    inside : {y : ℕ} → AllCommands D.commands p → Gives (step D) x p y → y ⊆ g → j ≡ judged good 0 y → JudgedAs j

  -- every answer that the statement permits has one
  pub judged_as : {j : Judged} → Judges D x g p j → JudgedAs j
  judged_as {j} u = ⊎_elim (λ r. no_command r.1 (u.no_command r.1)) (λ all. go all (walk (step D) x p) refl) (commands_cases D.commands p)
    where
      go : AllCommands D.commands p → (w : Walked) → walk (step D) x p ≡ w → JudgedAs j
      go all (ended y) e =
          let s : Gives (step D) x p y = record { walked = e } in
          ⊎_elim (λ i. inside all s i (u.inside all s i)) (λ i. outside all s i (u.outside all s i)) (inside_dec y g)
      go all (blocked k y) e =
          let r = blocked-at (step D) x k y p e in
          let n : NotSendable D x p k y = record { command = r.0; at-index = r.1; gives = r.2; no_image = r.3 } in
          not_sendable all n (u.not_sendable all n)

  -- so two of them are equal
  pub judges_unique : {i j : Judged} → Judges D x g p i → Judges D x g p j → i ≡ j
  judges_unique {i} {j} u v = go (judged_as u)
    where
      go : JudgedAs i → i ≡ j
      go (no_command n e) = e ∙ sym (v.no_command n)
      go (not_sendable all n e) = e ∙ sym (v.not_sendable all n)
      go (outside all s h e) = e ∙ sym (v.outside all s h)
      go (inside all s h e) = e ∙ sym (v.inside all s h)

  -- the computed answer is one
  pub judge_meets : Judges D x g p (judge D x g p)
  unfolding judge
  judge_meets = record {
    no_command = λ {k} n. ap (λ (o : Option ℕ). unless_missing o rest) (missing_is D.commands 0 k p n) ∙ ap (λ (i : ℕ). judged (refused 10) i empty) (omega arith);
    not_sendable = λ {k} {y} all n. walked all (at-blocked (step D) k p n.at-index n.gives n.no_image);
    outside = λ {y} all s h. walked all s.walked ∙ ap (λ (b : Bool). cond b (judged good 0 y) (judged (refused 12) (length p) y)) (outside_test y g h);
    inside = λ {y} all s h. walked all s.walked ∙ ap (λ (b : Bool). cond b (judged good 0 y) (judged (refused 12) (length p) y)) (inside_test y g h);
  }
    where
      rest : Judged
      rest = by_walk g (length p) (walk (step D) x p)

      walked : {w : Walked} → AllCommands D.commands p → walk (step D) x p ≡ w → judge D x g p ≡ by_walk g (length p) w
      walked all e = ap (λ (o : Option ℕ). unless_missing o rest) (none-missing D.commands 0 p all) ∙ ap (by_walk g (length p)) e

  -- how a judge shows its answer: by what it knows where it ends
  pub judges_no_command : {k : ℕ} → NoCommand D.commands p k → Judges D x g p (judged (refused 10) k empty)
  judges_no_command n = subst (Judges D x g p) (judge_meets.no_command n) judge_meets

  pub judges_not_sendable : {k y : ℕ} → AllCommands D.commands p → NotSendable D x p k y → Judges D x g p (judged (refused 11) k y)
  judges_not_sendable all n = subst (Judges D x g p) (judge_meets.not_sendable all n) judge_meets

  pub judges_outside : {y : ℕ} → AllCommands D.commands p → Gives (step D) x p y → ¬ (y ⊆ g) → Judges D x g p (judged (refused 12) (length p) y)
  judges_outside all s h = subst (Judges D x g p) (judge_meets.outside all s h) judge_meets

  pub judges_inside : {y : ℕ} → AllCommands D.commands p → Gives (step D) x p y → y ⊆ g → Judges D x g p (judged good 0 y)
  judges_inside all s h = subst (Judges D x g p) (judge_meets.inside all s h) judge_meets

  -- ---- each refusal is given exactly when the scope says so

  module _ {j : Judged} (u : Judges D x g p j) where
    pub judged_10 : (k : ℕ) → (j ≡ judged (refused 10) k empty) ↔ NoCommand D.commands p k
    judged_10 k = (λ e. go e (judged_as u), λ n. u.no_command n)
      where
        go : j ≡ judged (refused 10) k empty → JudgedAs j → NoCommand D.commands p k
        go e (no_command n f) = subst (NoCommand D.commands p) (ap (λ (i : Judged). i.place) (sym f ∙ e)) n
        go e (not_sendable all n f) = absurd (apart (λ (q : ◌≡◌ {A = ℕ} 11 10). omega arith) f e)
        go e (outside all s h f) = absurd (apart (λ (q : ◌≡◌ {A = ℕ} 12 10). omega arith) f e)
        go e (inside all s h f) = absurd (good_apart f e)

    pub judged_11 : (k y : ℕ) → (j ≡ judged (refused 11) k y) ↔ (AllCommands D.commands p × NotSendable D x p k y)
    judged_11 k y = (λ e. go e (judged_as u), λ r. u.not_sendable r.0 r.1)
      where
        go : j ≡ judged (refused 11) k y → JudgedAs j → AllCommands D.commands p × NotSendable D x p k y
        go e (not_sendable all n f) = (all, subst₂ (NotSendable D x p) (ap (λ (i : Judged). i.place) (sym f ∙ e)) (ap (λ (i : Judged). i.set) (sym f ∙ e)) n)
        go e (no_command n f) = absurd (apart (λ (q : ◌≡◌ {A = ℕ} 10 11). omega arith) f e)
        go e (outside all s h f) = absurd (apart (λ (q : ◌≡◌ {A = ℕ} 12 11). omega arith) f e)
        go e (inside all s h f) = absurd (good_apart f e)

    pub judged_12 : (y : ℕ) → (j ≡ judged (refused 12) (length p) y) ↔ (AllCommands D.commands p × Gives (step D) x p y × (¬ (y ⊆ g)))
    judged_12 y = (λ e. go e (judged_as u), λ r. u.outside r.0 r.1 r.2)
      where
        go : j ≡ judged (refused 12) (length p) y → JudgedAs j → AllCommands D.commands p × Gives (step D) x p y × (¬ (y ⊆ g))
        go e (outside all s h f) =
            let q = ap (λ (i : Judged). i.set) (sym f ∙ e) in
            (all, subst (Gives (step D) x p) q s, subst (λ (z : ℕ). ¬ (z ⊆ g)) q h)
        go e (no_command n f) = absurd (apart (λ (q : ◌≡◌ {A = ℕ} 10 12). omega arith) f e)
        go e (not_sendable all n f) = absurd (apart (λ (q : ◌≡◌ {A = ℕ} 11 12). omega arith) f e)
        go e (inside all s h f) = absurd (good_apart f e)

-- ---- good, by the published meaning

-- a plan that gives a set has commands only
pub gives-commands : (D : Domain) → WellFormed D → {x y : ℕ} → Start D x → (p : List ℕ) → Gives (step D) x p y → AllCommands D.commands p
gives-commands D ok st [] g j b u = absurd (none-ne-some b u.held)
gives-commands D ok st (a ∷ p) g zero b u =
    let i = step_some D ok st.within (cons-gives (step D) g).1 in
    subst (λ (c : ℕ). c < D.commands) (head_at u) (command-lt D ok st i)
gives-commands D ok {x = x} {y = y} st (a ∷ p) g (suc j) b u =
    let r = cons-gives (step D) g in
    gives-commands D ok {x = r.0} {y = y} (image_some D ok st (step_some D ok st.within r.1)) p r.2 j b (tail_at u)

-- the judge says good exactly when the plan is good
pub judged-good : (D : Domain) → WellFormed D → {x g : ℕ} {p : List ℕ} {j : Judged} → Start D x → Judges D x g p j → (j.verdict ≡ good) ↔ Good D x g p
judged-good D ok {x} {g} {p} {j} st u = go (judged_as D x g p u)
  where
    -- the judge does not say good, and the plan is not
    neither : {n k y : ℕ} → j ≡ judged (refused n) k y → (Solves D x g p → ⊥) → (j.verdict ≡ good) ↔ Good D x g p
    neither f h = (λ e. absurd (refused_not_good (sym (ap (λ (i : Judged). i.verdict) f) ∙ e)), λ v. absurd (h (good_solves D ok st.within v)))

    go : JudgedAs D x g p j → (j.verdict ≡ good) ↔ Good D x g p
    go (no_command n f) = neither f (λ v. all_not_missing D.commands (gives-commands D ok st p v.gives) n)
    go (not_sendable all n f) = neither f (λ v. blocked_ne_ended (sym (at-blocked (step D) _ p n.at-index n.gives n.no_image) ∙ v.gives.walked))
    go (outside all s h f) = neither f (λ v. h (subst (λ (y : ℕ). y ⊆ g) (gives_fun (step D) v.gives s) v.inside))
    go (inside all s h f) = (λ e. solves_good D ok st.within (record { last = _; gives = s; inside = h }), λ v. ap (λ (i : Judged). i.verdict) f)

verdict-good : (v : Verdict) → (v ≡ good) ⊎ (¬ (v ≡ good))
verdict-good good = inl refl
verdict-good plan = inr (λ e. clash (cc))
verdict-good no_plan = inr (λ e. clash (cc))
verdict-good (refused n) = inr refused_not_good

-- so it can be decided whether a plan is good
pub good_dec : (D : Domain) → WellFormed D → {x : ℕ} → Start D x → (g : ℕ) (p : List ℕ) → Good D x g p ⊎ (¬ Good D x g p)
good_dec D ok {x} st g p =
    let iff = judged-good D ok st (judge_meets D x g p) in
    ⊎_elim (λ e. inl (iff.0 e)) (λ n. inr (λ v. n (iff.1 v))) (verdict-good (judge D x g p).verdict)
