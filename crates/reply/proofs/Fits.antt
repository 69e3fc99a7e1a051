-- Every line that is printed has at most 12,300 bytes, so a buffer of that many, which is what the program lends, always suffices. And LONG is never printed.
-- The idea: a store of 4,096 places leaves a count of at most 4,096, a plan is shorter than the count, and its commands are below 32. A sheet is refused by a number
-- of at most 8, at a place below 16,400.
use mathlib.Core.Path.{◌≡◌, refl, sym, ap, ◌∙◌, subst}
use mathlib.Core.Logic.{◌≢◌, inl, inr}
use mathlib.Core.List.{List, [], ◌∷◌}
use Prim.Native.Nat.{ℕ, zero, suc, ◌^◌, ◌≤◌, ◌<◌}
use native.Mathlib.Nat.{zero-add}
use native.Mathlib.Decide.{dec_lt}
use native.Mathlib.Omega.{arith}
use lib.ListN.{length, get_or, take, replicate, length-take, length-replicate, get_or-eq_default}
use Rattle.std.specs.Prelude.{Result, Ok, Err}
use Rattle.meaning.specs.Answers as meaning
use Rattle.meaning.specs.Answers.{Searched, AllCommands, room}
use Rattle.meaning.proofs.Places.{get_d_at}
use Rattle.meaning.proofs.Agreement.{good_solves}
use Rattle.meaning.proofs.JudgeLaws.{refused_inj, gives-commands}
use Rattle.meaning.proofs.Meanings.{plan_not_refused, none_not_refused}
use Rattle.meaning.proofs.SearchLaws as answers
use Rattle.meaning.proofs.SearchLaws.{Answered, answered, count_fits}
use Rattle.sets.specs.Words.{set_of}
use Rattle.sheet.specs.Sheet.{domain_in}
use Rattle.sheet.specs.Answers.{reading, Reading}
use Rattle.sheet.specs.declared.Head.{Head}
use Rattle.sheet.specs.declared.Refusal.{Refusal}
use Rattle.sheet.proofs.RefusedAs.{reading-gives}
use Rattle.store.specs.declared.Node.{Node}
use Rattle.store.specs.Nodes.{nothing}
use Rattle.search.specs.Done.{verdict_of, SearchDone, SheetSearched, SheetRefused}
use Rattle.search.specs.declared.Verdict.{Verdict}
use Rattle.search.specs.declared.Verdict.TheVariants as verdict-is
use Rattle.search.specs.declared.Answer.{Answer}
use Rattle.search.proofs.SheetLaws.{sheet-ready}
use Rattle.search.proofs.Means.{found_is_first, length_below_count}
use Rattle.line.specs.declared.Short.{Short}
use Rattle.line.specs.declared.Line.{Line}
use Rattle.line.specs.declared.Line.TheVariants as line-is
use Rattle.line.specs.Lines.{row, PLAN, NONE, ROOM, BAD, line_of, answer_of}
use Rattle.line.proofs.RowLaws.{length-by_digits}
use Rattle.line.proofs.PlacedLaws.{enough}
use Rattle.sheet.specs.Refusals.{number_of, refusal}
use Rattle.sheet.specs.declared.Reason.TheVariants.{LongPlan}
use Rattle.sheet.proofs.Reasons.{refusal_inj}
use Rattle.reply.specs.Replies.{places, refusal_line, verdict_line, line_for, Replied}
use Rattle.reply.proofs.Replying.{refused-bad}
use Rattle.sheet.proofs.RefusedPlace.{place_below}

-- ---- lines

abbrev NotLong : Line → Type 0
NotLong (line-is.Plan count length) = Unit {0}
NotLong (line-is.None count) = Unit {0}
NotLong (line-is.Room count) = Unit {0}
NotLong (line-is.Long count length) = ⊥
NotLong (line-is.Bad refusal place) = Unit {0}

-- what is shown of each line, with the commands that are handed over
record Fits (x : Line) (commands : List ℕ) : Type 0 where
  at_most : length (line_of (answer_of x commands)) ≤ 12300
  not_long : NotLong x

both_below : (b : ℕ) {m n : ℕ} → m < b → n < b → (i : ℕ) → get_or (m ∷ n ∷ []) i 0 < b
both_below b h k zero = h
both_below b h k (suc zero) = k
both_below b h k (suc (suc i)) = omega arith

commands_below : {c : ℕ} (p : List ℕ) → AllCommands c p → c ≤ 32 → (i : ℕ) → get_or p i 0 < 10 ^ 2
commands_below p a h i = go (dec_lt i (length p))
  where
    go : Dec (i < length p) → get_or p i 0 < 10 ^ 2
    go (yes l) = omega (arith, a i (get_or p i 0) (get_d_at p 0 i l))
    go (no l) = omega (arith, get_or-eq_default p 0 {n = i} (omega (arith, l)))

-- a line of two numbers
two_numbers : (word : List ℕ) {m n : ℕ} → length word ≤ 4 → m < 10 ^ 5 → n < 10 ^ 5 → length (row word (m ∷ n ∷ [])) ≤ 12300
two_numbers word {m} {n} w h k = omega (arith, length-by_digits 4 0 word (m ∷ n ∷ []) [] (both_below (10 ^ 5) h k) (λ i. omega arith))

-- ---- the answer for an accepted sheet

abbrev store : List Node
store = replicate places nothing

abbrev buffer : List ℕ
buffer = replicate places 0

module _ {l : List ℕ} {h : Head} (e : reading l ≡ Ok h) {s : List Node} {p : List ℕ} {a : Answer} (u : SheetSearched l store s buffer p a) where
  abbrev done : SearchDone (domain_in l) (set_of h.initial) (set_of h.goal) store s buffer p a
  done = u.accepted e

  count-at-most : a.count ≤ 4096
  count-at-most = omega (
    arith,
    (count_fits (set_of h.goal) done.searches.listing (room (length store)) (length buffer) done.searches.answers).0,
    ap (λ (o : Searched). o.count) done.answer_is,
    length-replicate places nothing,
  )

  -- a refusal can only be 13: a plan that is longer than the buffer would be longer than the count
  only_thirteen : {f : Refusal} → a.verdict ≡ verdict-is.Refused f → number_of f.reason ≡ 13
  only_thirteen {f} q = go (answered (set_of h.goal) done.searches.listing (room (length store)) (length buffer) done.searches.answers)
    where
      says : {r : Searched} → done.says ≡ r → r.verdict ≡ meaning.refused (number_of f.reason)
      says e = ap (λ (o : Searched). o.verdict) (sym (done.answer_is ∙ e)) ∙ ap verdict_of q

      go : Answered (set_of h.goal) done.searches.listing (room (length store)) (length buffer) done.says → number_of f.reason ≡ 13
      go (answers.plan b k m e) = absurd (plan_not_refused (says e))
      go (answers.too_long b k m i) =
          let long : f ≡ refusal LongPlan f.place = refusal_inj f (refusal LongPlan f.place) (sym (refused_inj (says i))) refl in
          let shorter = length_below_count l e u (inr (q ∙ ap verdict-is.Refused long)) in
          absurd (omega (arith, m, length-replicate places zero, ap (λ (o : Searched). o.plan_length) (done.answer_is ∙ i), shorter, count-at-most))
      go (answers.no_plan b k e) = absurd (none_not_refused (says e))
      go (answers.no_room b k e) = sym (refused_inj (says e))

  -- the line of each verdict
  abbrev line_of_answer : Verdict → Line
  line_of_answer v = verdict_line v a.count a.length

  plan-fits : a.verdict ≡ verdict-is.Plan → Fits (line_of_answer verdict-is.Plan) (take a.length p)
  plan-fits q =
      let r = sheet-ready l e in
      let solves = good_solves (domain_in l) r.well_formed r.start.within (found_is_first l e u q).good in
      let commands = gives-commands (domain_in l) r.well_formed r.start (take a.length p) solves.gives in
      let shorter : a.length < a.count = length_below_count l e u {k = 0} (inl q) in
      let fields = both_below (10 ^ 4) {m = a.count} {n = a.length} (omega (arith, count-at-most)) (omega (arith, count-at-most)) in
      let most = length-by_digits 3 1 PLAN (a.count ∷ a.length ∷ []) (take a.length p) fields (commands_below (take a.length p) commands r.few) in
      record { at_most = omega (arith, count-at-most, length-take a.length p); not_long = tt }

  accepted-fits : (v : Verdict) → a.verdict ≡ v → Fits (line_of_answer v) (take a.length p)
  accepted-fits verdict-is.Plan q = plan-fits q
  accepted-fits verdict-is.NoPlan q = record { at_most = two_numbers NONE (omega arith) (omega (arith, count-at-most)) (omega arith); not_long = tt }
  accepted-fits (verdict-is.Refused f) q =
      subst (λ (n : ℕ). Fits (refusal_line n f.place a.count a.length) (take a.length p)) (sym (only_thirteen q))
      (record { at_most = two_numbers ROOM (omega arith) (omega (arith, count-at-most)) (omega arith); not_long = tt })

-- ---- any sheet

refused-fits : (l : List ℕ) {f : Refusal} {s : List Node} {p : List ℕ} {a : Answer} → reading l ≡ Err f → SheetRefused f store s buffer p a → (cs : List ℕ) → Fits (line_for a) cs
refused-fits l {f} e u cs =
    let g = reading-gives l f e in
    let bad = refused-bad (number_of f.reason) f.place 0 0 (λ q. omega (arith, g.1, q)) (λ q. omega (arith, g.1, q)) in
    subst (λ (x : Line). Fits x cs) (bad ∙ ap line_for (sym u.answer_is))
    (record { at_most = two_numbers BAD (omega arith) (omega (arith, g.1)) (omega (arith, place_below l e)); not_long = tt })

module _ {sheet before after : List ℕ} {r : Result ℕ Short} (u : Replied sheet before after r) where
  abbrev commands : List ℕ
  commands = take u.answer.length u.plan

  fits : Fits (line_for u.answer) commands
  fits = go (reading sheet) refl
    where
      go : (x : Reading) → reading sheet ≡ x → Fits (line_for u.answer) commands
      go (Ok h) e = accepted-fits e u.searched.searched u.answer.verdict refl
      go (Err f) e = refused-fits sheet e (u.searched.searched.refused e) commands

  -- the bytes of the line that is printed
  abbrev pub line : List ℕ
  line = line_of (answer_of (line_for u.answer) commands)

  pub line_at_most : length line ≤ 12300
  line_at_most = fits.at_most

  -- a buffer of 12,300 bytes gets the whole line
  pub always_fits : 12300 ≤ length before → r ≡ Ok (length line)
  always_fits h = enough u.printed (omega (arith, h, line_at_most)) ∙ ap Ok (zero-add (length line))

  -- a plan that is found always fits into the plan buffer
  pub never_long : (count long : ℕ) → line_for u.answer ≢ line-is.Long count long
  never_long count long e = subst NotLong e fits.not_long
