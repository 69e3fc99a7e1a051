-- What is printed is the line of the answer: at most 4,096 commands are handed over, and that is all of a plan that the plan buffer holds. And the line of a
-- refusal is told by its number.
use mathlib.Core.Path.{◌≡◌, sym, ap, ◌∙◌, subst, subst₂}
use mathlib.Core.Logic.{◌≢◌}
use mathlib.Core.List.{List}
use Prim.Native.Nat.{ℕ, min, ◌≤◌}
use native.Mathlib.Decide.{dec_le}
use native.Mathlib.Omega.{arith}
use lib.ListN.{length, take, replicate}
use lib.Seq.{take_all}
use borrow.Author.Tests.{eq-eqb, ne_eqb}
use Rattle.std.specs.Prelude.{Result}
use Rattle.search.specs.declared.Answer.{Answer}
use Rattle.search.specs.Done.{SearchedHere}
use Rattle.line.specs.declared.Line.{Line}
use Rattle.line.specs.declared.Line.TheVariants.{Room, Long, Bad}
use Rattle.line.specs.declared.Short.{Short}
use Rattle.line.specs.Lines.{line_of, answer_of}
use Rattle.line.specs.Placing.{Placed}
use Rattle.line.proofs.PlacedLaws.{one_result}
use Rattle.search.proofs.Unique.{search-here_unique}
use Rattle.reply.specs.Replies.{places, line_for, refusal_line, Replied}

-- the first k of a list, for all k beyond its length
all_there : (k n : ℕ) (p : List ℕ) → length p ≡ places → n ≡ min k places → take n p ≡ take k p
all_there k n p h e = go (dec_le k places)
  where
    go : Dec (k ≤ places) → take n p ≡ take k p
    go (yes l) = let q : n ≡ k = omega (arith, e, l) in ap (λ (i : ℕ). take i p) q
    go (no l) = take_all n p (omega (arith, h, e, l)) ∙ sym (take_all k p (omega (arith, h, l)))

pub replied : (sheet before after plan : List ℕ) (a : Answer) (line : Line) (n : ℕ) (r : Result ℕ Short) → SearchedHere places sheet (replicate places 0) plan a
    → length plan ≡ places → line ≡ line_for a → n ≡ min a.length places → Placed (line_of (answer_of line (take n plan))) 0 before after r → Replied sheet before after r
replied sheet before after plan a line n r s h e m p = record {
  plan = plan;
  answer = a;
  searched = s;
  printed = subst (λ (c : List ℕ). Placed (line_of (answer_of (line_for a) c)) 0 before after r) (all_there a.length n plan h m)
      (subst (λ (i : Line). Placed (line_of (answer_of i (take n plan))) 0 before after r) e p);
}

-- ---- the line of a refusal, by its number

module _ (number place count long : ℕ) where
  pub refused-room : number ≡ 13 → Room count ≡ refusal_line number place count long
  refused-room e = simp (eq-eqb number 13 e)

  pub refused-long : number ≢ 13 → number ≡ 14 → Long count long ≡ refusal_line number place count long
  refused-long n e = simp (ne_eqb number 13 n, eq-eqb number 14 e)

  pub refused-bad : number ≢ 13 → number ≢ 14 → Bad number place ≡ refusal_line number place count long
  refused-bad n m = simp (ne_eqb number 13 n, ne_eqb number 14 m)

-- ---- one line, and one output

pub reply_unique : {sheet before after other : List ℕ} {r q : Result ℕ Short} → Replied sheet before after r → Replied sheet before other q → (r ≡ q) × (after ≡ other)
reply_unique {sheet} {before} {after} {other} {r} {q} u v =
    let s = search-here_unique u.searched v.searched in
    one_result u.printed (subst₂ (λ (a : Answer) (p : List ℕ). Placed (line_of (answer_of (line_for a) (take a.length p))) 0 before other q) (sym s.0) (sym s.1) v.printed)
