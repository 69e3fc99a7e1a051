-- The starred examples are of sheets: each row's sheet is valid, its bytes are accepted, and the reply is the one that the definitions ask for of the sheet's own
-- domain. The idea: a row's domain is its sheet's by definition, and that the sheets are valid is computed for the whole table in one go.
use mathlib.Core.Path.{◌≡◌, refl, sym, ap, subst}
use mathlib.Core.List.{map}
use Prim.Native.Nat.{ℕ, ◌*◌}
use lib.ListN.{length}
use Rattle.std.specs.Prelude.{Ok}
use Rattle.meaning.specs.Domain.{Domain}
use Rattle.meaning.specs.Listing.{At}
use Rattle.meaning.specs.Examples.{Bench, domain_of, Asked, Example, RightFor, examples}
use Rattle.meaning.proofs.Places.{map_same}
use Rattle.meaning.proofs.BenchExamples.{examples_right}
use Rattle.sets.specs.Words.{set_of}
use Rattle.sets.proofs.Values.{set_for_lem}
use Rattle.sheet.specs.Sheet.{Sheet, sheet_with, Valid, encode, domain, domain_in}
use Rattle.sheet.specs.Refusals.{verdict, head_rows, set_rows, sheet_rows, Check, check, passes}
use Rattle.sheet.specs.Answers.{head_of, reading}
use Rattle.sheet.specs.declared.Counted.TheVariants.{Given}
use Rattle.sheet.proofs.ValidLaws.{valid}
use Rattle.sheet.proofs.RoundTrip.{sheet_of_encode}
use Rattle.sheet.proofs.Accepted.{encoded_accepted}

-- the sheet of a row
abbrev pub sheet_of : Bench → Sheet
sheet_of t = sheet_with t.states t.commands t.initial t.goal t.sets

pub same_domain : (t : Bench) → domain_of t ≡ domain (sheet_of t)
unfolding domain
same_domain t = refl

-- ---- the sheets are valid

checks : Example → Check
checks e = check (sheet_rows (Given (length e.sheet.sets)) (sheet_of e.sheet))

all_pass : map checks examples ≡ map (λ (e : Example). passes) examples
unfolding checks verdict head_rows set_rows
all_pass = refl

all_complete : map (λ (e : Example). length e.sheet.sets) examples ≡ map (λ (e : Example). e.sheet.commands * e.sheet.states) examples
all_complete = refl

example_valid : {k : ℕ} {e : Example} → At examples k e → Valid (sheet_of e.sheet)
unfolding checks
example_valid {e = e} u = valid (Given (length e.sheet.sets)) (sheet_of e.sheet)
    (map_same (λ (x : Example). length x.sheet.sets) (λ (x : Example). x.sheet.commands * x.sheet.states) all_complete u)
    (record { passes = map_same checks (λ (x : Example). passes) all_pass u })

-- ---- the statement

-- the sheet is valid and its bytes are accepted, and the reply is right by the sheet, and by what is read from the bytes
pub record RightOf (s : Sheet) (a : Asked) : Type 0 where
  pub is_valid : Valid s
  pub accepted : reading (encode s) ≡ Ok (head_of s)
  pub by-sheet : RightFor (domain s) s.initial s.goal a
  pub by_bytes : RightFor (domain_in (encode s)) (set_of (head_of s).initial) (set_of (head_of s).goal) a

right_of : (s : Sheet) (a : Asked) → Valid s → RightFor (domain s) s.initial s.goal a → RightOf s a
right_of s a v r = record {
  is_valid = v;
  accepted = encoded_accepted s v;
  by-sheet = r;
  by_bytes = subst (λ (D : Domain). RightFor D (set_of (head_of s).initial) (set_of (head_of s).goal) a) (sym (ap domain (sheet_of_encode s v)))
      (subst (λ (x : ℕ). RightFor (domain s) x (set_of (head_of s).goal) a) (sym (set_for_lem s.initial))
      (subst (λ (g : ℕ). RightFor (domain s) s.initial g a) (sym (set_for_lem s.goal)) r));
}

pub examples_of_sheets : (k : ℕ) (e : Example) → At examples k e → RightOf (sheet_of e.sheet) e.asked
examples_of_sheets k e u = right_of (sheet_of e.sheet) e.asked (example_valid u)
    (subst (λ (D : Domain). RightFor D e.sheet.initial e.sheet.goal e.asked) (same_domain e.sheet) (examples_right k e u))
