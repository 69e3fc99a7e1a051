-- `sheet::read` meets its contract: each answer goes by the tests that led there, which are the conditions of rows 1 to 3.
use Rattle.std.proofs.Common.{◌≡◌, sym, ap, ◌∙◌, true, List, ℕ, ◌+◌, ◌<◌, eqb, length, get_or, Fits, w8, arith}
use Rattle.std.specs.Prelude.{Err}
use borrow.Author.Tests.{le-ltb, lt-ltb, eq-eqb, ne_eqb}
use Rattle.numbers.specs.Bytes.{number_at}
use Rattle.numbers.proofs.Numbers.{number_at_one}
use Rattle.numbers.proofs.Conversions.{all_bytes}
use Rattle.sheet.specs.Refusals.{stated, reading_rows, verdict}
use Rattle.sheet.specs.Answers.{Reading, reading, ReadAs}
use Rattle.sheet.specs.declared.Refusal.{Refusal}
use Rattle.sheet.proofs.ReadLaws.{answer_by, reading-on}
use Rattle.sheet.proofs.read.Goals as goal

version-right : (l : List ℕ) → 0 < length l → get_or l 0 0 ≡ 1 → eqb (number_at 0 1 l) 1 ≡ true
version-right l h e = eq-eqb _ _ (number_at_one 0 l h ∙ e)

-- an answer, and that the elements of a lent slice of bytes are bytes
read_as : {l : List ℕ} {r : Reading} → ((i : ℕ) → Fits w8 (get_or l i 0)) → r ≡ reading l → ReadAs l r
read_as fits e = record { answer = e; bytes = record { are_bytes = λ _. all_bytes fits } }

-- a refusal by a row
refused_by : {l : List ℕ} {p q : Refusal} → ((i : ℕ) → Fits w8 (get_or l i 0)) → p ≡ q → ◌≡◌ {A = Reading} (Err q) (reading l) → ReadAs l (Err p)
refused_by fits e f = let refused : Refusal → Reading = λ r. Err r in read_as fits (ap refused e ∙ f)

pub returns-then-length-lt-COUNTED_AT : goal.returns-then-length-lt-COUNTED_AT
unfolding reading reading_rows verdict
returns-then-length-lt-COUNTED_AT c = refused_by c.type_inv.sheet c.at.ensures (simp (lt-ltb _ _ c.if-length-lt-COUNTED_AT.true))

pub returns-then-sheet-ne1 : goal.returns-then-sheet-ne1
unfolding reading reading_rows verdict
returns-then-sheet-ne1 c =
    refused_by c.type_inv.sheet c.at-then-sheet-ne1.ensures (simp (le-ltb _ _ c.if-length-lt-COUNTED_AT.false, number_at_one 0 c.args.sheet.now (omega arith), ne_eqb _ _ c.if-sheet-ne1.true))

pub returns-then-stated-length : goal.returns-then-stated-length
unfolding reading reading_rows verdict
returns-then-stated-length c =
    let l : List ℕ = c.args.sheet.now in
    let differs : 5 + stated l ≡ length l → ⊥ = λ e. c.if-stated-length.true (ap (λ (n : ℕ). 5 + n) c.four-stated.ensures.0 ∙ e) in
    refused_by c.type_inv.sheet c.at-then-stated-length.ensures (simp (le-ltb _ _ c.if-length-lt-COUNTED_AT.false, version-right l (omega arith) c.if-sheet-ne1.false, ne_eqb _ _ differs))

pub returns-then-stated-lt-SHORTEST : goal.returns-then-stated-lt-SHORTEST
unfolding reading reading_rows verdict
returns-then-stated-lt-SHORTEST c =
    let l : List ℕ = c.args.sheet.now in
    refused_by c.type_inv.sheet c.at-then-stated-lt-SHORTEST.ensures
    (simp (le-ltb _ _ c.if-length-lt-COUNTED_AT.false, version-right l (omega arith) c.if-sheet-ne1.false, ← c.four-stated.ensures.0, eq-eqb _ _ c.if-stated-length.false, lt-ltb _ _ c.if-stated-lt-SHORTEST.true))

pub returns : goal.returns
returns c =
    let l : List ℕ = c.args.sheet.now in
    let e : c.four-stated.result ≡ stated l = c.four-stated.ensures.0 in
    read_as c.type_inv.sheet (c.read_stated.ensures ∙ ap (λ (n : ℕ). answer_by l n) e ∙ sym (reading-on l c.if-length-lt-COUNTED_AT.false c.if-sheet-ne1.false (omega arith) (omega arith)))
