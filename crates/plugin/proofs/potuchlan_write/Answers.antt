-- `plugin::potuchlan_write` meets its contract: the numbers are those of the answer of writing, and the output is as writing leaves it.
use mathlib.Core.Path.{◌≡◌, ap, ◌∙◌, subst₂}
use mathlib.Core.List.{List}
use Prim.Native.Nat.{ℕ}
use Rattle.sets.proofs.Values.{stands_for}
use Rattle.sheet.specs.Sheet.{sheet_with}
use Rattle.writer.specs.Written.{Wrote, Writing}
use Rattle.writer.specs.Written.{values_of as writing_numbers}
use Rattle.plugin.proofs.potuchlan_write.Goals as goal

-- the sets that were given are those of the words
with-sets : (states commands : ℕ) (given : List ℕ) {x y i g : ℕ} {before after : List ℕ} {r : Writing} → x ≡ i → y ≡ g → Wrote (sheet_with states commands x y given) before after r → Wrote (sheet_with states commands i g given) before after r
with-sets states commands given {before = before} {after} {r} e f = subst₂ (λ (x y : ℕ). Wrote (sheet_with states commands x y given) before after r) e f

pub returns : goal.returns
returns c =
    let a = c.args in
    let u = with-sets a.states a.commands a.given.now (stands_for c.from.ensures) (stands_for c.from-2.ensures) c.write.ensures in
    record { answer_after = c.write_numbers.ensures ∙ ap writing_numbers u.answer; out_after = u.output }
