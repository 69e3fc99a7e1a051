-- `writer::put_sets` meets its contract.
use mathlib.Core.Path.{refl, ap, ◌∙◌}
use mathlib.Core.List.{List, map}
use Prim.Native.Nat.{ℕ, ◌+◌, ◌*◌}
use lib.Seq.{sets, take_all}
use Rattle.sets.proofs.Values.{stands_for}
use Rattle.numbers.specs.Bytes.{bytes_of}
use Rattle.sheet.specs.Sheet.{sets_at, set_width}
use Rattle.sheet.proofs.Fields.{field, laid, laid_sets}
use Rattle.writer.proofs.Stores.{set-stored}
use Rattle.writer.proofs.put_sets.Goals as goal

pub loop-i-init : goal.loop-i-init
unfolding laid
loop-i-init c = refl

pub loop-i-preserved : goal.loop-i-preserved
loop-i-preserved c =
    let a = c.args in
    c.put_set.ensures
    ∙ ap (λ (x : ℕ). sets c.loop-i.out (sets_at + set_width * c.loop-i.i) (bytes_of set_width x)) (stands_for c.given_set.ensures)
    ∙ set-stored a.out.now sets_at a.given.now c.loop-i.i c.loop-i-test.true c.loop-i.invariant

pub returns : goal.returns
returns c =
    let a = c.args in
    c.loop-i.invariant ∙ ap (λ (xs : List ℕ). sets a.out.now sets_at (laid (map (field set_width) xs))) (take_all c.loop-i.i a.given.now c.loop-i-test.false) ∙ ap (λ (b : List ℕ). sets a.out.now sets_at b) (laid_sets a.given.now)
