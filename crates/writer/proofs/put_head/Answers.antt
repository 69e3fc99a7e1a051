-- `writer::put_head` meets its contract: after each store the fields so far stand at the start of the output.
use mathlib.Core.Path.{◌≡◌, ap, sym, ◌∙◌}
use mathlib.Core.List.{List}
use Prim.Native.Nat.{ℕ}
use lib.Seq.{sets}
use lib.ListN.{take}
use Rattle.numbers.specs.Bytes.{bytes_of}
use Rattle.sets.specs.Words.{set_of}
use Rattle.sheet.specs.Sheet.{set_width, stated_for, head_bytes}
use Rattle.sheet.proofs.Fields.{Field, field, head_fields, laid_head}
use Rattle.writer.proofs.Stores.{laid_one, field_stored}
use Rattle.writer.proofs.put_head.Goals as goal

-- the six stores one after another, each of the output that the one before it left
head_stored : (states commands initial goal : ℕ) (o : List ℕ) {a b c d e f : List ℕ}
    → a ≡ sets o 0 (bytes_of 1 1)
    → b ≡ sets a 1 (bytes_of 4 (stated_for states commands))
    → c ≡ sets b 5 (bytes_of 1 states)
    → d ≡ sets c 6 (bytes_of 1 commands)
    → e ≡ sets d 7 (bytes_of set_width initial)
    → f ≡ sets e 15 (bytes_of set_width goal)
    → f ≡ sets o 0 (head_bytes states commands initial goal)
head_stored states commands initial goal o ea eb ec ed ee ef =
    let fs : List Field = head_fields states commands initial goal in
    let one = ea ∙ ap (λ (b : List ℕ). sets o 0 b) (sym (laid_one (field 1 1))) in
    let two = eb ∙ field_stored o 0 (take 1 fs) (field 4 (stated_for states commands)) one in
    let three = ec ∙ field_stored o 0 (take 2 fs) (field 1 states) two in
    let four = ed ∙ field_stored o 0 (take 3 fs) (field 1 commands) three in
    let five = ee ∙ field_stored o 0 (take 4 fs) (field set_width initial) four in
    let six = ef ∙ field_stored o 0 (take 5 fs) (field set_width goal) five in
    six ∙ ap (λ (b : List ℕ). sets o 0 b) (laid_head states commands initial goal)

pub returns : goal.returns
returns c =
    let a = c.args in
    head_stored a.head.states a.head.commands (set_of a.head.initial) (set_of a.head.goal) a.out.now c.put.ensures c.put-2.ensures c.put-3.ensures c.put-4.ensures c.put_set.ensures c.put_set-2.ensures
