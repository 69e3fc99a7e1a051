-- `writer::put_sheet` meets its contract: with room the head and the following sets are stored one after the other, and without room nothing is.
use mathlib.Core.Path.{ap, ◌∙◌}
use mathlib.Core.List.{List}
use Prim.Native.Nat.{ℕ}
use lib.Seq.{sets}
use Rattle.numbers.specs.Bytes.{bytes_of_each}
use Rattle.sheet.specs.Sheet.{Sheet, sets_at, set_width}
use Rattle.sheet.specs.Answers.{sheet_of}
use Rattle.std.specs.Prelude.{Err}
use Rattle.sheet.specs.declared.Refusal.{Refusal}
use Rattle.writer.specs.Written.{Writing}
use Rattle.writer.proofs.WriteLaws.{no_room, room}
use Rattle.writer.proofs.put_sheet.Goals as goal

pub returns-then-out-needed : goal.returns-then-out-needed
returns-then-out-needed c =
    let a = c.args in
    let s : Sheet = sheet_of a.head a.given.now in
    let p = no_room s c.requires.given_len a.out.now c.if-out-needed.true in
    record { value = ap (λ (q : Refusal). (let r : Writing = Err q in r)) c.at.ensures ∙ p.0; out_after = p.1 }

pub returns : goal.returns
returns c =
    let a = c.args in
    let s : Sheet = sheet_of a.head a.given.now in
    let p = room s c.requires.given_len a.out.now c.if-out-needed.false in
    record {
      value = p.0;
      out_after = c.put_sets.ensures ∙ ap (λ (m : List ℕ). sets m sets_at (bytes_of_each set_width a.given.now)) c.put_head.ensures ∙ p.1;
    }
