-- `line::put_word` meets its contract: the part of the buffer that is written over has the length of the word.
use Rattle.std.proofs.Common.{◌≡◌, ◌+◌, ◌-◌, ◌++◌, length, take, drop, refl, sym, ap, ◌∙◌, arith}
use Rattle.std.proofs.lemmas.Slice.{put_mid-paste}
use Rattle.std.proofs.lemmas.List.Edits.{sets-eq}
use lib.Seq.{take_all}
use Rattle.line.proofs.put_word.Goals as goal

pub returns-clause-out_after : goal.returns-clause-out_after
returns-clause-out_after c =
    let a = c.args in
    let word = a.word.now in
    let e : length word ≡ a.at + length word - a.at = omega arith in
    put_mid-paste a.at _ a.out.now c.copy_from_slice.new.self word (length word) c.copy_from_slice.ensures.after e refl
    ∙ ap (λ bytes. take a.at a.out.now ++ bytes ++ drop (a.at + length word) a.out.now) (take_all (length word) word (omega arith))
    ∙ sym (sets-eq word a.out.now a.at c.requires)
