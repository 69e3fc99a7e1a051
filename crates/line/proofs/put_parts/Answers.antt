-- `line::put_parts` meets its contract: word, fields, commands and line feed are stored one after another, which is the line.
use Rattle.line.proofs.RowLaws.{row-stored}
use Rattle.line.proofs.put_parts.Goals as goal

pub returns : goal.returns
returns c =
    let a = c.args in
    row-stored a.word.now a.fields.now a.commands.now a.out.now a.at
    c.put_word-start.ensures.out_after
    c.put_word-start.ensures.value
    c.put_fields-middle.ensures.out_after
    c.put_fields-middle.ensures.value
    c.put_fields-end.ensures.out_after
    c.put_fields-end.ensures.value
    c.put_word.ensures.out_after
