-- `sheet::check_head` meets its contract: each answer goes by the tests that led there, which are the conditions of the rows. The length in question fits, since the counts do.
use Rattle.std.proofs.Common.{sym, ap, ◌∙◌}
use Rattle.std.specs.Prelude.{Err}
use Rattle.sheet.specs.Refusals.{Check, verdict, head_rows}
use Rattle.sheet.specs.declared.Refusal.{Refusal}
use Rattle.sheet.proofs.check_head.Goals as goal

-- a refusal as the answer
abbrev failed : Refusal → Check
failed q = Err q

pub returns-then-is_outside : goal.returns-then-is_outside
unfolding verdict head_rows
returns-then-is_outside c = ap failed c.at.ensures ∙ simp (sym c.if-is_outside.ensures)

pub returns-then-is_outside-2 : goal.returns-then-is_outside-2
unfolding verdict head_rows
returns-then-is_outside-2 c = ap failed c.at-then-is_outside-2.ensures ∙ simp (sym c.if-is_outside.ensures, sym c.if-is_outside-2.ensures)

pub returns-then-is_uneven : goal.returns-then-is_uneven
unfolding verdict head_rows
returns-then-is_uneven c = ap failed c.at-then-is_uneven.ensures ∙ simp (sym c.if-is_outside.ensures, sym c.if-is_outside-2.ensures, sym c.if-is_uneven.ensures)

pub returns-then-no_start : goal.returns-then-no_start
unfolding verdict head_rows
returns-then-no_start c = ap failed c.at-then-no_start.ensures ∙ simp (sym c.if-is_outside.ensures, sym c.if-is_outside-2.ensures, sym c.if-is_uneven.ensures, sym c.if-no_start.ensures)

pub returns-then-names_missing : goal.returns-then-names_missing
unfolding verdict head_rows
returns-then-names_missing c =
    ap failed c.at-then-names_missing.ensures
    ∙ simp (sym c.if-is_outside.ensures, sym c.if-is_outside-2.ensures, sym c.if-is_uneven.ensures, sym c.if-no_start.ensures, sym c.if-names_missing.ensures)

pub returns : goal.returns
unfolding verdict head_rows
returns c = simp (sym c.if-is_outside.ensures, sym c.if-is_outside-2.ensures, sym c.if-is_uneven.ensures, sym c.if-no_start.ensures, sym c.if-names_missing.ensures)
