-- `sheet::read_stated` meets its contract: the answer goes by the check of the head and then by the check of the following sets.
use Rattle.std.proofs.Common.{◌≡◌, sym, ◌∙◌, List, ℕ, ◌+◌, ◌*◌, arith}
use Rattle.std.specs.Prelude.{Err}
use Rattle.std.proofs.lemmas.Result.{err_from_is_err_and}
use borrow.Author.Tests.{eqb-true, not-false}
use Rattle.sheet.specs.Sheet.{set_width}
use Rattle.sheet.specs.Refusals.{passes}
use Rattle.sheet.specs.declared.Head.{Head}
use Rattle.sheet.specs.declared.Counted.TheVariants.{Stated}
use Rattle.sheet.proofs.ReadLaws.{check_of, by-head, by-sets, head_even, head-fits}
use Rattle.sheet.proofs.read_stated.Goals as goal

-- where the head passed: the stated length is that of so many sets
stated_is : (n : ℕ) (h : Head) → passes ≡ check_of (Stated n) h → n ≡ 18 + set_width * (h.commands * h.states)
stated_is n h e = eqb-true n (18 + set_width * (h.commands * h.states)) (not-false _ (head_even (Stated n) h.states h.commands _ _ (sym e)))

pub returns-in_err-check_head : goal.returns-in_err-check_head
returns-in_err-check_head c =
    let p = err_from_is_err_and c.from_residual.result c.from_residual.ensures.1 in
    rw (p.1, p.2) (sym (by-head c.args.sheet.now c.head_in-head.result c.head_in-head.ensures c.args.stated (Err c.in_err-check_head.field-0.0) c.in_err-check_head.ensures))

pub overflow_mul-head : goal.overflow_mul-head
overflow_mul-head c = let h : Head = c.head_in-head.result in omega (arith, head-fits (Stated c.args.stated) h.states h.commands _ _ (sym c.in_ok-check_head.ensures))

pub check_following-requires : goal.check_following-requires
check_following-requires c = omega (arith, stated_is c.args.stated c.head_in-head.result c.in_ok-check_head.ensures)

pub returns-in_err-check_following : goal.returns-in_err-check_following
returns-in_err-check_following c =
    let p = err_from_is_err_and c.from_residual-in_err-check_following.result c.from_residual-in_err-check_following.ensures.1 in
    let l : List ℕ = c.args.sheet.now in
    let e = c.head_in-head.ensures in
    rw (p.1, p.2)
    (sym (by-head l c.head_in-head.result e c.args.stated passes c.in_ok-check_head.ensures ∙ by-sets l c.head_in-head.result e (Err c.in_err-check_following.field-0.0) c.in_err-check_following.ensures))

pub returns : goal.returns
returns c =
    let l : List ℕ = c.args.sheet.now in
    let e = c.head_in-head.ensures in
    sym (by-head l c.head_in-head.result e c.args.stated passes c.in_ok-check_head.ensures ∙ by-sets l c.head_in-head.result e passes c.in_ok-check_following.ensures)
