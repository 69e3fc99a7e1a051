-- `writer::write` meets its contract: answer and output go by the check of the head, then by the check of the following sets, then by the storing.
use Rattle.std.proofs.Common.{◌≡◌, sym, List, [], ◌∷◌, ◌++◌, ℕ, ◌*◌, length, drop}
use Rattle.std.specs.Prelude.{Ok, Err}
use Rattle.std.proofs.lemmas.Result.{err_from_is_err_and}
use borrow.Author.Tests.{eqb-true, not-false}
use Rattle.sheet.specs.Sheet.{Sheet, encode, length_for}
use Rattle.sheet.specs.Refusals.{passes}
use Rattle.sheet.specs.Answers.{sheet_of}
use Rattle.sheet.specs.declared.Refusal.{Refusal}
use Rattle.sheet.specs.declared.Counted.{Counted}
use Rattle.sheet.specs.declared.Counted.TheVariants.{Given}
use Rattle.sheet.proofs.ReadLaws.{head_even, head-fits}
use Rattle.writer.specs.Written.{Writing, Wrote, writing_by, written_by, room_row}
use Rattle.writer.proofs.WriteLaws.{head_check, sets_check, head_fails, sets_fail, both_pass}
use Rattle.writer.proofs.write.Goals as goal

-- the three ways on, by what the two checks answered
module _ (s : Sheet) (o : List ℕ) where
  head_refuses : (q : Refusal) → head_check s ≡ Err q → Wrote s o o (Err q)
  head_refuses q e = record {
    answer = sym (head_fails Err (Ok (length_for s.states s.commands)) s (length o) q e);
    output = sym (head_fails (λ _. o) (encode s ++ drop (length_for s.states s.commands) o) s (length o) q e);
  }

  sets_refuse : head_check s ≡ passes → (q : Refusal) → sets_check s ≡ Err q → Wrote s o o (Err q)
  sets_refuse e q f = record {
    answer = sym (sets_fail Err (Ok (length_for s.states s.commands)) s (length o) e q f);
    output = sym (sets_fail (λ _. o) (encode s ++ drop (length_for s.states s.commands) o) s (length o) e q f);
  }

  by_storing : head_check s ≡ passes → sets_check s ≡ passes → {after : List ℕ} {r : Writing}
      → r ≡ writing_by (room_row s (length o) ∷ []) s → after ≡ written_by (room_row s (length o) ∷ []) s o → Wrote s o after r
  by_storing e f a b = record {
    answer = both_pass Err (Ok (length_for s.states s.commands)) s (length o) e f a;
    output = both_pass (λ _. o) (encode s ++ drop (length_for s.states s.commands) o) s (length o) e f b;
  }

pub put_sheet-requires : goal.put_sheet-requires
put_sheet-requires c =
    let g : Sheet = sheet_of c.args.head c.args.given.now in
    let n : Counted = Given (length g.sets) in
    record {
      given_len = eqb-true (length g.sets) (g.commands * g.states) (not-false _ (head_even n g.states g.commands g.initial g.goal (sym c.in_ok-check_head.ensures)));
      states_bound = head-fits n g.states g.commands g.initial g.goal (sym c.in_ok-check_head.ensures);
    }

pub returns-in_err-check_head : goal.returns-in_err-check_head
returns-in_err-check_head c =
    let p = err_from_is_err_and c.from_residual.result c.from_residual.ensures.1 in
    rw (p.1, p.2) (head_refuses (sheet_of c.args.head c.args.given.now) c.args.out.now c.in_err-check_head.field-0.0 (sym c.in_err-check_head.ensures))

pub returns-in_err-check_given : goal.returns-in_err-check_given
returns-in_err-check_given c =
    let p = err_from_is_err_and c.from_residual-in_err-check_given.result c.from_residual-in_err-check_given.ensures.1 in
    rw (p.1, p.2) (sets_refuse (sheet_of c.args.head c.args.given.now) c.args.out.now (sym c.in_ok-check_head.ensures) c.in_err-check_given.field-0.0 (sym c.in_err-check_given.ensures))

pub returns : goal.returns
returns c = by_storing (sheet_of c.args.head c.args.given.now) c.args.out.now (sym c.in_ok-check_head.ensures) (sym c.in_ok-check_given.ensures) c.put_sheet.ensures.value c.put_sheet.ensures.out_after
