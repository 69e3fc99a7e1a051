-- `sheet::head_in` meets its contract: each number of the head is the one that its bytes stand for.
use Rattle.std.proofs.Common.{◌≡◌, List, ℕ, ◌≤◌, length, get_or, sym, ◌∙◌, arith}
use Rattle.numbers.specs.Bytes.{number_at}
use Rattle.numbers.proofs.Numbers.{number_at_one}
use Rattle.sets.specs.Words.{Value, set_for}
use Rattle.sheet.specs.Sheet.{set_width, sheet_in}
use Rattle.sheet.specs.Answers.{head_of, head_with}
use Rattle.sheet.proofs.head_in.Goals as goal

-- the head that was read
same : (l : List ℕ) {states commands : ℕ} {initial goal : Value} → 7 ≤ length l → states ≡ get_or l 5 0 → commands ≡ get_or l 6 0 → initial ≡ set_for (number_at 7 set_width l) → goal ≡ set_for (number_at 15 set_width l)
    → head_with states commands initial goal ≡ head_of (sheet_in l)
unfolding sheet_in
same l h a b c d = λ i. record {
  states = (a ∙ sym (number_at_one 5 l (omega arith))) i;
  commands = (b ∙ sym (number_at_one 6 l (omega arith))) i;
  initial = c i;
  goal = d i;
}

pub returns : goal.returns
returns c = same c.args.sheet.now (omega arith) c.from.ensures c.from-2.ensures c.set_in.ensures.value c.set_in-2.ensures.value
