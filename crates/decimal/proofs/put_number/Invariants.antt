-- `decimal::put_number`. The loop's invariant: with the digits of the rest stored too, which are to go before i, the buffer has the digits of the number.
use Rattle.std.proofs.Common.{◌≡◌, ◌-◌}
use Rattle.std.proofs.lemmas.List.Edits.{sets as stored}
use Rattle.decimal.specs.Decimal.{decimal}
use Rattle.decimal.proofs.DigitLaws.{last_digits}
use Rattle.decimal.proofs.put_number.Given as goal

abbrev pub invariant-loop-i : goal.invariant-loop-i
invariant-loop-i l = stored l.out l.at (last_digits (l.i - l.at) l.rest) ≡ stored l.initial.out l.at (decimal l.n)
