-- A line, computed: that of the bench example.
use mathlib.Core.Path.{◌≡◌, refl}
use mathlib.Core.List.{[], ◌∷◌}
use Rattle.decimal.specs.Decimal.{spelled, decimal}
use Rattle.decimal.specs.Fields.{spaced}
use Rattle.line.specs.Lines.{row, plan, line_of}

-- PLAN 2 1 1
bench_line : line_of (plan 2 1 (1 ∷ [])) ≡ 80 ∷ 76 ∷ 65 ∷ 78 ∷ 32 ∷ 50 ∷ 32 ∷ 49 ∷ 32 ∷ 49 ∷ 10 ∷ []
unfolding decimal spelled spaced row
bench_line = refl
