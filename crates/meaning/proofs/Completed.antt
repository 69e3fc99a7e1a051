-- Commands that are ignored where they cannot be taken: the table completed by 'stays in that state' is as well formed as the table.
use mathlib.Core.Path.{◌≡◌, sym, ap, subst}
use mathlib.Core.Logic.{⊎_elim}
use Prim.Native.Nat.{ℕ, zero, suc, ◌^◌, ◌≤◌, ◌<◌}
use native.Mathlib.Omega.{arith}
use lib.Pow.{pow-lt}
use Rattle.meaning.specs.Sets.{bit}
use Rattle.meaning.specs.Domain.{Domain, WellFormed}
use Rattle.meaning.proofs.SetLaws.{∈_lt, bit_cases, member}

-- Bit a of `ignored` says that command a is ignored where its following set is empty.

-- the set y, or the state s itself where y is empty and the bit is 1
abbrev pub stays : ℕ → ℕ → ℕ → ℕ
stays b s (suc y) = suc y
stays zero s zero = zero
stays (suc b) s zero = 2 ^ s

abbrev pub completed : ℕ → Domain → Domain
completed ignored D = record { states = D.states; commands = D.commands; follow = λ a s. stays (bit a ignored) s (D.follow a s) }

-- a completed table is as sound as the table, where no missing command is named
pub completed_sound : (ignored : ℕ) (D : Domain) → ignored < 2 ^ D.commands → WellFormed D → WellFormed (completed ignored D)
completed_sound ignored D h ok = record {
  rows = λ a s l. go (bit a ignored) s l (D.follow a s) (ok.rows a s l);
  no_other = λ a s l. none a s l;
}
  where
    go : (b s : ℕ) → s < D.states → (y : ℕ) → y < 2 ^ D.states → stays b s y < 2 ^ D.states
    go b s l (suc y) k = k
    go zero s l zero k = k
    go (suc b) s l zero k = pow-lt l

    none : (a s : ℕ) → D.commands ≤ a → stays (bit a ignored) s (D.follow a s) ≡ 0
    none a s l = subst (λ (y : ℕ). stays (bit a ignored) s y ≡ 0) (sym (ok.no_other a s l))
        (⊎_elim (λ e. ap (λ (b : ℕ). stays b s 0) e) (λ e. absurd (omega (arith, l, ∈_lt D.commands h (member {s = a} {x = ignored} e)))) (bit_cases a ignored))
