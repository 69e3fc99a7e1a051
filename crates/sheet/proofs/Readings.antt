-- A reading is one of two, and what it holds is known from it.
use mathlib.Core.Path.{◌≡◌}
use Rattle.meaning.proofs.Tests.{clash}
use Rattle.sheet.specs.Answers.{Reading}
use Rattle.sheet.specs.declared.Head.{Head}
use Rattle.sheet.specs.declared.Refusal.{Refusal}
use Rattle.std.specs.Prelude.{Ok, Err}

pub accepted_inj : {g h : Head} → ◌≡◌ {A = Reading} (Ok g) (Ok h) → g ≡ h
accepted_inj e = cc

pub refused_inj : {f g : Refusal} → ◌≡◌ {A = Reading} (Err f) (Err g) → f ≡ g
refused_inj e = cc

pub not_both : {h : Head} {f : Refusal} → ¬ (◌≡◌ {A = Reading} (Ok h) (Err f))
not_both e = clash (cc)
