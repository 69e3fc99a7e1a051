-- `shown::shown_at` meets its contract: where the set is shown its bytes are within the sheet.
use Rattle.std.proofs.Common.{◌≡◌, sym, ap, ◌∙◌, ℕ, ◌+◌, ◌-◌, take, drop, arith}
use Rattle.sheet.specs.Sheet.{set_width}
use Rattle.shown.specs.Shown.{shown_from}
use Rattle.shown.proofs.Shown.{stands_at, stands_nowhere}
use Rattle.shown.proofs.shown_at.Goals as goal

pub overflow_add-result : goal.overflow_add-result
overflow_add-result c = let a = c.args in omega (arith, stands_at a.sheet.now a.states a.command a.state c.in-Some.at c.in-Some.ensures)

pub slice_bounds-result-end : goal.slice_bounds-result-end
slice_bounds-result-end c = let a = c.args in omega (arith, stands_at a.sheet.now a.states a.command a.state c.in-Some.at c.in-Some.ensures)

pub returns-in-Some : goal.returns-in-Some
returns-in-Some c =
    let a = c.args in
    let at : ℕ = c.in-Some.at in
    let t = stands_at a.sheet.now a.states a.command a.state at c.in-Some.ensures in
    let eight : at + set_width - at ≡ set_width = omega arith in
    record {
      bytes = ap (λ (k : ℕ). take k (drop at a.sheet.now)) eight ∙ sym t.bytes;
      place = ap (λ (k : ℕ). (a.sheet.ref_ptr.0, k + a.sheet.ref_ptr.1)) (sym t.place);
    }

pub returns-in-None : goal.returns-in-None
returns-in-None c =
    let a = c.args in
    let t = stands_nowhere a.sheet.now a.states a.command a.state c.in-None.ensures in
    let e : a.sheet.ref_ptr.1 ≡ shown_from a.sheet.now a.states a.command a.state + a.sheet.ref_ptr.1 = omega (arith, t.place) in
    record { bytes = sym t.bytes; place = ap (λ (k : ℕ). (a.sheet.ref_ptr.0, k)) e }
