-- A step raises the next number by at most 1.
use Rattle.upd_apply.proofs.Common.{◌≡◌, ℕ, ◌+◌, ◌≤◌, List, arith, at_line, ItemView, LineView, State, Edit, AddsAtEnd, AddsInside, AddsYank, carried}
use Rattle.upd_apply.proofs.Common.{next_most, step}
use Rattle.std.specs.Prelude.{Ok}
use Rattle.upd_apply.proofs.BindLemmas.{line_is}
use Rattle.upd_apply.proofs.EditLemmas.{Fits, of_step}

abbrev Rises : State → State → Type 0
Rises s t = next_most t ≤ next_most s + 1

edit_rises : (item : ItemView) (text : List ℕ) (s : State) (e : Edit) → Fits item text s e → Rises s (carried e s)
edit_rises item text s (AddsAtEnd d next added) fits = rw fits.0 (omega arith)
edit_rises item text s (AddsInside d after c added) fits = rw fits.held (omega arith)
edit_rises item text s (AddsYank c added targets) fits = rw fits.held (omega arith)
edit_rises item text s _ fits = omega arith

pub step_rises : (line : LineView) (s t : State) → step line s ≡ Ok t → next_most t ≤ next_most s + 1
step_rises line s t is = of_step (Rises s) line s t is (λ e fits within. edit_rises line.item line.text s e fits)

pub line_rises : (line : LineView) (s t : State) → at_line line.number (step line s) ≡ Ok t → next_most t ≤ next_most s + 1
line_rises line s t is = step_rises line s t (line_is line.number (step line s) t is)
