use Rattle.upd_apply.proofs.Common.{◌≡◌, ◌+◌, ◌≤◌, drop, stepped, next_most}
use Rattle.upd_apply.proofs.applying.take_steps.Given as goal

abbrev pub invariant-loop-line : goal.invariant-loop-line
invariant-loop-line l =
    (stepped (drop l.line-index l.lines) l.state ≡ stepped l.lines l.initial.state) × (next_most l.state ≤ next_most l.initial.state + l.line-index)
