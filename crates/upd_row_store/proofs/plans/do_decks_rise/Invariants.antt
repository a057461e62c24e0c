use Rattle.std.proofs.Common.{drop}
use Rattle.upd_row_store.specs.Plans.{DecksRise}
use Rattle.upd_row_store.proofs.plans.do_decks_rise.Given as goal

abbrev pub invariant-loop-plan : goal.invariant-loop-plan
invariant-loop-plan l = DecksRise l.least (drop l.plan-index l.plans) → DecksRise 0 l.plans
