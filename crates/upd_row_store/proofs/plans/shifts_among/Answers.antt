use Rattle.std.proofs.Common.{◌∙◌, List, subst}
use Rattle.std.specs.List.{AllByRecursion}
use Rattle.upd_records.specs.Rows.{CardRow}
use Rattle.upd_row_store.specs.Shifts.{IsRight}
use Rattle.upd_row_store.proofs.PlanLemmas.{all_right}
use Rattle.upd_row_store.proofs.RangeLemmas.{on_some}
use Rattle.upd_row_store.proofs.plans.shifts_among.Goals as goal

pub returns : goal.returns
returns c =
    let ms = c.args.moves.now in
    on_some c.shifts_of.result c.shifts_of.ensures (λ shifts right. all_right c.args.deck c.args.from ms shifts.items c.args.rows.now c.requires
    (subst (λ (rs : List CardRow). AllByRecursion (IsRight c.args.deck c.args.from ms shifts.items) rs) (c.deref.ensures.value ∙ c.in_ok-own.ensures) right))
