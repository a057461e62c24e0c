use Rattle.upd_edit.proofs.Common.{◌∙◌, sym}
use Rattle.std.specs.Result.{result_map_both}
use Rattle.upd_edit.proofs.ConditionLemmas.{stops_new}
use Rattle.upd_edit.proofs.condition.conflicts_at.Goals as goal

pub returns-in-Ok-false-clause-list : goal.returns-in-Ok-false-clause-list
returns-in-Ok-false-clause-list g c =
    stops_new g.S.Meaning c.args.since.now c.args.site.now c.args.number c.args.run.now
    (result_map_both (λ list. list.items) (λ fault. fault) c.conflicts_now.result)
    c.args.desk.now.store c.is_known.new.self.store c.conflicts_now.new.desk.store
    c.in-Ok-false.ensures.leaves.same c.conflicts_now.ensures.same
    (λ honest j held. sym c.in-Ok-false.field-0-test ∙ c.in-Ok-false.ensures.known honest j held) c.conflicts_now.ensures.list
