use Rattle.upd_memory.proofs.Common.{sym}
use Rattle.upd_memory.proofs.ActiveRowsLemmas.{active_at, none_active}
use Rattle.upd_memory.proofs.status_lookup.Statuses.is_active.Goals as goal

pub returns-in_default-clause-active : goal.returns-in_default-clause-active
returns-in_default-clause-active c = λ up. sym (none_active c.args.card.now c.args.self.now.pairs.now (c.in_default.ensures.place up))

pub returns-clause-active : goal.returns-clause-active
returns-clause-active c = λ up.
    let pairs = c.args.self.now.pairs.now in
    sym (active_at c.args.card.now pairs c.in-Some.place c.index-self-place.result up c.in-Some.ensures.within
    (c.in-Some.ensures.place up c.index-self-place.result))
