use Rattle.upd_migrate.proofs.Common.{inl, sym, ◌∙◌}
use Rattle.upd_migrate.proofs.older_version.known_version.Goals as goal

pub returns-in-Some-clause-value : goal.returns-in-Some-clause-value
returns-in-Some-clause-value g c clean v h = sym (c.in-Ok.ensures.value clean v h) ∙ c.in-Some.ensures.number

pub returns-in-None-clause-fault : goal.returns-in-None-clause-fault
returns-in-None-clause-fault g c clean v h = inl (c.store_at.ensures.at ∙ c.in-Ok.ensures.value clean v h)
