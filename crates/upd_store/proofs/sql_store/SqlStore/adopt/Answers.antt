use Rattle.upd_store.proofs.Common.{inl, ◌∙◌, arith}
use Rattle.upd_store.proofs.sql_store.SqlStore.adopt.Goals as goal

pub returns-then-version-ne-VERSION-clause-version : goal.returns-then-version-ne-VERSION-clause-version
returns-then-version-ne-VERSION-clause-version g c clean v h = inl (c.store_at-then-version-ne-VERSION.ensures.at ∙ c.in-Ok.ensures.value clean v h)

pub returns-clause-third : goal.returns-clause-third
returns-clause-third g c clean v h = omega (arith, c.in-Ok.ensures.value clean v h, c.if-version-ne-VERSION.false)
