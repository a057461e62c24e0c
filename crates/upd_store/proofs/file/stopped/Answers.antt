use Rattle.std.proofs.Math.Logic.{∥∥₁_map}
use Rattle.upd_store.proofs.Common.{sym, subst, IsClean, view, file_state}
use Rattle.sqlite.proofs.Theorems.{opens_again}
use Rattle.sqlite_store.specs.FileStore.{recovers}
use Rattle.upd_store.specs.OpenedAgain.{OpensAgain}
use Rattle.upd_store.proofs.file.stopped.Goals as goal

pub returns-clause-opens : goal.returns-clause-opens
returns-clause-opens g c =
    let conn = c.into_connection.result in
    let store = c.into_store.result in
    let quiet = c.into_store.ensures.quiet in
    subst (λ k. IsClean (view store) → OpensAgain (file_state k).may_leave store) c.into_connection.ensures (λ clean left may found is.
    ∥∥₁_map (opens_again store (c.into_store.ensures.numbered clean) (c.into_store.ensures.sound clean) left may)
    (λ db. subst (recovers conn.store) (sym (is db.0 db.2)) (quiet.outcomes db.0 db.1)))
