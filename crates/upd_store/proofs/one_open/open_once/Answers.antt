use Rattle.upd_store.proofs.Common.{ℕ, Bool, List, ◌≡◌, ap₂, subst, IfOk, IsTrue, IsClean, Image, view, file_state, FindsTrees}
use Rattle.std.specs.Prelude.{IfErr}
use Rattle.std.proofs.Common.{cond}
use Rattle.sqlite_disk.specs.Events.{Event, replay}
use Rattle.sqlite.specs.Start.{FindsIn}
use Rattle.sqlite.specs.State.{HasCleanDisk}
use Rattle.upd_store.specs.TreeReads.{IsLibrary}
use Rattle.upd_store.proofs.one_open.open_once.Goals as goal

abbrev image : List ℕ → List ℕ → Image
image log db = record { log = log; db = db }

abbrev seen : List ℕ → List ℕ → Bool → List Event → List ℕ
seen log db is_log history = (replay (cond is_log log db) history).seen

pub returns-clause-below : goal.returns-clause-below
returns-clause-below g c =
    let (log, db) = c.in-Ok.ensures.fresh in
    let same = ap₂ image (ap₂ (seen g.St.Start.log g.St.Start.db) log.0 log.1) (ap₂ (seen g.St.Start.log g.St.Start.db) db.0 db.1) in
    subst (λ i. IfOk c.opened.result (λ l. IfOk l (λ s. IsClean (view s.store) → FindsTrees i (view s.store).committed
    × IsLibrary (view s.store).committed))) same c.opened.ensures.below

pub returns-clause-found : goal.returns-clause-found
returns-clause-found g c =
    let (log, db) = c.in-Ok.ensures.fresh in
    let same = ap₂ image (ap₂ (seen g.St.Start.log g.St.Start.db) log.0 log.1) (ap₂ (seen g.St.Start.log g.St.Start.db) db.0 db.1) in
    subst (λ i. IfOk c.opened.result (λ l. IfErr l (λ s. HasCleanDisk (file_state s.conn) → IsTrue (file_state s.conn).is_open
    → FindsIn i (file_state s.conn)))) same c.opened.ensures.found
