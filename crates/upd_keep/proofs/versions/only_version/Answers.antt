use Rattle.upd_keep.proofs.Common.{rules, state, HasCleanDisk}
use Rattle.upd_keep.proofs.VersionRows.{one_outside}
use Rattle.upd_keep.proofs.versions.only_version.Goals as goal

pub returns-clause-one : goal.returns-clause-one
returns-clause-one g c clean =
    let old = state g.S.Store c.args.conn.now in
    let last = state g.S.Store c.only_version_in.new.tx.conn.now in
    let begun = c.begin-tx.ensures.begun in
    let early : HasCleanDisk last = search rules in
    one_outside {X = Unit {0}} old last tt early c.begin-tx.ensures.settled (rw begun at c.in_ok-only_version_in.ensures.does.was_open)
    (rw begun at c.in_ok-only_version_in.ensures.does.one)
