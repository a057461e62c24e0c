use Rattle.upd_keep.proofs.Common.{◌≡◌, ◌++◌}
use Rattle.std.specs.Vec.Iter.{into_iter_items}
use Rattle.upd_keep.proofs.ReplayLemmas.{HandsIn}
use Rattle.upd_keep.proofs.stored_replies.first_parting.Given as goal

abbrev pub invariant-loop-run : goal.invariant-loop-run
invariant-loop-run g l =
    (l.fn.runs.items ≡ l.yielded ++ into_iter_items l.run-iterator) × HandsIn g.S.Meaning l.yielded l.initial.desk.store l.desk.store
