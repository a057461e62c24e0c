use Rattle.std.proofs.Common.{◌≡◌, map, take, drop, ◌++◌}
use Rattle.upd_records.specs.Changes.{purged_row}
use Rattle.upd_records.proofs.row_edits.purge_in.Given as goal

abbrev pub invariant-loop-ident : goal.invariant-loop-ident
invariant-loop-ident l = l.idents ≡ map (purged_row l.age) (take l.ident-index l.initial.idents) ++ drop l.ident-index l.initial.idents
