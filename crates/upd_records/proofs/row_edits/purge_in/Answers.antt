use Rattle.std.proofs.Common.{refl}
use Rattle.upd_records.specs.Changes.{purged_row}
use Rattle.upd_core.proofs.InPlaceLemmas.{map_over_more}
use Rattle.upd_records.proofs.row_edits.purge_in.Goals as goal

pub loop-ident-preserved : goal.loop-ident-preserved
loop-ident-preserved c =
    map_over_more (purged_row c.args.age) _ _ _ c.ident-item.result _ _ c.loop-ident-test.true c.loop-ident.invariant refl c.purged.ensures
