use Rattle.upd_row_store.proofs.Common.{◌&&◌, Bool, rules, filter_same, by_name, nat_cmp, slice_cmp, EntryRow}
use Rattle.std.specs.BTreeSet as sorted
use Rattle.upd_row_store.proofs.parts.keep_entries.Goals as goal

pub returns : goal.returns
returns c =
    let stays : EntryRow → Bool =
    λ e. sorted.contains (slice_cmp nat_cmp) c.args.names.now e.card.name && sorted.contains by_name c.args.cards.now e.card in
    filter_same _ stays _ (λ x b f k. search rules) _ _ c.retain.ensures.filtered
