use Rattle.upd_memory.proofs.Common.{subst, sym, map, same_map, IsSame}
use Rattle.upd_records.specs.Changes.{purged_row}
use Rattle.upd_memory.proofs.mirror.Mirror.purge_ident.Goals as goal

pub returns : goal.returns
returns c = λ rows are. record {
  idents = subst (λ xs. IsSame xs (map (purged_row c.args.age) rows.idents)) (sym c.purge_ident.ensures) (same_map
      (purged_row c.args.age) are.idents);
  cards = are.cards;
  homes = are.homes;
  entries = are.entries;
  entry_count = are.entry_count;
  targets = are.targets;
  states = are.states;
  counts = are.counts;
}
