use Rattle.upd_memory.proofs.Common.{subst, sym, not, same_filter, IsSame, same_ref}
use Rattle.std.proofs.Common.{filter}
use Rattle.upd_memory.proofs.mirror.Mirror.take_targets.Goals as goal

pub returns : goal.returns
returns c = λ rows are. record {
  idents = are.idents;
  cards = are.cards;
  homes = are.homes;
  entries = are.entries;
  entry_count = are.entry_count;
  targets = subst (λ xs. IsSame xs (filter (λ r. not (same_ref c.args.card.now r.card)) rows.targets)) (sym c.drop_targets.ensures)
      (same_filter (λ r. not (same_ref c.args.card.now r.card)) are.targets);
  states = are.states;
  counts = are.counts;
}
