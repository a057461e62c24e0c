use Rattle.upd_memory.proofs.Common.{◌∙◌}
use Rattle.upd_memory.proofs.MirrorLemmas.{count_left, entries_left}
use Rattle.upd_memory.proofs.mirror.Mirror.take_entries.Goals as goal

pub returns : goal.returns
returns c = λ rows are. record {
  idents = are.idents;
  cards = are.cards;
  homes = are.homes;
  entries = entries_left c.args.self.now.entries c.drop_entries-gone.new.entries rows.entries c.args.card.now c.drop_entries-gone.ensures.rest
      are.entries;
  entry_count = c.saturating_sub-self.ensures ∙ count_left c.args.self.now.entries rows.entries c.args.card.now c.args.self.now.entry_count
      c.drop_entries-gone.result are.entries are.entry_count c.drop_entries-gone.ensures.count;
  targets = are.targets;
  states = are.states;
  counts = are.counts;
}
