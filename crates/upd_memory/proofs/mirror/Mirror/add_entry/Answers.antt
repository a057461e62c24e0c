use Rattle.upd_memory.proofs.Common.{arith}
use Rattle.std.proofs.lemmas.Grind.{length_at_push}
use Rattle.upd_memory.proofs.MirrorLemmas.{entries_more, when_ok}
use Rattle.upd_memory.proofs.mirror.Mirror.add_entry.Goals as goal

pub returns : goal.returns
returns c = λ rows are. record {
  idents = are.idents;
  cards = are.cards;
  homes = are.homes;
  entries = entries_more c.args.self.now.entries c.add_entry.new.entries rows.entries c.args.row
      (when_ok _ c.ok.result _ c.ok.ensures.value c.in_ok-ok.was c.add_entry.ensures) are.entries;
  entry_count = let count = are.entry_count in let more = length_at_push rows.entries c.args.row in grind (arith, count, more.1);
  targets = are.targets;
  states = are.states;
  counts = are.counts;
}
