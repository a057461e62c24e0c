use Rattle.upd_memory.proofs.Common.{arith, common_steps}
use Rattle.upd_memory.proofs.MirrorLemmas.{count_none, count_some}
use Rattle.upd_memory.proofs.mirror.Mirror.put_count.Goals as goal

pub returns-then-n-eq0 : goal.returns-then-n-eq0
returns-then-n-eq0 c = λ rows are. record {
  idents = are.idents;
  cards = are.cards;
  homes = are.homes;
  entries = are.entries;
  entry_count = are.entry_count;
  targets = are.targets;
  states = are.states;
  counts = count_none c.args.target c.args.n c.args.self.now.counts.items c.drop_count.new.counts.items rows.counts c.if-n-eq0.true
      c.drop_count.ensures are.counts;
}

pub returns : goal.returns
returns c = λ rows are. record {
  idents = are.idents;
  cards = are.cards;
  homes = are.homes;
  entries = are.entries;
  entry_count = are.entry_count;
  targets = are.targets;
  states = are.states;
  counts = count_some c.args.target c.args.n c.args.self.now.counts.items c.drop_count.new.counts.items c.push.new.self.items rows.counts
      c.if-n-eq0.false
      c.drop_count.ensures (grind (arith, common_steps)) are.counts;
}
