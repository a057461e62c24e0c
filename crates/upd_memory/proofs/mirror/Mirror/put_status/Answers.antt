use Rattle.upd_memory.proofs.Common.{sym, subst, CardRef, get, by_name, IsSame, state_rows}
use Rattle.upd_records.proofs.StatusLemmas.{status_set}
use Rattle.upd_memory.proofs.MirrorLemmas.{when_ok}
use Rattle.upd_memory.proofs.StatusRowLemmas.{state_put}
use Rattle.upd_memory.proofs.mirror.Mirror.put_status.Goals as goal

pub returns : goal.returns
returns c = λ rows are. record {
  idents = are.idents;
  cards = are.cards;
  homes = are.homes;
  entries = are.entries;
  entry_count = are.entry_count;
  targets = are.targets;
  states = λ (card : CardRef). subst (IsSame (state_rows card (get by_name c.put_status.new.statuses card)))
      (sym (status_set card c.args.card c.args.active rows.states))
      (state_put c.args.self.now.statuses c.put_status.new.statuses rows.states c.args.card c.args.active
      (when_ok _ c.ok.result _ c.ok.ensures.value c.in_ok-ok.was c.put_status.ensures) are.states card);
  counts = are.counts;
}
