use Rattle.upd_memory.proofs.Common.{refl}
use Rattle.upd_memory.proofs.MirrorLemmas.{no_cards, no_entries, no_homes, no_statuses}
use Rattle.upd_memory.proofs.mirror.Mirror.without_cards.Goals as goal

pub returns : goal.returns
returns c = λ rows idents targets counts. record {
  idents = idents;
  cards = no_cards c.new.result c.new.ensures.empty;
  homes = no_homes c.new-2.result c.new-2.ensures.empty;
  entries = no_entries c.new-3.result c.new-3.ensures.empty;
  entry_count = refl;
  targets = targets;
  states = no_statuses c.new-4.result c.new-4.ensures.empty;
  counts = counts;
}
