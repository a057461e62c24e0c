use Rattle.upd_memory.proofs.Common.{same_of}
use Rattle.upd_memory.specs.Lists.{no_rows}
use Rattle.upd_memory.proofs.mirror.Mirror.empty.Goals as goal

pub returns : goal.returns
returns c =
    c.without_cards.ensures no_rows (same_of _ _ c.new.ensures.items) (same_of _ _ c.new-2.ensures.items) (same_of _ _ c.new-3.ensures.items)
