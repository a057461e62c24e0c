use Rattle.upd_core.proofs.CountLemmas.{AreOf-entered_yanks}
use Rattle.upd_core.proofs.library.Library.enter_yanks.Goals as goal

pub invariant_of-self-2 : goal.invariant_of-self-2
invariant_of-self-2 c =
    rw (c.saturating_add-self-inside.ensures, c.in_ok-count.ensures.count, c.in_ok-count.ensures.ok)
    (AreOf-entered_yanks _ c.self.inside.counts c.args.from c.args.to c.args.entry c.self.invariant c.requires)
