use Rattle.upd_core.proofs.HomeLemmas.{home_entered}
use Rattle.upd_core.proofs.decks.Decks.enter.Goals as goal

pub invariant_of-self-2 : goal.invariant_of-self-2
invariant_of-self-2 c =
    rw c.in_ok-count.ensures.ok
    (home_entered c.self.inside.strays.items c.args.age c.args.from c.args.to c.args.entry c.self.inside.all.items c.self.invariant)
