use Rattle.upd_core.proofs.Common.{is_gone}
use Rattle.upd_core.proofs.HomeLemmas.{home_left}
use Rattle.upd_core.proofs.decks.Decks.purge.Goals as goal

pub invariant_of-self : goal.invariant_of-self
invariant_of-self c =
    rw c.purge_decks.ensures (home_left c.self.inside.strays.items (is_gone c.args.gone.now) c.self.inside.all.items c.self.invariant)
