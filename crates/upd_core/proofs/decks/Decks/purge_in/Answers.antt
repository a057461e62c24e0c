use Rattle.upd_core.specs.Gone.{is_gone}
use Rattle.upd_core.proofs.HomeLemmas.{home_left_in}
use Rattle.upd_core.proofs.decks.Decks.purge_in.Goals as goal

pub invariant_of-self : goal.invariant_of-self
invariant_of-self c =
    rw c.purge_deck.ensures
    (home_left_in c.self.inside.strays.items c.args.age (is_gone c.args.gone.now) c.self.inside.all.items c.self.invariant)
