use Rattle.upd_memory.proofs.LoadLemmas.{homes_are}
use Rattle.upd_memory.proofs.mirror.Mirror.decks_of.Goals as goal

pub returns : goal.returns
returns c = λ rows are l sound shows.
    c.decks_by_age.ensures c.args.cards.now rows l sound shows
    (homes_are c.args.self.now.homes rows.cards c.args.cards.now c.in_ok-ages.ages.items are.homes c.in_ok-ages.ensures)
