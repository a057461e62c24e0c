use Rattle.upd_memory.proofs.Common.{sym, ◌∙◌}
use Rattle.upd_memory.proofs.CardSetLemmas.{home_more, no_home}
use Rattle.upd_memory.proofs.MirrorLemmas.{on_fine}
use Rattle.upd_memory.proofs.card_sets.list_home.Goals as goal

pub returns-in-Some : goal.returns-in-Some
returns-in-Some c =
    on_fine c.list_once.result c.list_once.ensures (λ listed d.
    home_more c.args.decks.now.items c.list_once.new.decks.items c.args.homes.now c.args.card.now c.in-Some.deck d
    (sym c.home_of.ensures ∙ c.in-Some.is) (listed d))

pub returns-in-None : goal.returns-in-None
returns-in-None c = λ d. no_home c.args.decks.now.items c.args.homes.now c.args.card.now d (sym c.home_of.ensures ∙ c.in-None.is)
