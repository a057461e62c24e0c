use Rattle.upd_memory.proofs.Common.{◌∙◌, same_length}
use Rattle.upd_memory.proofs.LoadLemmas.{cards_all}
use Rattle.upd_memory.proofs.mirror.Mirror.card_count.Goals as goal

pub returns : goal.returns
returns c = λ rows are.
    c.in_ok-count.ensures.count ∙ same_length (cards_all c.args.self.now.decks rows.cards c.card_count.ensures.ordered are.cards)
