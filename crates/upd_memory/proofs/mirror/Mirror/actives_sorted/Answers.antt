use Rattle.upd_memory.proofs.Common.{◌∙◌, subst, sym, IsSame}
use Rattle.upd_memory.proofs.LoadLemmas.{cards_all}
use Rattle.upd_memory.proofs.StatusRowLemmas.{statuses_same}
use Rattle.upd_memory.proofs.mirror.Mirror.actives_sorted.Goals as goal

pub returns : goal.returns
returns c = λ rows are l sound shows shown.
    c.in_ok-actives.ensures rows l sound shows shown
    (subst (λ xs. IsSame xs rows.idents) (sym (c.in_ok-idents.ensures.items ∙ c.deref.ensures.value)) are.idents)
    (subst (λ xs. IsSame xs rows.cards) (sym c.in_ok-cards.ensures.rows)
    (cards_all c.args.self.now.decks rows.cards c.in_ok-cards.ensures.ordered are.cards))
    (subst (λ xs. IsSame xs rows.states) (sym c.in_ok-states.ensures.rows)
    (statuses_same c.args.self.now.statuses rows.states c.in_ok-states.ensures.ordered are.states))
