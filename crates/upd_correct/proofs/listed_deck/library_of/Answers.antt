use Rattle.upd_correct.proofs.Common.{Bor, ◌≤◌, ℕ, List, map, length, sym, subst, ◌∙◌, MAX_CARDS, ListedView}
use Rattle.upd_correct.proofs.CountLemmas.{cards_few}
use Rattle.upd_correct.proofs.listed_deck.library_of.Goals as goal

pub library_listed-requires : goal.library_listed-requires
library_listed-requires c =
    let AreFew : List ListedView → Type 0 = λ cards. length cards ≤ MAX_CARDS in
    subst AreFew (sym (c.deref.ensures.value ∙ c.in_ok-cards.ensures)) (cards_few (map (λ (t : Bor (List ℕ)). t.now) c.args.lines.now) c.requires.read)
