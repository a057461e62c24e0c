use Rattle.upd_memory.proofs.Common.{◌≡◌, true, ap, ◌∙◌, map, subst, sym, arith, common_steps, same_trans, IsSame, AreAgesOf, AreInOrder, shown_decks}
use Rattle.upd_memory.proofs.Common.{state_row}
use Rattle.upd_memory.proofs.ActiveRowsLemmas.{actives_shown}
use Rattle.upd_memory.proofs.LoadLemmas.{same_moved}
use Rattle.upd_memory.proofs.StatusRowLemmas.{statuses_same}
use Rattle.upd_memory.proofs.mirror.Mirror.actives.Goals as goal

pub returns : goal.returns
returns c = λ rows are l sound shows shown.
    let was = c.args.self.now in
    let idents = c.by_age-idents.result.items in
    let yes : c.all_by_place.result ≡ true = grind (arith, common_steps) in
    let same = same_trans (same_moved _ idents c.by_age-idents.ensures.permutation)
    (subst (λ xs. IsSame xs rows.idents) (sym (c.in_ok-from_slice.ensures.items ∙ c.deref.ensures.value)) are.idents) in
    let ages = subst (λ xs. AreAgesOf xs c.in_ok-ages.ages) c.deref-2.ensures.value c.in_ok-ages.ensures in
    let pairs = c.deref-3.ensures.value ∙ c.in_ok-pairs.ensures.pairs in
    let up = c.in_ok-pairs.ensures.ordered in
    let decks = c.in_ok-decks.ensures.decks idents ages (subst AreInOrder (sym pairs) up)
    ∙ ap (λ ps. shown_decks idents (map state_row ps) was.decks.entries) pairs in
    (λ i. record { idents = idents; decks = decks i })
    ∙ actives_shown was.decks idents (map state_row was.statuses.entries) rows l c.in_ok-decks.ensures.ordered are.cards
    (sym c.all_by_place.ensures ∙ yes) same
    c.by_age-idents.ensures.sorted (statuses_same was.statuses rows.states up are.states) sound shows shown
