use Rattle.upd_core.proofs.Common.{◌≡◌, ◌<◌, ◌≤◌, true, take, get_or, length, ap, ◌∙◌, subst, All, StayNoted, is_home, CardView}
use Rattle.std.proofs.lemmas.List.Elements.{All-more}
use Rattle.std.proofs.lemmas.List.{take_all}
use Rattle.upd_core.proofs.HomeLemmas.{deck_kept}
use Rattle.upd_core.proofs.decks.note_deck.Goals as goal

pub loop-card-preserved : goal.loop-card-preserved
loop-card-preserved c =
    let cards = c.args.deck.now.cards in
    let deck = c.args.deck.now.ident in
    let i = c.loop-card.card-index in
    let card = c.card-item.result in
    let P : CardView → Type 0 = λ e. is_home c.note_card.new.strays deck e ≡ true in
    let same : c.deref-card-items.result.now ≡ cards = c.deref-card-items.ensures.value ∙ ap (λ d. d.cards) c.deck.view_is in
    let within : i < length cards = rw same at c.loop-card-test.true in
    let read : card ≡ get_or cards i card = rw same at c.card-item.is in
    let own : P card = rw (ap (λ d. d.ident) c.deck.view_is) at c.note_card.ensures.home in
    let kept : StayNoted c.loop-card.strays c.note_card.new.strays = c.note_card.ensures.kept in
    let before : All P (take i cards) = deck_kept c.loop-card.strays c.note_card.new.strays deck (take i cards) kept c.loop-card.invariant.1 in
    (λ ident e. kept ident (c.loop-card.invariant.0 ident e), All-more P cards i card within before (subst P read own))

pub returns-clause-home : goal.returns-clause-home
returns-clause-home c =
    let cards = c.args.deck.now.cards in
    let P : CardView → Type 0 = λ e. is_home c.loop-card.strays c.args.deck.now.ident e ≡ true in
    let same : c.deref-card-items.result.now ≡ cards = c.deref-card-items.ensures.value ∙ ap (λ d. d.cards) c.deck.view_is in
    let done : length cards ≤ c.loop-card.card-index = rw same at c.loop-card-test.false in
    subst (λ all. All P all) (take_all c.loop-card.card-index cards done) c.loop-card.invariant.1
