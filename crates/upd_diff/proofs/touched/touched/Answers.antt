use Rattle.upd_diff.proofs.Common.{◌++◌, ap, sym, subst, ◌∙◌, arith, DeckDiffView, deck_after, touched_in}
use Rattle.upd_diff.proofs.TouchedLemmas.{AreOf, apart_in_deck, deck_more, decks_all, lead_are_of}
use Rattle.upd_diff.proofs.touched.touched.Goals as goal

pub loop-deck-preserved : goal.loop-deck-preserved
loop-deck-preserved c = λ apart all.
    let l = c.args.before.now in
    let of_deck = λ (k : DeckDiffView). touched_in c.args.idents.now l (deck_after k) in
    deck_more of_deck (AreOf l c.are_rising-rising.result) c.args.decks.now c.loop-deck.deck-index c.deck-item.result _ _ _ c.loop-deck-test.true
    c.deck-item.is (c.loop-deck.invariant apart all)
    (λ of.
    let added = rw (c.cards_of.ensures, c.deref.ensures.value) at c.in_ok-add_touched.ensures in
    added (apart_in_deck c.deck.inside.deck l apart) (subst (AreOf l c.are_rising-rising.result) (sym c.deck.view_is) of)
    ∙ ap (λ k. c.loop-deck.found.items ++ of_deck k) c.deck.view_is)

pub returns : goal.returns
returns c = λ after lead apart.
    let l = c.args.before.now in
    let rising = rw c.decks.ensures at c.are_rising-rising.ensures in
    let all = lead_are_of l after c.args.decks.now c.are_rising-rising.result lead rising in
    decks_all c.args.idents.now l after c.args.decks.now c.loop-deck.deck-index c.loop-deck.found.items (omega arith) (c.loop-deck.invariant apart all).1 lead
