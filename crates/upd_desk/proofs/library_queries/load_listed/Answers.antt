-- A deck, and the deck of a card, are one deck; the directory and `YANK$$$` are read without any.
use Rattle.upd_desk.proofs.Common.{IfOk-weaker, arith, keeps_still, refl}
use Rattle.upd_desk.proofs.ListedLemmas.{card_listed, card_shown, deck_listed, deck_read, head_of_held}
use Rattle.upd_row_store.specs.declared.asked.DeckOf.TheVariants.{Named, Holding}
use Rattle.upd_desk.proofs.library_queries.load_listed.Goals as goal

pub returns-in-Deck-clause-found : goal.returns-in-Deck-clause-found
returns-in-Deck-clause-found g c honest =
    IfOk-weaker c.load_deck_of.result _ _ (λ part found l made rows shown shows.
    rw c.in-Deck.is (deck_listed c.in-Deck.name part l (found l made.sound made.whole rows shown shows))) (c.load_deck_of.ensures.found honest)

pub returns-in-Deck-clause-reads : goal.returns-in-Deck-clause-reads
returns-in-Deck-clause-reads g c =
    rw c.in-Deck.is (deck_read (Named c.in-Deck.name) c.load_deck_of.result c.args.store.now c.load_deck_of.new.self
    c.load_deck_of.ensures.leaves c.load_deck_of.ensures.found)

pub returns-in-Some-clause-found : goal.returns-in-Some-clause-found
returns-in-Some-clause-found g c honest l made rows shown shows =
    rw c.in-Card.is (card_shown c.in-Card.card l c.in-Some.alone ((c.in-Some.ensures honest).1 l made.sound rows shown shows))

pub returns-in-Some-clause-reads : goal.returns-in-Some-clause-reads
returns-in-Some-clause-reads g c honest journal held = rw c.in-Card.is (omega arith)

pub returns-in-Some-clause-opens : goal.returns-in-Some-clause-opens
returns-in-Some-clause-opens g c honest = (c.in-Some.ensures honest).0

pub returns-in-Some-clause-leaves : goal.returns-in-Some-clause-leaves
returns-in-Some-clause-leaves g c = record { same = keeps_still c.args.store.now; lost = tt; failed = refl }

pub returns-in_default-clause-found : goal.returns-in_default-clause-found
returns-in_default-clause-found g c honest =
    IfOk-weaker c.load_deck_of-in-Card.result _ _ (λ part found l made rows shown shows.
    rw c.in-Card.is (card_listed c.in-Card.card part l made.sound (found l made.sound made.whole rows shown shows)))
    (c.load_deck_of-in-Card.ensures.found honest)

pub returns-in_default-clause-reads : goal.returns-in_default-clause-reads
returns-in_default-clause-reads g c =
    rw c.in-Card.is (deck_read (Holding c.in-Card.card) c.load_deck_of-in-Card.result c.args.store.now c.load_deck_of-in-Card.new.self
    c.load_deck_of-in-Card.ensures.leaves c.load_deck_of-in-Card.ensures.found)

pub returns-in-Idents-clause-reads : goal.returns-in-Idents-clause-reads
returns-in-Idents-clause-reads g c =
    head_of_held _ c.load_decks.result c.args.store.now c.load_decks.new.self c.load_decks.ensures.leaves c.load_decks.ensures.found
