use Rattle.upd_core.proofs.Common.{◌≡◌, false, arith, sym, nat_tests, ◌==◌}
use Rattle.upd_core.proofs.HomeLemmas.{no_card_away}
use Rattle.upd_core.proofs.decks.index_at_home.Goals as goal

pub returns-else-deck-ident : goal.returns-else-deck-ident
returns-else-deck-ident c =
    let d = c.args.deck.now in
    let other : (d.ident == c.args.ident) ≡ false = grind (arith, nat_tests) in
    sym (no_card_away c.args.strays.now d.ident c.args.ident c.args.number 0 d.cards c.requires.stays other c.requires.home)
