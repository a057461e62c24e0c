use Rattle.upd_diff.proofs.Common.{[], drop, subst, arith, drop_all, Await}
use Rattle.upd_diff.proofs.LeadLemmas.{await_none}
use Rattle.upd_diff.proofs.deck_diffs.add_new_decks.Goals as goal

pub returns : goal.returns
returns c = λ olds news h.
    await_none olds news c.loop-deck.found.items
    (subst (Await olds news c.loop-deck.found.items []) (drop_all c.loop-deck.deck-index c.args.decks.now (omega arith)) (c.loop-deck.invariant olds news h))
