use Rattle.upd_row_store.proofs.StoreLemmas.{deck_after, head_read}
use Rattle.upd_row_store.proofs.store.RowStore.load_deck_of.Goals as goal

pub returns-in-Some-clause-leaves : goal.returns-in-Some-clause-leaves
returns-in-Some-clause-leaves g c =
    let first = c.in_ok-head-in-Named.ensures.leaves in
    deck_after c.load_decks-in-Some.result c.args.self.now c.load_decks.new.self c.load_decks-in-Some.new.self first.same first.failed
    (λ honest l sound whole shown.
    let before = c.load_decks-in-Some.ensures.leaves.same.later.honest honest in
    let seen = shown (first.same.later.was_open before (first.opens before)) in
    head_read l c.in_ok-head-in-Named.head _ _ (c.in_ok-head-in-Named.ensures.found before l sound whole seen.0 seen.1 seen.2) first.reads)
    c.load_decks-in-Some.ensures.leaves
