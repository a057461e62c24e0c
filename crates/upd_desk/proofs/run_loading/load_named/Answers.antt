-- The decks of the cards that are named are loaded, or all where one is a yank card, which is seen without any deck.
use Rattle.upd_desk.proofs.Common.{[], length, ◌≡◌, sym, ◌∙◌, refl, IfOk-weaker, arith, nat_tests, keeps_still}
use Rattle.upd_desk.proofs.LoadingLemmas.{all_loaded, head_read, homes_loaded, needs_named, needs_seen, needs_yanks, no_ages}
use Rattle.upd_desk.proofs.LoadingLemmas.{none_read, none_with_head, reads_needed, still_read, within}
use Rattle.upd_desk.proofs.LookingLemmas.{memory_reads}
use Rattle.upd_desk.proofs.QueryLemmas.{shown_there}
use Rattle.upd_desk.proofs.run_loading.load_named.Goals as goal

pub returns-in_err-cards-clause-leaves : goal.returns-in_err-cards-clause-leaves
returns-in_err-cards-clause-leaves g c =
    memory_reads c.from_residual.result c.args.store.now c.args.store.now c.from_residual.ensures.1 (keeps_still c.args.store.now) refl

pub returns-then-not-homes-clause-found : goal.returns-then-not-homes-clause-found
returns-then-not-homes-clause-found g c honest =
    let before = c.load_decks.ensures.leaves.same.later.honest honest in
    IfOk-weaker c.load_decks.result _ _ (λ part found l made rows shown shows.
    let there = shown_there c.args.store.now c.homes_of.new.self c.in_ok-homes.ensures.leaves.same before
    (c.in_ok-homes.ensures.leaves.opens before) rows shown in
    let homes = c.in_ok-homes.ensures.found before l made.sound made.whole rows shown shows in
    homes_loaded c.args.run.now l part c.in_ok-cards.cards.items c.deref.result.now c.deref-then-not-homes.result.now
    c.in_ok-homes.homes.decks.items (found l made.sound made.whole rows there shows) c.deref-then-not-homes.ensures.value
    homes.decks c.deref.ensures.value (needs_named c.args.run.now l c.in_ok-cards.cards.items c.deref.result.now made.sound c.requires.plain
    c.in_ok-cards.ensures.same c.deref.ensures.value (homes.yanks c.if-not-homes.true))) (c.load_decks.ensures.found honest)

pub returns-then-not-homes-clause-reads : goal.returns-then-not-homes-clause-reads
returns-then-not-homes-clause-reads g c =
    reads_needed g.S.Meaning c.args.run.now c.load_decks.result c.args.store.now c.homes_of.new.self c.load_decks.new.self
    (λ honest l made rows shown shows. still_read _ _ c.in_ok-homes.ensures.leaves.unread) c.load_decks.ensures.leaves.reads
    (returns-then-not-homes-clause-found g c)

pub returns-then-any_names_yank_card-clause-found : goal.returns-then-any_names_yank_card-clause-found
returns-then-any_names_yank_card-clause-found g c honest =
    let seen = c.load.ensures.leaves.same.later.honest honest in
    let before = c.in_ok-head.ensures.leaves.same.later.honest seen in
    IfOk-weaker c.load.result _ _ (λ library found l made rows shown shows.
    let there = shown_there c.args.store.now c.homes_of.new.self c.in_ok-homes.ensures.leaves.same before
    (c.in_ok-homes.ensures.leaves.opens before) rows shown in
    let head = c.in_ok-head.ensures.found seen l made.sound made.whole rows there shows in
    let still = shown_there c.homes_of.new.self c.load_decks-2.new.self c.in_ok-head.ensures.leaves.same seen
    (c.in_ok-head.ensures.leaves.opens seen) rows there in
    all_loaded c.args.run.now l library (found l made.sound made.whole rows still shows)
    (needs_yanks c.args.run.now l c.in_ok-head.head c.in_ok-cards.cards.items c.deref-2.result.now made.sound head c.in_ok-cards.ensures.same
    c.deref-2.ensures.value (sym c.any_names_yank_card.ensures ∙ c.if-any_names_yank_card.true))) (c.load.ensures.found honest)

pub returns-then-any_names_yank_card-clause-reads : goal.returns-then-any_names_yank_card-clause-reads
returns-then-any_names_yank_card-clause-reads g c =
    reads_needed g.S.Meaning c.args.run.now c.load.result c.args.store.now c.load_decks-2.new.self c.load.new.self
    (λ honest. none_with_head c.in_ok-head.head c.args.store.now c.homes_of.new.self c.load_decks-2.new.self c.in_ok-homes.ensures.leaves.same
    c.in_ok-homes.ensures.leaves.opens c.in_ok-homes.ensures.leaves.unread c.in_ok-head.ensures.leaves.same.later.honest c.in_ok-head.ensures.found
    c.in_ok-head.ensures.leaves.reads (c.load.ensures.leaves.same.later.honest honest)) c.load.ensures.leaves.reads
    (returns-then-any_names_yank_card-clause-found g c)

pub returns-then-is_empty-clause-found : goal.returns-then-is_empty-clause-found
returns-then-is_empty-clause-found g c seen l made rows shown shows =
    let before = c.in_ok-head.ensures.leaves.same.later.honest seen in
    let there = shown_there c.args.store.now c.homes_of.new.self c.in_ok-homes.ensures.leaves.same before
    (c.in_ok-homes.ensures.leaves.opens before) rows shown in
    let head = c.in_ok-head.ensures.found seen l made.sound made.whole rows there shows in
    let homes = c.in_ok-homes.ensures.found before l made.sound made.whole rows shown shows in
    let none : length c.in_ok-homes.homes.decks.items ≡ 0 = grind (arith, nat_tests, c.in_ok-homes.homes.decks.ok, c.is_empty.ensures, c.if-is_empty.true) in
    homes_loaded c.args.run.now l c.in_ok-head.head c.in_ok-cards.cards.items c.deref.result.now [] c.in_ok-homes.homes.decks.items head
    (no_ages c.in_ok-homes.homes.decks.items none) homes.decks c.deref.ensures.value
    (needs_seen c.args.run.now l c.in_ok-head.head c.in_ok-cards.cards.items
    c.deref-2.result.now made.sound c.requires.plain head c.in_ok-cards.ensures.same c.deref-2.ensures.value
    (sym c.any_names_yank_card.ensures ∙ c.if-any_names_yank_card.false))

pub returns-then-is_empty-clause-reads : goal.returns-then-is_empty-clause-reads
returns-then-is_empty-clause-reads g c seen l made rows shown shows =
    let before = c.in_ok-head.ensures.leaves.same.later.honest seen in
    let there = shown_there c.args.store.now c.homes_of.new.self c.in_ok-homes.ensures.leaves.same before
    (c.in_ok-homes.ensures.leaves.opens before) rows shown in
    let head = c.in_ok-head.ensures.found seen l made.sound made.whole rows there shows in
    within _ _ _ (head_read _ _ _ c.in_ok-homes.ensures.leaves.unread
    (none_read _ _ l c.in_ok-head.head made.sound head c.in_ok-head.ensures.leaves.reads))

pub returns-clause-found : goal.returns-clause-found
returns-clause-found g c honest =
    let seen = c.load_decks-else-is_empty.ensures.leaves.same.later.honest honest in
    let before = c.in_ok-head.ensures.leaves.same.later.honest seen in
    IfOk-weaker c.load_decks-else-is_empty.result _ _ (λ part found l made rows shown shows.
    let there = shown_there c.args.store.now c.homes_of.new.self c.in_ok-homes.ensures.leaves.same before
    (c.in_ok-homes.ensures.leaves.opens before) rows shown in
    let head = c.in_ok-head.ensures.found seen l made.sound made.whole rows there shows in
    let still = shown_there c.homes_of.new.self c.load_decks-2.new.self c.in_ok-head.ensures.leaves.same seen
    (c.in_ok-head.ensures.leaves.opens seen) rows there in
    let homes = c.in_ok-homes.ensures.found before l made.sound made.whole rows shown shows in
    homes_loaded c.args.run.now l part c.in_ok-cards.cards.items c.deref.result.now c.deref-else-is_empty.result.now
    c.in_ok-homes.homes.decks.items (found l made.sound made.whole rows still shows) c.deref-else-is_empty.ensures.value
    homes.decks c.deref.ensures.value
    (needs_seen c.args.run.now l c.in_ok-head.head c.in_ok-cards.cards.items
    c.deref-2.result.now made.sound c.requires.plain head c.in_ok-cards.ensures.same c.deref-2.ensures.value
    (sym c.any_names_yank_card.ensures ∙ c.if-any_names_yank_card.false))) (c.load_decks-else-is_empty.ensures.found honest)

pub returns-clause-reads : goal.returns-clause-reads
returns-clause-reads g c =
    reads_needed g.S.Meaning c.args.run.now c.load_decks-else-is_empty.result c.args.store.now c.load_decks-2.new.self
    c.load_decks-else-is_empty.new.self
    (λ honest. none_with_head c.in_ok-head.head c.args.store.now c.homes_of.new.self c.load_decks-2.new.self c.in_ok-homes.ensures.leaves.same
    c.in_ok-homes.ensures.leaves.opens c.in_ok-homes.ensures.leaves.unread c.in_ok-head.ensures.leaves.same.later.honest c.in_ok-head.ensures.found
    c.in_ok-head.ensures.leaves.reads (c.load_decks-else-is_empty.ensures.leaves.same.later.honest honest)) c.load_decks-else-is_empty.ensures.leaves.reads
    (returns-clause-found g c)
