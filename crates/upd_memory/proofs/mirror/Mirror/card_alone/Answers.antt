use Rattle.upd_memory.proofs.Common.{◌==◌, ◌≡◌, ◌∙◌, [], ◌∷◌, Some, ap, append-nil, arith, false, filter, flat_map, nat_tests, same_ref, subst, sym}
use Rattle.upd_memory.proofs.Common.{Agrees, CardRow, IsSame, Rows, cards_at, entries_at}
use Rattle.upd_memory.proofs.MirrorLemmas.{ok_some, ok_value}
use Rattle.upd_row_store.specs.Assembling.{AreRowsOf}
use Rattle.upd_row_store.specs.PartRows.{AreOfDistinctCards, part_rows}
use Rattle.upd_memory.proofs.mirror.Mirror.card_alone.Goals as goal

pub returns : goal.returns
returns c = λ rows are l sound shows.
    let was = c.args.self.now in
    let card = c.args.card.now in
    let row = ok_value (λ (r : CardRow). r ≡ c.in_ok-row.row.now) _ c.ok.result _ c.ok.ensures.value c.in_ok-row-2.was c.copy.ensures in
    let own = ok_value (λ es. es.items ≡ flat_map (entries_at was.entries) (card ∷ [])) _ c.ok-3.result _ c.ok-3.ensures.value c.in_ok-entries.was
    c.entries_of.ensures in
    let deck = ap (λ (r : CardRow). r.deck) c.row.view_is in
    let other : (c.in_ok-row.row.now.deck == 0) ≡ false = (let differs = c.if-row-eq0.false in grind (arith, nat_tests)) in
    ok_some _ c.assembled_card.result _ c.ok-4.ensures.value
    (c.assembled_card.ensures card rows l sound shows
    (ok_value (λ found. (rs : Rows) → Agrees was rs → AreOfDistinctCards rs.cards → AreRowsOf (part_rows [] rs) found) _ c.ok-2.result _
    c.ok-2.ensures.value c.in_ok-rows.was c.part_rows.ensures rows are)
    (ap (λ (r : CardRow). r.deck == 0) row ∙ other) (λ r. r.deck == c.in_ok-deck.deck) (cards_at was.decks c.in_ok-deck.deck) (are.cards c.in_ok-deck.deck)
    (c.in_ok-row.ensures ∙ ap Some (sym row))
    (subst (λ xs. IsSame xs (filter (λ r. same_ref card r.card) rows.entries)) (sym (own ∙ append-nil (entries_at was.entries card))) (are.entries card)))
