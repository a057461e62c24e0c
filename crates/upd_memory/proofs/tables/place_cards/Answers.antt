use Rattle.upd_memory.proofs.Common.{◌≤◌, length, refl, arith, ◌∙◌, map_over_more}
use Rattle.upd_row_store.specs.Shifts.{moved_all}
use Rattle.upd_memory.proofs.MirrorLemmas.{all_over}
use Rattle.upd_memory.proofs.tables.place_cards.Goals as goal

pub loop-row-preserved : goal.loop-row-preserved
loop-row-preserved c = λ moves are.
    map_over_more (moved_all c.args.deck moves) _ _ _ c.row-item.result _ _ c.loop-row-test.true
    (c.loop-row.invariant moves are) refl (c.in_ok-place_card.ensures moves are)

pub returns : goal.returns
returns c = λ moves are.
    let rows = c.args.cards.now in
    let end : length rows ≤ c.loop-row.row-index = omega (arith, c.loop-row-test.false) in
    c.loop-row.invariant moves are ∙ all_over (moved_all c.args.deck moves) c.loop-row.row-index rows end
