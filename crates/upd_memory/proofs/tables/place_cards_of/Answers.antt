use Rattle.upd_memory.proofs.Common.{◌≡◌, map, arith, common_steps}
use Rattle.upd_row_store.specs.Shifts.{moved_all}
use Rattle.upd_memory.proofs.MirrorLemmas.{on_success}
use Rattle.upd_memory.proofs.tables.place_cards_of.Goals as goal

pub returns-in-Some : goal.returns-in-Some
returns-in-Some c =
    on_success c.place_cards.result c.place_cards.ensures (λ placed moves are.
    let rows : c.place_cards.new.cards ≡ map (moved_all c.args.deck moves) c.deref_mut.result.now = placed moves are in λ d. grind (arith, common_steps, rows))
