use Rattle.upd_memory.proofs.Common.{◌≡◌, Some, arith, common_steps, find, subst, same_ref, cards_at}
use Rattle.upd_memory.proofs.row_copies.row_in.Goals as goal
use Rattle.std.specs.Prelude.{IfSome}

pub returns-in-Some : goal.returns-in-Some
returns-in-Some c =
    let rows : c.deref.result.now ≡ cards_at c.args.decks.now c.args.deck = grind (arith, common_steps) in
    subst (λ rs. IfSome c.row_of.result (λ row. find (λ r. same_ref c.args.card.now r.card) rs ≡ Some row.now)) rows c.row_of.ensures
