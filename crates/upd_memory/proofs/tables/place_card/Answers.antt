use Rattle.upd_memory.proofs.Common.{◌≡◌, ◌==◌, true, false, rules, sym, ap, subst, ◌∙◌, CardRow}
use Rattle.upd_row_store.specs.Shifts.{moved_pos}
use Rattle.upd_row_store.proofs.MoveLemmas.{other_stays}
use Rattle.upd_memory.proofs.MirrorLemmas.{row_placed}
use Rattle.upd_memory.proofs.tables.place_card.Goals as goal

pub returns-in_ok-row-inside : goal.returns-in_ok-row-inside
returns-in_ok-row-inside c = λ moves are.
    let was = c.args.row.now in
    let to = c.in_ok-row-inside.field-0 in
    let here : (was.deck == c.args.deck) ≡ true = search rules in
    let is : to ≡ moved_pos moves was.pos =
    subst (λ (r : CardRow). to ≡ moved_pos moves r.pos) c.row.view_is (c.in_ok-row-inside.ensures moves are) in
    ap (λ (r : CardRow). record r { pos = to }) c.row.view_is ∙ row_placed c.args.deck moves to was here is

pub returns-else-row-deck : goal.returns-else-row-deck
returns-else-row-deck c = λ moves are.
    let was = c.args.row.now in
    let other : (was.deck == c.args.deck) ≡ false = search rules in
    sym (other_stays c.args.deck moves was other)
