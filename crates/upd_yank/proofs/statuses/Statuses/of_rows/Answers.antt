use Rattle.std.proofs.Common.{rules}
use Rattle.std.specs.BTreeMap.{IsFromIterResult}
use Rattle.upd_text.specs.contracts.card_ref.CardRefOrd.TheImpl as order
use Rattle.upd_yank.proofs.RefLemmas.{status_of_rows}
use Rattle.upd_yank.proofs.statuses.Statuses.of_rows.Goals as goal

pub returns : goal.returns
returns c = λ r.
    let made : IsFromIterResult (order.ghosts).cmp c.args.rows.now c.in_ok-statuses.statuses = search rules in
    status_of_rows c.args.rows.now c.in_ok-statuses.statuses r (made.0 r)
