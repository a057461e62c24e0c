use Rattle.upd_sql.proofs.Common.{Ok, rules, state, IsSame}
use Rattle.upd_sql.specs.Part.{AreActiveRows}
use Rattle.upd_sql.proofs.WholeLemmas.{looks_more, looks_then}
use Rattle.upd_sql.proofs.whole.active_in.Goals as goal

pub returns : goal.returns
returns g c =
    let zero = state g.S.Store c.args.tx.now.conn.now in
    let one = state g.S.Store c.idents_in.new.tx.conn.now in
    let two = state g.S.Store c.cards_in.new.tx.conn.now in
    let three = state g.S.Store c.state_rows_in.new.tx.conn.now in
    let first = looks_then (λ it x. IsSame x.items it.idents) (λ it x. IsSame x.items it.cards)
    zero one two c.in_ok-idents_in.field-0 (Ok c.in_ok-cards_in.field-0) c.in_ok-idents_in.ensures.does c.in_ok-cards_in.ensures.does in
    record {
      same_reference = search rules;
      does = looks_more _ (λ it x. IsSame x.items it.states)
          AreActiveRows zero two three c.in_ok-cards_in.field-0 c.in_ok-state_rows_in.field-0 _
          first c.in_ok-state_rows_in.ensures.does (λ it p q. record { idents = p.0; cards = p.1; states = q });
    }
