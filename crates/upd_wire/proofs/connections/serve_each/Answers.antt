use Rattle.upd_wire.proofs.Common.{[], ◌∷◌, refl, arith, Appends-nil, served_view}
use Rattle.upd_wire.proofs.AnswerLemmas.{lost_at_most}
use Rattle.upd_wire.proofs.connections.serve_each.Goals as goal

pub connections-init : goal.connections-init
connections-init g c = (omega arith, ([], refl, refl, ([], (refl, Appends-nil (g.W.Write.contents c.args.log.now)))))

pub connections-preserved : goal.connections-preserved
connections-preserved g c =
    let (few, (made, many, leads, (served, logs))) = c.connections.invariant in
    let (one, input, led, exchanges) = c.serve_connection-served.ensures in
    let writes = c.log_connection-lost.ensures in
    let more = lost_at_most _ _ _ _ _ writes in (
      omega (arith, few, more),
      (
        one ∷ made,
        omega (arith, many),
        (c.connections.desk.store, leads, led),
        (
          served_view c.serve_connection-served.result ∷ served,
          (c.connections.lost, g.W.Write.contents c.connections.log, logs, (input, exchanges), writes),
        ),
      ),
    )

pub returns-in-Err-clause-leads : goal.returns-in-Err-clause-leads
returns-in-Err-clause-leads g c =
    let (few, (made, many, leads, (served, logs))) = c.connections.invariant in
    let more = c.connections-test.true in
    (made, omega (arith, many, more), tt, leads, (served, c.connections.lost, tt, logs))

pub returns-clause-leads : goal.returns-clause-leads
returns-clause-leads g c =
    let (few, (made, many, leads, (served, logs))) = c.connections.invariant in
    let within = c.connections.auto.counter-end in
    let ended = c.connections-test.false in
    (made, omega (arith, many, within), omega (arith, many, within, ended), leads, (served, c.connections.lost, refl, logs))
