use Rattle.upd_diff.proofs.Common.{◌+◌, ◌++◌, map, drop, arith, ap, sym, ◌∙◌, append_assoc, change_view, card_diff_view, move_to, moves}
use Rattle.upd_diff.proofs.LoopLemmas.{next_diffs}
use Rattle.upd_diff.proofs.row_changes.add_moves.Goals as goal
use Rattle.upd_diff.proofs.row_changes.add_moves.Goals.{in-Kept+in_ok-add_move-in-Kept, in-Gone, in-New}

pub loop-card_diff-preserved : goal.loop-card_diff-preserved
loop-card_diff-preserved c =
    let next = next_diffs c.args.card_diffs.now c.loop-card_diff.card_diff-index c.card_diff-item.result c.loop-card_diff-test.true c.card_diff-item.is in
    let rest = map card_diff_view (drop (c.loop-card_diff.card_diff-index + 1) c.args.card_diffs.now) in
    let so_far = map change_view c.loop-card_diff.changes.items in
    elim c.match-card_diff.branch [
      | in-Kept+in_ok-add_move-in-Kept w ↦
          let here = rw w.in-Kept.is at next in (
            omega arith,
            omega arith,
            rw (w.changes-is, w.from-is, w.to-is)
                (ap (λ t. t ++ moves c.args.deck (c.loop-card_diff.to + 1) (c.loop-card_diff.to + 1) rest) w.in_ok-add_move-in-Kept.ensures
                ∙ append_assoc so_far (move_to c.args.deck c.loop-card_diff.from c.loop-card_diff.to)
                (moves c.args.deck (c.loop-card_diff.to + 1) (c.loop-card_diff.to + 1) rest)
                ∙ ap (λ t. so_far ++ moves c.args.deck c.loop-card_diff.from c.loop-card_diff.to t) (sym here) ∙ c.loop-card_diff.invariant.2),
          )
      | in-Gone w ↦
          let here = rw w.in-Gone.is at next in (
            omega arith,
            omega arith,
            rw (w.changes-is, w.from-is, w.to-is)
                (ap (λ t. so_far ++ moves c.args.deck c.loop-card_diff.from c.loop-card_diff.to t) (sym here) ∙ c.loop-card_diff.invariant.2),
          )
      | in-New w ↦
          let here = rw w.in-New.is at next in (
            omega arith,
            omega arith,
            rw (w.changes-is, w.from-is, w.to-is)
                (ap (λ t. so_far ++ moves c.args.deck c.loop-card_diff.from c.loop-card_diff.to t) (sym here) ∙ c.loop-card_diff.invariant.2),
          )
    ]
