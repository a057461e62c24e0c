use Rattle.upd_compile.proofs.Common.{rules, ◌≡◌, sym, add-one, true, false, get_or, take, is_flagged}
use Rattle.upd_compile.proofs.ReachLemmas.{is_in-push, is_flagged-more, or-false}
use Rattle.upd_compile.proofs.reach.flagged_positions.Goals as goal
use Rattle.upd_compile.proofs.reach.flagged_positions.Goals.{then-is_flagged+in_ok-push, else-is_flagged}

pub loop-position-preserved : goal.loop-position-preserved
loop-position-preserved c = λ k.
    let flags = c.args.flags.now in
    let i = c.loop-position.position in
    elim c.if-is_flagged.branch [
      | then-is_flagged+in_ok-push w ↦
          let here : true ≡ get_or flags i true = search rules in
          rw (w.positions-is, w.in_ok-push.ensures.items, is_in-push c.loop-position.positions.items i k, c.loop-position.invariant k, add-one)
          (sym (is_flagged-more flags i k true c.loop-position-test.true here))
      | else-is_flagged w ↦
          let here : false ≡ get_or flags i false = search rules in
          rw (w.positions-is, c.loop-position.invariant k, add-one, is_flagged-more flags i k false c.loop-position-test.true here)
          (sym (or-false (is_flagged (take i flags) k)))
    ]
