use Rattle.upd_diff.proofs.Common.{take_rest}
use Rattle.upd_diff.proofs.CardDiffLemmas.{diffs_end}
use Rattle.upd_diff.proofs.card_diffs.card_diffs.Goals as goal

pub returns : goal.returns
returns c =
    rw (c.in_ok-add_new.ensures, c.in_ok-add_gone.ensures, take_rest c.args.before.now c.loop-i.i, take_rest c.args.after.now c.loop-i.j)
    (diffs_end _ _ _ _ _ c.loop-i.invariant.2)
