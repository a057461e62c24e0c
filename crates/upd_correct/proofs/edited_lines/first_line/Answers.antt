use Rattle.upd_correct.proofs.Common.{◌∷◌, sym, ◌∙◌, subst, take_all, lines_in}
use Rattle.upd_correct.proofs.TextLineLemmas.{HasNoFeed, lines_at_feed, some_line}
use Rattle.upd_correct.proofs.edited_lines.first_line.Goals as goal

pub returns-then-byte-eq10-clause-lines : goal.returns-then-byte-eq10-clause-lines
returns-then-byte-eq10-clause-lines c =
    let first = c.split_at.ensures.front in
    let rest = c.split_at.ensures.back in
    lines_at_feed c.args.text.now c.loop-index.index c.loop-index-test.true c.loop-index.invariant c.if-byte-eq10.true
    ∙ (λ i. sym first i ∷ lines_in (sym rest i))

pub returns-clause-lines : goal.returns-clause-lines
returns-clause-lines c =
    some_line c.args.text.now c.requires (subst HasNoFeed (take_all c.loop-index.index c.args.text.now c.loop-index-test.false) c.loop-index.invariant)
