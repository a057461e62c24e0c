use Rattle.upd_deck.proofs.CutLemmas.{cut_from-first}
use Rattle.upd_deck.proofs.cut.first_line.Goals as goal

pub returns-in-Some-clause-line : goal.returns-in-Some-clause-line
returns-in-Some-clause-line c =
    cut_from-first c.args.bytes.now c.in-Some.piece.now c.in-Some.after.now _ c.in-Some.ensures.pieces c.in-Some.ensures.lengths c.without_return.ensures
