use Rattle.std.proofs.Common.{◌∙◌, ◌<◌, sym, subst}
use Rattle.upd_row_store.specs.Shifts.{IsPiece, Reaches}
use Rattle.upd_row_store.proofs.PieceLemmas.{piece_made, reaches_on}
use Rattle.upd_row_store.proofs.pieces.Piece.cut_by.Goals as goal

pub returns : goal.returns
returns c = λ moves left last rises reaches.
    let low = c.in_ok-below.ensures in
    let cut = c.in_ok-position_at.ensures in
    let m = c.args.m.now in
    let piece = c.args.self.now in
    let at = c.foot.ensures in (
      subst (IsPiece moves) (sym c.up_to.ensures)
          (piece_made moves left m piece reaches last c.in_ok-below.below low.can (low.to ∙ at) (λ some. subst (λ n. 0 < n) at (low.some some)) rises),
      subst (Reaches moves left) (sym c.in_ok-after.ensures)
          (reaches_on moves left m piece reaches c.in_ok-position_at.field-0 cut.can cut.to cut.up),
    )
