use Rattle.std.proofs.Common.{◌≡◌, ◌+◌, ◌++◌, ◌∷◌, [], sym, subst, drop, rules}
use Rattle.std.specs.List.{AllByRecursion}
use Rattle.upd_core.proofs.Common.{drop_more}
use Rattle.upd_row_store.specs.Shifts.{IsPiece, Reaches, Rises}
use Rattle.upd_row_store.proofs.PieceLemmas.{all_push}
use Rattle.upd_row_store.proofs.pieces.pieces_of.Goals as goal

pub loop-m-preserved : goal.loop-m-preserved
loop-m-preserved c =
    let ms = c.args.moves.now in
    let k = c.loop-m.m-index in
    let items : c.push.new.self.items ≡ c.loop-m.pieces.items ++ c.in_ok-before.before ∷ [] = search rules in
    let now = c.loop-m.invariant in
    let split = drop_more ms k _ c.loop-m-test.true in
    let rises = subst (Rises now.0) split now.1.0 in
    let both = c.in_ok-before.ensures ms (drop (k + 1) ms) now.0 rises (subst (λ left. Reaches ms left c.loop-m.last) split now.1.1) in (
      _,
      (rises.1, both.1, subst (AllByRecursion (IsPiece ms)) (sym items) (all_push (IsPiece ms) c.loop-m.pieces.items _ now.1.2 both.0)),
    )
