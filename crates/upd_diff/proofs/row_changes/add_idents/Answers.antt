use Rattle.upd_diff.proofs.Common.{◌≡◌, ◌++◌, [], map, drop, arith, ap, sym, ◌∙◌, append-nil, drop_all, change_view, ident_changes}
use Rattle.upd_diff.proofs.LoopLemmas.{no_idents_more}
use Rattle.upd_diff.proofs.row_changes.add_idents.Goals as goal

pub returns : goal.returns
returns c =
    let end : drop c.loop-i.i c.args.after.now ≡ [] = drop_all c.loop-i.i c.args.after.now (omega arith) in
    sym (append-nil (map change_view c.loop-i.changes.items))
    ∙ ap (λ t. map change_view c.loop-i.changes.items ++ t) (sym (no_idents_more (drop c.loop-i.i c.args.before.now))
    ∙ ap (ident_changes (drop c.loop-i.i c.args.before.now)) (sym end))
    ∙ c.loop-i.invariant
