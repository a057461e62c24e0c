use Rattle.upd_core.proofs.Common.{◌≡◌, ◌+◌, ◌-◌, ◌∙◌, map, take, drop, arith, ap, sym, append_assoc, entered}
use Rattle.std.proofs.lemmas.List.{drop-drop}
use Rattle.std.proofs.lemmas.Slice.{between_is}
use Rattle.upd_core.proofs.edits.enter_some.Goals as goal

pub returns-in_ok-enter_each-clause-ok : goal.returns-in_ok-enter_each-clause-ok
returns-in_ok-enter_each-clause-ok c =
    let xs = c.args.cards.now in
    let distance : c.args.from + (c.args.to + 1 - c.args.from) ≡ c.args.to + 1 = omega arith in
    let after : drop (c.args.to + 1 - c.args.from) (drop c.args.from xs) ≡ drop (c.args.to + 1) xs = drop-drop _ _ xs ∙ ap (λ n. drop n xs) distance in
    let entries : c.enter_each.new.cards ≡ map (entered c.args.entry) (drop c.args.from (take (c.args.to + 1) xs)) =
    c.in_ok-enter_each.ensures.ok ∙ ap (map (entered c.args.entry)) (between_is xs _ _) in
    rw (entries, after) (sym (append_assoc (take c.args.from xs) _ _))
