use Rattle.upd_memory.proofs.Common.{◌∙◌, ap, subst, sym, map, IsSame, same_ref, is_asked, state_pair, AreInOrder, pairs_at}
use Rattle.std.proofs.Common.{filter, flat_map}
use Rattle.upd_memory.proofs.AskedLemmas.{found_in_order, found_same}
use Rattle.upd_memory.proofs.status_answers.statuses_of.Goals as goal

pub returns-clause-order : goal.returns-clause-order
returns-clause-order c =
    let is = c.in_ok-pairs.ensures ∙ ap (flat_map (pairs_at c.args.statuses.now)) c.deref.ensures.value in
    subst AreInOrder (sym is) (found_in_order c.args.statuses.now c.in_ok-once.once.items c.in_ok-once.ensures.order)

pub returns-clause-same : goal.returns-clause-same
returns-clause-same c = λ rows are.
    let is = c.in_ok-pairs.ensures ∙ ap (flat_map (pairs_at c.args.statuses.now)) c.deref.ensures.value in
    let asked = filter (λ r. is_asked c.args.cards.now r.card) rows in
    subst (λ xs. IsSame xs (map state_pair asked)) (sym is)
    (found_same c.args.statuses.now c.args.cards.now c.in_ok-once.once.items rows c.in_ok-once.ensures.order
    (λ card. c.in_ok-once.ensures.same (λ k. same_ref k card)) are)
