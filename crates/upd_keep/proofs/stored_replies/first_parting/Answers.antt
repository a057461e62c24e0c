use Rattle.upd_keep.proofs.Common.{◌≡◌, ◌∷◌, ◌++◌, [], sym, ap, subst, ◌∙◌, false, true}
use Rattle.std.proofs.Common.{append-nil}
use Rattle.std.specs.Vec.Iter.{into_iter_items}
use Rattle.std.proofs.lemmas.List.{append_assoc}
use Rattle.upd_keep.proofs.ReplayLemmas.{HandsIn, hands_more, no_items}
use Rattle.upd_keep.proofs.stored_replies.first_parting.Goals as goal

pub returns-then-not-branch-clause-right : goal.returns-then-not-branch-clause-right
returns-then-not-branch-clause-right g c = λ honest j held.
    let (split, before) = c.loop-run.invariant in
    let went = c.in_ok-is_answered_as_stored.ensures in
    let was = before (went.later.honest honest) j held in
    let decided = went.right honest _ was.1 in (
      c.loop-run.yielded,
      into_iter_items c.next.new.self,
      split ∙ ap (λ rest. c.loop-run.yielded ++ rest) c.in-Some.ensures.steps.0,
      was.0,
      λ has. absurd (let clash : false ≡ true = sym c.if-not-branch.true ∙ decided.1 has in cc),
    )

pub loop-run-preserved : goal.loop-run-preserved
loop-run-preserved g c =
    let (split, before) = c.loop-run.invariant in
    let run = c.in-Some.run' in
    let went = c.in_ok-is_answered_as_stored.ensures in
    let yes = c.if-not-branch.false in (
      split ∙ ap (λ rest. c.loop-run.yielded ++ rest) c.in-Some.ensures.steps.0 ∙ sym (append_assoc c.loop-run.yielded (run ∷ []) _),
      hands_more g.S.Meaning c.loop-run.yielded run c.args.desk.now.store c.loop-run.desk.store c.is_answered_as_stored.new.desk.store before went.later
          (λ honest j held. (went.right honest j held).0 yes) (λ honest j held. went.held honest j held yes),
    )

pub returns-clause-held : goal.returns-clause-held
returns-clause-held g c = λ honest j held none.
    let (split, before) = c.loop-run.invariant in
    let rest = c.loop-run.run-iterator.rest in
    let empty = no_items rest.items (sym rest.ok.0 ∙ c.in-None.ensures.steps.0) in
    let all = split ∙ ap (λ left. c.loop-run.yielded ++ left) empty ∙ append-nil c.loop-run.yielded in
    (subst (λ runs. HandsIn g.S.Meaning runs c.args.desk.now.store c.loop-run.desk.store) (sym all) before honest j held).1
