use Rattle.upd_memory.proofs.Common.{List, map, take, ap, subst, ◌∙◌, Change, change_view, done_all, Agrees}
use Rattle.upd_memory.proofs.MirrorLemmas.{next_part}
use Rattle.upd_memory.proofs.mirror.Mirror.carry_out_all.Goals as goal

pub loop-rest-preserved : goal.loop-rest-preserved
loop-rest-preserved c = λ rows are.
    let now = c.loop-rest.invariant rows are in
    let part = take c.part_ahead.result c.loop-rest.rest.now in
    let next = next_part c.loop-rest.rest.now c.part_ahead.result now.0 in
    let mid = done_all (map change_view part) now.0 in (
      mid,
      (
        subst (λ (cs : List Change). Agrees c.carry_out_part.new.self (done_all (map change_view cs) now.0)) c.split_at.ensures.front
            (c.in_ok-carry_out_part.ensures now.0 now.1.0),
        ap (λ (cs : List Change). done_all (map change_view cs) mid) c.split_at.ensures.back ∙ next ∙ now.1.1,
      ),
    )
