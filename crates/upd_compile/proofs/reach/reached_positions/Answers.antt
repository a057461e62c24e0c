use Rattle.upd_compile.proofs.Common.{◌≡◌, None, Some, map, slice_get, ◌∙◌, refl, arith, common_steps, gets, slice_get-map}
use Rattle.upd_compile.proofs.ReachingLemmas.{reaching-more, reaching-without}
use Rattle.upd_compile.proofs.reach.reached_positions.Goals as goal

pub loop-position-preserved-in-Continue-branch-2 : goal.loop-position-preserved-in-Continue-branch-2
loop-position-preserved-in-Continue-branch-2 c =
    let followers = c.args.followers.now in
    let position = c.in-Some.position in
    let at : slice_get followers position ≡ Some c.in-Some-get.next.now = grind (arith, common_steps, gets) in
    let found : slice_get (map (λ list. list.items) followers) position ≡ Some c.deref-in-Some-get.result.now =
    slice_get-map (λ list. list.items) followers position ∙ rw (at, c.deref-in-Some-get.ensures.value) refl in
    reaching-more _ _ c.args.seeds.items _ _ c.pop.new.self.items _ position found c.in_ok-visit_all.ensures
    (rw c.in-Some.ensures.items at c.loop-position.invariant)

pub loop-position-preserved : goal.loop-position-preserved
loop-position-preserved c =
    let followers = c.args.followers.now in
    let position = c.in-Some.position in
    let at : slice_get followers position ≡ None = grind (arith, common_steps, gets) in
    let none : slice_get (map (λ list. list.items) followers) position ≡ None = slice_get-map (λ list. list.items) followers position ∙ rw at refl in
    reaching-without _ c.args.seeds.items _ c.pop.new.self.items position none (rw c.in-Some.ensures.items at c.loop-position.invariant)
