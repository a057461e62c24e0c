use Rattle.upd_apply.proofs.Common.{◌≡◌, ◌&&◌, ◌∷◌, [], ◌++◌, arith, Bool, true, false, common_steps, Ident, Set, is_in, is_same, once}
use Rattle.upd_apply.proofs.OnceLemmas.{filter_once, once_once}
use Rattle.upd_apply.proofs.TargetLemmas.{same_target}
use Rattle.upd_apply.proofs.yanks.add_sets.Goals as goal
use Rattle.upd_apply.proofs.yanks.add_sets.Goals.{then-ident+then-has+in_ok-add_set, else-ident, else-ident-via-then-ident+else-has, else-ident-via-else-ident}

pub loop-ident-preserved : goal.loop-ident-preserved
loop-ident-preserved c =
    let test : Ident → Bool = λ i. i.held && is_in c.args.ages i.age in
    let turn = filter_once is_same same_target Set (λ (i : Ident). i.age) test c.args.idents.now c.loop-ident.ident-index c.ident-item.result in
    elim c.if-ident.branch [
      | then-ident+then-has+in_ok-add_set w ↦
          let now : c.if-ident.found.items ≡ once is_same (c.loop-ident.found.items ++ Set c.ident-item.result.age ∷ []) = cc (w.in_ok-add_set.ensures.set) in
          record {
            sets = turn _ _ _ true c.loop-ident-test.true c.ident-item.is (grind (arith, common_steps)) now c.loop-ident.invariant.sets;
            apart = once_once is_same same_target _ _ now;
            marked = rw (w.found-is, w.marks-is) w.in_ok-add_set.ensures.marked;
          }
      | else-ident w ↦ elim w.else-ident.branch [
        | else-ident-via-then-ident+else-has v ↦ record {
          sets = turn _ _ _ false c.loop-ident-test.true c.ident-item.is (grind (arith, common_steps)) (cc) c.loop-ident.invariant.sets;
          apart = rw w.found-is c.loop-ident.invariant.apart;
          marked = rw (w.found-is, w.marks-is) c.loop-ident.invariant.marked;
        }
        | else-ident-via-else-ident v ↦ record {
          sets = turn _ _ _ false c.loop-ident-test.true c.ident-item.is (grind (arith, common_steps)) (cc) c.loop-ident.invariant.sets;
          apart = rw w.found-is c.loop-ident.invariant.apart;
          marked = rw (w.found-is, w.marks-is) c.loop-ident.invariant.marked;
        }
      ]
    ]
