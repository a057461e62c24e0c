use Rattle.upd_correct.proofs.Common.{Bool, IsTrue, arith, nat_tests, live_targets, CorrectsSince, IsChecked}
use Rattle.upd_correct.proofs.CheckedLemmas.{checked_corrects}
use Rattle.std.proofs.lemmas.List.{nil_from_length}
use Rattle.upd_correct.proofs.TextLemmas.{ok_weaker}
use Rattle.upd_correct.proofs.checking.checked.Goals as goal

pub returns-clause-corrects : goal.returns-clause-corrects
returns-clause-corrects c text given =
    let last = c.args.base.now.last in
    let taken = c.args.base.now.taken.now in
    let l = c.args.base.now.library.now in
    ok_weaker (λ (ok : Bool). IsTrue ok → IsChecked (live_targets taken) last l c.args.set.now c.args.run.now c.args.decks.now)
    (λ (ok : Bool). IsTrue ok → CorrectsSince last taken l c.args.set.now text c.args.run.now) c.applied_checked.result
    (λ ok checked is. checked_corrects last taken l c.args.set.now text c.args.run.now c.args.decks.now given
    (c.begins_with_set.ensures c.if-not-begins_with_set.false)
    (λ same. let empty : IsTrue c.is_empty.result = c.in_ok-needed.ensures.needed c.if-not-needed.false same in
    nil_from_length c.args.run.now (grind (arith, nat_tests, c.is_empty.ensures, empty))) (checked is)) c.applied_checked.ensures.whole
