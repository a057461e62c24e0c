use Rattle.upd_yank.proofs.Common.{◌≡◌, ◌∙◌, false, arith, common_steps, count_in, is_touched, found_of, is_due}
use Rattle.upd_yank.proofs.TurnLemmas.{others_more, read_more}
use Rattle.upd_yank.proofs.UnflippedLemmas.{none_found, none_told}
use Rattle.upd_yank.proofs.cascade.judge_others.Goals as goal

pub loop-card-preserved : goal.loop-card-preserved
loop-card-preserved c =
    let touched = is_touched c.args.before.now.touched.now in
    let before = count_in c.args.before.now.counts.now in
    let now = count_in c.args.found.now.counts in
    let k = c.card-item.result in
    let statuses = rw c.loop-card.invariant.counts at c.in_ok-judge_if_due.ensures.statuses in
    let reads = rw c.loop-card.invariant.counts at c.in_ok-judge_if_due.ensures.reads in
    let more = read_more (is_due touched before now k) c.loop-card.counted c.judge_if_due.new.counted c.loop-card.found.statuses.items
    c.judge_if_due.new.found.statuses.items
    (found_of now k) reads statuses in
    record {
      counts = c.in_ok-judge_if_due.ensures.counts ∙ c.loop-card.invariant.counts;
      statuses = others_more touched before now c.args.cards.now c.loop-card.card-index _ k _ _ _ c.loop-card-test.true c.card-item.is statuses
          c.loop-card.invariant.statuses;
      reads = λ small. omega (arith, more.0, c.loop-card.invariant.reads small);
      few = omega (arith, more.1);
    }

pub loop-card-preserved-then-not-has : goal.loop-card-preserved-then-not-has
loop-card-preserved-then-not-has c =
    let touched = is_touched c.args.before.now.touched.now in
    let before = count_in c.args.before.now.counts.now in
    let now = count_in c.args.found.now.counts in
    let k = c.card-item.result in
    let flipped : c.in_ok-flipped.flipped ≡ false = grind (arith, common_steps) in
    let untouched : is_touched c.args.before.now.touched.now c.card-item.result ≡ false = grind (arith, common_steps) in
    let none = none_found touched before now k c.loop-card.found.statuses.items (none_told before now c.in_ok-flipped.ensures flipped) untouched in
    record {
      counts = c.loop-card.invariant.counts;
      statuses = others_more touched before now c.args.cards.now c.loop-card.card-index _ k _ _ _ c.loop-card-test.true c.card-item.is none
          c.loop-card.invariant.statuses;
      reads = c.loop-card.invariant.reads;
      few = omega (arith, c.loop-card.invariant.few);
    }
