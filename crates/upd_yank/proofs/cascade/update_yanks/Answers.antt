use Rattle.upd_yank.proofs.Common.{ℕ, ◌≡◌, ◌+◌, ◌-◌, ◌<◌, length, arith, count_in, is_touched, found_of, is_due, was_active}
use Rattle.upd_yank.proofs.TurnLemmas.{read_more, turned_counts, turned_found}
use Rattle.upd_yank.proofs.cascade.update_yanks.Goals as goal

pub loop-i-preserved : goal.loop-i-preserved
loop-i-preserved c =
    let touched = is_touched c.args.before.now.touched.now in
    let was = was_active c.args.before.now.statuses.now in
    let before = count_in c.args.before.now.counts.now in
    let i : ℕ = c.loop-i.i - 1 in
    let here : c.loop-i.i ≡ i + 1 = omega (arith, c.loop-i-test.true) in
    let known = rw here at c.loop-i.invariant in
    let within : i < length c.args.yanks.now = omega arith in
    let f = count_in c.loop-i.found.counts in
    let k = c.index-yanks-i.result in
    let more = read_more (is_due touched before f k) c.loop-i.counted c.update_yank.new.counted c.loop-i.found.statuses.items
    c.update_yank.new.found.statuses.items
    (found_of f k) c.in_ok-update_yank.ensures.reads c.in_ok-update_yank.ensures.statuses in
    record {
      counts = λ countable. turned_counts touched was before f
          (count_in c.update_yank.new.found.counts) c.args.yanks.now i _ k within c.index-yanks-i.is countable
          (known.counts countable) c.in_ok-update_yank.ensures.counts;
      statuses = λ countable. turned_found touched was before f c.args.yanks.now i _ k _ _ within c.index-yanks-i.is (known.counts countable)
          (known.statuses countable) c.in_ok-update_yank.ensures.statuses;
      reads = λ small. omega (arith, more.0, more.1, known.reads small, known.few);
      few = omega (arith, more.1, known.few);
    }
