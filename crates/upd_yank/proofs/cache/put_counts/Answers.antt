use Rattle.upd_yank.proofs.Common.{ℕ, if◌then◌else◌, take, get_or, ap, sym, ◌∙◌, Target, Set, count_in, is_same, put_counts}
use Rattle.std.proofs.lemmas.List.{take_more}
use Rattle.upd_yank.proofs.RowLemmas.{put_more}
use Rattle.upd_yank.proofs.cache.put_counts.Goals as goal

pub loop-target-preserved : goal.loop-target-preserved
loop-target-preserved c = λ t.
    let rows = c.args.rows.now in
    let i = c.loop-target.target-index in
    let none : Target × ℕ = (Set 0, 0) in
    let p : Target × ℕ = get_or rows i none in
    c.in_ok-put.ensures t ∙ ap (λ n. if is_same p.0 t then p.1 else n) (c.loop-target.invariant t) ∙ put_more (take i rows) (count_in c.args.counts.now) p t
    ∙ sym (ap (λ ps. put_counts ps (count_in c.args.counts.now) t) (take_more rows i none c.loop-target-test.true))
