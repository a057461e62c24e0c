use Rattle.upd_core.proofs.Common.{◌+◌, min, refl, ap, ◌∙◌, count_in}
use Rattle.upd_core.proofs.CountedLemmas.{raised_more}
use Rattle.upd_core.proofs.target_counts.TargetCounts.raise.Goals as goal

pub loop-target-preserved : goal.loop-target-preserved
loop-target-preserved c = λ t fits.
    raised_more (count_in c.loop-target.self) (count_in c.put.new.self) t _ _ c.args.targets.now c.loop-target.target-index
    (count_in c.args.self.now t) c.saturating_add-count.result c.loop-target-test.true refl (c.loop-target.invariant t fits) fits
    (c.saturating_add-count.ensures ∙ ap (λ n. min (n + 1) 4294967295) c.of.ensures) (c.in_ok-put.ensures t)
