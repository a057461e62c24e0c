use Rattle.upd_diff.proofs.Common.{◌+◌, ◌++◌, map, drop, ap, sym, subst, ◌∙◌, AllByRecursion, filter, flat_map, ref_of, card_after, card_diff_view, IsOf}
use Rattle.upd_diff.proofs.Common.{stood_in}
use Rattle.std.proofs.Common.{not}
use Rattle.upd_diff.proofs.LoopLemmas.{next_diffs}
use Rattle.upd_diff.proofs.TouchedLemmas.{card_more}
use Rattle.upd_diff.proofs.touched.add_touched.Goals as goal
use Rattle.upd_diff.proofs.touched.add_touched.Goals.{in-Kept+in_ok-add_unless-in-Kept, in-Gone, in-New+in_ok-add_unless-in-New}

pub loop-card_diff-preserved : goal.loop-card_diff-preserved
loop-card_diff-preserved c = λ apart all.
    let before = c.args.before.now in
    let idents = c.args.idents.now in
    let so = c.loop-card_diff.invariant apart all in
    let next = next_diffs c.args.card_diffs.now c.loop-card_diff.card_diff-index c.card_diff-item.result c.loop-card_diff-test.true c.card_diff-item.is in
    let rest = flat_map card_after (map card_diff_view (drop (c.loop-card_diff.card_diff-index + 1) c.args.card_diffs.now)) in
    elim c.match-card_diff.branch [
      | in-Kept+in_ok-add_unless-in-Kept w ↦
          let here = rw w.in-Kept.is at next in
          let of = subst (AllByRecursion (IsOf before c.args.sure)) here so.0 in
          let row_changes = ap (λ t. c.loop-card_diff.found.items ++ map (ref_of idents) (filter (λ k. not (stood_in before k)) (flat_map card_after t)))
          (sym here) ∙ so.1 in (
            of.1,
            rw w.found-is (card_more idents before _ rest c.loop-card_diff.found.items _ _ w.has_stayed-stood.result
                (w.has_stayed-stood.ensures apart of.0.1 of.0.0) w.in_ok-add_unless-in-Kept.ensures row_changes),
          )
      | in-Gone w ↦
          let here = rw w.in-Gone.is at next in
          let of = subst (AllByRecursion (IsOf before c.args.sure)) here so.0 in (
            of.1,
            rw w.found-is
                (ap (λ t. c.loop-card_diff.found.items ++ map (ref_of idents) (filter (λ k. not (stood_in before k)) (flat_map card_after t))) (sym here)
                ∙ so.1),
          )
      | in-New+in_ok-add_unless-in-New w ↦
          let here = rw w.in-New.is at next in
          let of = subst (AllByRecursion (IsOf before c.args.sure)) here so.0 in
          let row_changes = ap (λ t. c.loop-card_diff.found.items ++ map (ref_of idents) (filter (λ k. not (stood_in before k)) (flat_map card_after t)))
          (sym here) ∙ so.1 in (
            of.1,
            rw w.found-is (card_more idents before _ rest c.loop-card_diff.found.items _ _ w.has_stood-stood.result w.has_stood-stood.ensures
                w.in_ok-add_unless-in-New.ensures row_changes),
          )
    ]
