use Rattle.std.proofs.Common.{◌≡◌, ◌+◌, ◌++◌, ◌∷◌, ◌||◌, [], take, rules, sym, ap, ◌∙◌}
use Rattle.std.proofs.lemmas.List.{take_more}
use Rattle.upd_records.proofs.EffectLemmas.{any_append}
use Rattle.upd_records.specs.Rows.{same_ref}
use Rattle.upd_row_store.specs.Ranges.{in_range, in_ranges, is_among}
use Rattle.upd_row_store.proofs.RangeLemmas.{among_more, last_more, next_range}
use Rattle.upd_row_store.proofs.ranges.joined.Goals as goal
use Rattle.upd_row_store.proofs.ranges.joined.Goals.{in-Some, in-None+in_ok-ok-in-None}

pub loop-card-preserved : goal.loop-card-preserved
loop-card-preserved g = λ x.
    let cards = g.args.cards.now in
    let i = g.loop-card.card-index in
    let card = g.card-item.result in
    let first = g.args.first.now in
    let last = g.loop-card.last in
    let ranges = g.loop-card.ranges.items in
    let among : is_among (take (i + 1) cards) x ≡ (is_among (take i cards) x || same_ref card x) =
    among_more (take i cards) (take (i + 1) cards) card (take_more cards i card g.loop-card-test.true
    ∙ ap (λ c. take i cards ++ c ∷ []) (sym g.card-item.is)) x in
    elim g.match-and.branch [
      | in-Some w ↦ rw (among, w.ranges-is, w.last-is)
          (last_more (in_ranges ranges x) (in_range last x) (in_range w.in-Some.more x) (same_ref first x) (is_among (take i cards) x) (same_ref card x)
          (w.in-Some.ensures x) (g.loop-card.invariant x))
      | in-None+in_ok-ok-in-None w ↦
          let items : w.push.new.self.items ≡ ranges ++ last ∷ [] = search rules in
          rw (among, w.ranges-is, w.last-is)
          (next_range (in_ranges ranges x) (in_ranges w.push.new.self.items x) (in_range last x) (in_range w.of-last-in-None.result x) (same_ref first x)
          (is_among (take i cards) x) (same_ref card x)
          (ap (λ rs. in_ranges rs x) items ∙ any_append (λ range. in_range range x) ranges (last ∷ [])) (w.of-last-in-None.ensures x) (g.loop-card.invariant x))
    ]
