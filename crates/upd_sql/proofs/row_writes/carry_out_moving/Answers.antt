use Rattle.upd_sql.proofs.Common.{◌≡◌, ◌+◌, ◌-◌, ◌++◌, List, length, map, map-append, option_copied, take, Ok, arith, sym, ap, subst, ◌∙◌, state, ChangeView}
use Rattle.upd_sql.proofs.Common.{done_all, change_view, Makes, AllCanBeDone, HoldsTables}
use Rattle.std.proofs.Common.{◌≤◌, drop}
use Rattle.std.proofs.Math.Seq.{take-add}
use Rattle.std.proofs.lemmas.Grind.{common_steps}
use Rattle.upd_sql.proofs.TogetherLemmas.{part_made}
use Rattle.upd_sql.proofs.row_writes.carry_out_moving.Goals as goal

pub loop-at-preserved : goal.loop-at-preserved
loop-at-preserved g c =
    let changes = c.args.changes.now in
    let at = c.loop-at.at in
    let n = c.part_in_decks.result in
    let bound : at + n ≤ length changes = grind (arith, common_steps, c.part_in_decks.ensures.1, c.loop-at-test.true) in
    let same : at + n - at ≡ n = omega arith in
    let before = map change_view (take at changes) in
    let part = map change_view (take (at + n - at) (drop at changes)) in
    let more : map change_view (take (at + n) changes) ≡ before ++ part =
    ap (map change_view) (take-add at n changes ∙ ap (λ k. take at changes ++ take k (drop at changes)) (sym same))
    ∙ map-append change_view (take at changes) (take (at + n - at) (drop at changes)) in
    let movable = option_copied c.args.movable in
    let old = state g.S.Store c.args.tx.now.conn.now in
    let new = state g.S.Store c.carry_out_part.new.tx.conn.now in
    let made = part_made movable before part c.loop-at.invariant.2 c.in_ok-carry_out_part.ensures.does in (
      bound,
      c.in_ok-carry_out_part.ensures.same_reference ∙ c.loop-at.invariant.1,
      subst (λ (cs : List ChangeView). Makes {X = Unit {0}} HoldsTables (AllCanBeDone movable cs) (done_all cs) old new (Ok tt)) (sym more) made,
    )
