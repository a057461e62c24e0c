use Rattle.upd_sql.proofs.Common.{ℕ, List, pos, Ok, refl, sym, subst, ◌∙◌, rules, slice_cmp, IsStrictlySortedBy, keys_of, nat_cmp, state, CardsMoved, Fits}
use Rattle.upd_sql.proofs.Common.{Rows, MovesListed, Makes, HoldsTables, with_others_moved}
use Rattle.std.specs.Map.Iter.{deref_pair}
use Rattle.std.proofs.lemmas.Map.Iter.{rest_all, rest_more}
use Rattle.std.proofs.lemmas.Map.Keys.{sorted_tail}
use Rattle.upd_sql.proofs.MovingLemmas.{none_moved, one_moved}
use Rattle.upd_sql.proofs.row_writes.move_listed.Goals as goal

pub loop-ident-init : goal.loop-ident-init
loop-ident-init g c =
    let s = state g.S.Store c.args.tx.now.conn.now in
    let Can : Rows → Type 0 = λ it. Fits (CardsMoved c.args.deck c.args.from (pos c.args.by)) it
    × MovesListed c.args.movable.now (CardsMoved c.args.deck c.args.from (pos c.args.by)) it in
    let gives = c.into_iter-ident-iterator.ensures.into_iter_gives in (
      refl,
      subst (λ es. IsStrictlySortedBy (slice_cmp nat_cmp) (keys_of es)) (sym gives.0) gives.5,
      subst (λ es. Makes {X = Unit {0}} HoldsTables Can (with_others_moved es c.args.deck c.args.from c.args.by) s s (Ok tt)) (sym gives.0)
          (none_moved c.args.deck c.args.from c.args.by c.args.movable.now s tt),
    )

pub loop-ident-preserved : goal.loop-ident-preserved
loop-ident-preserved g c =
    let old = state g.S.Store c.args.tx.now.conn.now in
    let mid = state g.S.Store c.loop-ident.tx.conn.now in
    let new = state g.S.Store c.move_back_of.new.tx.conn.now in
    let Can : Rows → Type 0 = λ it. Fits (CardsMoved c.args.deck c.args.from (pos c.args.by)) it
    × MovesListed c.args.movable.now (CardsMoved c.args.deck c.args.from (pos c.args.by)) it in
    let e : List ℕ × ℕ = (c.in-Some.ident.now, c.in-Some.least.now) in
    let es = c.next.new.self in
    let here = rest_more deref_pair c.loop-ident.ident-iterator es c.next.result (c.in-Some.ident, c.in-Some.least) c.in-Some.is c.next.ensures.steps in
    let up = subst (λ xs. IsStrictlySortedBy (slice_cmp nat_cmp) (keys_of xs)) here c.loop-ident.invariant.1 in
    let before = subst (λ xs. Makes {X = Unit {0}} HoldsTables Can (with_others_moved xs c.args.deck c.args.from c.args.by) old mid (Ok tt)) here
    c.loop-ident.invariant.2 in (
      c.in_ok-move_back_of.ensures.same_reference ∙ c.loop-ident.invariant.0,
      sorted_tail (slice_cmp nat_cmp) e.0 (keys_of es) up,
      one_moved c.args.deck c.args.from c.args.by e es up c.args.movable.now before c.in_ok-move_back_of.ensures.does,
    )

pub returns : goal.returns
returns g c = record {
  same_reference = search rules;
  does =
      let old = state g.S.Store c.args.tx.now.conn.now in
      let new = state g.S.Store c.loop-ident.tx.conn.now in
      let Can : Rows → Type 0 = λ it. Fits (CardsMoved c.args.deck c.args.from (pos c.args.by)) it
      × MovesListed c.args.movable.now (CardsMoved c.args.deck c.args.from (pos c.args.by)) it in
      subst (λ es. Makes {X = Unit {0}} HoldsTables Can (with_others_moved es c.args.deck c.args.from c.args.by) old new (Ok tt))
      (rest_all deref_pair c.loop-ident.ident-iterator c.next.new.self c.next.result c.in-None.is c.next.ensures.steps) c.loop-ident.invariant.2;
}
