use Rattle.upd_store.proofs.Common.{refl, sym, subst₂}
use Rattle.sqlite_trees.specs.Tree.{order_of}
use Rattle.upd_store.proofs.TreeWalk.{Walks, at_end, begun, illegible, walked}
use Rattle.upd_store.proofs.tree_reads.walk.Goals as goal

pub rows-init : goal.rows-init
rows-init g c =
    let from = begun g.S.Store c.args.store.now c.seek.new.self c.TREE.result g.T.Record.stored
    (order_of ((g.S.Store.view c.args.store.now).shape c.TREE.result)) c.in_ok-seek.ensures.live
    (λ clean. rw (← c.new-row.ensures) (c.in_ok-seek.ensures.ok clean)) c.in_ok-seek.ensures.sound c.seek.ensures.schema c.seek.ensures.quiet in
    subst₂ (λ tree found. Walks g.S.Store c.args.store.now c.seek.new.self tree g.T.Record.stored found) c.TREE.ensures (sym c.new-found.ensures.items) from

pub returns-then-not-branch : goal.returns-then-not-branch
returns-then-not-branch g c =
    at_end g.S.Store c.args.store.now c.rows.store g.T.Record.TREE g.T.Record.stored c.rows.found.items c.rows.invariant c.next.new.self c.next.new.row
    c.next.ensures.quiet c.next.ensures.schema (λ clean. (c.in_ok-next.ensures.moves clean).same) g.T.Record.listed
    (g.met.T.Record.shows (g.S.Store.view c.args.store.now).trees)
    (λ clean. rw c.if-not-branch.true at (c.in_ok-next.ensures.ok clean)) c.rows.found refl

pub returns-in_err-read : goal.returns-in_err-read
returns-in_err-read g c =
    illegible g.S.Store c.args.store.now c.rows.store g.T.Record.TREE g.T.Record.stored c.rows.found.items c.rows.invariant c.next.new.self c.next.new.row
    c.next.ensures.quiet c.next.ensures.schema (λ clean. (c.in_ok-next.ensures.moves clean).same) g.T.Record.listed
    (g.met.T.Record.shows (g.S.Store.view c.args.store.now).trees)
    c.in_err-read.field-0.0 c.from_residual-in_err-read.result c.from_residual-in_err-read.ensures.1

pub rows-preserved : goal.rows-preserved
rows-preserved g c =
    walked g.S.Store c.args.store.now c.rows.store g.T.Record.TREE g.T.Record.stored c.rows.found.items c.rows.invariant c.next.new.self c.next.new.row
    c.next.ensures.quiet c.next.ensures.schema (λ clean. (c.in_ok-next.ensures.moves clean).same) c.in_ok-next.ensures.stay
    (λ clean. rw c.if-not-branch.false at (c.in_ok-next.ensures.ok clean)) c.in_ok-read.field-0 c.push.new.self.items c.in_ok-read.ensures
    c.in_ok-push.ensures.items
