use Rattle.upd_store.proofs.Common.{refl}
use Rattle.upd_store.proofs.TreeWalk.{ends_look, looks_on}
use Rattle.upd_store.proofs.tree_reads.walk_index.Goals as goal

pub entries-init : goal.entries-init
entries-init g c = record {
  live = c.in_ok-seek.ensures.live;
  same = λ clean. rw (c.in_ok-seek.ensures.ok clean) refl;
  sound = c.in_ok-seek.ensures.sound;
  schema = c.seek.ensures.schema;
  quiet = c.seek.ensures.quiet;
}

pub returns-then-not-branch : goal.returns-then-not-branch
returns-then-not-branch g c =
    ends_look g.S.Store c.args.store.now c.entries.store c.entries.invariant c.next.new.self c.next.ensures.quiet c.next.ensures.schema
    (λ clean. (c.in_ok-next.ensures.moves clean).same) c.compared.result

pub entries-preserved : goal.entries-preserved
entries-preserved g c =
    looks_on g.S.Store c.args.store.now c.entries.store c.next.new.self c.entries.invariant c.next.ensures.quiet c.next.ensures.schema
    (λ clean. (c.in_ok-next.ensures.moves clean).same) c.in_ok-next.ensures.stay
