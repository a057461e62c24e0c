use Rattle.upd_wire.proofs.Common.{◌≡◌, ◌≤◌, ◌⊎◌, ◌-◌, [], length, Consumes, HasNoRequest, MAX_HEAD_BYTES}
use Rattle.httparse.specs.Grammar.{MayBecomeRequest}
use Rattle.upd_wire.proofs.head.read_head.Given as goal

abbrev pub invariant-head : goal.invariant-head
invariant-head g l = record {
  most : length l.buf.items ≤ MAX_HEAD_BYTES;
  consumed : Consumes (g.R.Read.remaining l.initial.reader) (g.R.Read.remaining l.reader) l.buf.items;
  none : HasNoRequest l.buf.items;
  unfinished : (l.buf.items ≡ []) ⊎ MayBecomeRequest l.buf.items;
}

abbrev pub decreases-head : goal.decreases-head
decreases-head g l = MAX_HEAD_BYTES - length l.buf.items
