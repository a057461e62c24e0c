use Rattle.upd_wire.proofs.Common.{◌≡◌, ◌≤◌, ◌-◌, false, length, Consumes, has_lf}
use Rattle.upd_wire.proofs.frame_reads.read_line.Given as goal

abbrev pub invariant-line : goal.invariant-line
invariant-line g l = record {
  most : length l.line.items ≤ 64;
  none : has_lf l.line.items ≡ false;
  one : length l.byte ≡ 1;
  consumed : Consumes (g.R.Read.remaining l.initial.reader) (g.R.Read.remaining l.reader) l.line.items;
}

abbrev pub decreases-line : goal.decreases-line
decreases-line g l = 64 - length l.line.items
