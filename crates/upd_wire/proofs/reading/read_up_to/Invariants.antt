use Rattle.upd_wire.proofs.Common.{◌≡◌, ◌≤◌, ◌-◌, ◌++◌, ℕ, List, vec_len, Consumes}
use Rattle.upd_wire.proofs.reading.read_up_to.Given as goal

abbrev pub invariant-input : goal.invariant-input
invariant-input g l = record {
  most : vec_len l.bytes ≤ l.size;
  taken : (taken : List ℕ) × (l.bytes.items ≡ l.initial.bytes.items ++ taken)
      × Consumes (g.R.Read.remaining l.initial.reader) (g.R.Read.remaining l.reader) taken;
}

abbrev pub decreases-input : goal.decreases-input
decreases-input g l = l.size - vec_len l.bytes
