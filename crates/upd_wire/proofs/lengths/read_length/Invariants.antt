use Rattle.upd_wire.proofs.Common.{◌≡◌, ◌≤◌, drop, number_behind, MAX_RUN_BYTES}
use Rattle.upd_wire.proofs.lengths.read_length.Given as goal

abbrev pub invariant-digits : goal.invariant-digits
invariant-digits l = record {
  rest : number_behind l.number (drop l.digit-index l.text) ≡ number_behind 0 l.text;
  small : l.number ≤ MAX_RUN_BYTES;
}
