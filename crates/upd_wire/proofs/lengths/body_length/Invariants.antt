use Rattle.upd_wire.proofs.Common.{◌≡◌, drop, map}
use Rattle.httparse.specs.Spans.{header_bytes}
use Rattle.upd_wire.specs.Lengths.{both_say, fields_say}
use Rattle.upd_wire.proofs.lengths.body_length.Given as goal

abbrev pub invariant-headers : goal.invariant-headers
invariant-headers l =
    both_say l.found (fields_say (map (header_bytes l.buf) (drop l.header-index l.headers))) ≡ fields_say (map (header_bytes l.buf) l.headers)
