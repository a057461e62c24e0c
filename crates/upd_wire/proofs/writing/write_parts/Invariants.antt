use Rattle.upd_wire.proofs.Common.{take, flat_map, Appends}
use Rattle.upd_wire.proofs.writing.write_parts.Given as goal

abbrev pub invariant-loop-part : goal.invariant-loop-part
invariant-loop-part g l =
    Appends (g.W.Write.contents l.initial.writer) (g.W.Write.contents l.writer) (flat_map (λ part. part.now) (take l.part-index l.parts))
