use Rattle.upd_wire.proofs.FrontLemmas.{front_of_parts}
use Rattle.upd_wire.proofs.writing.write_parts.Goals as goal

pub returns-in_err-write_part-clause-front : goal.returns-in_err-write_part-clause-front
returns-in_err-write_part-clause-front g c =
    front_of_parts _ _ _ c.args.parts.now c.loop-part.part-index _ c.loop-part-test.true c.loop-part.invariant c.in_err-write_part.ensures.front
