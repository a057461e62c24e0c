use Rattle.upd_wire.proofs.Common.{◌++◌, take, Appends-trans}
use Rattle.upd_wire.proofs.FrontLemmas.{front_further}
use Rattle.upd_wire.proofs.writing.write_part.Goals as goal

pub output-preserved : goal.output-preserved
output-preserved g c =
    let (done, split, appended) = c.output.invariant in
    let rest = c.output.rest.now in
    let count = c.in-Ok.count in
    (done ++ take count rest, front_further _ done rest count split, Appends-trans _ _ _ _ _ appended c.in-Ok.ensures.bytes)
