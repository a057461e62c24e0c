use Rattle.upd_wire.proofs.Common.{◌++◌, ◌+◌, ◌≤◌, ◌≡◌, ◌∙◌, ap, length, take, vec_len, arith, length-append, length-take-le, Consumes-kept, Consumes-trans}
use Rattle.upd_wire.proofs.reading.read_up_to.Goals as goal

pub returns-then-is_err-clause-front : goal.returns-then-is_err-clause-front
returns-then-is_err-clause-front g c =
    let (taken, grown, consumed) = c.input.invariant.taken in
    let more = take c.in-Ok.count c.read.new.buf in
    let room : length c.read.new.buf ≡ c.min-room.result = c.read.auto.buf ∙ length-take-le c.min-room.result c.input.chunk (omega arith) in
    let old : vec_len c.args.bytes.now ≡ length c.args.bytes.now.items = omega (arith, c.args.bytes.now.ok.0) in
    let now : vec_len c.input.bytes ≡ length c.input.bytes.items = omega (arith, c.input.bytes.ok.0) in
    let whole = ap length grown in
    let few : vec_len c.args.bytes.now + length (taken ++ more) ≤ c.args.size =
    omega (arith, room, old, now, whole, c.in-Ok.ensures.bound, length-append c.args.bytes.now.items taken, length-append taken more) in
    (taken ++ more, few, Consumes-trans _ _ _ _ _ consumed c.in-Ok.ensures.bytes.0)

pub returns-in-Err-clause-front : goal.returns-in-Err-clause-front
returns-in-Err-clause-front g c =
    let (taken, grown, consumed) = c.input.invariant.taken in
    let old : vec_len c.args.bytes.now ≡ length c.args.bytes.now.items = omega (arith, c.args.bytes.now.ok.0) in
    let now : vec_len c.input.bytes ≡ length c.input.bytes.items = omega (arith, c.input.bytes.ok.0) in
    let whole = ap length grown in
    let few : vec_len c.args.bytes.now + length taken ≤ c.args.size =
    omega (arith, old, now, whole, c.input.invariant.most, length-append c.args.bytes.now.items taken) in
    (taken, few, Consumes-kept _ _ _ _ consumed c.in-Err.ensures.bytes)
