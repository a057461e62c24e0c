use Rattle.upd_subcommands.proofs.Common.{◌≡◌, length, arith}
use Rattle.std.proofs.Common.{vec_len}
use Rattle.upd_subcommands.proofs.StreamLemmas.{few_taken, front_read_up_to, read_fails}
use Rattle.upd_subcommands.proofs.streams.read_front.Goals as goal

pub returns-in-Ok-clause-ok : goal.returns-in-Ok-clause-ok
returns-in-Ok-clause-ok g c =
    let (taken, grown, consumed) = c.in-Ok.ensures.ok in
    let bytes = c.read_up_to.new.bytes in
    let whole : vec_len bytes ≡ length bytes.items = omega (arith, bytes.ok.0) in
    front_read_up_to c.args.most _ _ _ bytes.items taken (vec_len bytes) c.new-bytes.ensures.items grown consumed whole c.in-Ok.ensures.most c.in-Ok.ensures.end

pub returns-in-Ok-clause-front : goal.returns-in-Ok-clause-front
returns-in-Ok-clause-front g c =
    let (taken, grown, consumed) = c.in-Ok.ensures.ok in
    let bytes = c.read_up_to.new.bytes in
    let whole : vec_len bytes ≡ length bytes.items = omega (arith, bytes.ok.0) in
    (taken, few_taken c.args.most _ bytes.items taken (vec_len bytes) c.new-bytes.ensures.items grown whole c.in-Ok.ensures.most, consumed)

pub returns-in-Err-clause-front : goal.returns-in-Err-clause-front
returns-in-Err-clause-front g c =
    let (taken, few, consumed) = c.in-Err.ensures.front in
    (taken, omega (arith, few), consumed)

pub returns-in-Err-clause-err : goal.returns-in-Err-clause-err
returns-in-Err-clause-err g c = read_fails c.in-Err.kind _ c.without_line.ensures c.in-Err.ensures.err
