use Rattle.upd_wire.proofs.Common.{◌++◌, ◌∙◌, take, arith, Consumes-kept, Consumes-trans}
use Rattle.upd_wire.proofs.FrameLemmas.{no_lf_no_frame}
use Rattle.upd_wire.proofs.ReadLemmas.{byte_without, long_is_bad}
use Rattle.upd_wire.proofs.frame_reads.read_line.Goals as goal

pub returns-in-Err-clause-err : goal.returns-in-Err-clause-err
returns-in-Err-clause-err g c =
    (c.line.line.items, Consumes-kept _ _ _ _ c.line.invariant.consumed c.in-Err.ensures.bytes, no_lf_no_frame _ c.line.invariant.none)

pub returns-then-is_err-clause-err : goal.returns-then-is_err-clause-err
returns-then-is_err-clause-err g c =
    let count = c.in-Ok.field-0 in (
      c.line.line.items ++ take count c.read.new.buf,
      Consumes-trans _ _ _ _ _ c.line.invariant.consumed c.in-Ok.ensures.bytes.0,
      no_lf_no_frame _ (byte_without c.line.line.items c.read.new.buf count c.line.invariant.none
          (c.read.auto.buf ∙ c.line.invariant.one) c.if-byte-eq10.false),
    )

pub returns-clause-err : goal.returns-clause-err
returns-clause-err g c =
    (c.line.line.items, c.line.invariant.consumed, long_is_bad c.line.line.items (omega arith) c.line.invariant.most c.line.invariant.none)
