use Rattle.upd_keep.proofs.Common.{◌≡◌, length, drop, subst, arith, rules, Holds, OfStore}
use Rattle.upd_keep.proofs.Copies.{filled}
use Rattle.upd_row_store.proofs.KeepingLemmas.{lost_for_memory}
use Rattle.upd_keep.proofs.copying.bytes_of.Goals as goal

pub returns-in_default-clause-lost : goal.returns-in_default-clause-lost
returns-in_default-clause-lost g c = OfStore _ c.store_at.ensures.kind c.store_at.ensures.at

pub returns-in_err-bytes-clause-lost : goal.returns-in_err-bytes-clause-lost
returns-in_err-bytes-clause-lost g c = lost_for_memory c.from_residual.result c.from_residual.ensures.1

pub returns-in-Ok-read_at-clause-read : goal.returns-in-Ok-read_at-clause-read
returns-in-Ok-read_at-clause-read g c clean =
    let file = g.D.Disk.seen c.args.disk.now in
    let early = c.in-Ok-read_at.ensures.clean clean in
    let whole = c.in-Ok.ensures.len early in
    let made : c.in_ok-bytes.bytes.len ≡ length c.read_at.new.buf = search rules in
    let same : length c.read_at.new.buf ≡ length file = omega (arith, made, c.in_ok-bytes.ensures.len, whole) in
    filled file c.read_at.new.buf (drop (length c.read_at.new.buf) c.in_ok-bytes.bytes.items) c.in_ok-bytes.bytes.len made same
    (λ some. subst (λ f. Holds f 0 c.read_at.new.buf) c.len.ensures.seen
    (c.in-Ok-read_at.ensures.read clean (omega (arith, some, made, c.deref_mut.ensures.len))))

pub returns-in-Err-clause-lost : goal.returns-in-Err-clause-lost
returns-in-Err-clause-lost g c = OfStore _ c.store_at-in-Err.ensures.kind c.store_at-in-Err.ensures.at
