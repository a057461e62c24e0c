use Rattle.upd_keep.proofs.Common.{inl, inr, sym, subst, ◌∙◌, file_state}
use Rattle.sqlite_wal.specs.Reads.{AreClean}
use Rattle.sqlite_wal.proofs.CleanLemmas.{halves}
use Rattle.upd_keep.specs.Copying.{IsWholeCopy}
use Rattle.upd_keep.proofs.Copies.{both_true, close_fails}
use Rattle.upd_keep.proofs.copying.whole_copy.Goals as goal

pub returns-in-Ok-bytes_of-clause-copied : goal.returns-in-Ok-bytes_of-clause-copied
returns-in-Ok-bytes_of-clause-copied g c clean =
    let now = halves g.D.Disk c.in-Ok.files.log c.bytes_of.new.disk clean in
    let early : AreClean g.D.Disk c.in-Ok.files.log c.in-Ok.files.db = both_true _ _ now.0 (c.in-Ok-bytes_of.ensures.clean now.1) in
    let copied = c.in-Ok.ensures.copied early in (
      copied.was_open,
      subst (λ bytes. IsWholeCopy bytes (file_state c.args.conn).committed.trees) (sym (c.in-Ok-bytes_of.ensures.read now.1)) copied.seen.alone,
    )

pub returns-in-Err-bytes_of-clause-failed : goal.returns-in-Err-bytes_of-clause-failed
returns-in-Err-bytes_of-clause-failed g c store =
    inr (c.in-Ok.files, c.bytes_of.new.disk, c.in-Ok.ensures.copied, c.in-Err-bytes_of.ensures.failed store)

pub returns-in-Err-clause-failed : goal.returns-in-Err-clause-failed
returns-in-Err-clause-failed g c store =
    inl (c.in-Err.store, λ clean. close_fails c.args.conn c.in-Err.store c.in-Err.error (sym c.fault_of.ensures.kind ∙ store) (c.in-Err.ensures.err.1 clean))
