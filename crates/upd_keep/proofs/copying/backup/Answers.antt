use Rattle.upd_keep.proofs.Copies.{never_write}
use Rattle.upd_keep.proofs.copying.backup.Goals as goal

pub returns-in-Ok-written-clause-read : goal.returns-in-Ok-written-clause-read
returns-in-Ok-written-clause-read g c = (c.in-Ok.bytes.items, c.in-Ok.files, c.in-Ok.ensures.copied)

pub returns-in-Ok-clause-read : goal.returns-in-Ok-clause-read
returns-in-Ok-clause-read g c write = (c.in-Ok.bytes.items, c.in-Ok.files, c.in-Ok.ensures.copied)

pub returns-clause-read : goal.returns-clause-read
returns-clause-read g c write = absurd (never_write c.in-Err.fault c.in-Err.ensures.lost write)
