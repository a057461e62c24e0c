use Rattle.upd_wire.proofs.FrameLemmas.{frame_is_read, frame_is_spelled, no_prefix}
use Rattle.upd_wire.proofs.spool_laws.frames_are_as_spelled.Goals as goal

pub returns-clause-read : goal.returns-clause-read
returns-clause-read c = frame_is_read

pub returns-clause-spelled : goal.returns-clause-spelled
returns-clause-spelled c = frame_is_spelled

pub returns-clause-no_prefix : goal.returns-clause-no_prefix
returns-clause-no_prefix c = no_prefix
