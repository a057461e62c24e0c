use Rattle.upd_wire.proofs.HeaderLemmas.{header_is_read, header_is_spelled}
use Rattle.upd_wire.proofs.header.headers_are_as_spelled.Goals as goal

pub returns-clause-read : goal.returns-clause-read
returns-clause-read c = header_is_read

pub returns-clause-spelled : goal.returns-clause-spelled
returns-clause-spelled c = header_is_spelled
