use Rattle.upd_laws.proofs.CompileLineLemmas.{made_line, file_length}
use Rattle.upd_laws.proofs.compile_lines.compile_lines_have_97_bytes.Goals as goal

pub returns-clause-line : goal.returns-clause-line
returns-clause-line c = made_line

pub returns-clause-file : goal.returns-clause-file
returns-clause-file c = file_length
