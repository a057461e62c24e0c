use Rattle.upd_laws.proofs.CompileLineLemmas.{file_plain}
use Rattle.upd_laws.proofs.compile_lines.compile_files_have_bytes_of_lines.Goals as goal

pub returns : goal.returns
returns c = file_plain
