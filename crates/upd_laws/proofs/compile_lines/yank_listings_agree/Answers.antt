use Rattle.upd_laws.proofs.YankListLemmas.{listings_agree}
use Rattle.upd_laws.proofs.compile_lines.yank_listings_agree.Goals as goal

pub returns : goal.returns
returns c = listings_agree
