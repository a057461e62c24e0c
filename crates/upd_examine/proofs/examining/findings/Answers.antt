use Rattle.upd_examine.proofs.Common.{length}
use Rattle.upd_examine.proofs.FindingLemmas.{chained}
use Rattle.upd_examine.proofs.examining.findings.Goals as goal

pub returns : goal.returns
returns c = chained (length c.in_ok-text.text.items) c.in_ok-sound.sound c.in_ok-text.ensures c.in_ok-sound.ensures
