use Rattle.std.proofs.Common.{arith}
use Rattle.std.proofs.lemmas.Grind.{common_steps}
use Rattle.upd_views.proofs.OverviewWords.{words_in_turn}
use Rattle.upd_views.proofs.runs.push_words.Goals as goal

pub returns : goal.returns
returns c = rw (words_in_turn c.args.items.now) (grind (arith, common_steps))
