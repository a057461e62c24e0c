use Rattle.upd_views.proofs.ExplainLemmas.{all_listed}
use Rattle.upd_views.proofs.fault_texts.fault_list.Goals as goal

pub returns : goal.returns
returns c = all_listed
