use Rattle.std.proofs.Common.{refl}
use Rattle.upd_views.proofs.BlameLemmas.{all_printed}
use Rattle.upd_views.proofs.printing.printed_texts_are_printable.Goals as goal

pub returns-clause-fields : goal.returns-clause-fields
returns-clause-fields c = all_printed 32 refl

pub returns-clause-texts : goal.returns-clause-texts
returns-clause-texts c = all_printed 9 refl
