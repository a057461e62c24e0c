use Rattle.upd_text.proofs.CardRefLemmas.{card_text-card_of, card_of_is_reference, card_of-card_text}
use Rattle.upd_text.proofs.card_ref.card_references_are_read_from_one_text.Goals as goal

pub returns-clause-written : goal.returns-clause-written
returns-clause-written c = card_text-card_of

pub returns-clause-spelled : goal.returns-clause-spelled
returns-clause-spelled c = card_of_is_reference

pub returns-clause-read_back : goal.returns-clause-read_back
returns-clause-read_back c = card_of-card_text
