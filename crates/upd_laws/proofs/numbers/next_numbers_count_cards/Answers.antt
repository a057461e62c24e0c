use Rattle.upd_laws.proofs.numbers.next_numbers_count_cards.Goals as goal
use Rattle.upd_laws.proofs.SoundRunLemmas.{hand_counted, end_counted}

pub returns-clause-current_set : goal.returns-clause-current_set
returns-clause-current_set c = hand_counted

pub returns-clause-end : goal.returns-clause-end
returns-clause-end c = end_counted
