use Rattle.upd_words.proofs.WordLemmas.{plain_command, plain_read, plain_word}
use Rattle.upd_words.proofs.words.trial_is_read.Goals as goal

pub returns-clause-read : goal.returns-clause-read
returns-clause-read c = plain_read

pub returns-clause-asks : goal.returns-clause-asks
returns-clause-asks c = plain_command

pub returns-clause-mode : goal.returns-clause-mode
returns-clause-mode c = plain_word
