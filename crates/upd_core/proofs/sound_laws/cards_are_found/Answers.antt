use Rattle.upd_core.proofs.FoundLemmas.{place_at, card_at, status_at}
use Rattle.upd_core.proofs.sound_laws.cards_are_found.Goals as goal

pub returns-clause-place : goal.returns-clause-place
returns-clause-place c = place_at

pub returns-clause-card : goal.returns-clause-card
returns-clause-card c = card_at

pub returns-clause-status : goal.returns-clause-status
returns-clause-status c = status_at
