use Rattle.upd_partial.proofs.Common.{refl}
use Rattle.upd_partial.proofs.PartListingLemmas.{card_listed_by_part, deck_listed_by_part}
use Rattle.upd_partial.proofs.part_laws.listings_of_a_part_are_those_of_the_whole.Goals as goal

pub returns-clause-deck : goal.returns-clause-deck
returns-clause-deck c = deck_listed_by_part

pub returns-clause-card : goal.returns-clause-card
returns-clause-card c = card_listed_by_part

pub returns-clause-idents : goal.returns-clause-idents
returns-clause-idents c out l = refl

pub returns-clause-yanks : goal.returns-clause-yanks
returns-clause-yanks c out l = refl
