use Rattle.upd_views.proofs.EscapeLemmas.{entities, unmarked}
use Rattle.upd_views.proofs.escaping.escaped_texts_have_no_markup.Goals as goal

pub returns-clause-markup : goal.returns-clause-markup
returns-clause-markup c text = unmarked text

pub returns-clause-entities : goal.returns-clause-entities
returns-clause-entities c text = entities text
