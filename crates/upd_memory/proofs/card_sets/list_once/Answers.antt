use Rattle.upd_memory.proofs.Common.{◌≡◌, ◌++◌, ◌∷◌, [], true, subst, rules}
use Rattle.upd_core.specs.Edits.{is_among}
use Rattle.upd_memory.proofs.CardSetLemmas.{listed_already, listed_more}
use Rattle.upd_memory.proofs.card_sets.list_once.Goals as goal

pub returns-then-is_last : goal.returns-then-is_last
returns-then-is_last c = λ d. listed_already c.args.decks.now.items c.args.deck d
    (subst (λ ds. is_among ds c.args.deck ≡ true) c.deref.ensures.value (c.is_last.ensures c.if-is_last.true))

pub returns : goal.returns
returns c = λ d.
    let items : c.push.new.self.items ≡ c.args.decks.now.items ++ c.args.deck ∷ [] = search rules in
    listed_more c.args.decks.now.items c.push.new.self.items c.args.deck d items
