use Rattle.upd_correct.proofs.Common.{List, ◌++◌, map, refl, ap, ◌∙◌, rules, subst, NewDeck, deck_problem, refusals_at}
use Rattle.upd_correct.specs.LineReads.{IsTakenAs}
use Rattle.upd_correct.proofs.ReadDeckLemmas.{card_taken, head_taken, lost_taken, wrong_taken}
use Rattle.upd_correct.proofs.edited_deck.take_line.Goals as goal

pub returns-in_ok-push-in-Head : goal.returns-in_ok-push-in-Head
returns-in_ok-push-in-Head c earlier lines bytes at taken are =
    head_taken c.args.library.now c.args.set.now earlier lines bytes c.args.decks.now.items c.push.new.self.items c.args.refusals.now.items
    c.refuse.new.refusals.items c.args.number c.in-Head.deck at (subst (IsTakenAs bytes) c.in-Head.is taken) c.in_ok-push-in-Head.ensures.items
    (c.in_ok-refuse-in-Head.ensures ∙ ap (λ problem. c.args.refusals.now.items ++ refusals_at c.args.number 1 problem) (c.deck_problem-problem.ensures
    ∙ ap (λ (decks : List NewDeck). deck_problem c.args.library.now c.args.set.now (map (λ d. d.name) decks) c.in-Head.deck) c.deref.ensures.value))
    are

pub returns-in_ok-push-in-Some : goal.returns-in_ok-push-in-Some
returns-in_ok-push-in-Some c earlier lines bytes at taken are =
    card_taken c.args.library.now c.args.set.now earlier lines bytes c.in-Card.text.now c.pop.new.self.items c.args.decks.now.items
    c.push-in-Some.new.self.items c.args.refusals.now.items c.args.refusals.now.items c.in-Some.deck c.push_line.new.self
    (subst (IsTakenAs bytes) c.in-Card.is taken) c.in-Some.ensures.items c.in_ok-push-in-Some.ensures.items c.in_ok-push_line-in-Some.ensures refl are

pub returns-in_ok-refuse-in-None : goal.returns-in_ok-refuse-in-None
returns-in_ok-refuse-in-None c earlier lines bytes at taken are =
    lost_taken c.args.library.now c.args.set.now earlier lines bytes c.in-Card.text.now c.args.decks.now.items c.pop.new.self.items c.args.refusals.now.items
    c.refuse-in-None.new.refusals.items c.args.number at (subst (IsTakenAs bytes) c.in-Card.is taken) (grind (rules, c.in-None.ensures.items))
    (grind (rules, c.in-None.ensures.items)) c.in_ok-refuse-in-None.ensures are

pub returns-in_ok-refuse-in-Wrong : goal.returns-in_ok-refuse-in-Wrong
returns-in_ok-refuse-in-Wrong c earlier lines bytes at taken are =
    wrong_taken c.args.library.now c.args.set.now earlier lines bytes c.args.decks.now.items c.args.decks.now.items c.args.refusals.now.items
    c.refuse-in-Wrong.new.refusals.items c.args.number c.in-Wrong.column c.in-Wrong.problem at (subst (IsTakenAs bytes) c.in-Wrong.is taken) refl
    c.in_ok-refuse-in-Wrong.ensures are
