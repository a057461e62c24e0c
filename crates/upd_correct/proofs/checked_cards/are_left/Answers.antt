use Rattle.upd_correct.proofs.Common.{rules, arith, length, ◌≡◌}
use Rattle.upd_correct.proofs.LeftLemmas.{none_left}
use Rattle.upd_correct.proofs.checked_cards.are_left.Goals as goal

pub returns : goal.returns
returns c is =
    let none : length c.loop-card.rest.now ≡ 0 = search rules in
    c.loop-card.invariant
    (none_left c.args.taken.now.targets c.args.live.now.targets c.args.deck c.args.set c.args.last c.loop-card.rest.now
    c.args.news.now c.loop-card.card-index none (omega arith))
