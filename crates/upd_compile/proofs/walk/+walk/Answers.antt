use Rattle.upd_compile.proofs.Common.{rules, [], ◌≡◌, ◌==◌, ◌&&◌, true, false, Ok, Some, None, Result, sym, ◌∙◌, ◌<◌, ap, subst, arith, length, get_or}
use Rattle.upd_compile.proofs.Common.{common_steps, option_copied, FaultKind, is_call, called, Does, ProgressView, after_event, after_events, Follow}
use Rattle.upd_compile.proofs.Common.{card_events, common_named}
use Rattle.upd_compile.proofs.WalkLemmas.{events-followed, events-text, events-unknown, walk-at_card, walk-at_first}
use Rattle.upd_compile.proofs.walk.+walk.Goals as goal
use Rattle.upd_compile.proofs.walk.+walk.Goals.{walk-then-not-is_first+in_ok-meet, walk-else-not-is_first}

pub meet-returns-then-not-is_call : goal.meet-returns-then-not-is_call
meet-returns-then-not-is_call t c =
    let text : is_call c.args.card.now.text ≡ false = search rules in
    rw (events-text c.args.deep c.args.source.now c.args.card.now text) (grind (arith, common_steps))

pub meet-returns-in_err-common : goal.meet-returns-in_err-common
meet-returns-in_err-common t c =
    let call : is_call c.args.card.now.text ≡ true = search rules in
    let not_found : c.common_named.result ≡ None = grind (arith, common_steps) in
    let none : common_named (called c.args.card.now.text) c.args.source.now ≡ None =
    rw (← c.card.view_is, ← c.called.ensures, ← c.common_named.ensures) (ap option_copied not_found) in
    rw (events-unknown c.args.deep c.args.source.now c.args.card.now (omega arith) call none) (grind (arith, common_steps))

pub meet-returns-in_err-follow : goal.meet-returns-in_err-follow
meet-returns-in_err-follow t c =
    let call : is_call c.args.card.now.text ≡ true = search rules in
    let named : common_named (called c.args.card.now.text) c.args.source.now ≡ Some c.in_ok-common.common.now =
    rw (← c.card.view_is, ← c.called.ensures, ← c.common_named.ensures) (ap option_copied c.in_ok-common.ensures.ok_part) in
    rw (events-followed c.args.deep c.args.source.now c.args.card.now c.in_ok-common.common.now (omega arith) call named) (grind (arith, common_steps))

pub meet-returns : goal.meet-returns
meet-returns t c =
    let call : is_call c.args.card.now.text ≡ true = search rules in
    let named : common_named (called c.args.card.now.text) c.args.source.now ≡ Some c.in_ok-common.common.now =
    rw (← c.card.view_is, ← c.called.ensures, ← c.common_named.ensures) (ap option_copied c.in_ok-common.ensures.ok_part) in
    let counted : after_event [] Follow c.args.progress.now ≡ Ok c.follow.new.self = search rules in
    let same = events-followed c.args.deep c.args.source.now c.args.card.now c.in_ok-common.common.now (omega arith) call named in
    let P : Result ProgressView FaultKind → Type 0 = Does c.walk.result c.walk.new.progress in
    rw (same, counted) (search rules)

pub walk-returns-in_err-meet : goal.walk-returns-in_err-meet
walk-returns-in_err-meet t c =
    let within : c.loop-card.card-index < length c.args.deck.now.cards = search rules in
    let at : c.card-item.result ≡ get_or c.args.deck.now.cards c.loop-card.card-index c.card-item.result = search rules in
    let first : (c.card-item.result.ident == c.args.deck.now.ident) && (c.card-item.result.number == 1) ≡ false = search rules in
    let here =
    walk-at_card c.args.deep c.args.source.now c.args.deck.now c.loop-card.card-index c.card-item.result
    c.args.source.now.idents c.loop-card.progress within at first in
    let P : Result ProgressView FaultKind → Type 0 = Does c.from_residual.result c.meet.new.progress in
    subst P (sym here ∙ c.loop-card.invariant) (search rules)

pub walk-loop-card-preserved : goal.walk-loop-card-preserved
walk-loop-card-preserved t c =
    let within : c.loop-card.card-index < length c.args.deck.now.cards = search rules in
    let at : c.card-item.result ≡ get_or c.args.deck.now.cards c.loop-card.card-index c.card-item.result = search rules in
    elim c.if-not-is_first.branch [
      | walk-then-not-is_first+in_ok-meet w ↦
          let first : (c.card-item.result.ident == c.args.deck.now.ident) && (c.card-item.result.number == 1) ≡ false = search rules in
          let here =
          walk-at_card c.args.deep c.args.source.now c.args.deck.now c.loop-card.card-index c.card-item.result
          c.args.source.now.idents c.loop-card.progress within at first in
          let met : after_events c.args.source.now.idents
          (card_events c.args.deep c.args.source.now c.card-item.result) c.loop-card.progress ≡ Ok w.meet.new.progress = search rules in
          rw w.progress-is ((sym (rw met at here)) ∙ c.loop-card.invariant)
      | walk-else-not-is_first w ↦
          let first : (c.card-item.result.ident == c.args.deck.now.ident) && (c.card-item.result.number == 1) ≡ true = search rules in
          let here = walk-at_first c.args.deep c.args.source.now c.args.deck.now c.loop-card.card-index c.card-item.result within at first in
          rw (w.progress-is, ← here) c.loop-card.invariant
    ]
