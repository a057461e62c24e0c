use Rattle.upd_diff.proofs.Common.{[], drop, inl, refl, subst, sym, take_rest, all_decks, AreCardDiffs, AreOfDeck, Await}
use Rattle.upd_diff.proofs.deck_diffs.library_diff.Goals as goal

pub returns : goal.returns
returns c =
    let old = c.args.before.now in
    let new = c.args.after.now in
    let k = c.in_ok-deck_diff.field-0 in
    let card_diffs : AreCardDiffs old.yanks new.yanks k.card_diffs = rw (c.yanks.ensures, c.yanks-2.ensures) at c.in_ok-deck_diff.ensures.card_diffs in
    let are : AreOfDeck 0 old.yanks new.yanks k =
    record { deck = c.in_ok-deck_diff.ensures.deck; card_diffs = card_diffs; short = c.in_ok-deck_diff.ensures.short } in
    let first : Await (all_decks old) (all_decks new) c.push.new.self.items old.decks new.decks =
    rw (c.in_ok-push.ensures.items, c.new-found.ensures.items) (λ rest p. inl (refl, are, p)) in
    let paired = rw (c.decks-decks.ensures, c.decks.ensures) at c.in_ok-next.ensures.paired in
    let found = c.add_decks.new.found.items in
    let all : Await (all_decks old) (all_decks new) found [] (drop c.in_ok-next.next new.decks) = paired (all_decks old) (all_decks new) first in
    let here : Await (all_decks old) (all_decks new) found [] (drop c.in_ok-next.next c.decks-decks.result.now) =
    subst (λ ds. Await (all_decks old) (all_decks new) found [] (drop c.in_ok-next.next ds)) (sym c.decks-decks.ensures) all in
    c.in_ok-add_new_decks.ensures (all_decks old) (all_decks new)
    (subst (Await (all_decks old) (all_decks new) found []) (sym (take_rest c.decks-decks.result.now c.in_ok-next.next)) here)
