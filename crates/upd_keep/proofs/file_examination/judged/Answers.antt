use Rattle.upd_keep.proofs.Common.{◌≡◌, ◌<◌, length, refl, ap, ◌∙◌, subst, arith, rules, nat_tests, count_by, reply_bytes}
use Rattle.std.specs.Prelude.{◌↔◌}
use Rattle.upd_examine.specs.Findings.{AreSoundRows}
use Rattle.upd_keep.specs.Examining.{is_held_deck}
use Rattle.upd_keep.proofs.SameLength.{same_length}
use Rattle.upd_keep.proofs.file_examination.judged.Goals as goal

pub returns-then-not-is_empty : goal.returns-then-not-is_empty
returns-then-not-is_empty c = λ it h.
    let all = c.args.all.now in
    let text = c.in_ok-text.text.items in
    let decided : (length text ≡ 0) ↔ AreSoundRows all.library all.states all.kept.runs.items all.kept.marks.items =
    subst (λ ms. (length text ≡ 0) ↔ AreSoundRows all.library all.states all.kept.runs.items ms) c.deref-2.ensures.value
    (subst (λ rs. (length text ≡ 0) ↔ AreSoundRows all.library all.states rs c.deref-2.result.now) c.deref.ensures.value c.in_ok-text.ensures) in
    let some : 0 < length text = grind (arith, nat_tests, c.in_ok-text.text.ok, c.is_empty.ensures, c.if-not-is_empty.true) in
    (all, h, λ sound. let none = decided.1 sound in absurd (omega (arith, some, none)))

pub returns : goal.returns
returns c = λ it h.
    let all = c.args.all.now in
    let text = c.in_ok-text.text.items in
    let decided : (length text ≡ 0) ↔ AreSoundRows all.library all.states all.kept.runs.items all.kept.marks.items =
    subst (λ ms. (length text ≡ 0) ↔ AreSoundRows all.library all.states all.kept.runs.items ms) c.deref-2.ensures.value
    (subst (λ rs. (length text ≡ 0) ↔ AreSoundRows all.library all.states rs c.deref-2.result.now) c.deref.ensures.value c.in_ok-text.ensures) in
    let none : length text ≡ 0 = grind (arith, nat_tests, c.in_ok-text.text.ok, c.is_empty.ensures, c.if-not-is_empty.false) in
    let held = h.library.idents.passes is_held_deck in
    let all_cards = same_length h.library.cards in
    let all_runs = ap length h.kept.runs in
    let decks : c.held_decks.result ≡ count_by is_held_deck it.idents = search (rules, held) in
    let cards : c.len.result ≡ length it.cards = search (rules, all_cards) in
    let runs : c.len-2.result ≡ length it.runs = search (rules, all_runs) in
    let replies : c.reply_bytes.result ≡ reply_bytes all.kept.runs.items = search rules in
    (all, h, decided.0 none, (c.args.size, c.in_ok-line.ensures ∙ rw (decks, cards, runs, replies) refl))
