use Rattle.upd_examine.proofs.Common.{◌≡◌, length, rules}
use Rattle.upd_examine.proofs.FindingLemmas.{empty_where_true, some_where_false}
use Rattle.upd_examine.proofs.examining.findings_text.Goals as goal

pub returns-then-sound : goal.returns-then-sound
returns-then-sound c =
    let none : length c.new.result.items ≡ 0 = search rules in
    empty_where_true (length c.new.result.items) c.args.sound none c.if-sound.true

pub returns : goal.returns
returns c = some_where_false (length c.in_ok-text.text.items) c.args.sound c.in_ok-text.ensures c.if-sound.false
