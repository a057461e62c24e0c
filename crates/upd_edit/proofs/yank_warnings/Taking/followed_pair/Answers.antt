use Rattle.upd_edit.proofs.Common.{sym, ◌∙◌, arith, is_followed}
use Rattle.upd_edit.proofs.YankLemmas.{find_zip_found, find_zip_next}
use Rattle.upd_edit.proofs.yank_warnings.Taking.followed_pair.Goals as goal

pub returns-then-is_followed : goal.returns-then-is_followed
returns-then-is_followed c =
    sym (find_zip_found (is_followed c.args.self.now.live.now.targets c.args.deck c.args.self.now.ranges.now) c.args.cards.now c.args.next.now c.loop-i.i
    c.index-cards-i.result c.index-next-i.result (omega (arith, c.loop-i-test.true, c.requires)) c.loop-i-test.true c.index-cards-i.is c.index-next-i.is
    (sym c.is_followed.ensures ∙ c.if-is_followed.true))
    ∙ c.loop-i.invariant

pub loop-i-preserved : goal.loop-i-preserved
loop-i-preserved c =
    sym (find_zip_next (is_followed c.args.self.now.live.now.targets c.args.deck c.args.self.now.ranges.now) c.args.cards.now c.args.next.now c.loop-i.i
    c.index-cards-i.result c.index-next-i.result (omega (arith, c.loop-i-test.true, c.requires)) c.loop-i-test.true c.index-cards-i.is c.index-next-i.is
    (sym c.is_followed.ensures ∙ c.if-is_followed.false))
    ∙ c.loop-i.invariant
