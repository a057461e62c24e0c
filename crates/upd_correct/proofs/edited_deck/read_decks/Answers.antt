use Rattle.upd_correct.proofs.Common.{Bor, ℕ, ◌+◌, List, [], get_or, sym, ap, subst, AreReadFrom}
use Rattle.upd_correct.proofs.ListLemmas.{mapped_more, taken_count}
use Rattle.upd_correct.proofs.edited_deck.read_decks.Goals as goal

pub loop-i-preserved : goal.loop-i-preserved
loop-i-preserved c =
    subst (λ pieces. AreReadFrom c.args.library.now c.args.set.now c.args.refusals.now.items pieces c.take_line.new.decks.items c.take_line.new.refusals.items)
    (mapped_more (λ (t : Bor (List ℕ)). t.now) [] c.deref-line-items.result.now c.loop-i.i _ c.loop-i-test.true)
    (c.in_ok-take_line.ensures c.args.refusals.now.items _ (get_or c.deref-line-items.result.now c.loop-i.i (record { ref_ptr = (0, 0); now = [] })).now
    (ap (λ n. n + 1) (sym (taken_count (λ (t : Bor (List ℕ)). t.now) c.deref-line-items.result.now c.loop-i.i c.loop-i-test.true)))
    c.in_ok-read.ensures c.loop-i.invariant)
