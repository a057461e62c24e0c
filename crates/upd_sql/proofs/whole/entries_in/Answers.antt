use Rattle.upd_sql.proofs.Common.{◌≡◌, ◌==◌, ◌+◌, ◌++◌, ◌∙◌, ap, arith, filter, rules, state, subst, IsSame}
use Rattle.upd_sql.proofs.WholeLemmas.{all_parts, is_before, looks_as, looks_more, one_part_more}
use Rattle.upd_sql.proofs.whole.entries_in.Goals as goal

pub loop-ord-preserved : goal.loop-ord-preserved
loop-ord-preserved g c =
    let ord = c.loop-ord.ord in
    let old = state g.S.Store c.args.tx.now.conn.now in
    let mid = state g.S.Store c.loop-ord.tx.conn.now in
    let new = state g.S.Store c.entries_at.new.tx.conn.now in
    let found = c.loop-ord.found in
    let part = c.in_ok-part.part in
    let grown : c.append.new.self.items ≡ found.items ++ part.items = search rules in (
      c.in_ok-part.ensures.same_reference ∙ c.loop-ord.invariant.0,
      looks_more (λ it x. IsSame x.items (filter (is_before ord) it.entries))
          (λ it x. IsSame x.items (filter (λ e. e.ord == ord) it.entries))
          (λ it x. IsSame x.items (filter (is_before (ord + 1)) it.entries))
          old mid new found part c.append.new.self c.loop-ord.invariant.1 c.in_ok-part.ensures.does
          (λ it p q. one_part_more ord it.entries found.items part.items c.append.new.self.items c.loop-ord-test.true grown p q),
    )

pub returns : goal.returns
returns g c =
    let ord = c.loop-ord.ord in
    let old = state g.S.Store c.args.tx.now.conn.now in
    let new = state g.S.Store c.loop-ord.tx.conn.now in
    let found = c.loop-ord.found in
    let ended : ord ≡ 3 = omega (arith, c.loop-ord-test.false, c.loop-ord.auto.ord-end) in
    record {
      same_reference = c.loop-ord.invariant.0;
      does =
          looks_as (λ it x. IsSame x.items (filter (is_before ord) it.entries)) (λ it x. IsSame x.items it.entries)
          old new found found (λ it p. subst (IsSame found.items) (ap (λ n. filter (is_before n) it.entries) ended ∙ all_parts it.entries) p)
          c.loop-ord.invariant.1;
    }
