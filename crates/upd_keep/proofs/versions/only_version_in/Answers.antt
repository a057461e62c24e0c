use Rattle.upd_keep.proofs.Common.{◌≡◌, length, rules, state}
use Rattle.upd_keep.proofs.VersionRows.{one_answered}
use Rattle.upd_keep.proofs.versions.only_version_in.Goals as goal

pub returns-in-1 : goal.returns-in-1
returns-in-1 g c =
    let said = c.in_ok-rows.ensures in
    let one : length c.in_ok-rows.rows.items ≡ 1 = search rules in
    record {
      same_reference = said.same_reference;
      does = record {
        steps = record { going = said.does.steps.going; kept = said.does.steps.kept; survives = said.does.steps.survives };
        was_open = said.does.was_open;
        one = λ clean.
            one_answered (state g.S.Store c.args.tx.now.conn.now) (state g.S.Store c.rows_of.new.tx.conn.now) c.in_ok-rows.rows.items
            (said.does.shown clean) one;
      };
    }
