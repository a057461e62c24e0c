use Rattle.std.proofs.Common.{sym, subst, ap, ◌∙◌}
use Rattle.upd_cli.specs.Works.{Begins}
use Rattle.upd_cli.proofs.desk_work.with_library.Goals as goal

pub returns : goal.returns
returns g c =
    let ends = c.carry_out_at-ended.ensures in
    record {
      works = (
        c.new-rows.result,
        c.carry_out_at-ended.new.desk.store,
        (c.new-rows.ensures.inner, c.new-rows.ensures.mirror),
        record {
          begun = c.open-desk.result.store;
          begins = subst (Begins _ c.args.command.now c.new-rows.result) (sym c.open-desk.ensures.store) c.begin.ensures;
          does = ends.does;
        },
        sym (c.into_inner.ensures ∙ ap (λ rows. rows.inner) c.close.ensures),
      );
      frames = record {
        front = ends.front;
        waits = ends.waits;
        refused = ends.refused;
        failed = ends.failed;
        clean = ends.clean;
        quiet = ends.quiet;
      };
    }
