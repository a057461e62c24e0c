use Rattle.std.proofs.Common.{sym, subst, ap, ◌∙◌}
use Rattle.upd_store.specs.OpenedAgain.{Closes}
use Rattle.upd_cli.proofs.desk_work.with_files.Goals as goal

pub returns : goal.returns
returns g c =
    let (old, new, held, works, left) = c.with_library-ended.ensures.works in
    record {
      works = (
        old,
        new,
        held,
        works,
        subst (Closes c.closed.result) (c.into_connection.ensures ∙ ap (λ store. store.conn) (sym left)) c.closed.ensures,
      );
      frames = c.with_library-ended.ensures.frames;
    }
