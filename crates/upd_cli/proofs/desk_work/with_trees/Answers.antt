use Rattle.std.proofs.Common.{sym, subst, ap, ◌∙◌}
use Rattle.upd_store.specs.OpenedAgain.{AreFilesOf}
use Rattle.upd_cli.proofs.desk_work.with_trees.Goals as goal

pub returns : goal.returns
returns g c =
    let (old, new, held, works, left) = c.with_library-ended.ensures.works in
    record {
      works = (
        old,
        new,
        held,
        works,
        subst (AreFilesOf c.close.result) (c.into_store.ensures ∙ ap (λ library. library.store) (sym left)) c.close.ensures,
      );
      frames = c.with_library-ended.ensures.frames;
    }
