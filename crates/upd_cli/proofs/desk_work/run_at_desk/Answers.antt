use Rattle.std.proofs.Common.{inl, inr, refl, sym, subst}
use Rattle.upd_memory.specs.Mirrored.{AgreesIfAny}
use Rattle.upd_store.specs.OneOpen.{IsBelow, IsServed}
use Rattle.upd_cli.proofs.LeavingLemmas.{either, untouched_frames, unopened_fails}
use Rattle.upd_cli.proofs.desk_work.run_at_desk.Goals as goal

pub returns-in-Ok : goal.returns-in-Ok
returns-in-Ok g c =
    let opened = c.in-Ok.ensures in
    let ended = c.with_opened-ended.ensures in
    either c.in-Ok.library opened.below opened.only opened.served ended.below opened.found opened.ours ended.above
    (λ s found only served did.
    let (old, new, (inner, mirror), works, left) = did.works in
    record {
      leaves = inr (inl (
        subst IsBelow c.purpose_of.ensures only,
        (
          old,
          new,
          record {
            holds = rw inner (λ honest is_open. (found honest).0.holds);
            reads = rw inner (λ honest is_open. (found honest).0.reads);
            ours = rw inner (λ honest is_open. (found honest).1);
            shown = λ rows shown. (shown, subst (λ m. AgreesIfAny m rows) (sym mirror) tt);
          },
          (works, rw inner (λ clean rows shows. subst (λ p. IsServed p rows) c.purpose_of.ensures (served clean rows shows)), left),
        ),
      ));
      frames = did.frames;
    })
    (λ s found ours did.
    let (old, new, (inner, mirror), works, left) = did.works in
    record {
      leaves = inl (
        old,
        new,
        record {
          holds = rw inner (λ honest is_open. (found honest is_open).holds);
          reads = rw inner (λ honest is_open. (found honest is_open).reads);
          ours = rw inner ours;
          shown = λ rows shown. (shown, subst (λ m. AgreesIfAny m rows) (sym mirror) tt);
        },
        (works, left),
      );
      frames = did.frames;
    })

pub returns-in-Err : goal.returns-in-Err
returns-in-Err g c = record {
  leaves = inr (inr (inr (c.in-Err.ensures.unopened, refl, refl, refl)));
  frames = untouched_frames _ _ _ c.args.command.now c.in-Err.fault (unopened_fails c.in-Err.fault c.in-Err.ensures.unopened) refl refl refl;
}
