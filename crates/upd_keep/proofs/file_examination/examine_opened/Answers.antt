use Rattle.upd_keep.proofs.Common.{◌≡◌, inr, sym, ap, subst, IsTrue, Held, state, HasCleanDisk, Fault, OfMemory, library_schema, clean_before}
use Rattle.upd_keep.proofs.file_examination.examine_opened.Goals as goal

pub returns-in-Ok-examine_tables-clause-said : goal.returns-in-Ok-examine_tables-clause-said
returns-in-Ok-examine_tables-clause-said g c =
    let opened = state g.S.Store c.args.conn in
    let adopted = state g.S.Store c.in-Ok.store.conn in
    let IsClean : Held g.row.S.Denot → Type 0 = λ h. HasCleanDisk (state g.S.Store h) → HasCleanDisk opened in
    let IsSame : Held g.row.S.Denot → Type 0 =
    λ h. HasCleanDisk (state g.S.Store h) → IsTrue (state g.S.Store h).is_open → (state g.S.Store h).committed ≡ opened.committed in
    let IsOurs : Held g.row.S.Denot → Type 0 =
    λ h. HasCleanDisk (state g.S.Store h) → IsTrue (state g.S.Store h).is_open → (state g.S.Store h).committed.schema ≡ library_schema in (
      c.into_connection-conn.result,
      c.examine_tables.new.conn,
      record {
        clean = subst IsClean (sym c.into_connection-conn.ensures) (clean_before opened adopted _ c.in-Ok.ensures.survives);
        same = subst IsSame (sym c.into_connection-conn.ensures) c.in-Ok.ensures.same;
        ours = subst IsOurs (sym c.into_connection-conn.ensures) c.in-Ok.ensures.ours;
        examines = c.in-Ok-examine_tables.ensures.examines;
      },
    )

pub returns-clause-said : goal.returns-clause-said
returns-clause-said g c = inr (c.in-Err.field-0-1, c.in-Err.fault.at, c.of_version.ensures, c.in-Err.ensures.version)

pub returns-in-NoMemory-clause-said : goal.returns-in-NoMemory-clause-said
returns-in-NoMemory-clause-said g c = OfMemory _ (ap (λ (f : Fault). f.kind) c.without_line.ensures) (ap (λ (f : Fault). f.at) c.without_line.ensures)

pub returns-in-NoMemory-kind-clause-said : goal.returns-in-NoMemory-kind-clause-said
returns-in-NoMemory-kind-clause-said g c =
    OfMemory _ (ap (λ (f : Fault). f.kind) c.without_line-in-NoMemory-kind.ensures) (ap (λ (f : Fault). f.at) c.without_line-in-NoMemory-kind.ensures)
