-- What is said of a connection is said of the file that it was opened to, and why none came.
use Rattle.upd_keep.proofs.Common.{◌≡◌, ◌⊎◌, ℕ, inl, inr, Option, Some, None, Result, Ok, Err, refl, sym, ap, ◌∙◌, MoreFaults, Ghosts}
use Rattle.upd_keep.proofs.Common.{StoreError, Error, State, HasCleanDisk, Fault, NoMemory, Store, kind_for}
use Rattle.std.proofs.Common.{IfSome}
use Rattle.sqlite_disk.specs.declared.Files.{Files}
use Rattle.sqlite_wal.specs.Recovery.{Image}
use Rattle.sqlite.specs.declared.error.ErrorCode.TheVariants as code
use Rattle.sqlite.specs.declared.error.Error.TheVariants.{SqliteFailure}
use Rattle.sqlite.specs.declared.file.Leftover.{Leftover}
use Rattle.sqlite.specs.Files.{IsCleanLeft, FailsToOpenFiles, LeavesFiles}
use Rattle.sqlite.specs.Opening.{FailsAs}
use Rattle.sqlite.specs.Start.{FindsIn}
use Rattle.upd_keep.specs.Examining.{ExaminesFile, FailsToOpen, ReportsOn, SaysOpening}
use Rattle.upd_keep.specs.Situations.{situation_of}
use Rattle.upd_keep.specs.declared.file_examination.Report.{Report}
use Rattle.upd_keep.specs.declared.file_examination.Report.TheVariants.{Library, Other}

pub of_file : {C : Type 0} (state : C → State) (held : Image) (opened : C) (report : Result Report Fault)
    → (HasCleanDisk (state opened) → FindsIn held (state opened)) → ReportsOn state opened report → ExaminesFile state held report
of_file state held opened (Ok (Library found log)) finds said = (opened, finds, said)
of_file state held opened (Ok (Other situation pages)) finds said = tt
of_file state held opened (Err fault) finds lost = lost

pub of_error : {C : Type 0} (state : C → State) (held : Image) (e : Error) (report : Result Report Fault) → SaysOpening e report
    → ExaminesFile state held report
of_error state held e (Ok (Library found log)) said = absurd said
of_error state held e (Ok (Other situation pages)) said = tt
of_error state held e (Err fault) lost = lost

untold : (kind : StoreError) (old new : ℕ) (AtLimit Wanted : Type 0) (e : Error) → situation_of e ≡ None → kind_for e ≡ Store
    → FailsAs kind old new AtLimit Wanted e → MoreFaults old new ⊎ AtLimit
untold kind old new AtLimit Wanted e told store (inl memory) = absurd (let no : NoMemory ≡ Store = sym (ap kind_for memory) ∙ store in cc)
untold kind old new AtLimit Wanted e told store (inr (inl (inl other, _))) =
    absurd (let no : situation_of (SqliteFailure code.NotADatabase) ≡ None = sym (ap situation_of other) ∙ told in cc)
untold kind old new AtLimit Wanted e told store (inr (inl (inr bad, _))) =
    absurd (let no : situation_of (SqliteFailure code.DatabaseCorrupt) ≡ None = sym (ap situation_of bad) ∙ told in cc)
untold kind old new AtLimit Wanted e told store (inr (inr (inl more))) = inl more.1
untold kind old new AtLimit Wanted e told store (inr (inr (inr full))) = inr full.1

-- Where nothing of the files came back, the error tells what is there, or memory ran out.
pub open_fails : {D : Type 0} {g : Ghosts D} (Log Db : D → Type 0) (e : Error) (rest : Option (Leftover D g))
    → (rest ≡ None → (e ≡ SqliteFailure code.CannotOpen) ⊎ ((e ≡ SqliteFailure code.OutOfMemory) ⊎ (e ≡ SqliteFailure code.DatabaseBusy)))
    → IfSome rest (λ left. (files : Files D) × Log files.log × Db files.db × (IsCleanLeft left → FailsToOpenFiles files left e × LeavesFiles files left))
    → situation_of e ≡ None → kind_for e ≡ Store → (files : Files D) × Log files.log × Db files.db × FailsToOpen g files
open_fails Log Db e None none cause told store = elim (none refl) [
  | inl cannot ↦ absurd (let no : situation_of (SqliteFailure code.CannotOpen) ≡ None = sym (ap situation_of cannot) ∙ told in cc)
  | inr other ↦ elim other [
    | inl memory ↦ absurd (let no : NoMemory ≡ Store = sym (ap kind_for memory) ∙ store in cc)
    | inr busy ↦ absurd (let no : situation_of (SqliteFailure code.DatabaseBusy) ≡ None = sym (ap situation_of busy) ∙ told in cc)
  ]
]
open_fails Log Db e (Some left) none cause told store =
    (cause.0, cause.1, cause.2, (left, λ clean. untold _ _ _ _ _ e told store (cause.3 clean).0))
