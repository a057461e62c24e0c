-- What is known after calls that only read, whether a value is reached or memory runs out for it.
use Rattle.upd_desk.proofs.Common.{IsErrAnd, ◌≡◌, Result, Ok, Err, OnOk, ap, sym, ◌∙◌, Fault, NoMemory, fault_at, Ghosts, Keeps, memory_is_lost, keeps_keeps}
use Rattle.std.proofs.Common.{IsOkUnless}
use Rattle.upd_row_store.specs.Keeping.{failures_with}
use Rattle.upd_row_store.proofs.KeepingLemmas.{lost_for_memory}
use Rattle.upd_row_store.proofs.StoreLemmas.{memory_counts}
use Rattle.upd_desk.specs.Holding.{OnlyReads}

pub on_ok : {A E P : Type 0} (result : Result A E) → P → OnOk result P
on_ok (Ok x) p = p
on_ok (Err e) p = tt

module _ {S : Type 0} {meaning : Ghosts S} where
  open meaning use {failures_of}

  pub only_reads : {A : Type 0} (result : Result A Fault) (old new : S) → Keeps meaning old new → failures_of new ≡ failures_of old
      → IsOkUnless result (fault_at NoMemory 0) → OnlyReads meaning result old new
  only_reads (Ok x) old new same unfailed lost = record { same = same; lost = tt; failed = unfailed }
  only_reads (Err e) old new same unfailed lost = record {
    same = same;
    lost = memory_is_lost e lost;
    failed = unfailed ∙ sym (ap (λ (f : Fault). failures_with f.kind (failures_of old)) lost);
  }

  pub memory_reads : {A : Type 0} (result : Result A Fault) (old new : S) → IsErrAnd result (λ e. e ≡ fault_at NoMemory 0) → Keeps meaning old new
      → failures_of new ≡ failures_of old → OnlyReads meaning result old new
  memory_reads result old new is same unfailed = record {
    same = same;
    lost = lost_for_memory result is;
    failed = unfailed ∙ memory_counts (failures_of old) result is;
  }

  -- a call that only reads and fails, after others
  pub then_fails : {A B : Type 0} (f : Fault) (old mid new : S) → Keeps meaning old mid → failures_of mid ≡ failures_of old
      → OnlyReads meaning {A = A} (Err f) mid new → OnlyReads meaning {A = B} (Err f) old new
  then_fails f old mid new same unfailed later = record {
    same = keeps_keeps same later.same;
    lost = later.lost;
    failed = later.failed ∙ ap (failures_with f.kind) unfailed;
  }
