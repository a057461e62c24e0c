-- The table of the version: as many rows are answered as it has.
use Rattle.upd_keep.proofs.Common.{◌≡◌, true, List, [], length, Ok, IsTrue, refl, sym, ap, subst, ◌∙◌, State, HasCleanDisk, library_schema}
use Rattle.std.proofs.lemmas.List.{length-map}
use Rattle.std.proofs.lemmas.List.Sorted.{length_permutation}
use Rattle.sqlite_value.specs.Order.{Row}
use Rattle.sqlite_tied.specs.Compute.{everything}
use Rattle.sqlite.specs.Listing.{understood}
use Rattle.sqlite.specs.State.{Shown}
use Rattle.sqlite.proofs.Callers.{reads_as}
use Rattle.upd_sqlite.proofs.Queries.{any_order}
use Rattle.upd_sql.specs.Commits.{WasOpen}
use Rattle.upd_sql.proofs.ReadTexts.{Reads, two}
use Rattle.upd_sql.proofs.WholeLemmas.{all_pass}
use Rattle.upd_keep.specs.Examining.{HasOneVersion}
use Rattle.upd_keep.specs.declared.versions.TheConstants.{ALL_VERSIONS}

pub all_versions : Reads ALL_VERSIONS.now 0 [] two []
unfolding understood everything
all_versions = record { names = _; is = refl; plain = (refl, refl); unlisted = refl }

-- one row was answered
pub one_answered : (old new : State) (rows : List Row) → Shown ALL_VERSIONS.now [] old new rows → length rows ≡ 1 → HasOneVersion old.now
one_answered old new rows shown one ours all has =
    let reads = reads_as ALL_VERSIONS.now [] old new library_schema ours _ all_versions.is all_versions.plain all_versions.unlisted rows shown in
    let answer = any_order 0 [] two [] [] old.now.trees refl rows reads.answer in
    let tree = old.now.trees 0 in
    let answered : length rows ≡ length tree = length_permutation _ rows answer ∙ length-map _ _ ∙ ap length (all_pass tree) in
    sym (ap length has) ∙ length-map tree _ ∙ sym answered ∙ one

-- outside a transaction what is there is what was committed
pub one_outside : {X : Type 0} (old last : State) (x : X) → HasCleanDisk last → (IsTrue old.is_open → old.now ≡ old.committed)
    → WasOpen {X = X} (record old { in_transaction = true }) last (Ok x) → (HasCleanDisk last → HasOneVersion old.now) → HasOneVersion old.committed
one_outside old last x clean settled was_open one = subst HasOneVersion (settled (was_open clean refl)) (one clean)
