-- How many cards are looked at for an arrival, by what the tables hold.
use Rattle.upd_desk.proofs.Common.{◌≡◌, ℕ, ◌+◌, ◌≤◌, nat_lt, true, List, ◌∷◌, length, Some, None, Ok, refl, ap, sym, ◌∙◌, subst, arith, CountedCardView}
use Rattle.upd_desk.proofs.Common.{LibraryView, RunView, Rows, Shows, ShowsStates, Mode, Ghosts, Keeps, run_at, altered, ArrivalView, check_arrival, Came}
use Rattle.upd_desk.proofs.Common.{Journal, distinct, kept, made_by, mark, library_after, IsMade, looked_at, needed, needed_by, compiled, outcome, Holds}
use Rattle.upd_desk.proofs.Common.{HoldsIn, IsWork, TriesRun}
use Rattle.upd_desk.proofs.Common.{Err, Fault, IsLost, Result, false≢true}
use Rattle.std.specs.Prelude.{IfErr}
use Rattle.upd_row_store.specs.Keeping.{OpensOk}
use Rattle.upd_desk.specs.Holding.{FindsMade, LooksAt, ReadsAtMost, ReadsNeeded}
use Rattle.upd_desk.specs.Made.{work_of}
use Rattle.upd_desk.proofs.AlikeLemmas.{unheard_key}
use Rattle.upd_desk.proofs.AnswerLemmas.{answer_again}
use Rattle.upd_desk.proofs.ArrivesLemmas.{IsAsked, lost_kind}
use Rattle.upd_desk.proofs.JournalLemmas.{heard_new}
use Rattle.upd_desk.proofs.MadeLemmas.{library_made}
use Rattle.upd_desk.proofs.RefusedLemmas.{unaltered}

-- for a key that is kept no card is looked at
work_again : (j : Journal) (a : ArrivalView) (run : RunView) → kept j a.site a.number ≡ Some run → 0 ≡ work_of j a
work_again j a run is = rw is refl

-- for a new key those are looked at that its run can have changed
work_new : (j : Journal) (a : ArrivalView) (mode : Mode) → check_arrival a ≡ Ok mode → kept j a.site a.number ≡ None
    → looked_at (library_after j) (compiled mode a.bytes (library_after j)) ≡ work_of j a
work_new j a mode passed is = rw (is, passed) refl

-- where no run is heard no card has another status
none_altered : (j : Journal) (a : ArrivalView) (n : ℕ) → distinct (Came a ∷ j) ≡ distinct j
    → length (altered (library_after j) (library_after (Came a ∷ j))) ≤ n
none_altered j a n same =
    subst (λ (l : LibraryView). length (altered (library_after j) l) ≤ n) (ap made_by (sym same))
    (subst (λ (ks : List CountedCardView). length ks ≤ n) (sym (unaltered (library_after j) (library_made j).sound)) (omega arith))

-- where a run is heard those cards have that its outcome gives another status
its_altered : (j : Journal) (a : ArrivalView) (mode : Mode) (rows : Rows) (n : ℕ) → Holds j rows → check_arrival a ≡ Ok mode
    → nat_lt (mark j a.site) a.number ≡ true → run_at a.site a.number rows ≡ None
    → length (altered (library_after j) (outcome mode a (library_after j)).library) ≤ n → length (altered (library_after j) (library_after (Came a ∷ j))) ≤ n
its_altered j a mode rows n held passed above none less =
    subst (λ runs. length (altered (library_after j) (made_by runs)) ≤ n)
    (sym (heard_new j a mode passed above (unheard_key j rows a.site a.number held above none))) less

module _ {S : Type 0} {meaning : Ghosts S} where
  open meaning use {shows, image, is_open, is_honest, decks_read_of}

  -- what was held before calls that only read is held after them
  held_there : (old mid : S) → Keeps meaning old mid → is_honest mid → is_open mid → (j : Journal) → (is_open old → HoldsIn shows j (image old))
      → HoldsIn shows j (image mid)
  held_there old mid keeps honest is j held = subst (HoldsIn shows j) (sym (keeps.same honest is)) (held (keeps.later.was_open honest is))

  -- ---- a stored run

  pub work_told : (mode : Mode) (a : ArrivalView) (run : RunView) (old mid : S) → Keeps meaning old mid → (is_honest mid → is_open mid)
      → (is_honest mid → IsAsked meaning mode a (Some run) mid) → is_honest mid → (j : Journal) → (is_open old → HoldsIn shows j (image old)) → IsWork j a 0
  work_told mode a run old mid keeps opens asks honest j held = by (asks honest) (held_there old mid keeps honest (opens honest) j held)
    where
      by : IsAsked meaning mode a (Some run) mid → HoldsIn shows j (image mid) → IsWork j a 0
      by its (rows, shown, holds) = let found = its.found (opens honest) rows shown in (
        work_again j a run (sym (holds.runs a.site a.number) ∙ found),
        none_altered j a 0 (answer_again j a mode rows run holds its.passed (its.above (opens honest) rows shown) found).1,
      )

  -- ---- a new run

  work_kept : (mode : Mode) (a : ArrivalView) (work : ℕ) (old mid new : S) → Keeps meaning old mid
      → TriesRun meaning mode a mid new
      → (is_honest mid → IsAsked meaning mode a None mid) → (is_honest new → is_open new)
      → (is_honest new → (l : LibraryView) → IsMade l → (rows : Rows) → shows (image mid) rows → Shows rows l → ShowsStates rows l
      → work ≡ looked_at l (compiled mode a.bytes l))
      → (is_honest new → (l : LibraryView) → IsMade l → (rows : Rows) → shows (image mid) rows → Shows rows l → ShowsStates rows l
      → length (altered l (outcome mode a l).library) ≤ work)
      → is_honest new → (j : Journal) → (is_open old → HoldsIn shows j (image old)) → IsWork j a work
  work_kept mode a work old mid new keeps tries asks opens looks least honest j held =
      let before = tries.later.honest honest in
      let is = tries.later.was_open honest (opens honest) in
      by is (asks before) (held_there old mid keeps before is j held)
    where
      by : is_open mid → IsAsked meaning mode a None mid → HoldsIn shows j (image mid) → IsWork j a work
      by is its (rows, shown, holds) =
          let above : nat_lt (mark j a.site) a.number ≡ true = rw (← holds.marks a.site) (its.above is rows shown) in (
            looks honest (library_after j) (library_made j) rows shown holds.library holds.states
                ∙ work_new j a mode its.passed (sym (holds.runs a.site a.number) ∙ its.found is rows shown),
            its_altered j a mode rows work holds its.passed above (its.found is rows shown)
                (least honest (library_after j) (library_made j) rows shown holds.library holds.states),
          )

  -- no more decks are read than a new run needs
  reads_kept : (mode : Mode) (a : ArrivalView) (first after next : ℕ) (old mid new : S) → Keeps meaning old mid
      → TriesRun meaning mode a mid new
      → (is_honest mid → IsAsked meaning mode a None mid) → (is_honest new → is_open new) → after ≡ first
      → (is_honest new → (l : LibraryView) → IsMade l → (rows : Rows) → shows (image mid) rows → Shows rows l
      → next ≤ after + length (needed a.bytes l))
      → is_honest new → (j : Journal) → (is_open old → HoldsIn shows j (image old)) → next ≤ first + length (needed_by j a)
  reads_kept mode a first after next old mid new keeps tries asks opens none reads honest j held =
      let before = tries.later.honest honest in
      let is = tries.later.was_open honest (opens honest) in
      by is (asks before) (held_there old mid keeps before is j held)
    where
      by : is_open mid → IsAsked meaning mode a None mid → HoldsIn shows j (image mid) → next ≤ first + length (needed_by j a)
      by is its (rows, shown, holds) =
          let unkept : kept j a.site a.number ≡ None = sym (holds.runs a.site a.number) ∙ its.found is rows shown in
          let same : needed_by j a ≡ needed a.bytes (library_after j) = rw unkept refl in
          subst (λ ds. next ≤ first + length ds) (sym same) (subst (λ n. next ≤ n + length (needed a.bytes (library_after j))) none
          (reads honest (library_after j) (library_made j) rows shown holds.library))

  -- the cards and decks of a new run, whether it is kept or lost
  pub work_of_new : {A : Type 0} (work : A → ℕ) (mode : Mode) (a : ArrivalView) (result : Result A Fault) (old mid new : S) → Keeps meaning old mid
      → TriesRun meaning mode a mid new → (is_honest mid → IsAsked meaning mode a None mid) → OpensOk meaning result new
      → FindsMade meaning result mid new (λ l rows answered. ShowsStates rows l → work answered ≡ looked_at l (compiled mode a.bytes l))
      → FindsMade meaning result mid new (λ l rows answered. ShowsStates rows l → length (altered l (outcome mode a l).library) ≤ work answered)
      → LooksAt meaning a result work old new
  work_of_new work mode a (Ok answered) old mid new keeps tries asks opens looks least =
      work_kept mode a (work answered) old mid new keeps tries asks opens looks least
  work_of_new work mode a (Err f) old mid new keeps tries asks opens looks least = λ honest j held. tt

  pub reads_of_new : {A : Type 0} (mode : Mode) (a : ArrivalView) (result : Result A Fault) (old mid new : S) → Keeps meaning old mid
      → TriesRun meaning mode a mid new → (is_honest mid → IsAsked meaning mode a None mid) → OpensOk meaning result new
      → decks_read_of mid ≡ decks_read_of old → ReadsAtMost meaning result mid new (λ l. length (needed a.bytes l)) → IfErr result IsLost
      → ReadsNeeded meaning a result old new
  reads_of_new mode a (Ok x) old mid new keeps tries asks opens none reads lost =
      (reads_kept mode a _ _ _ old mid new keeps tries asks opens none reads, tt)
  reads_of_new mode a (Err f) old mid new keeps tries asks opens none reads lost =
      (λ honest j held. tt, λ stays. absurd (false≢true (sym stays ∙ lost_kind f lost)))
