-- What calls of a store, one after the other, make of what it keeps.
use Rattle.upd_desk.proofs.Common.{◌⊎◌, List, None, inl, inr, subst, RunView, Rows, Shows, ShowsStates, ChangeView, AllFit, LibraryView, Mode, Ghosts, Keeps}
use Rattle.upd_desk.proofs.Common.{Tries, committed, later_twice, ArrivalView, run_of, IsMade, LeadTo, outcome, AddsRun, Becomes, TriesRun}
use Rattle.upd_row_store.proofs.TableLemmas.{shows_committed, states_committed, runs_committed, marks_stay}

-- a commit of changes that lead to the library of a new run adds that run
pub commits_run : (mode : Mode) (a : ArrivalView) (l : LibraryView) (cs : List ChangeView) (rows : Rows)
    → LeadTo cs rows (outcome mode a l).library
    → AddsRun mode a l rows (committed cs (run_of (record { arrival = a; mode = mode; carried = None }) (outcome mode a l).reply) rows)
commits_run mode a l cs rows leads = record {
  library = shows_committed cs run rows (outcome mode a l).library leads.library;
  states = states_committed cs run rows (outcome mode a l).library leads.states;
  runs = runs_committed cs run rows;
  settled = marks_stay cs rows;
}
  where
    run : RunView
    run = run_of (record { arrival = a; mode = mode; carried = None }) (outcome mode a l).reply

module _ {Image : Type 0} (shows : Image → Rows → Type 0) where
  -- what a commit of such changes writes is what a new run makes of the image
  pub becomes_by : (mode : Mode) (a : ArrivalView) (cs : List ChangeView) (run : RunView) (before later : Image)
      → ((rows : Rows) → shows before rows → AllFit cs rows → shows later (committed cs run rows))
      → ((l : LibraryView) → IsMade l → (rows : Rows) → shows before rows → Shows rows l → ShowsStates rows l
      → AllFit cs rows × AddsRun mode a l rows (committed cs run rows))
      → Becomes shows mode a before later
  becomes_by mode a cs run before later writes makes l made rows shown library states =
      let adds = makes l made rows shown library states in
      (committed cs run rows, writes rows shown adds.0, adds.1)

-- ---- calls

module _ {S : Type 0} {meaning : Ghosts S} where
  open meaning use {Image, shows, image, is_open, is_honest, may_leave}

  -- a call that only reads tries nothing
  -- a commit after calls that only read tries to keep a run, where the changes fit and lead to what the run makes of the tables
  pub commit_as_run : (mode : Mode) (a : ArrivalView) (cs : List ChangeView) (run : RunView) (old mid new : S)
      → Keeps meaning old mid
      → Tries meaning (AllFit cs) (committed cs run) mid new
      → (is_honest mid → is_open mid → (l : LibraryView) → IsMade l → (rows : Rows) → shows (image old) rows → Shows rows l → ShowsStates rows l
      → AllFit cs rows × AddsRun mode a l rows (committed cs run rows))
      → TriesRun meaning mode a old new
  commit_as_run mode a cs run old mid new keeps tries makes = record {
    later = later_twice keeps.later tries.later;
    crash = λ honest i may. by honest i (tries.crash honest i may);
  }
    where
      by : is_honest new → (i : Image)
          → may_leave mid i ⊎ (is_open mid × ((rows : Rows) → shows (image mid) rows → AllFit cs rows → shows i (committed cs run rows)))
          → may_leave old i ⊎ (is_open old × Becomes shows mode a (image old) i)
      by honest i (inl may) = inl (keeps.crash (tries.later.honest honest) i may)
      by honest i (inr (is, writes)) =
          let before = tries.later.honest honest in
          let there = subst (λ j. (rows : Rows) → shows j rows → AllFit cs rows → shows i (committed cs run rows)) (keeps.same before is) writes in
          inr (keeps.later.was_open before is, becomes_by shows mode a cs run (image old) i there (makes before is))

  -- the same of a commit that was carried out
  pub commit_becomes : (mode : Mode) (a : ArrivalView) (cs : List ChangeView) (run : RunView) (old mid new : S)
      → Keeps meaning old mid
      → Tries meaning (AllFit cs) (committed cs run) mid new → (is_honest new → is_open new)
      → (is_honest new → (rows : Rows) → shows (image mid) rows → AllFit cs rows → shows (image new) (committed cs run rows))
      → (is_honest mid → (l : LibraryView) → IsMade l → (rows : Rows) → shows (image old) rows → Shows rows l → ShowsStates rows l
      → AllFit cs rows × AddsRun mode a l rows (committed cs run rows))
      → is_honest new → Becomes shows mode a (image old) (image new)
  commit_becomes mode a cs run old mid new keeps tries opens writes makes honest =
      let before = tries.later.honest honest in
      let is = tries.later.was_open honest (opens honest) in
      becomes_by shows mode a cs run (image old) (image new)
      (subst (λ j. (rows : Rows) → shows j rows → AllFit cs rows → shows (image new) (committed cs run rows)) (keeps.same before is) (writes honest))
      (makes before)
