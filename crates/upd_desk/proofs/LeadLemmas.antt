-- The row changes of a run, and those of its status update after them, lead tables to the library that it leaves.
use Rattle.upd_desk.proofs.Common.{◌≡◌, ℕ, ◌+◌, ◌<◌, ◌≤◌, ◌^◌, nat_le, true, ◌&&◌, List, [], ◌++◌, length, map, None, Ok, Err, refl, ap, sym, ◌∙◌, subst}
use Rattle.upd_desk.proofs.Common.{arith, AllByRecursion, nat_tests, Fault, DeckView, LibraryView, ChangeView, change_view, done_all, AllFit, Rows, RunView}
use Rattle.upd_desk.proofs.Common.{Shows, ShowsStates, LineView, reading, Reached, applied, touched, Mode, FileView, compile_file_of, and_right, run_goes}
use Rattle.upd_desk.proofs.Common.{committed, affected, altered, AppliedRun, ArrivalView, check_arrival, IsAppliedRun, IsRefusal, AddsRun, Heard, run_of}
use Rattle.upd_desk.proofs.Common.{IsMade, LeadTo, looked_at, Compiled, compiled, outcome, outcome_by}
use Rattle.std.proofs.Common.{sum_by}
use Rattle.std.proofs.lemmas.List.{map-append}
use Rattle.std.proofs.lemmas.List.Sums.{sum_by-cons}
use Rattle.upd_text.specs.declared.limits.TheConstants.{MAX_CARDS, MAX_ENTRIES, MAX_HELD, MAX_INTRODUCED, MAX_TARGETS}
use Rattle.upd_core.specs.Limits.{card_count, entry_count, held_count, is_within_limits, target_count}
use Rattle.upd_core.specs.declared.change.Change.{Change}
use Rattle.upd_diff.specs.States.{row_changes_state}
use Rattle.upd_diff.proofs.FitLemmas.{done_append, fit_append, shows_stay, states_fit}
use Rattle.upd_diff.proofs.ShownRowsLemmas.{fit_row_changes, shown_by_row_changes}
use Rattle.upd_laws.proofs.SoundListLemmas.{and_left}
use Rattle.upd_yank.proofs.RightLemmas.{least_affected}
use Rattle.upd_desk.specs.declared.outcome.RunOutcome.{RunOutcome}
use Rattle.upd_desk.specs.Compiling.{IsOutcomeOf}
use Rattle.upd_desk.proofs.RefusedLemmas.{least_refused}
use Rattle.upd_desk.proofs.StoreLemmas.{commits_run}

-- ---- the cards of `YANK$$$` are few

pub few_yanks : (l : LibraryView) → is_within_limits l ≡ true → length l.yanks < 2 ^ 32
few_yanks l within =
    let a = and_left (nat_le (length l.idents) MAX_INTRODUCED && nat_le (held_count l) MAX_HELD && nat_le (card_count l) MAX_CARDS
    && nat_le (entry_count l) MAX_ENTRIES) (nat_le (target_count l) MAX_TARGETS) within in
    let b = and_left (nat_le (length l.idents) MAX_INTRODUCED && nat_le (held_count l) MAX_HELD && nat_le (card_count l) MAX_CARDS)
    (nat_le (entry_count l) MAX_ENTRIES) a in
    let most : nat_le (card_count l) MAX_CARDS ≡ true
    = and_right (nat_le (length l.idents) MAX_INTRODUCED && nat_le (held_count l) MAX_HELD) (nat_le (card_count l) MAX_CARDS) b in
    let counted = sum_by-cons (λ (d : DeckView). length d.cards) (record { ident = 0; cards = l.yanks }) l.decks in
    small (length l.yanks) (sum_by (λ (d : DeckView). length d.cards) l.decks) l.rest.cards (card_count l) (ap (λ n. l.rest.cards + n) counted) most
  where
    small : (y d r n : ℕ) → n ≡ r + (y + d) → nat_le n MAX_CARDS ≡ true → y < 2 ^ 32
    small y d r n is most = let le : n ≤ MAX_CARDS = grind (arith, nat_tests) in omega arith

-- ---- a run that was applied

-- what was defined of it by the steps that it went through
pub unread_is : (mode : Mode) (bytes : List ℕ) (l : LibraryView) (f : Fault) → reading bytes ≡ Err f → compiled mode bytes l ≡ Err f
unread_is mode bytes l f read = rw read refl

pub unapplied_is : (mode : Mode) (bytes : List ℕ) (l : LibraryView) (lines : List LineView) (f : Fault) → reading bytes ≡ Ok lines
    → applied lines l ≡ Err f → compiled mode bytes l ≡ Err f
unapplied_is mode bytes l lines f read is = rw read (rw is refl)

pub unfiled_is : (mode : Mode) (bytes : List ℕ) (l : LibraryView) (lines : List LineView) (reached : Reached) (f : Fault) → reading bytes ≡ Ok lines
    → applied lines l ≡ Ok reached → compile_file_of mode reached.compile l reached.library ≡ Err f → compiled mode bytes l ≡ Err f
unfiled_is mode bytes l lines reached f read is file = rw read (rw is (rw file refl))

pub compiled_is : (mode : Mode) (bytes : List ℕ) (l : LibraryView) (lines : List LineView) (reached : Reached) (file : FileView)
    → reading bytes ≡ Ok lines → applied lines l ≡ Ok reached → compile_file_of mode reached.compile l reached.library ≡ Ok file
    → compiled mode bytes l ≡ Ok (record { reached = reached; file = file })
compiled_is mode bytes l lines reached file read is written = rw read (rw is (rw written refl))

module _ (lines : List LineView) (l loaded : LibraryView) (reached : Reached) (run : AppliedRun) (made : IsMade l)
    (of_run : IsAppliedRun lines l loaded reached run) where
  -- no more cards have another status than are affected
  pub least : length (altered l reached.library) ≤ length (affected (touched l reached.library) l reached.library)
  least =
      least_affected l reached.library made.sound (run_goes lines l reached of_run.applied)

  pub lead : (updates : List Change) (rows : Rows) → Shows rows l → AllByRecursion (λ c. row_changes_state c ≡ true) (map change_view updates)
      → ShowsStates (done_all (map change_view updates) (done_all (map change_view run.applied.changes.items) rows)) reached.library
      → LeadTo (map change_view (run.applied.changes.items ++ updates)) rows reached.library
  lead updates rows shows only states =
      let first = map change_view run.applied.changes.items in
      let second = map change_view updates in
      let both : map change_view (run.applied.changes.items ++ updates) ≡ first ++ second = map-append change_view run.applied.changes.items updates in
      let carried = done_append first second rows in
      let goes = run_goes lines l reached of_run.applied in
      subst (λ cs. LeadTo cs rows reached.library) (sym both) (record {
        fit = fit_append first second rows (fit_row_changes l reached.library first made.sound goes of_run.row_changes rows shows)
            (states_fit second (done_all first rows) only);
        library = subst (λ (x : Rows). Shows x reached.library) (sym carried)
            (shows_stay second (done_all first rows) reached.library only
            (shown_by_row_changes l reached.library first made.sound goes of_run.row_changes rows shows));
        states = subst (λ (x : Rows). ShowsStates x reached.library) (sym carried) states;
      })

-- ---- outcomes

-- what is known of the outcome of a run that is accepted
pub accepted_outcome : (mode : Mode) (a : ArrivalView) (l : LibraryView) (rows : Rows) (done : Compiled) (changes : List Change) (o : RunOutcome)
    → compiled mode a.bytes l ≡ Ok done → o.reply ≡ (outcome_by a l (Ok done)).reply → o.changes.items ≡ changes
    → LeadTo (map change_view changes) rows done.reached.library → o.work ≡ length (affected (touched l done.reached.library) l done.reached.library)
    → length (altered l done.reached.library) ≤ o.work → IsOutcomeOf mode a l rows o
accepted_outcome mode a l rows done changes o is reply are leads work least = record {
  reply = reply ∙ ap (λ r. (outcome_by a l r).reply) (sym is);
  leads = subst (λ r. LeadTo (map change_view o.changes.items) rows (outcome_by a l r).library) (sym is)
      (subst (λ cs. LeadTo (map change_view cs) rows done.reached.library) (sym are) leads);
  work = work ∙ ap (looked_at l) (sym is);
  least = subst (λ r. length (altered l (outcome_by a l r).library) ≤ o.work) (sym is) least;
}

-- what is known of the outcome of a run that is refused
pub refused_outcome : (mode : Mode) (a : ArrivalView) (l : LibraryView) (rows : Rows) (f : Fault) (o : RunOutcome) → IsMade l → Shows rows l
    → ShowsStates rows l → check_arrival a ≡ Ok mode → compiled mode a.bytes l ≡ Err f → IsRefusal a f o → IsOutcomeOf mode a l rows o
refused_outcome mode a l rows f o made shows states passed is refusal = record {
  reply = refusal.reply mode l passed ∙ ap (λ r. (outcome_by a l r).reply) (sym is);
  leads = subst (λ r. LeadTo (map change_view o.changes.items) rows (outcome_by a l r).library) (sym is)
      (subst (λ cs. LeadTo (map change_view cs) rows l) (sym refusal.changes) (record { fit = tt; library = shows; states = states }));
  work = refusal.work ∙ ap (looked_at l) (sym is);
  least = least_refused mode a l f o.work made.sound is;
}

-- the changes of a new run fit the tables of its library, and a commit of them adds the run
pub outcome_adds : (mode : Mode) (a : ArrivalView) (l : LibraryView) (rows : Rows) (o : RunOutcome) (cs : List ChangeView) (run : RunView)
    → IsOutcomeOf mode a l rows o → map change_view o.changes.items ≡ cs
    → run ≡ run_of (record { arrival = a; mode = mode; carried = None }) o.reply
    → AllFit cs rows × AddsRun mode a l rows (committed cs run rows)
outcome_adds mode a l rows o cs run of_run are is =
    let leads : LeadTo cs rows (outcome mode a l).library = subst (λ cs. LeadTo cs rows (outcome mode a l).library) are of_run.leads in
    let row : run ≡ run_of h (outcome mode a l).reply = is ∙ ap (run_of h) of_run.reply in (
      leads.fit,
      subst (λ r. AddsRun mode a l rows (committed cs r rows)) (sym row) (commits_run mode a l cs rows leads),
    )
  where
    h : Heard
    h = record { arrival = a; mode = mode; carried = None }
