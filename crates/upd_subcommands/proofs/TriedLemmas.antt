-- A run that was tried: its reply and its warnings, made one after the other.
use Rattle.upd_subcommands.proofs.Common.{◌≡◌, ℕ, List, Option, Result, Ok, Err, ap, inl, inr, sym, subst, Fault, Ghosts, Keeps, Tells}
use Rattle.std.specs.Prelude.{IfErr}
use Rattle.std.specs.Result.{result_map_both}
use Rattle.upd_text.specs.Outcome.{◌>>=◌}
use Rattle.upd_core.specs.Library.{LibraryView}
use Rattle.upd_records.specs.Rows.{Rows, RunView}
use Rattle.upd_row_store.proofs.StoreLemmas.{keeps_keeps}
use Rattle.upd_row_store.specs.Keeping.{FindsRows, IsLost, IsShown}
use Rattle.upd_desk.specs.Holding.{HoldsIn, IsHeld, IsOwed}
use Rattle.upd_desk.specs.Journal.{Journal}
use Rattle.upd_desk.specs.Outcomes.{ReplyView, reply_on}
use Rattle.upd_edit.specs.StayingDecks.{all_by_runs, tried_warnings}
use Rattle.upd_edit.specs.Trying.{tried}
use Rattle.upd_edit.specs.Warnings.{warning_list}
use Rattle.upd_edit.specs.declared.warning.Warning.{Warning}
use Rattle.upd_subcommands.specs.DeskCommands.{IsTriedAs, TellsOfRuns}
use Rattle.upd_subcommands.proofs.QueryAnswers.{told_of_shown}

module _ {S : Type 0} (meaning : Ghosts S) where
  open meaning use {shows, image, is_open, is_honest}

  -- what a read leaves holds the journals that were held before
  pub held_still : (old mid : S) → Keeps meaning old mid → is_honest mid → (journal : Journal) → IsHeld meaning journal old → IsHeld meaning journal mid
  held_still old mid keeps honest journal held = λ is.
      subst (HoldsIn shows journal) (sym (keeps.same honest is)) (held (keeps.later.was_open honest is))

  -- and shows the tables that were shown before
  shown_still : (old mid : S) → Keeps meaning old mid → is_honest mid → (rows : Rows) → (is_open old → IsShown meaning rows old)
      → is_open mid → IsShown meaning rows mid
  shown_still old mid keeps honest rows shown is = subst (λ i. shows i rows) (sym (keeps.same honest is)) (shown (keeps.later.was_open honest is))

  -- no warnings were found
  pub none_tried : (since : Option (List ℕ)) (run : List ℕ) (runs : List RunView) (l : LibraryView) (fault : Fault)
      → IsOwed (warning_list since run l) (Err fault) → IsOwed (tried_warnings since run runs l) (Err fault)
  none_tried since run runs l fault (inl lost) = inl lost
  none_tried since run runs l fault (inr failed) = inr (ap (λ r. r >>= (λ list. Ok (all_by_runs since runs l list))) failed)

  -- what is right of the tables that the store showed is right of the runs in them
  owed_of_rows : {V : Type 0} (items : V → List Warning) (owed : List RunView → List Warning) (result : Result V Fault) (old new : S)
      → FindsRows meaning result old new (λ rows v. items v ≡ owed rows.runs) → IfErr result IsLost
      → is_honest new → (rows : Rows) → IsShown meaning rows old → IsOwed (Ok (owed rows.runs)) (result_map_both items (λ fault. fault) result)
  owed_of_rows items owed (Ok v) old new finds lost honest rows shown = ap Ok (sym (finds honest rows shown))
  owed_of_rows items owed (Err fault) old new finds lost honest rows shown = inl lost

  -- warnings were found, and then the stored runs were asked
  pub tried_by_runs : {V : Type 0} (items : V → List Warning) (since : Option (List ℕ)) (run : List ℕ) (l : LibraryView) (list : List Warning)
      (result : Result V Fault) (old mid new : S) → Tells meaning (λ l. Ok l) (Ok l) old mid → Keeps meaning old mid
      → (is_honest mid → is_open mid) → Keeps meaning mid new → warning_list since run l ≡ Ok list
      → FindsRows meaning result mid new (λ rows v. items v ≡ all_by_runs since rows.runs l list) → IfErr result IsLost
      → TellsOfRuns meaning (tried_warnings since run) (result_map_both items (λ fault. fault) result) old new
  tried_by_runs items since run l list result old mid new tells first opens second is finds lost =
      told_of_shown (tried_warnings since run) l (result_map_both items (λ fault. fault) result) old mid new tells first opens second
      (λ honest rows shown. subst (λ (r : Result (List Warning) Fault). IsOwed (r >>= (λ list. Ok (all_by_runs since rows.runs l list)))
      (result_map_both items (λ fault. fault) result)) (sym is)
      (owed_of_rows items (λ runs. all_by_runs since runs l list) result mid new finds lost honest rows shown))

  pub tried_as : (mode : List ℕ) (since : Option (List ℕ)) (run : List ℕ) (answer : Result ReplyView Fault) (warnings : Result (List Warning) Fault)
      (old mid new : S)
      → Tells meaning (reply_on (tried mode run)) answer old mid → Keeps meaning old mid
      → TellsOfRuns meaning (tried_warnings since run) warnings mid new → Keeps meaning mid new
      → IsTriedAs meaning mode since run answer warnings old new
  tried_as mode since run answer warnings old mid new replies first warns second = record {
    reply = λ honest journal held. replies (second.later.honest honest) journal held;
    warns = λ honest journal held rows shown. warns honest journal (held_still old mid first (second.later.honest honest) journal held) rows
        (shown_still old mid first (second.later.honest honest) rows shown);
    same = keeps_keeps first second;
  }
