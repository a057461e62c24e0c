-- Queries and their answers.
use Rattle.upd_subcommands.proofs.Common.{◌≡◌, ℕ, List, [], ◌∷◌, Option, Result, sym, subst, rules, Fault, Err, Ghosts, IsErrAnd, Keeps, Ok, Tells, inl}
use Rattle.std.specs.Prelude.{false, IfErr, None, Some}
use Rattle.std.specs.Result.{result_map_both}
use Rattle.upd_text.specs.declared.fault.FaultKind.TheVariants.{DeckUnknown}
use Rattle.upd_text.specs.Outcome.{◌>>=◌, at_line, need}
use Rattle.upd_core.specs.Actives.{actives_of}
use Rattle.upd_core.specs.Library.{LibraryView, deck_of}
use Rattle.upd_compile.specs.File.{compile_file_of}
use Rattle.upd_compile.specs.declared.mode.Mode.TheVariants.{Quick}
use Rattle.upd_desk.proofs.QueryLemmas.{compile_keeps, shown_there}
use Rattle.upd_desk.specs.Holding.{IsOwed, is_lost}
use Rattle.upd_edit.specs.Source.{source}
use Rattle.upd_desk.specs.Journal.{library_after}
use Rattle.upd_records.specs.Rows.{Rows, RunView}
use Rattle.upd_row_store.specs.Keeping.{CountsFailure, FindsRows, IsLost, IsShown}
use Rattle.upd_row_store.specs.Tables.{ListsRuns}
use Rattle.upd_row_store.specs.declared.store.StoredRuns.{StoredRuns}
use Rattle.upd_wire.proofs.AskLemmas.{fails_alike}
use Rattle.upd_subcommands.specs.DeskCommands.{IsAnswered, TellsOfRuns, TellsQuery}
use Rattle.upd_words.specs.declared.querying.Query.{Query}

module _ {S : Type 0} {meaning : Ghosts S} where
  -- what was asked is this query
  pub answered_as : {V : Type 0} (items : V → List ℕ) (result : Result V Fault) (query asked : Query) (old new : S) → query ≡ asked
      → TellsQuery meaning asked (result_map_both items (λ fault. fault) result) old new
      → Keeps meaning old new → CountsFailure meaning result old new
      → IsAnswered meaning query (result_map_both items (λ fault. fault) result) old new
  answered_as items result query asked old new is tells same counts =
      let IsRight : Query → Type 0 = λ q. IsAnswered meaning q (result_map_both items (λ fault. fault) result) old new in
      subst IsRight (sym is) (record { tells = tells; same = same; counts = fails_alike items _ result counts })

  -- what is right of the library that was read, and then of the runs that the store showed
  pub told_of_shown : {A : Type 0} (defined : List RunView → LibraryView → Result A Fault) (l : LibraryView) (result : Result A Fault) (old mid new : S)
      → Tells meaning (λ l. Ok l) (Ok l) old mid → Keeps meaning old mid → (meaning.is_honest mid → meaning.is_open mid) → Keeps meaning mid new
      → (meaning.is_honest new → (rows : Rows) → IsShown meaning rows mid → IsOwed (defined rows.runs l) result)
      → TellsOfRuns meaning defined result old new
  told_of_shown defined l result old mid new tells first opens second right honest journal held rows shown =
      let early = second.later.honest honest in
      let is : library_after journal ≡ l = cc (tells early journal held) in
      let there = shown_there old mid first early (opens early) rows (shown (first.later.was_open early (opens early))) in
      subst (λ l. IsOwed (defined rows.runs l) result) (sym is) (right honest rows there)

  -- what is defined of the library and of the runs that were read one after the other
  pub told_of_runs : {A : Type 0} (defined : List RunView → LibraryView → Result A Fault) (l : LibraryView) (found : StoredRuns) (result : Result A Fault)
      (old mid new : S) → Tells meaning (λ l. Ok l) (Ok l) old mid → Keeps meaning old mid → (meaning.is_honest mid → meaning.is_open mid)
      → FindsRows meaning (Ok found) mid new ListsRuns → Keeps meaning mid new → IsOwed (defined found.runs.items l) result
      → TellsOfRuns meaning defined result old new
  told_of_runs defined l found result old mid new tells first opens finds second meets =
      told_of_shown defined l result old mid new tells first opens second
      (λ honest rows shown. subst (λ runs. IsOwed (defined runs l) result) (finds honest rows shown).runs meets)

-- the library or the runs could not be read
pub none_of_runs : {S : Type 0} (meaning : Ghosts S) {A : Type 0} (defined : List RunView → LibraryView → Result A Fault) (fault : Fault)
    (result : Result A Fault) (old new : S) → IsErrAnd result (λ e. e ≡ fault) → IsLost fault → TellsOfRuns meaning defined result old new
none_of_runs meaning defined fault (Ok x) old new is lost = absurd is
none_of_runs meaning defined fault (Err e) old new is lost = λ honest journal held rows shown. inl (subst IsLost (sym is) lost)

-- a list of the tables, seen as bytes
pub seen_rows : {S : Type 0} (meaning : Ghosts S) {V : Type 0} (items : V → List ℕ) (right : Rows → List ℕ → Type 0) (result : Result V Fault)
    (old new : S) → FindsRows meaning result old new (λ rows v. right rows (items v)) → IfErr result IsLost
    → FindsRows meaning (result_map_both items (λ fault. fault) result) old new right × IfErr (result_map_both items (λ fault. fault) result) IsLost
seen_rows meaning items right (Ok x) old new finds lost = (finds, tt)
seen_rows meaning items right (Err e) old new finds lost = ((λ honest. tt), lost)

-- a source that is refused is no failure of a store
pub source_keeps : (name : List ℕ) (l : LibraryView) (f : Fault) → source name l ≡ Err f → is_lost f.kind ≡ false
source_keeps name l f is = by (deck_of name l) is
  where
    by : (o : Option ℕ) → (at_line 0 (need DeckUnknown o) >>= (λ deck. compile_file_of Quick (deck ∷ []) l l)) ≡ Err f → is_lost f.kind ≡ false
    by (Some deck) e = compile_keeps Quick (deck ∷ []) (actives_of l) (actives_of l) f e
    by None e = grind rules
