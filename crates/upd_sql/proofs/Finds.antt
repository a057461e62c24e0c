-- What each text that reads answers.
use Rattle.upd_sql.proofs.Common.{◌≡◌, ℕ, List, [], ◌∷◌, map, filter, refl, sym, ap, subst, ◌∙◌, Result, Ok, Err, IfOk, OnOk, slice_get, Text, Row}
use Rattle.upd_sql.proofs.Common.{State, Shown, IsPlain, Rows, MarkRow, RunView, option_map_or, Error, is_run, is_mark_of, mark_at, run_at}
use Rattle.sqlite.specs.Listing.{understood}
use Rattle.upd_sql.proofs.Common.{library_schema, num, run_row, mark_row, stored, HoldsTables}
use Rattle.sqlite_keyed.proofs.ListLemmas.{slice_get-filter}
use Rattle.upd_sql.specs.First.{first_mark, first_run}
use Rattle.upd_sqlite.proofs.Answers.{shown_same}
use Rattle.upd_sql.proofs.Typed.{reads_exactly}
use Rattle.upd_sql.proofs.Conditions.{run_found, mark_found}
use Rattle.upd_sql.proofs.ReadTexts.{two, six, run_of_key, run_of_key_tests, mark_of_site, mark_of_site_tests}
use Rattle.upd_sql.specs.declared.texts.TheConstants as sql

-- a plain query leaves the tables
pub untouched : {X : Type 0} (items : X → List Row) (sql : List ℕ) (params : Row) (old new : State) (r : Result X Error)
    → IsPlain (understood library_schema sql) → IfOk r (λ x. Shown sql params old new (items x))
    → OnOk r (old.now.schema ≡ library_schema → new.now ≡ old.now)
untouched items sql params old new (Ok x) plain shown = λ schema.
    (shown_same sql params old new (items x) (subst (λ s. IsPlain (understood s sql)) (sym schema) plain) shown).0.now_is
untouched items sql params old new (Err e) plain shown = tt

module _ (old new : State) (rows : List Row) (it : Rows) (h : HoldsTables it old.now) where
  pub runs_found : (site : List ℕ) (number : ℕ) → Shown sql.RUN_OF_KEY.now (Text site ∷ num number ∷ []) old new rows
      → rows ≡ map run_row (filter (is_run site number) it.runs)
  runs_found site number shown =
      reads_exactly 5 10 refl run_row (stored it) it.runs refl _ _ old new rows shown h run_of_key_tests six run_of_key refl refl
      (is_run site number) (run_found site number) (λ r. refl)

  pub marks_found : (site : List ℕ) → Shown sql.MARK_OF_SITE.now (Text site ∷ []) old new rows → rows ≡ map mark_row (filter (is_mark_of site) it.settled)
  marks_found site shown =
      reads_exactly 8 16 refl mark_row (stored it) it.settled refl _ _ old new rows shown h mark_of_site_tests two mark_of_site refl refl
      (is_mark_of site) (mark_found site) (λ r. refl)

-- the first of a site's marks is the site's mark
pub first_is_mark : (site : List ℕ) (it : Rows) → first_mark (filter (is_mark_of site) it.settled) ≡ mark_at site it
first_is_mark site it = as_got (filter (is_mark_of site) it.settled) ∙ ap (λ o. option_map_or (λ m. m.mark) o 0) (slice_get-filter (is_mark_of site) it.settled)
  where
    as_got : (marks : List MarkRow) → first_mark marks ≡ option_map_or (λ m. m.mark) (slice_get marks 0) 0
    as_got [] = refl
    as_got (m ∷ marks) = refl

-- the first of a key's runs is the key's run
pub first_is_run : (site : List ℕ) (number : ℕ) (it : Rows) → first_run (filter (is_run site number) it.runs) ≡ run_at site number it
first_is_run site number it = as_got (filter (is_run site number) it.runs) ∙ slice_get-filter (is_run site number) it.runs
  where
    as_got : (runs : List RunView) → first_run runs ≡ slice_get runs 0
    as_got [] = refl
    as_got (r ∷ runs) = refl

pub on_value : {A B : Type 0} {P Q : A → Type 0} (r : Result A B) → IfOk r P → ((x : A) → P x → Q x) → IfOk r Q
on_value (Ok x) h then = then x h
on_value (Err e) h then = tt
