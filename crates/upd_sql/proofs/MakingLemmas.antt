-- The texts that make the tables, in turn.
use Rattle.upd_sql.proofs.Common.{ℕ, ◌+◌, pos, List, [], ◌∷◌, codes, Result, Ok, Err, IsErr, refl, subst, Null, Int, Text, lit, Error, Database}
use Rattle.sqlite_tied.specs.Compute.{everything}
use Rattle.upd_sql.proofs.Common.{State, Executes, runs_as, HoldsAllRows, Ran, Steps, WasOpen, steps_then, clean_before, inserts, cast_int}
use Rattle.sqlite.specs.Listing.{understood}
use Rattle.upd_sql.proofs.Common.{library_schema, no_rows, HasEmptyTables, Transforms, HoldsTables}
use Rattle.std.proofs.Common.{subst₂}
use Rattle.sqlite_schema.specs.declared.command.Command.TheVariants.{CreateTable}
use Rattle.upd_sql.specs.declared.texts.TheConstants.{CREATE_META, CREATE_IDENTS, CREATE_CARDS, CREATE_ENTRIES, CREATE_TARGETS, CREATE_RUNS, CREATE_STATES}
use Rattle.upd_sql.specs.declared.texts.TheConstants.{CREATE_COUNTS, CREATE_SETTLED, INSERT_VERSION}
use Rattle.upd_sqlite.proofs.Shapes.{creates}
use Rattle.upd_sql.specs.Schema.{meta, idents, cards, entries, targets, runs, states, counts, settled, meta_columns}
use Rattle.upd_sql.specs.Encoded.{version_row}
use Rattle.upd_sql.specs.Making.{schema_up_to, no_rows_in, MakesNext}
use Rattle.upd_sql.proofs.WriteTexts as text

pub makes_meta : MakesNext 0 CREATE_META.now
unfolding understood everything
makes_meta = record { is = refl; plain = (refl, refl); table = meta; defined = refl; lacks = refl; next = refl; rows = refl }

pub makes_idents : MakesNext 1 CREATE_IDENTS.now
unfolding understood everything
makes_idents = record { is = refl; plain = (refl, refl); table = idents; defined = refl; lacks = refl; next = refl; rows = refl }

pub makes_cards : MakesNext 2 CREATE_CARDS.now
unfolding understood everything
makes_cards = record { is = refl; plain = (refl, refl); table = cards; defined = refl; lacks = refl; next = refl; rows = refl }

pub makes_entries : MakesNext 3 CREATE_ENTRIES.now
unfolding understood everything
makes_entries = record { is = refl; plain = (refl, refl); table = entries; defined = refl; lacks = refl; next = refl; rows = refl }

pub makes_targets : MakesNext 4 CREATE_TARGETS.now
unfolding understood everything
makes_targets = record { is = refl; plain = (refl, refl); table = targets; defined = refl; lacks = refl; next = refl; rows = refl }

pub makes_runs : MakesNext 5 CREATE_RUNS.now
unfolding understood everything
makes_runs = record { is = refl; plain = (refl, refl); table = runs; defined = refl; lacks = refl; next = refl; rows = refl }

pub makes_states : MakesNext 6 CREATE_STATES.now
unfolding understood everything
makes_states = record { is = refl; plain = (refl, refl); table = states; defined = refl; lacks = refl; next = refl; rows = refl }

pub makes_counts : MakesNext 7 CREATE_COUNTS.now
unfolding understood everything
makes_counts = record { is = refl; plain = (refl, refl); table = counts; defined = refl; lacks = refl; next = refl; rows = refl }

pub makes_settled : MakesNext 8 CREATE_SETTLED.now
unfolding understood everything
makes_settled = record { is = refl; plain = (refl, refl); table = settled; defined = refl; lacks = refl; next = refl; rows = refl }

-- the next table is made
pub next_made : (n : ℕ) (sql : List ℕ) → MakesNext n sql → (old new : State) (count : ℕ) → Executes sql [] old new (Ok count) → HasEmptyTables n old.now
    → HasEmptyTables (n + 1) new.now
next_made n sql m old new count ran h =
    let w = runs_as sql [] old new (schema_up_to n) h.schema_is CreateTable m.is m.plain count ran in
    subst₂ (λ s rs. HoldsAllRows s rs new.now) m.next m.rows (creates (schema_up_to n) m.table old new (no_rows_in n) _ [] count m.defined m.lacks h w)

-- the version is written
pub version_written : (old new : State) (count : ℕ) → Executes INSERT_VERSION.now [] old new (Ok count) → HasEmptyTables 9 old.now
    → HoldsTables no_rows new.now
version_written old new count ran h =
    let w = runs_as INSERT_VERSION.now [] old new library_schema h.schema_is _ text.insert_version.is text.insert_version.plain count ran in
    subst (λ row. HoldsAllRows library_schema ((row ∷ []) ∷ [] ∷ [] ∷ [] ∷ [] ∷ [] ∷ [] ∷ [] ∷ [] ∷ []) new.now) (rw (cast_int (pos 3)) refl)
    (inserts library_schema 0 0 (codes "meta") meta_columns (1 ∷ []) refl refl (λ _ _. refl) old new (no_rows_in 9) _ [] count h
    (lit Null ∷ lit (Text (codes "version")) ∷ lit (Int (pos 3)) ∷ []) 3 (version_row 3) refl w)

pub transforms_from : {X : Type 0} (P Q : Database → Type 0) (sql : List ℕ) (old new : State) (r : Result X Error) → Ran sql [] old new r
    → ((count : ℕ) → Executes sql [] old new (Ok count) → P old.now → Q new.now)
    → Transforms P Q old new r
transforms_from P Q sql old new (Ok x) ran means =
    record { steps = ran.steps; transformed = λ clean inside h. let ex = ran.executed clean inside in means ex.0 ex.1 h }
transforms_from P Q sql old new (Err e) ran means = record { steps = ran.steps; transformed = λ clean. tt }

pub transforms_then : {X Y : Type 0} (P Q R : Database → Type 0) (a b c : State) (x : X) (r : Result Y Error) → Transforms {X = X} P Q a b (Ok x)
    → Transforms Q R b c r
    → Transforms P R a c r
transforms_then P Q R a b c x (Ok y) p q = record {
  steps = steps_then a b c x (Ok y) p.steps q.steps;
  transformed = λ clean inside h. let early =
      clean_before b c _ q.steps.survives clean in q.transformed clean (p.steps.going early inside) (p.transformed early inside h);
}
transforms_then P Q R a b c x (Err e) p q = record { steps = steps_then a b c x (Err e) p.steps q.steps; transformed = λ clean. tt }

-- the last of some steps ran while the connection was open, so it was open before them
pub opened_before : {X Y : Type 0} (a b c : State) (x : X) (r : Result Y Error) → Steps {X = X} a b (Ok x) → Steps b c r → WasOpen b c r → WasOpen a c r
opened_before a b c x (Ok y) p q was = λ clean inside. let early =
    clean_before b c _ q.survives clean in (p.kept early inside).was_open (was clean (p.going early inside))
opened_before a b c x (Err e) p q was = λ clean. tt

-- a step failed
pub transforms_stop : {X Y : Type 0} (P Q R : Database → Type 0) (a b : State) (d : Error) (r : Result Y Error) → Transforms {X = X} P Q a b (Err d) → IsErr r
    → Transforms P R a b r
transforms_stop P Q R a b d (Ok y) p err = absurd (cc)
transforms_stop P Q R a b d (Err e) p err =
    record { steps = record { going = λ clean. tt; kept = p.steps.kept; survives = p.steps.survives }; transformed = λ clean. tt }
