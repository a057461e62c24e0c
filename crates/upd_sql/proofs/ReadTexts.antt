-- The texts that read rows, and what each is compiled to.
use Rattle.upd_sql.proofs.Common.{◌≡◌, ℕ, false, List, [], ◌∷◌, refl, Binary, Key, Eq, Compare, Term, col, op2, IsPlain, command_of}
use Rattle.sqlite_tied.specs.Compute.{everything}
use Rattle.sqlite.specs.Listing.{understood}
use Rattle.upd_sql.proofs.Common.{plain_query, row_order, library_schema}
use Rattle.sqlite_sql.specs.declared.ops.CompareOp.TheVariants.{Ge}
use Rattle.sqlite_schema.specs.declared.command.Command.TheVariants.{Select}
use Rattle.sqlite.specs.Listing.{reads_listing}
use Rattle.upd_sql.specs.declared.texts.TheConstants as sql

-- A text that reads the table in a tree: which rows, which of their columns, and in which order.
pub record Reads (sql : List ℕ) (tree : ℕ) (tests shown : List Term) (order : List (Term × Key)) : Type 0 where
  pub names : List (List ℕ)
  pub is : command_of (understood library_schema sql) ≡ Select (record { lets = []; body = plain_query tree tests shown order }) names
  pub plain : IsPlain (understood library_schema sql)
  pub unlisted : reads_listing library_schema sql ≡ false

-- ---- the columns of a table

abbrev pub two : List Term
two = col 1 1 ∷ col 1 2 ∷ []

abbrev pub three : List Term
three = col 1 1 ∷ col 1 2 ∷ col 1 3 ∷ []

abbrev pub four : List Term
four = col 1 1 ∷ col 1 2 ∷ col 1 3 ∷ col 1 4 ∷ []

abbrev pub five : List Term
five = col 1 1 ∷ col 1 2 ∷ col 1 3 ∷ col 1 4 ∷ col 1 5 ∷ []

abbrev pub six : List Term
six = col 1 1 ∷ col 1 2 ∷ col 1 3 ∷ col 1 4 ∷ col 1 5 ∷ col 1 6 ∷ []

-- ---- whole tables

pub all_idents : Reads sql.ALL_IDENTS.now 2 [] five []
unfolding understood everything
all_idents = record { names = _; is = refl; plain = (refl, refl); unlisted = refl }

pub all_cards : Reads sql.ALL_CARDS.now 4 [] five []
unfolding understood everything
all_cards = record { names = _; is = refl; plain = (refl, refl); unlisted = refl }

abbrev pub entries_at_tests : List Term
entries_at_tests = op2 (Compare Eq Binary) (col 1 3) (col 0 0) ∷ []

pub entries_at : Reads sql.ENTRIES_AT.now 6 entries_at_tests five []
unfolding understood everything
entries_at = record { names = _; is = refl; plain = (refl, refl); unlisted = refl }

abbrev pub entries_from_tests : List Term
entries_from_tests = op2 (Compare Ge Binary) (col 1 3) (col 0 0) ∷ []

pub entries_from : Reads sql.ENTRIES_FROM.now 6 entries_from_tests five []
unfolding understood everything
entries_from = record { names = _; is = refl; plain = (refl, refl); unlisted = refl }

pub all_targets : Reads sql.ALL_TARGETS.now 8 [] six []
unfolding understood everything
all_targets = record { names = _; is = refl; plain = (refl, refl); unlisted = refl }

pub all_states : Reads sql.ALL_STATES.now 12 [] three []
unfolding understood everything
all_states = record { names = _; is = refl; plain = (refl, refl); unlisted = refl }

pub all_counts : Reads sql.ALL_COUNTS.now 14 [] four []
unfolding understood everything
all_counts = record { names = _; is = refl; plain = (refl, refl); unlisted = refl }

pub runs_in_turn : Reads sql.RUNS_IN_TURN.now 10 [] six row_order
unfolding understood everything
runs_in_turn = record { names = _; is = refl; plain = (refl, refl); unlisted = refl }

pub marks_in_turn : Reads sql.MARKS_IN_TURN.now 16 [] two row_order
unfolding understood everything
marks_in_turn = record { names = _; is = refl; plain = (refl, refl); unlisted = refl }

-- ---- a site's run and mark

abbrev pub run_of_key_tests : List Term
run_of_key_tests = op2 (Compare Eq Binary) (col 1 1) (col 0 0) ∷ op2 (Compare Eq Binary) (col 1 2) (col 0 1) ∷ []

pub run_of_key : Reads sql.RUN_OF_KEY.now 10 run_of_key_tests six row_order
unfolding understood everything
run_of_key = record { names = _; is = refl; plain = (refl, refl); unlisted = refl }

abbrev pub mark_of_site_tests : List Term
mark_of_site_tests = op2 (Compare Eq Binary) (col 1 1) (col 0 0) ∷ []

pub mark_of_site : Reads sql.MARK_OF_SITE.now 16 mark_of_site_tests two row_order
unfolding understood everything
mark_of_site = record { names = _; is = refl; plain = (refl, refl); unlisted = refl }
