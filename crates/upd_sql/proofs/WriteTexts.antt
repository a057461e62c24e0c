-- The texts that change rows, and what each is compiled to.
use Rattle.upd_sql.proofs.Common.{◌≡◌, ℕ, pos, List, [], ◌∷◌, codes, refl, Binary, Null, Int, Text, Eq, Compare, Term, lit, col, op2, Insert, Delete, Update}
use Rattle.upd_sql.proofs.Common.{Values, IsPlain, command_of, plain_query, library_schema}
use Rattle.sqlite_tied.specs.Compute.{everything}
use Rattle.sqlite.specs.Listing.{understood}
use Rattle.sqlite_sql.specs.declared.ops.ArithOp.TheVariants.{Add, Sub}
use Rattle.sqlite_sql.specs.declared.ops.CompareOp.TheVariants.{Ge, Le}
use Rattle.sqlite_sql.specs.declared.ops.BinaryOp.TheVariants.{Arith}
use Rattle.upd_sql.specs.declared.texts.TheConstants as sql

-- A text puts a row of these terms into the table at a place in the schema.
pub record IsInsert (sql : List ℕ) (k : ℕ) (terms : List Term) (width : ℕ) : Type 0 where
  pub is : command_of (understood library_schema sql) ≡ Insert k (Values terms width)
  pub plain : IsPlain (understood library_schema sql)

-- A text removes the rows that pass tests from the table at a place, in a tree.
pub record IsDelete (sql : List ℕ) (k tree : ℕ) (tests : List Term) : Type 0 where
  pub is : command_of (understood library_schema sql) ≡ Delete k (record { lets = []; body = plain_query tree tests (col 1 0 ∷ []) [] })
  pub plain : IsPlain (understood library_schema sql)

-- A text changes the rows that pass tests in the table at a place, in a tree, to new ones.
pub record IsUpdate (sql : List ℕ) (k tree : ℕ) (tests news : List Term) : Type 0 where
  pub is : command_of (understood library_schema sql) ≡ Update k (record { lets = []; body = plain_query tree tests (col 1 0 ∷ col 1 0 ∷ news) [] })
  pub plain : IsPlain (understood library_schema sql)

-- ---- one row more

abbrev pub given_two : List Term
given_two = lit Null ∷ col 0 0 ∷ col 0 1 ∷ []

abbrev pub given_three : List Term
given_three = lit Null ∷ col 0 0 ∷ col 0 1 ∷ col 0 2 ∷ []

abbrev pub given_four : List Term
given_four = lit Null ∷ col 0 0 ∷ col 0 1 ∷ col 0 2 ∷ col 0 3 ∷ []

abbrev pub given_five : List Term
given_five = lit Null ∷ col 0 0 ∷ col 0 1 ∷ col 0 2 ∷ col 0 3 ∷ col 0 4 ∷ []

abbrev pub given_six : List Term
given_six = lit Null ∷ col 0 0 ∷ col 0 1 ∷ col 0 2 ∷ col 0 3 ∷ col 0 4 ∷ col 0 5 ∷ []

pub insert_version : IsInsert sql.INSERT_VERSION.now 0 (lit Null ∷ lit (Text (codes "version")) ∷ lit (Int (pos 3)) ∷ []) 3
unfolding understood everything
insert_version = record { is = refl; plain = (refl, refl) }

pub insert_ident : IsInsert sql.INSERT_IDENT.now 1 given_five 6
unfolding understood everything
insert_ident = record { is = refl; plain = (refl, refl) }

pub insert_card : IsInsert sql.INSERT_CARD.now 2 given_five 6
unfolding understood everything
insert_card = record { is = refl; plain = (refl, refl) }

pub insert_entry : IsInsert sql.INSERT_ENTRY.now 3 given_five 6
unfolding understood everything
insert_entry = record { is = refl; plain = (refl, refl) }

pub insert_target : IsInsert sql.INSERT_TARGET.now 4 given_six 7
unfolding understood everything
insert_target = record { is = refl; plain = (refl, refl) }

pub insert_run : IsInsert sql.INSERT_RUN.now 5 given_six 7
unfolding understood everything
insert_run = record { is = refl; plain = (refl, refl) }

pub insert_state : IsInsert sql.INSERT_STATE.now 6 given_three 4
unfolding understood everything
insert_state = record { is = refl; plain = (refl, refl) }

pub insert_count : IsInsert sql.INSERT_COUNT.now 7 given_four 5
unfolding understood everything
insert_count = record { is = refl; plain = (refl, refl) }

pub insert_mark : IsInsert sql.INSERT_MARK.now 8 given_two 3
unfolding understood everything
insert_mark = record { is = refl; plain = (refl, refl) }

-- ---- rows taken out

abbrev pub range_tests : List Term
range_tests = op2 (Compare Eq Binary) (col 1 1) (col 0 0) ∷ op2 (Compare Ge Binary) (col 1 2) (col 0 1) ∷ op2 (Compare Le Binary) (col 1 2) (col 0 2) ∷ []

pub delete_cards : IsDelete sql.DELETE_CARDS.now 2 4 range_tests
unfolding understood everything
delete_cards = record { is = refl; plain = (refl, refl) }

pub delete_entries : IsDelete sql.DELETE_ENTRIES.now 3 6 range_tests
unfolding understood everything
delete_entries = record { is = refl; plain = (refl, refl) }

pub delete_targets : IsDelete sql.DELETE_TARGETS.now 4 8 range_tests
unfolding understood everything
delete_targets = record { is = refl; plain = (refl, refl) }

pub delete_states : IsDelete sql.DELETE_STATES.now 6 12 range_tests
unfolding understood everything
delete_states = record { is = refl; plain = (refl, refl) }

abbrev pub delete_count_tests : List Term
delete_count_tests = op2 (Compare Eq Binary) (col 1 1) (col 0 0) ∷ op2 (Compare Eq Binary) (col 1 2) (col 0 1) ∷ op2 (Compare Eq Binary) (col 1 3)
    (col 0 2) ∷ []

pub delete_count : IsDelete sql.DELETE_COUNT.now 7 14 delete_count_tests
unfolding understood everything
delete_count = record { is = refl; plain = (refl, refl) }

abbrev pub first_tests : List Term
first_tests = op2 (Compare Eq Binary) (col 1 1) (col 0 0) ∷ []

pub delete_mark : IsDelete sql.DELETE_MARK.now 8 16 first_tests
unfolding understood everything
delete_mark = record { is = refl; plain = (refl, refl) }

abbrev pub delete_runs_tests : List Term
delete_runs_tests = op2 (Compare Eq Binary) (col 1 1) (col 0 0) ∷ op2 (Compare Le Binary) (col 1 2) (col 0 1) ∷ []

pub delete_runs : IsDelete sql.DELETE_RUNS.now 5 10 delete_runs_tests
unfolding understood everything
delete_runs = record { is = refl; plain = (refl, refl) }

-- ---- rows changed in place

abbrev pub purge_ident_news : List Term
purge_ident_news = col 1 1 ∷ col 1 2 ∷ col 1 3 ∷ col 1 4 ∷ lit (Int (pos 0)) ∷ []

pub purge_ident : IsUpdate sql.PURGE_IDENT.now 1 2 first_tests purge_ident_news
unfolding understood everything
purge_ident = record { is = refl; plain = (refl, refl) }

abbrev pub update_state_news : List Term
update_state_news = col 1 1 ∷ col 1 2 ∷ col 0 2 ∷ []

abbrev pub card_tests : List Term
card_tests = op2 (Compare Eq Binary) (col 1 1) (col 0 0) ∷ op2 (Compare Eq Binary) (col 1 2) (col 0 1) ∷ []

pub update_state : IsUpdate sql.UPDATE_STATE.now 6 12 card_tests update_state_news
unfolding understood everything
update_state = record { is = refl; plain = (refl, refl) }

abbrev pub place_tests : List Term
place_tests = op2 (Compare Eq Binary) (col 1 3) (col 0 0) ∷ op2 (Compare Ge Binary) (col 1 4) (col 0 1) ∷ []

abbrev pub move_back_news : List Term
move_back_news = col 1 1 ∷ col 1 2 ∷ col 1 3 ∷ op2 (Arith Add) (col 1 4) (col 0 2) ∷ col 1 5 ∷ []

pub move_back : IsUpdate sql.MOVE_BACK.now 2 4 place_tests move_back_news
unfolding understood everything
move_back = record { is = refl; plain = (refl, refl) }

abbrev pub move_back_of_tests : List Term
move_back_of_tests = op2 (Compare Eq Binary) (col 1 1) (col 0 0) ∷ op2 (Compare Ge Binary) (col 1 2) (col 0 1) ∷ op2 (Compare Eq Binary) (col 1 3) (col 0 2)
    ∷ op2 (Compare Ge Binary) (col 1 4) (col 0 3) ∷ []

abbrev pub move_back_of_news : List Term
move_back_of_news = col 1 1 ∷ col 1 2 ∷ col 1 3 ∷ op2 (Arith Add) (col 1 4) (col 0 4) ∷ col 1 5 ∷ []

pub move_back_of : IsUpdate sql.MOVE_BACK_OF.now 2 4 move_back_of_tests move_back_of_news
unfolding understood everything
move_back_of = record { is = refl; plain = (refl, refl) }

abbrev pub move_up_news : List Term
move_up_news = col 1 1 ∷ col 1 2 ∷ col 1 3 ∷ op2 (Arith Sub) (col 1 4) (col 0 2) ∷ col 1 5 ∷ []

pub move_up : IsUpdate sql.MOVE_UP.now 2 4 place_tests move_up_news
unfolding understood everything
move_up = record { is = refl; plain = (refl, refl) }
