-- What the tables keep of runs, settled marks and statuses, and what a commit and a settlement make of the tables.
use Rattle.std.specs.Prelude.{◌≡◌, ℕ, ◌==◌, nat_le, Bool, not, ◌&&◌, if◌then◌else◌, List, [], ◌∷◌, ◌++◌, map, Option}
use Rattle.std.specs.Option.{option_map_or}
use Rattle.std.specs.Str.{bytes_eq}
use Rattle.std.specs.List.{find, filter}
use Rattle.std.specs.List.Sorted.{IsSortedBy}
use Rattle.std.specs.Ordering.{is_lt}
use Rattle.upd_text.specs.Order.{by_name}
use Rattle.upd_text.specs.declared.card_ref.CardRef.{CardRef}
use Rattle.upd_core.specs.Order.{key_order, target_key}
use Rattle.upd_core.specs.declared.states.States.{States}
use Rattle.upd_core.specs.declared.target.Target.{Target}
use Rattle.upd_records.specs.Rows.{CountRow, IsSame, MarkRow, Rows, RunView, StateRow}
use Rattle.upd_records.specs.Changes.{ChangeView, done_all}
use Rattle.upd_row_store.specs.declared.store.StoredRuns.{StoredRuns}
use Rattle.upd_row_store.specs.Asked.{is_asked}

-- whether a run is the one of a key, that is of a site and a number
abbrev pub is_run : List ℕ → ℕ → RunView → Bool
is_run site number r = bytes_eq r.site site && (r.number == number)

-- the run that is kept under a key
abbrev pub run_at : List ℕ → ℕ → Rows → Option RunView
run_at site number rows = find (is_run site number) rows.runs

-- whether a mark is a site's
abbrev pub is_mark_of : List ℕ → MarkRow → Bool
is_mark_of site m = bytes_eq m.site site

-- the number up to which a site has settled, 0 where it never did
abbrev pub mark_at : List ℕ → Rows → ℕ
mark_at site rows = option_map_or (λ m. m.mark) (find (is_mark_of site) rows.settled) 0

-- the tables with one more kept run
abbrev pub with_run : RunView → Rows → Rows
with_run run rows = record rows { runs = rows.runs ++ run ∷ [] }

-- one commit: row changes in order, and the run that brought them
abbrev pub committed : List ChangeView → RunView → Rows → Rows
committed changes run rows = with_run run (done_all changes rows)

-- whether a run is one of a site's, up to a number
abbrev pub is_settled : List ℕ → ℕ → RunView → Bool
is_settled site n r = bytes_eq r.site site && nat_le r.number n

-- A settlement: where the number is above the site's mark it becomes the mark, and the site's runs up to it go. Else nothing changes.
abbrev pub settled_to : List ℕ → ℕ → Rows → Rows
settled_to site n rows =
    if nat_le n (mark_at site rows)
    then rows
    else record rows {
      runs = filter (λ r. not (is_settled site n r)) rows.runs;
      settled = filter (λ m. not (is_mark_of site m)) rows.settled ++ record { site = site; mark = n } ∷ [];
    }

-- Stored runs and settled marks that were read from tables: all of them, each in the order of its table.
pub record ListsRuns (rows : Rows) (found : StoredRuns) : Type 0 where
  pub runs : found.runs.items ≡ rows.runs
  pub marks : found.marks.items ≡ rows.settled

-- a card with its status, and a target with its count
abbrev pub state_pair : StateRow → CardRef × Bool
state_pair r = (r.card, r.active)

abbrev pub count_pair : CountRow → Target × ℕ
count_pair r = (r.target, r.n)

-- Statuses and counts that were read from tables: those of their rows, as often, in whatever order.
pub record AreRead (rows : Rows) (found : States) : Type 0 where
  pub states : IsSame found.states.items (map state_pair rows.states)
  pub counts : IsSame found.counts.items (map count_pair rows.counts)

-- The statuses of some cards, and all counts, that were read from tables: those of their rows, as often, in whatever order.
pub record AreReadOf (cards : List CardRef) (rows : Rows) (found : States) : Type 0 where
  pub states : IsSame found.states.items (map state_pair (filter (λ r. is_asked cards r.card) rows.states))
  pub counts : IsSame found.counts.items (map count_pair rows.counts)

-- Statuses stand by the names of their cards' idents, then by the cards' numbers; counts by kind of target (a set, a set in a deck, a deck),
-- then by its ages.
pub record AreByKey (found : States) : Type 0 where
  pub states : IsSortedBy (λ a b. is_lt (by_name a.0 b.0)) found.states.items
  pub counts : IsSortedBy (λ a b. is_lt (key_order (target_key a.0) (target_key b.0))) found.counts.items
