-- The tables of a store as lists of rows, and when they show a library.
use Rattle.std.specs.Prelude.{◌≡◌, ℕ, zero, suc, ◌+◌, ◌==◌, Bool, ◌&&◌, if◌then◌else◌, List, [], ◌∷◌, codes, count_by, Option, Some, None}
use Rattle.std.specs.List.{filter, flat_map}
use Rattle.std.specs.Str.{bytes_eq}
use Rattle.upd_core.specs.declared.card.Entry.{Entry}
use Rattle.upd_text.specs.declared.card_ref.CardRef.{CardRef}
use Rattle.upd_core.specs.declared.ident.Ident.{Ident}
use Rattle.upd_core.specs.declared.target.Target.{Target}
use Rattle.upd_core.specs.Library.{CardView, LibraryView, all_decks, ref_of}
use Rattle.upd_core.specs.Sound.{all_cards}
use Rattle.upd_core.specs.Status.{status_of}
use Rattle.upd_core.specs.TargetCounts.{live_count}
use Rattle.upd_core.specs.Targets.{is_same}

-- ---- rows; the first fields are the key

-- A card, its deck (0 for `YANK$$$`), its position there, from 0, and its text.
pub record CardRow : Type 0 where
  pub card : CardRef
  pub deck : ℕ
  pub pos : ℕ
  pub body : List ℕ

-- An entry of a card's history, and its index there, from 0.
pub record EntryRow : Type 0 where
  pub card : CardRef
  pub ord : ℕ
  pub entry : Entry

-- A target of a yank card, and its index there, from 0.
pub record TargetRow : Type 0 where
  pub card : CardRef
  pub ord : ℕ
  pub target : Target

-- A stored run: its site and number, its mode (0 full, 1 quick, 2 normal), its bytes, whether it was accepted, and its reply.
pub record RunView : Type 0 where
  pub site : List ℕ
  pub number : ℕ
  pub mode : ℕ
  pub bytes : List ℕ
  pub accepted : Bool
  pub reply : List ℕ

-- the word of a mode, by its number in a row
abbrev pub mode_word : ℕ → List ℕ
mode_word zero = codes "full"
mode_word (suc zero) = codes "quick"
mode_word (suc (suc n)) = codes "normal"

-- A card, and whether it is active; for a yank card, whether it is live.
pub record StateRow : Type 0 where
  pub card : CardRef
  pub active : Bool

-- A target, and the number of live yank cards that have it.
pub record CountRow : Type 0 where
  pub target : Target
  pub n : ℕ

-- A site, and its mark: its runs up to this number are settled.
pub record MarkRow : Type 0 where
  pub site : List ℕ
  pub mark : ℕ

-- All tables except `meta`. A row of idents is the ident itself.
pub record Rows : Type 0 where
  pub idents : List Ident
  pub cards : List CardRow
  pub entries : List EntryRow
  pub targets : List TargetRow
  pub runs : List RunView
  pub states : List StateRow
  pub counts : List CountRow
  pub settled : List MarkRow

-- ---- the rows of a library

-- the rows of cards of a deck; the first is at position p
abbrev pub card_rows : List Ident → ℕ → ℕ → List CardView → List CardRow
card_rows idents d p [] = []
card_rows idents d p (c ∷ cs) = record { card = ref_of idents c; deck = d; pos = p; body = c.text } ∷ card_rows idents d (p + 1) cs

-- the rows of entries of a card; the first has index n
abbrev pub entry_rows : CardRef → ℕ → List Entry → List EntryRow
entry_rows card n [] = []
entry_rows card n (e ∷ es) = record { card = card; ord = n; entry = e } ∷ entry_rows card (n + 1) es

-- the rows of targets of a card; the first has index n
abbrev pub target_rows : CardRef → ℕ → List Target → List TargetRow
target_rows card n [] = []
target_rows card n (t ∷ ts) = record { card = card; ord = n; target = t } ∷ target_rows card (n + 1) ts

-- the rows of a library; stored runs, statuses, counts and marks are no part of them
abbrev pub rows_of : LibraryView → Rows
rows_of l = record {
  idents = l.idents;
  cards = flat_map (λ d. card_rows l.idents d.ident 0 d.cards) (all_decks l);
  entries = flat_map (λ c. entry_rows (ref_of l.idents c) 0 c.history) (all_cards l);
  targets = flat_map (λ c. target_rows (ref_of l.idents c) 0 c.targets) (all_cards l);
  runs = [];
  states = [];
  counts = [];
  settled = [];
}

-- Two lists have the same elements, each the same number of times, in any order: every test passes equally many elements of both.
pub record IsSame {A : Type 0} (xs ys : List A) : Type 0 where
  pub passes : (test : A → Bool) → count_by test xs ≡ count_by test ys

-- Tables show a library where their idents, cards, entries and targets are exactly the library's rows, in any order.
pub record Shows (rows : Rows) (l : LibraryView) : Type 0 where
  pub idents : IsSame rows.idents (rows_of l).idents
  pub cards : IsSame rows.cards (rows_of l).cards
  pub entries : IsSame rows.entries (rows_of l).entries
  pub targets : IsSame rows.targets (rows_of l).targets

-- ---- statuses and counts

-- whether two references are the same
abbrev pub same_ref : CardRef → CardRef → Bool
same_ref a b = bytes_eq a.name b.name && (a.number == b.number)

-- the status row of a card; none where the card doesn't exist
abbrev pub state_rows : CardRef → Option Bool → List StateRow
state_rows card None = []
state_rows card (Some active) = record { card = card; active = active } ∷ []

-- the count row of a target; none for a count of 0
abbrev pub count_rows : Target → ℕ → List CountRow
count_rows target n = if n == 0 then [] else record { target = target; n = n } ∷ []

-- Tables show the statuses of a library where each card of the library has one row, with its status; each target of a live yank card has one
-- row, with the number of live yank cards that have it; and there are no other rows.
pub record ShowsStates (rows : Rows) (l : LibraryView) : Type 0 where
  pub states : (card : CardRef) → filter (λ r. same_ref card r.card) rows.states ≡ state_rows card (status_of card l)
  pub counts : (target : Target) → filter (λ r. is_same target r.target) rows.counts ≡ count_rows target (live_count l target)
