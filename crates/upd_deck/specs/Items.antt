-- The lines of a run and their items.
use Rattle.std.specs.Prelude.{ℕ, ◌+◌, Bool, List, length}
use Rattle.upd_text.specs.declared.card_ref.CardRef.{CardRef}
use Rattle.upd_deck.specs.declared.item.NameRange.{NameRange}
use Rattle.upd_deck.specs.declared.item.IdentIn.{IdentIn}
use Rattle.upd_deck.specs.declared.run.Span.{Span}

-- The item of a line that isn't a comment.
pub data ItemView : Type 0 where
  Text : ItemView
  Call : List ℕ → ItemView
  Ident : List ℕ → ItemView
  Deck : List ℕ → ItemView
  CommonDeck : List ℕ → Bool → ItemView
  Insert : CardRef → ItemView
  Before : CardRef → ItemView
  Delete : CardRef → CardRef → ItemView
  Restore : CardRef → CardRef → ItemView
  Yank : List NameRange → ItemView
  SelYank : List IdentIn → ItemView
  YankDeck : List (List ℕ) → ItemView
  Purge : List NameRange → ItemView
  PurgeFrom : List ℕ → ItemView
  SelPurge : List IdentIn → ItemView
  PurDeck : List NameRange → ItemView
  Compile : List NameRange → ItemView

-- A line: its number in the run, from 1; the span of its text in the run; its text without trailing blanks; and its item.
pub record LineView : Type 0 where
  pub number : ℕ
  pub span : Span
  pub text : List ℕ
  pub item : ItemView

-- the line with a number and an item, whose text begins at an offset of the run
abbrev pub line_view : ℕ → ℕ → List ℕ → ItemView → LineView
line_view number start text item = record { number = number; span = record { start = start; end = start + length text }; text = text; item = item }
