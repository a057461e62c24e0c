-- Rows in order of their cards.
use Rattle.std.specs.Prelude.{List}
use Rattle.std.specs.List.Sorted.{IsSortedBy}
use Rattle.std.specs.Ordering.{is_lt}
use Rattle.upd_text.specs.Order.{card_order}
use Rattle.upd_text.specs.declared.card_ref.CardRef.{CardRef}

-- rows stand by their cards
abbrev pub AreByCard : {A : Type 0} → (A → CardRef) → List A → Type 0
AreByCard card rows = IsSortedBy (λ a b. is_lt (card_order (card a) (card b))) rows
