-- The order of card references.
use Rattle.std.specs.Prelude.{Bool}
use Rattle.std.specs.Cmp.Lexicographic.{slice_cmp}
use Rattle.std.specs.Ordering.{nat_cmp, ordering_then}
use Rattle.std.specs.declared.cmp.Ordering.{Ordering}
use Rattle.upd_text.specs.contracts.card_ref.CardRefOrd.TheImpl as ordered
use Rattle.upd_text.specs.contracts.card_ref.CardRefPartialEq.TheImpl as compared
use Rattle.upd_text.specs.declared.card_ref.CardRef.{CardRef}

-- whether two references are the same
abbrev pub is_same_reference : CardRef → CardRef → Bool
is_same_reference = (compared.ghosts).eq

-- the order of references, as derived
abbrev pub card_order : CardRef → CardRef → Ordering
card_order = (ordered.ghosts).cmp

-- by the bytes of the name, then by number
abbrev pub by_name : CardRef → CardRef → Ordering
by_name a b = ordering_then (slice_cmp nat_cmp a.name b.name) (nat_cmp a.number b.number)
