-- Values that are looked up by card, one after the other.
use Rattle.std.specs.Prelude.{◌≡◌, if◌then◌else◌, List, [], ◌∷◌, Option, None, Some}
use Rattle.std.specs.BTreeMap.{BTreeMap, get}
use Rattle.std.specs.List.{AllByRecursion}
use Rattle.upd_text.specs.Order.{by_name}
use Rattle.upd_text.specs.declared.card_ref.CardRef.{CardRef}
use Rattle.upd_records.specs.Rows.{same_ref}

module _ {V : Type 0} where
  -- each of these is the value of its card
  abbrev pub AreFound : BTreeMap CardRef V → List (CardRef × V) → Type 0
  AreFound values es = AllByRecursion (λ e. get by_name values e.0 ≡ Some e.1) es

  -- the first of these values, if it is of this card
  abbrev pub first_at : CardRef → List (CardRef × V) → Option V
  first_at card [] = None
  first_at card (e ∷ es) = if same_ref card e.0 then Some e.1 else None
