-- Rows as pairs: the order of pairs tells all of them apart, and each pair has its row.
use Rattle.upd_examine.proofs.Common.{◌≡◌, ℕ, zero, suc, Bool, true, false, refl, sym, ap, ◌∙◌, nat_cmp, CmpEqualImpliesEq, exact_bytes, exact_pairs}
use Rattle.upd_examine.proofs.Common.{exact_unsigned, slice_cmp, is_eq, ordering_then, Ordering, Equal, CardRef, same_target, Ident, EntryRow, TargetRow}
use Rattle.upd_examine.proofs.Common.{ident_key}
use Rattle.std.specs.Ordering.{bool_cmp}
use Rattle.upd_text.proofs.OrderLemmas.{by_name-exact}
use Rattle.upd_text.specs.Order.{by_name}
use Rattle.upd_core.proofs.CountedLemmas.{same_by_order}
use Rattle.upd_core.specs.Order.{target_order}
use Rattle.upd_core.specs.declared.ident.Kind.{Kind}
use Rattle.upd_core.specs.declared.ident.Kind.TheVariants.{Set, Deck, Common}
use Rattle.upd_records.specs.Rows.{CardRow}
use Rattle.upd_examine.specs.RowKeys.{CardKey, EntryKey, IdentKey, TargetRowKey, kind_number}

exact_bools : CmpEqualImpliesEq bool_cmp
exact_bools true true e = refl
exact_bools true false e = absurd (cc)
exact_bools false true e = absurd (cc)
exact_bools false false e = refl

pub exact_refs : CmpEqualImpliesEq by_name
exact_refs a b = (by_name-exact a b).0

pub exact_targets : CmpEqualImpliesEq target_order
exact_targets s t e = same_target s t (sym (same_by_order s t) ∙ ap is_eq e)

pub exact_states : CmpEqualImpliesEq (λ (x y : CardRef × Bool). ordering_then (by_name x.0 y.0) (bool_cmp x.1 y.1))
exact_states = exact_pairs by_name bool_cmp exact_refs exact_bools

abbrev place_order : CardRef × ℕ → CardRef × ℕ → Ordering
place_order x y = ordering_then (by_name x.0 y.0) (nat_cmp x.1 y.1)

exact_places : CmpEqualImpliesEq place_order
exact_places = exact_pairs by_name nat_cmp exact_refs exact_unsigned

pub exact_card_keys : (x y : CardKey) → ordering_then (place_order x.0 y.0) (ordering_then (nat_cmp x.1.0 y.1.0) (slice_cmp nat_cmp x.1.1 y.1.1)) ≡ Equal
    → x ≡ y
exact_card_keys =
    exact_pairs place_order (λ x y. ordering_then (nat_cmp x.0 y.0) (slice_cmp nat_cmp x.1 y.1)) exact_places
    (exact_pairs nat_cmp (slice_cmp nat_cmp) exact_unsigned exact_bytes)

pub exact_entry_keys : (x y : EntryKey) → ordering_then (place_order x.0 y.0) (ordering_then (nat_cmp x.1.0 y.1.0) (bool_cmp x.1.1 y.1.1)) ≡ Equal → x ≡ y
exact_entry_keys =
    exact_pairs place_order (λ x y. ordering_then (nat_cmp x.0 y.0) (bool_cmp x.1 y.1)) exact_places
    (exact_pairs nat_cmp bool_cmp exact_unsigned exact_bools)

pub exact_target_keys : (x y : TargetRowKey) → ordering_then (place_order x.0 y.0) (target_order x.1 y.1) ≡ Equal → x ≡ y
exact_target_keys = exact_pairs place_order target_order exact_places exact_targets

abbrev flags_order : Bool × Bool → Bool × Bool → Ordering
flags_order x y = ordering_then (bool_cmp x.0 y.0) (bool_cmp x.1 y.1)

pub exact_ident_keys : (x y : IdentKey) → ordering_then (ordering_then (nat_cmp x.0.0 y.0.0) (slice_cmp nat_cmp x.0.1 y.0.1))
    (ordering_then (nat_cmp x.1.0 y.1.0) (flags_order x.1.1 y.1.1)) ≡ Equal → x ≡ y
exact_ident_keys =
    exact_pairs (λ x y. ordering_then (nat_cmp x.0 y.0) (slice_cmp nat_cmp x.1 y.1)) (λ x y. ordering_then (nat_cmp x.0 y.0) (flags_order x.1 y.1))
    (exact_pairs nat_cmp (slice_cmp nat_cmp) exact_unsigned exact_bytes)
    (exact_pairs nat_cmp flags_order exact_unsigned (exact_pairs bool_cmp bool_cmp exact_bools exact_bools))

-- ---- rows of pairs

abbrev pub card_of_key : CardKey → CardRow
card_of_key k = record { card = k.0.0; deck = k.0.1; pos = k.1.0; body = k.1.1 }

abbrev pub entry_of_key : EntryKey → EntryRow
entry_of_key k = record { card = k.0.0; ord = k.0.1; entry = record { ident = k.1.0; active = k.1.1 } }

abbrev pub target_of_key : TargetRowKey → TargetRow
target_of_key k = record { card = k.0.0; ord = k.0.1; target = k.1 }

abbrev kind_of : ℕ → Kind
kind_of zero = Set
kind_of (suc zero) = Deck
kind_of (suc (suc n)) = Common

kind_back : (k : Kind) → kind_of (kind_number k) ≡ k
kind_back Set = refl
kind_back Deck = refl
kind_back Common = refl

abbrev pub ident_of_key : IdentKey → Ident
ident_of_key k = record { name = k.0.1; age = k.0.0; kind = kind_of k.1.0; noprop = k.1.1.0; held = k.1.1.1 }

pub ident_back : (i : Ident) → ident_of_key (ident_key i) ≡ i
ident_back i j = record { name = i.name; age = i.age; kind = kind_back i.kind j; noprop = i.noprop; held = i.held }
