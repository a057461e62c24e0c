-- What is left of a map by card, and the first value there.
use Rattle.upd_memory.proofs.Common.{◌≡◌, Bool, true, false, cond, List, [], ◌∷◌, Option, None, Some, refl, ap, sym, ◌∙◌, is_some, BTreeMap, get, tied_itself}
use Rattle.upd_memory.proofs.Common.{AllByRecursion, is_eq, ordering_reverse, Ordering, Less, Equal, Greater, Included, Unbounded, recursion_from_All}
use Rattle.upd_memory.proofs.Common.{by_name, CardRef, same_ref, AreFound}
use Rattle.std.specs.Prelude.{drop}
use Rattle.std.specs.BTreeMap.Range.{IsEntryInRange, IsInRange, IsRangeOf}
use Rattle.std.specs.Ordering.{is_gt}
use Rattle.std.specs.declared.ops.Bound.{Bound}
use Rattle.upd_memory.specs.Walk.{first_at}
use Rattle.upd_memory.proofs.NameOrderLemmas.{one_ref, refs_total, same_by_order}

pub found_later : {V : Type 0} (values : BTreeMap CardRef V) (es : List (CardRef × V)) → AreFound values es → AreFound values (drop 1 es)
found_later values [] are = tt
found_later values (e ∷ es) are = are.1

-- the values of a range are in the map
pub range_found : {V : Type 0} (values : BTreeMap CardRef V) (low high : Bound CardRef) (es : List (CardRef × V))
    → IsRangeOf by_name low high values es → AreFound values es
range_found {V} values low high es within = each es (recursion_from_All (IsEntryInRange by_name low high values) es within.0)
  where
    each : (fs : List (CardRef × V)) → AllByRecursion (IsEntryInRange by_name low high values) fs → AreFound values fs
    each [] all = tt
    each (f ∷ fs) all = (all.0.1, each fs all.1)

-- the first value from a card on is that of the card, if it has one
pub range_first : {V : Type 0} (values : BTreeMap CardRef V) (card : CardRef) (es : List (CardRef × V))
    → IsRangeOf by_name (Included card) Unbounded values es → first_at card es ≡ get by_name values card
range_first values card [] within = sym (within.5 refl card (ap is_gt (tied_itself refs_total card), tt))
range_first {V} values card (e ∷ es) within = go (same_ref card e.0) refl
  where
    itself : IsInRange by_name (Included card) Unbounded card
    itself = (ap is_gt (tied_itself refs_total card), tt)

    apart : (o : Ordering) → by_name card e.0 ≡ o → same_ref card e.0 ≡ false → is_gt o ≡ false → is_gt (ordering_reverse o) ≡ false → ⊥
    apart Less is other low high = absurd (cc)
    apart Equal is other low high = absurd (let same : true ≡ false = sym (ap is_eq is) ∙ sym (same_by_order card e.0) ∙ other in cc)
    apart Greater is other low high = absurd (cc)

    none : (o : Option V) → get by_name values card ≡ o → same_ref card e.0 ≡ false → None ≡ o
    none None is other = refl
    none (Some value) is other =
        absurd (apart (by_name card e.0) refl other within.1.0.0
        (ap is_gt (sym (refs_total.antisymm e.0 card)) ∙ within.2 card itself (ap is_some is)))

    go : (b : Bool) → same_ref card e.0 ≡ b → cond b (Some e.1) None ≡ get by_name values card
    go true same = sym (ap (get by_name values) (one_ref card e.0 same) ∙ within.1.1)
    go false other = none (get by_name values card) refl other
