-- `YANK$$$` stays in order of serial, and the targets of a yank are older than it and differ.
use Rattle.upd_laws.proofs.Common.{◌≡◌, ℕ, ◌<◌, ◌≤◌, Bool, true, false, not, ◌&&◌, ◌||◌, List, [], ◌∷◌, ◌++◌, inl, inr, refl, sym, ap, subst, arith}
use Rattle.upd_laws.proofs.Common.{nat_tests, Option, Some, None, ◌==◌, nat_le, Result, Ok, option_map, option_and_then, filter, AllByRecursion, AllZip}
use Rattle.upd_laws.proofs.Common.{Entry, Ident, Target, new_card, without_entries, without_idents, CardView, LibraryView, held_named, is_deck_kind, AreApart}
use Rattle.upd_laws.proofs.Common.{AreAgedFrom, IsAged, IdentIn, FaultKind, each, is_reserved, known_deck, known_ident, bind_ok, holds_of}
use Rattle.std.specs.Prelude.{if◌then◌else◌}
use Rattle.upd_text.specs.declared.fault.FaultKind.TheVariants as fault
use Rattle.upd_core.specs.declared.target.Target.TheVariants.{Set, SetIn, Deck}
use Rattle.upd_core.specs.Library.{deck_of, ident_of}
use Rattle.upd_core.specs.Status.{IsOlder, TakesOlder, HasEntriesFrom}
use Rattle.upd_deck.specs.declared.item.NameRange.{NameRange}
use Rattle.upd_core.specs.Targets.{is_same}
use Rattle.upd_apply.specs.Names.{Ages, ages_by, idents_in, is_in}
use Rattle.upd_apply.specs.Yanks.{deck_targets, decks_yanked, once, pair_targets, pairs_yanked, range_targets, sets_yanked, yanked}
use Rattle.upd_laws.proofs.SoundListLemmas.{and_right, both, or_none_left, or_none_right, is_same_number, all_append, all_both, all_filter, all_map, all_pass}
use Rattle.upd_laws.proofs.SoundListLemmas.{zip_all}
use Rattle.upd_laws.proofs.SoundCardLemmas.{IsEntered, all_without}
use Rattle.upd_laws.proofs.SoundIdentLemmas.{all_from, found_from}
use Rattle.upd_laws.proofs.SoundOutcomeLemmas.{each_all, need_ok, refusal_ok}

-- ---- order of serial

pub aged_end : (z n : ℕ) (text : List ℕ) (targets : List Target) (yanks : List CardView) → AllByRecursion (TakesOlder z) targets
    → AllByRecursion (λ c. c.ident ≤ z) yanks → IsAged yanks → IsAged (yanks ++ new_card z n text targets ∷ [])
aged_end z n text targets [] older young aged = (older, (((omega arith), tt), tt), tt)
aged_end z n text targets (y ∷ ys) older young aged = (
  aged.0,
  all_append (HasEntriesFrom y.ident) (y ∷ ys) (new_card z n text targets ∷ []) aged.1
      ((young.0, tt), tt),
  aged_end z n text targets ys older young.1 aged.2,
)

entries_from : (age : ℕ) (e : Entry) (x y : CardView) → age ≤ e.ident → IsEntered e x y → HasEntriesFrom age x → HasEntriesFrom age y
entries_from age e x y young (inl same) from = subst (HasEntriesFrom age) (sym same) from
entries_from age e x y young (inr same) from =
    subst (HasEntriesFrom age) (sym same) (all_append (λ (f : Entry). age ≤ f.ident) x.history (e ∷ []) from (young, tt))

pub same_ident : (e : Entry) (x y : CardView) → IsEntered e x y → y.ident ≡ x.ident
same_ident e x y (inl same) = ap (λ (c : CardView). c.ident) same
same_ident e x y (inr same) = ap (λ (c : CardView). c.ident) same

pub same_number_of : (e : Entry) (x y : CardView) → IsEntered e x y → y.number ≡ x.number
same_number_of e x y (inl same) = ap (λ (c : CardView). c.number) same
same_number_of e x y (inr same) = ap (λ (c : CardView). c.number) same

pub same_targets : (e : Entry) (x y : CardView) → IsEntered e x y → y.targets ≡ x.targets
same_targets e x y (inl same) = ap (λ (c : CardView). c.targets) same
same_targets e x y (inr same) = ap (λ (c : CardView). c.targets) same

pub aged_entered : (e : Entry) (xs ys : List CardView) → AllZip (IsEntered e) xs ys → AllByRecursion (λ c. c.ident ≤ e.ident) xs → IsAged xs → IsAged ys
aged_entered e [] [] zip young aged = tt
aged_entered e [] (y ∷ ys) zip young aged = absurd zip
aged_entered e (x ∷ xs) [] zip young aged = tt
aged_entered e (x ∷ xs) (y ∷ ys) zip young aged =
    let older : AllByRecursion (TakesOlder y.ident) y.targets = rw (same_ident e x y zip.0, same_targets e x y zip.0) aged.0 in
    let from : AllByRecursion (HasEntriesFrom x.ident) (y ∷ ys) =
    zip_all (IsEntered e) (HasEntriesFrom x.ident) (HasEntriesFrom x.ident) (x ∷ xs) (y ∷ ys)
    (λ a b r h. entries_from x.ident e a b young.0 r h) zip aged.1 in
    (older, subst (λ age. AllByRecursion (HasEntriesFrom age) (y ∷ ys)) (sym (same_ident e x y zip.0)) from, aged_entered e xs ys zip.1 young.1 aged.2)

pub aged_without : (gone : ℕ → Bool) (yanks : List CardView) → IsAged yanks → IsAged (without_idents gone yanks)
aged_without gone [] aged = tt
aged_without gone (y ∷ ys) aged = go (gone y.ident) refl (aged_without gone ys aged.2)
  where
    fewer : (c : CardView) → HasEntriesFrom y.ident c → HasEntriesFrom y.ident (without_entries gone c)
    fewer c from = all_filter (λ (e : Entry). y.ident ≤ e.ident) (λ e. not (gone e.ident)) c.history from

    go : (b : Bool) → gone y.ident ≡ b → IsAged (without_idents gone ys) → IsAged (without_idents gone (y ∷ ys))
    go true e rest = rw e rest
    go false e rest =
        rw e (aged.0, (fewer y aged.1.0, all_without (HasEntriesFrom y.ident) (HasEntriesFrom y.ident) gone ys (λ c f from. fewer c from) aged.1.1), rest)

-- ---- targets

-- targets that a yank by set z may have
pub record AreYanked (z : ℕ) (found : List Target) : Type 0 where
  pub older : AllByRecursion (TakesOlder z) found
  pub apart : AreApart found

is_same_itself : (t : Target) → is_same t t ≡ true
is_same_itself (Set a) = is_same_number a a refl
is_same_itself (SetIn a d) = both (a == a) (d == d) (is_same_number a a refl) (is_same_number d d refl)
is_same_itself (Deck d) = is_same_number d d refl

-- a target that the test distinguishes from t isn't t
other_target : (t u : Target) → not (is_same t u) ≡ true → t ≡ u → ⊥
other_target t u other same =
    let itself : is_same t u ≡ true = subst (λ v. is_same t v ≡ true) same (is_same_itself t) in absurd (let bad = rw itself at other in cc)

apart_filter : {A : Type 0} (test : A → Bool) (xs : List A) → AreApart xs → AreApart (filter test xs)
apart_filter test [] apart = tt
apart_filter test (x ∷ xs) apart = of (test x) (apart_filter test xs apart.1)
  where
    of : (b : Bool) → AreApart (filter test xs) → AreApart (if b then x ∷ filter test xs else filter test xs)
    of true rest = (all_filter (λ y. x ≡ y → ⊥) test xs apart.0, rest)
    of false rest = rest

once_apart : (found : List Target) → AreApart (once is_same found)
once_apart [] = tt
once_apart (t ∷ found) =
    (all_pass (λ u. t ≡ u → ⊥) _ (once is_same found) (other_target t), apart_filter (λ u. not (is_same t u)) (once is_same found) (once_apart found))

all_once : (P : Target → Type 0) (found : List Target) → AllByRecursion P found → AllByRecursion P (once is_same found)
all_once P [] all = tt
all_once P (t ∷ found) all = (all.0, all_filter P (λ u. not (is_same t u)) (once is_same found) (all_once P found all.1))

-- what holds of the targets of each field holds of those of the yank, which differ
yanked_are : {A : Type 0} (z : ℕ) (targets : A → Result (List Target) FaultKind) (fields : List A) (t : List Target)
    → ((field : A) (found : List Target) → targets field ≡ Ok found → AllByRecursion (TakesOlder z) found) → yanked targets fields ≡ Ok t → AreYanked z t
yanked_are z targets fields t older h =
    bind_ok (each targets fields) _ t (AreYanked z t) h (λ found e h1.
    holds_of (AreYanked z) _ t h1 (record {
      older = all_once (TakesOlder z) found (each_all (TakesOlder z) targets fields found older e);
      apart = once_apart found;
    }))

older_in : (ages : Ages) (z : ℕ) (l : LibraryView) → AreAgedFrom 1 l.idents → nat_le z ages.to ≡ false → AllByRecursion (IsOlder z) (idents_in ages l)
older_in ages z l from e =
    all_map (IsOlder z) (λ (i : Ident). i.age) _ (all_both (λ (i : Ident). 0 < i.age) (λ (i : Ident). i.age < z) _
    (all_from 1 _ l.idents from) (all_pass (λ (i : Ident). i.age < z) _ l.idents (λ i f. go i f)))
  where
    go : (i : Ident) → (i.held && is_in ages i.age) ≡ true → i.age < z
    go i f = let below = and_right (nat_le ages.from i.age) (nat_le i.age ages.to) (and_right i.held (is_in ages i.age) f) in grind (arith, nat_tests)

ident_positive : (name : List ℕ) (l : LibraryView) (z : ℕ) → AreAgedFrom 1 l.idents → known_ident name l ≡ Ok z → 0 < z
ident_positive name l z from h =
    refusal_ok (is_reserved name) fault.Reserved _ z (0 < z) h (λ e h1.
    need_ok fault.IdentUnknown (ident_of name l) z (0 < z) h1 (λ f. go (held_named name l.idents) refl f))
  where
    go : (o : Option Ident) → held_named name l.idents ≡ o → option_map (λ (i : Ident). i.age) o ≡ Some z → 0 < z
    go None e f = absurd (cc)
    go (Some i) e f = let same : i.age ≡ z = cc in let low = found_from 1 _ l.idents i from e in omega arith

deck_positive : (name : List ℕ) (l : LibraryView) (d : ℕ) → AreAgedFrom 1 l.idents → known_deck name l ≡ Ok d → 0 < d
deck_positive name l d from h =
    refusal_ok (is_reserved name) fault.Reserved _ d (0 < d) h (λ e h1.
    need_ok fault.DeckUnknown (deck_of name l) d (0 < d) h1 (λ f. go (held_named name l.idents) refl f))
  where
    age_in : Bool → ℕ → Option ℕ
    age_in b a = if b then Some a else None

    aged : (b : Bool) (a : ℕ) → age_in b a ≡ Some d → a ≡ d
    aged true a e = cc
    aged false a e = absurd (cc)

    go : (o : Option Ident) → held_named name l.idents ≡ o → option_and_then (λ (i : Ident). if is_deck_kind i.kind then Some i.age else None) o ≡ Some d
        → 0 < d
    go None e f = absurd (cc)
    go (Some i) e f = let same = aged (is_deck_kind i.kind) i.age f in let low = found_from 1 _ l.idents i from e in omega arith

pub sets_are : (z : ℕ) (l : LibraryView) (ranges : List NameRange) (t : List Target) → AreAgedFrom 1 l.idents → sets_yanked ranges z l ≡ Ok t → AreYanked z t
sets_are z l ranges t from h = yanked_are z (range_targets z l) ranges t one h
  where
    one : (range : NameRange) (found : List Target) → range_targets z l range ≡ Ok found → AllByRecursion (TakesOlder z) found
    one range found h =
        bind_ok (ages_by known_ident range l) _ found (AllByRecursion (TakesOlder z) found) h (λ ages e h1.
        refusal_ok (nat_le z ages.to) fault.YankSelf _ found (AllByRecursion (TakesOlder z) found) h1 (λ f h2.
        holds_of (AllByRecursion (TakesOlder z)) _ found h2 (all_map (TakesOlder z) Set (idents_in ages l) (older_in ages z l from f))))

pub pairs_are : (z : ℕ) (l : LibraryView) (pairs : List IdentIn) (t : List Target) → AreAgedFrom 1 l.idents → pairs_yanked pairs z l ≡ Ok t → AreYanked z t
pairs_are z l pairs t from h = yanked_are z (pair_targets z l) pairs t one h
  where
    one : (pair : IdentIn) (found : List Target) → pair_targets z l pair ≡ Ok found → AllByRecursion (TakesOlder z) found
    one pair found h =
        bind_ok (known_deck pair.deck l) _ found (AllByRecursion (TakesOlder z) found) h (λ d e h1.
        bind_ok (known_ident pair.ident l) _ found (AllByRecursion (TakesOlder z) found) h1 (λ y g h2.
        refusal_ok (nat_le z d || nat_le z y) fault.YankSelf _ found (AllByRecursion (TakesOlder z) found) h2 (λ f h3.
        let left = or_none_left (nat_le z d) (nat_le z y) f in
        let right = or_none_right (nat_le z d) (nat_le z y) f in
        let deck : IsOlder z d = (deck_positive pair.deck l d from e, grind (arith, nat_tests)) in
        let ident : IsOlder z y = (ident_positive pair.ident l y from g, grind (arith, nat_tests)) in
        holds_of (AllByRecursion (TakesOlder z)) _ found h3 ((ident, deck), tt))))

pub decks_are : (z : ℕ) (l : LibraryView) (names : List (List ℕ)) (t : List Target) → AreAgedFrom 1 l.idents → decks_yanked names z l ≡ Ok t → AreYanked z t
decks_are z l names t from h = yanked_are z (deck_targets z l) names t one h
  where
    one : (name : List ℕ) (found : List Target) → deck_targets z l name ≡ Ok found → AllByRecursion (TakesOlder z) found
    one name found h =
        bind_ok (known_deck name l) _ found (AllByRecursion (TakesOlder z) found) h (λ d e h1.
        refusal_ok (nat_le z d) fault.YankSelf _ found (AllByRecursion (TakesOlder z) found) h1 (λ f h2.
        let deck : IsOlder z d = (deck_positive name l d from e, grind (arith, nat_tests)) in
        holds_of (AllByRecursion (TakesOlder z)) _ found h2 (deck, tt)))
