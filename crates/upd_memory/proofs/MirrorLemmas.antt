-- The tables of a mirror after one change.
use Rattle.upd_memory.proofs.Common.{◌≡◌, ℕ, ◌+◌, ◌==◌, Bool, true, false, not, cond, List, [], ◌∷◌, ◌++◌, length, map, get_or}
use Rattle.upd_memory.proofs.Common.{drop, ◌<◌, None, Some, Option, Result, Ok, Err, refl, ap, sym, ◌∙◌, subst, arith, append-nil, ◌&&◌, ◌||◌, BTreeMap}
use Rattle.upd_memory.proofs.Common.{get, is_at, filter, list_any, option_map_or, lookup, is_eq, nat_cmp, result_ok, Vec, and_parts}
use Rattle.upd_memory.proofs.Common.{Decides-eqb, drop_more, map-append, by_name, CardRef, is_same, Target, same_append, same_filter, same_map, same_of}
use Rattle.upd_memory.proofs.Common.{same_trans, Change, change_view, done, done_all, CardRow, CountRow, EntryRow, IsSame}
use Rattle.upd_memory.proofs.Common.{Rows, same_ref, state_rows, same_length, any_same, count_pair, Agrees, AreCards, AreEntries, AreHomes, AreStatuses}
use Rattle.upd_memory.proofs.Common.{cards_at, entries_at, is_home, filter_twice}
use Rattle.std.proofs.Common.{◌-◌, zero, suc, option_map, OnOk, IfOk, IfSome}
use Rattle.std.specs.Prelude.{◌≤◌, OnSome}
use Rattle.std.proofs.lemmas.Option.{same_Some}
use Rattle.upd_records.proofs.EffectLemmas.{any_append}
use Rattle.upd_records.specs.Rows.{count_rows}
use Rattle.upd_row_store.proofs.AskedLemmas.{filter_made}
use Rattle.std.proofs.Common.{take}
use Rattle.std.proofs.lemmas.List.{take-append-drop}
use Rattle.upd_row_store.proofs.MoveLemmas.{card_stays, deck_stays, done_parts, other_stays}
use Rattle.upd_row_store.proofs.ShiftLemmas.{all_placed}
use Rattle.upd_row_store.specs.declared.moves.Move.{Move}
use Rattle.upd_row_store.specs.Shifts.{moved_all, moved_pos}
use Rattle.upd_memory.specs.declared.mirror.Mirror.{Mirror}
use Rattle.upd_memory.proofs.KeyedLemmas.{any_gone, any_mapped, any_stays, apart_stay, filter_mapped, one_more, some_gone}
use Rattle.upd_memory.proofs.NameOrderLemmas.{alike, one_by_order, turned}

-- what a call ensures where it succeeds, of a success that is read as an option
pub when_ok : {A E P : Type 0} (r : Result A E) (o : Option A) (x : A) → o ≡ result_ok r → o ≡ Some x → OnOk r P → P
when_ok (Ok y) o x is some holds = holds
when_ok (Err e) o x is some holds = absurd (let clash : None ≡ Some x = sym is ∙ some in cc)

-- what a call ensures of the value that it returns
pub ok_value : {A E : Type 0} (P : A → Type 0) (r : Result A E) (o : Option A) (x : A) → o ≡ result_ok r → o ≡ Some x → IfOk r P → P x
ok_value P (Ok y) o x is some holds = subst P (let same : Some y ≡ Some x = sym is ∙ some in same_Some y x same) holds
ok_value P (Err e) o x is some holds = absurd (let clash : None ≡ Some x = sym is ∙ some in cc)

pub ok_some : {A E : Type 0} (P : A → Type 0) (r : Result A E) (o : Option A) → o ≡ result_ok r → IfOk r P → IfSome o P
ok_some P (Ok y) o is holds = subst (λ p. IfSome p P) (sym is) holds
ok_some P (Err e) o is holds = subst (λ p. IfSome p P) (sym is) tt

-- what is found, if it is there
pub some_found : {A B : Type 0} (view : A → B) (o : Option A) (f : Option B) → option_map view o ≡ f → IfSome o (λ x. f ≡ Some (view x))
some_found view None f is = tt
some_found view (Some x) f is = sym is

-- what a call ensures where it succeeds, by other words
pub on_success : {X P Q : Type 0} (o : Option X) → OnSome o P → (P → Q) → OnSome o Q
on_success None holds f = tt
on_success (Some x) holds f = f holds

pub on_fine : {X E P Q : Type 0} (r : Result X E) → OnOk r P → (P → Q) → OnOk r Q
on_fine (Ok x) holds f = f holds
on_fine (Err e) holds f = tt

-- a list that was changed in place up to its end
pub all_over : {A : Type 0} (f : A → A) (k : ℕ) (xs : List A) → length xs ≤ k → map f (take k xs) ++ drop k xs ≡ map f xs
all_over f zero [] le = refl
all_over f (suc k) [] le = refl
all_over f zero (x ∷ xs) le = absurd (omega arith)
all_over f (suc k) (x ∷ xs) le = ap (λ ys. f x ∷ ys) (all_over f k xs (omega arith))

-- ---- the decks of cards

pub homes_more : (old new : BTreeMap CardRef ℕ) (rows : List CardRow) (r : CardRow) → get by_name old r.card ≡ None
    → ((c : CardRef) (d : ℕ) → is_home new c d ≡ cond (is_eq (by_name r.card c)) (r.deck == d) (is_home old c d)) → AreHomes old rows
    → AreHomes new (rows ++ r ∷ [])
homes_more old new rows r none put are c d =
    put c d ∙ go (is_eq (by_name r.card c)) refl ∙ sym (any_append (λ x. (x.deck == d) && same_ref c x.card) rows (r ∷ []))
  where
    first : (a b : Bool) → a ≡ true → (b && a) ≡ b
    first true true e = refl
    first true false e = refl
    first false b e = absurd (cc)

    third : (a b c : Bool) → a ≡ b → c ≡ false → (x : Bool) → a ≡ (b || ((x && c) || false))
    third a true c e f x = e
    third a false true e f x = absurd (cc)
    third a false false e f true = e
    third a false false e f false = e

    second : (a b c : Bool) → a ≡ false → c ≡ true → b ≡ (a || ((b && c) || false))
    second true b c e f = absurd (cc)
    second false b false e f = absurd (cc)
    second false true true e f = refl
    second false false true e f = refl

    go : (b : Bool) → is_eq (by_name r.card c) ≡ b → cond b (r.deck == d) (is_home old c d)
        ≡ (list_any (λ x. (x.deck == d) && same_ref c x.card) rows || (((r.deck == d) && same_ref c r.card) || false))
    go true e =
        let one : r.card ≡ c = one_by_order r.card c e in
        let gone : list_any (λ x. (x.deck == d) && same_ref c x.card) rows ≡ false =
        sym (are c d) ∙ ap (λ o. option_map_or (λ home. home == d) o false) (ap (get by_name old) (sym one) ∙ none) in
        second _ (r.deck == d) (same_ref c r.card) gone (sym (turned r.card c) ∙ e)
    go false e = third (is_home old c d) _ (same_ref c r.card) (are c d) (sym (turned r.card c) ∙ e) (r.deck == d)

pub homes_left : (old new : BTreeMap CardRef ℕ) (rows : List CardRow) (card : CardRef)
    → ((c : CardRef) (d : ℕ) → is_home new c d ≡ cond (is_eq (by_name card c)) false (is_home old c d)) → AreHomes old rows
    → AreHomes new (filter (λ r. not (same_ref card r.card)) rows)
homes_left old new rows card left are c d = left c d ∙ go (is_eq (by_name card c)) refl
  where
    test : CardRow → Bool
    test x = (x.deck == d) && same_ref c x.card

    goes : (b : Bool) → is_eq (by_name card c) ≡ b → (x : CardRow) → ((x.deck == d) && same_ref c x.card) ≡ true → same_ref card x.card ≡ b
    goes b e x is = alike card c x.card (and_parts (x.deck == d) (same_ref c x.card) is).1 ∙ e

    go : (b : Bool) → is_eq (by_name card c) ≡ b → cond b false (is_home old c d)
        ≡ list_any (λ x. (x.deck == d) && same_ref c x.card) (filter (λ r. not (same_ref card r.card)) rows)
    go true e = sym (any_gone (λ x. (x.deck == d) && same_ref c x.card) (λ r. same_ref card r.card) rows (goes true e))
    go false e = are c d ∙ sym (any_stays (λ x. (x.deck == d) && same_ref c x.card) (λ r. same_ref card r.card) rows (goes false e))

-- ---- moves of a deck at once

module _ (deck : ℕ) (ms : List Move) where
  -- the rows of another deck stay
  other_deck : (d : ℕ) (rows : List CardRow) → (deck == d) ≡ false
      → map (moved_all deck ms) (filter (λ r. r.deck == d) rows) ≡ filter (λ r. r.deck == d) rows
  other_deck d [] other = refl
  other_deck d (r ∷ rows) other = go (r.deck == d) refl (other_deck d rows other)
    where
      apart : (r.deck == d) ≡ true → (r.deck == deck) ≡ false
      apart is = let same : r.deck ≡ d = (Decides-eqb r.deck d).0 is in ap (λ x. x == deck) same ∙ flip d deck ∙ other
        where
          flip : (a b : ℕ) → (a == b) ≡ (b == a)
          flip a b = grind arith

      go : (b : Bool) → (r.deck == d) ≡ b → map (moved_all deck ms) (filter (λ x. x.deck == d) rows) ≡ filter (λ x. x.deck == d) rows
          → map (moved_all deck ms) (cond b (r ∷ filter (λ x. x.deck == d) rows) (filter (λ x. x.deck == d) rows))
          ≡ cond b (r ∷ filter (λ x. x.deck == d) rows) (filter (λ x. x.deck == d) rows)
      go true is rest = λ i. other_stays deck ms r (apart is) i ∷ rest i
      go false is rest = rest

  pub cards_placed : {Z : Type 0} (old new : BTreeMap ℕ (Vec CardRow Z)) (rows : List CardRow)
      → ((d : ℕ) → cards_at new d ≡ cond (deck == d) (map (moved_all deck ms) (cards_at old d)) (cards_at old d))
      → AreCards old rows → AreCards new (map (moved_all deck ms) rows)
  cards_placed old new rows put are d =
      subst (λ xs. IsSame xs (filter (λ r. r.deck == d) (map (moved_all deck ms) rows))) (sym (put d))
      (subst (IsSame (cond (deck == d) (map (moved_all deck ms) (cards_at old d)) (cards_at old d)))
      (sym (filter_mapped (λ r. r.deck == d) (moved_all deck ms) rows (λ r. ap (λ x. x == d) (deck_stays deck ms r)))) (go (deck == d) refl))
    where
      go : (b : Bool) → (deck == d) ≡ b → IsSame (cond b (map (moved_all deck ms) (cards_at old d)) (cards_at old d))
          (map (moved_all deck ms) (filter (λ r. r.deck == d) rows))
      go true e = same_map (moved_all deck ms) (are d)
      go false e = subst (IsSame (cards_at old d)) (sym (other_deck d rows e)) (are d)

  pub homes_placed : (homes : BTreeMap CardRef ℕ) (rows : List CardRow) → AreHomes homes rows → AreHomes homes (map (moved_all deck ms) rows)
  homes_placed homes rows are c d =
      are c d ∙ sym (any_mapped (λ x. (x.deck == d) && same_ref c x.card) (moved_all deck ms) rows
      (λ r i. (deck_stays deck ms r i == d) && same_ref c (card_stays deck ms r i)))

  -- a card moves by the pieces of moves
  pub row_placed : (to : ℕ) (r : CardRow) → (r.deck == deck) ≡ true → to ≡ moved_pos ms r.pos → record r { pos = to } ≡ moved_all deck ms r
  row_placed to r here is = ap (λ p. record r { pos = p }) is ∙ sym (all_placed deck 0 ms r here)

-- ---- entries

pub entries_more : {Z : Type 0} (old new : BTreeMap CardRef (Vec EntryRow Z)) (rows : List EntryRow) (r : EntryRow)
    → ((c : CardRef) → entries_at new c ≡ cond (is_eq (by_name r.card c)) (entries_at old r.card ++ r ∷ []) (entries_at old c)) → AreEntries old rows
    → AreEntries new (rows ++ r ∷ [])
entries_more old new rows r put are =
    one_more (λ c x. same_ref c x.card) (entries_at old) (entries_at new) rows r (λ c. put c ∙ go c (is_eq (by_name r.card c)) refl) are
  where
    go : (c : CardRef) (b : Bool) → is_eq (by_name r.card c) ≡ b → cond b (entries_at old r.card ++ r ∷ []) (entries_at old c)
        ≡ cond (same_ref c r.card) (entries_at old c ++ r ∷ []) (entries_at old c)
    go c true e = ap (λ k. entries_at old k ++ r ∷ []) (one_by_order r.card c e)
        ∙ sym (ap (λ b. cond b (entries_at old c ++ r ∷ []) (entries_at old c)) (sym (turned r.card c) ∙ e))
    go c false e = sym (ap (λ b. cond b (entries_at old c ++ r ∷ []) (entries_at old c)) (sym (turned r.card c) ∙ e))

pub entries_left : {Z : Type 0} (old new : BTreeMap CardRef (Vec EntryRow Z)) (rows : List EntryRow) (card : CardRef)
    → ((c : CardRef) → entries_at new c ≡ cond (is_eq (by_name card c)) [] (entries_at old c)) → AreEntries old rows
    → AreEntries new (filter (λ r. not (same_ref card r.card)) rows)
entries_left old new rows card left are =
    some_gone (λ c x. same_ref c x.card) (entries_at old) (entries_at new) rows (λ x. same_ref card x.card) (λ c. is_eq (by_name card c))
    (λ c x. alike card c x.card) left are

left_length : {A : Type 0} (gone : A → Bool) (xs : List A) → length (filter (λ x. not (gone x)) xs) + length (filter gone xs) ≡ length xs
left_length gone [] = refl
left_length gone (x ∷ xs) = go (gone x) (left_length gone xs)
  where
    go : (b : Bool) → length (filter (λ y. not (gone y)) xs) + length (filter gone xs) ≡ length xs
        → length (cond (not b) (x ∷ filter (λ y. not (gone y)) xs) (filter (λ y. not (gone y)) xs)) + length (cond b (x ∷ filter gone xs)
        (filter gone xs))
        ≡ length (x ∷ xs)
    go true rest = grind (arith, rest)
    go false rest = grind (arith, rest)

pub count_left : {Z : Type 0} (old : BTreeMap CardRef (Vec EntryRow Z)) (rows : List EntryRow) (card : CardRef) (count gone : ℕ) → AreEntries old rows
    → count ≡ length rows → gone ≡ length (entries_at old card) → count - gone ≡ length (filter (λ r. not (same_ref card r.card)) rows)
count_left old rows card count gone are is was =
    let same = same_length (are card) in
    omega (arith, left_length (λ r. same_ref card r.card) rows)

-- ---- counts

counts_left : (target : Target) (counts : List (Target × ℕ)) (rows : List CountRow) → IsSame counts (map count_pair rows)
    → IsSame (filter (λ p. not (is_same target p.0)) counts) (map count_pair (filter (λ r. not (is_same target r.target)) rows))
counts_left target counts rows are =
    subst (IsSame (filter (λ p. not (is_same target p.0)) counts)) (filter_made (λ p. not (is_same target p.0)) count_pair rows)
    (same_filter (λ p. not (is_same target p.0)) are)

none_at : (n : ℕ) → n ≡ 0 → (n == 0) ≡ true
none_at n e = (Decides-eqb n 0).1 e

some_at : (n : ℕ) → (n ≡ 0 → ⊥) → (n == 0) ≡ false
some_at n some = go (n == 0) refl
  where
    go : (b : Bool) → (n == 0) ≡ b → b ≡ false
    go true e = absurd (some ((Decides-eqb n 0).0 e))
    go false e = refl

pub count_none : (target : Target) (n : ℕ) (old new : List (Target × ℕ)) (rows : List CountRow) → n ≡ 0
    → new ≡ filter (λ p. not (is_same target p.0)) old → IsSame old (map count_pair rows)
    → IsSame new (map count_pair (filter (λ r. not (is_same target r.target)) rows ++ count_rows target n))
count_none target n old new rows none is are =
    subst (λ b. IsSame new (map count_pair (filter (λ r. not (is_same target r.target)) rows ++ cond b [] (record { target = target; n = n } ∷ []))))
    (sym (none_at n none)) (subst (λ xs. IsSame new (map count_pair xs)) (sym (append-nil (filter (λ r. not (is_same target r.target)) rows)))
    (subst (λ xs. IsSame xs (map count_pair (filter (λ r. not (is_same target r.target)) rows))) (sym is) (counts_left target old rows are)))

pub count_some : (target : Target) (n : ℕ) (old mid new : List (Target × ℕ)) (rows : List CountRow) → (n ≡ 0 → ⊥)
    → mid ≡ filter (λ p. not (is_same target p.0)) old → new ≡ mid ++ (target, n) ∷ [] → IsSame old (map count_pair rows)
    → IsSame new (map count_pair (filter (λ r. not (is_same target r.target)) rows ++ count_rows target n))
count_some target n old mid new rows some is more are =
    subst (λ b. IsSame new (map count_pair (filter (λ r. not (is_same target r.target)) rows ++ cond b [] (record { target = target; n = n } ∷ []))))
    (sym (some_at n some)) (subst (IsSame new) (sym (map-append count_pair (filter (λ r. not (is_same target r.target)) rows)
    (record { target = target; n = n } ∷ [])))
    (subst (λ xs. IsSame xs (map count_pair (filter (λ r. not (is_same target r.target)) rows) ++ (target, n) ∷ [])) (sym (more
    ∙ ap (λ xs. xs ++ (target, n) ∷ []) is))
    (same_append (counts_left target old rows are) (same_of ((target, n) ∷ []) ((target, n) ∷ []) refl))))

-- ---- one change after the other

pub next_change : (cs : List Change) (i : ℕ) (d x : Change) (rows : Rows) → i < length cs → x ≡ get_or cs i d
    → done_all (map change_view (drop (i + 1) cs)) (done (change_view x) rows) ≡ done_all (map change_view (drop i cs)) rows
next_change cs i d x rows within read =
    let split : drop i cs ≡ x ∷ drop (i + 1) cs = drop_more cs i d within ∙ ap (λ y. y ∷ drop (i + 1) cs) (sym read) in
    ap (λ ds. done_all (map change_view ds) rows) (sym split)

pub next_part : (cs : List Change) (n : ℕ) (rows : Rows)
    → done_all (map change_view (drop n cs)) (done_all (map change_view (take n cs)) rows) ≡ done_all (map change_view cs) rows
next_part cs n rows =
    let split : map change_view cs ≡ map change_view (take n cs) ++ map change_view (drop n cs) =
    ap (map change_view) (sym (take-append-drop n cs)) ∙ map-append change_view (take n cs) (drop n cs) in
    done_parts (map change_view (take n cs)) (map change_view (drop n cs)) rows ∙ ap (λ ds. done_all ds rows) (sym split)

-- ---- a mirror of rows that were read

pub agrees_same : (m : Mirror) (a b : Rows) → Agrees m a → IsSame a.idents b.idents → IsSame a.cards b.cards → IsSame a.entries b.entries
    → IsSame a.targets b.targets → IsSame a.states b.states → IsSame (map count_pair a.counts) (map count_pair b.counts) → Agrees m b
agrees_same m a b are idents cards entries targets states counts = record {
  idents = same_trans are.idents idents;
  cards = λ d. same_trans (are.cards d) (same_filter (λ r. r.deck == d) cards);
  homes = λ card d. are.homes card d ∙ any_same (λ r. (r.deck == d) && same_ref card r.card) cards;
  entries = λ card. same_trans (are.entries card) (same_filter (λ r. same_ref card r.card) entries);
  entry_count = are.entry_count ∙ same_length entries;
  targets = same_trans are.targets targets;
  states = λ card. same_trans (are.states card) (same_filter (λ r. same_ref card r.card) states);
  counts = same_trans are.counts counts;
}

-- ---- maps with no entries

pub no_cards : {Z : Type 0} (decks : BTreeMap ℕ (Vec CardRow Z)) → decks.entries ≡ [] → AreCards decks []
no_cards decks none d = same_of _ _ (ap (λ es. option_map_or (λ v. v.items) (lookup (is_at (nat_cmp d)) es) []) none)

pub no_homes : (homes : BTreeMap CardRef ℕ) → homes.entries ≡ [] → AreHomes homes []
no_homes homes none card d = ap (λ es. option_map_or (λ home. home == d) (lookup (is_at (by_name card)) es) false) none

pub no_entries : {Z : Type 0} (entries : BTreeMap CardRef (Vec EntryRow Z)) → entries.entries ≡ [] → AreEntries entries []
no_entries entries none card = same_of _ _ (ap (λ es. option_map_or (λ v. v.items) (lookup (is_at (by_name card)) es) []) none)

pub no_statuses : (statuses : BTreeMap CardRef Bool) → statuses.entries ≡ [] → AreStatuses statuses []
no_statuses statuses none card = same_of _ _ (ap (λ es. state_rows card (lookup (is_at (by_name card)) es)) none)
