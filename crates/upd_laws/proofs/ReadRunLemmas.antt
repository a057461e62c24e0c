-- Runs that were read: each card has the text of a line, and its number is at most the number of lines up to it.
use Rattle.upd_laws.proofs.Common.{◌≡◌, ℕ, zero, suc, ◌+◌, ◌-◌, ◌<◌, ◌≤◌, Bool, true, false, List, [], ◌∷◌, ◌++◌, map, length, take, drop, refl, sym, subst}
use Rattle.upd_laws.proofs.Common.{arith, Option, Some, None, Result, Ok, Err, ◌==◌, insert, IsTrue, IfSome, AllByRecursion, Fault, MAX_RUN_LINES, is_name}
use Rattle.upd_laws.proofs.Common.{at_line, Entry, Kind, Target, introduced, next_age, new_card, unheld, entered, without_idents, with_deck, with_card}
use Rattle.upd_laws.proofs.Common.{with_yank, with_entries, purged, entered_range, purged_in, CardView, DeckView, LibraryView, empty, all_decks, is_deck}
use Rattle.upd_laws.proofs.Common.{with_cards, all_cards, ItemView, LineView, CurrentSet, InsertPoint, Nowhere, End, Inside, State, Reached, applied, started}
use Rattle.upd_laws.proofs.Common.{stepped, new_name_of, Edit, Stays, NewSet, NewDeck, AddsAtEnd, AddsInside, Switches, AddsYank, Purges, PurgesIn, carried}
use Rattle.upd_laws.proofs.Common.{ended, step, bind_ok, holds_of, line_is, Fits, of_step, purges_keep, HasLineTexts, IsLineText, IsOfRun, WereRead}
use Rattle.upd_laws.proofs.Common.{after_run, after_runs, flat}
use Rattle.upd_core.specs.declared.ident.Ident as ident
use Rattle.upd_core.specs.declared.ident.Kind.TheVariants as kind
use Rattle.upd_laws.proofs.ReadLineLemmas.{BringsName, IsReadLine, run_read}
use Rattle.upd_laws.proofs.SoundListLemmas.{all_append, all_each, all_flat, all_map, all_weaker, more_all, at_first_all}
use Rattle.upd_laws.proofs.SoundCardLemmas.{changed, decks_with, idents_with, insert_more, more_with_yank, more_with_deck, all_purged, all_purged_in}
use Rattle.upd_laws.proofs.SoundRunLemmas.{reached_by}

-- ---- each edit

abbrev Named : ident.Ident → Type 0
Named i = IsTrue (is_name i.name)

all_with : (P : CardView → Type 0) (age : ℕ) (change : List CardView → List CardView) (l : LibraryView)
    → ((cards : List CardView) → AllByRecursion P cards → AllByRecursion P (change cards)) → AllByRecursion P (all_cards l)
    → AllByRecursion P (all_cards (with_cards age change l))
all_with P age change l k all =
    subst (λ ds. AllByRecursion P (flat ds)) (sym (decks_with age change l))
    (all_flat P (λ (d : DeckView). d.cards) _
    (at_first_all (is_deck age) (changed change) (λ d. AllByRecursion P d.cards) (all_decks l) (λ d f h. k d.cards h)
    (all_each P (λ (d : DeckView). d.cards) (all_decks l) all)))

made_with : (age : ℕ) (change : List CardView → List CardView) (l : LibraryView)
    → ((cards : List CardView) → AllByRecursion IsOfRun cards → AllByRecursion IsOfRun (change cards)) → HasLineTexts l → HasLineTexts (with_cards age change l)
made_with age change l k made =
    record { names = subst (AllByRecursion Named) (sym (idents_with age change l)) made.names; cards = all_with IsOfRun age change l k made.cards }

made_card : (d behind : ℕ) (c : CardView) (l : LibraryView) → IsOfRun c → HasLineTexts l → HasLineTexts (with_card d behind c l)
made_card d behind c l fits made =
    made_with d (λ cards. insert cards (length cards - behind) c) l
    (λ cards all. more_all IsOfRun c cards _ (insert_more c cards (length cards - behind)) fits all) made

all_take : {A : Type 0} (P : A → Type 0) (n : ℕ) (xs : List A) → AllByRecursion P xs → AllByRecursion P (take n xs)
all_take P zero xs all = tt
all_take P (suc n) [] all = tt
all_take P (suc n) (x ∷ xs) all = (all.0, all_take P n xs all.1)

all_drop : {A : Type 0} (P : A → Type 0) (n : ℕ) (xs : List A) → AllByRecursion P xs → AllByRecursion P (drop n xs)
all_drop P zero xs all = all
all_drop P (suc n) [] all = tt
all_drop P (suc n) (x ∷ xs) all = all_drop P n xs all.1

made_entries : (d from to : ℕ) (e : Entry) (l : LibraryView) → HasLineTexts l → HasLineTexts (with_entries d from to e l)
made_entries d from to e l made =
    made_with d (entered_range from to e) l
    (λ cards all.
    let range = drop from (take (to + 1) cards) in
    let fit : AllByRecursion IsOfRun range = all_drop IsOfRun from (take (to + 1) cards) (all_take IsOfRun (to + 1) cards all) in
    let same : AllByRecursion IsOfRun (map (entered e) range) =
    all_map IsOfRun (entered e) range (all_weaker IsOfRun (λ c. IsOfRun (entered e c)) range (λ c h. h) fit) in
    all_append IsOfRun (take from cards ++ map (entered e) range) (drop (to + 1) cards)
    (all_append IsOfRun (take from cards) (map (entered e) range) (all_take IsOfRun from cards all) same) (all_drop IsOfRun (to + 1) cards all)) made

made_introduced : (name : List ℕ) (sort : Kind) (noprop : Bool) (l : LibraryView) → is_name name ≡ true → HasLineTexts l
    → HasLineTexts (introduced name sort noprop l)
made_introduced name sort noprop l named made = record { names = all_append Named l.idents _ made.names (named, tt); cards = made.cards }

made_deck : (a : ℕ) (c : CardView) (l : LibraryView) → IsOfRun c → HasLineTexts l → HasLineTexts (with_deck (record { ident = a; cards = c ∷ [] }) l)
made_deck a c l fits made = record { names = made.names; cards = more_all IsOfRun c (all_cards l) _ (more_with_deck a c l) fits made.cards }

made_yank : (c : CardView) (l : LibraryView) → IsOfRun c → HasLineTexts l → HasLineTexts (with_yank c l)
made_yank c l fits made = record { names = made.names; cards = more_all IsOfRun c (all_cards l) _ (more_with_yank c l) fits made.cards }

pub made_purged : (gone : ℕ → Bool) (l : LibraryView) → HasLineTexts l → HasLineTexts (purged gone l)
made_purged gone l made = record {
  names = all_map Named (unheld gone) l.idents (all_weaker Named (λ i. Named (unheld gone i)) l.idents (λ i h. h) made.names);
  cards = all_purged IsOfRun IsOfRun gone l (λ c e h. h) made.cards;
}

made_purged_in : (d z : ℕ) (l : LibraryView) → HasLineTexts l → HasLineTexts (purged_in d z l)
made_purged_in d z l made = record {
  names = subst (AllByRecursion Named) (sym (idents_with d (without_idents (λ x. x == z)) l)) made.names;
  cards = all_purged_in IsOfRun d (λ x. x == z) l (λ c e h. h) made.cards;
}

-- ---- each line

-- a number from 1 to k
abbrev IsUpTo : ℕ → ℕ → Type 0
IsUpTo k n = (0 < n) × (n ≤ k)

abbrev IsSpotUpTo : ℕ → InsertPoint → Type 0
IsSpotUpTo k Nowhere = Unit {0}
IsSpotUpTo k (End d n) = IsUpTo k n
IsSpotUpTo k (Inside d behind) = Unit {0}

-- a state whose next card number is at most k
record IsMade (k : ℕ) (s : State) : Type 0 where
  pub library : HasLineTexts s.library
  pub current_set : IfSome s.current_set (λ (h : CurrentSet). IsUpTo k h.next)
  pub insert_point : IsSpotUpTo k s.insert_point

more_hand : (k : ℕ) (current_set : Option CurrentSet) → IfSome current_set (λ (h : CurrentSet). IsUpTo k h.next)
    → IfSome current_set (λ (h : CurrentSet). IsUpTo (k + 1) h.next)
more_hand k None up = tt
more_hand k (Some current_set) up = (up.0, let most = up.1 in omega arith)

more_spot : (k : ℕ) (insert_point : InsertPoint) → IsSpotUpTo k insert_point → IsSpotUpTo (k + 1) insert_point
more_spot k Nowhere up = tt
more_spot k (End d n) up = (up.0, let most = up.1 in omega arith)
more_spot k (Inside d behind) up = tt

more_made : (k : ℕ) (s : State) → IsMade k s → IsMade (k + 1) s
more_made k s made = record {
  library = made.library;
  current_set = more_hand k s.current_set made.current_set;
  insert_point = more_spot k s.insert_point made.insert_point;
}

ended_made : (k : ℕ) (l : LibraryView) → HasLineTexts l → IsMade k (ended l)
ended_made k l made = record { library = made; current_set = tt; insert_point = tt }

-- the next number of the current set is up to k
hand_up : (k : ℕ) (s : State) (c : CurrentSet) → s.current_set ≡ Some c → IsMade k s → IsUpTo k c.next
hand_up k s c held made = subst (λ o. IfSome o (λ (h : CurrentSet). IsUpTo k h.next)) held made.current_set

is_of_run : (k z n : ℕ) (text added : List ℕ) (targets : List Target) → k ≤ MAX_RUN_LINES → IsUpTo k n → IsLineText text → added ≡ text
    → IsOfRun (new_card z n added targets)
is_of_run k z n text added targets few up fits same = let most = up.1 in (subst IsLineText (sym same) fits, up.0, omega arith)

name_is : (item : ItemView) (name : List ℕ) → new_name_of item ≡ Some name → BringsName item → is_name name ≡ true
name_is item name is named = subst (λ o. IfSome o (λ n. IsTrue (is_name n))) is named

edit_made : (k : ℕ) (item : ItemView) (text : List ℕ) (s : State) (e : Edit) → 0 < k → k ≤ MAX_RUN_LINES → IsLineText text → BringsName item
    → Fits item text s e → IsMade k s → IsMade (k + 1) (carried e s)
edit_made k item text s (NewSet name) some few line named fits made = record {
  library = made_introduced name kind.Set false s.library (name_is item name fits.named named) made.library;
  current_set = (omega arith, omega arith);
  insert_point = tt;
}
edit_made k item text s (NewDeck name sort noprop first) some few line named fits made =
    let l = introduced name sort noprop s.library in
    let c : IsOfRun (new_card (next_age s.library) 1 first []) = is_of_run k (next_age s.library) 1 text first [] few (omega arith, some) line fits.2 in
    record {
      library = made_deck (next_age s.library) (new_card (next_age s.library) 1 first []) l c
          (made_introduced name sort noprop s.library (name_is item name fits.0.named named) made.library);
      current_set = more_hand k s.current_set made.current_set;
      insert_point = (omega arith, omega arith);
    }
edit_made k item text s (AddsAtEnd d n added) some few line named fits made =
    let up : IsUpTo k n = subst (IsSpotUpTo k) fits.0 made.insert_point in
    let most = up.1 in
    record {
      library = made_card d 0 (new_card d n added []) s.library (is_of_run k d n text added [] few up line fits.1) made.library;
      current_set = more_hand k s.current_set made.current_set;
      insert_point = (omega arith, omega arith);
    }
edit_made k item text s (AddsInside d after c added) some few line named fits made =
    let up = hand_up k s c fits.held made in
    let most = up.1 in
    record {
      library = made_card d after (new_card c.ident c.next added []) s.library
          (is_of_run k c.ident c.next text added [] few up line fits.same_text) made.library;
      current_set = (omega arith, omega arith);
      insert_point = more_spot k s.insert_point made.insert_point;
    }
edit_made k item text s (Switches active c p q) some few line named fits made = record {
  library = made_entries p.deck p.index q.index (record { ident = c.ident; active = active }) s.library made.library;
  current_set = more_hand k s.current_set made.current_set;
  insert_point = tt;
}
edit_made k item text s (AddsYank c added found) some few line named fits made =
    let up = hand_up k s c fits.held made in
    let most = up.1 in
    record {
      library = made_yank (new_card c.ident c.next added found) s.library (is_of_run k c.ident c.next text added found few up line fits.same_text) made.library;
      current_set = (omega arith, omega arith);
      insert_point = tt;
    }
edit_made k item text s (Purges gone) some few line named fits made = ended_made (k + 1) _ (made_purged gone s.library made.library)
edit_made k item text s (PurgesIn ages) some few line named fits made =
    ended_made (k + 1) _ (purges_keep HasLineTexts ages s.library (λ a m h. made_purged_in a.deck a.ident m h) made.library)
edit_made k item text s Stays some few line named fits made = more_made k s made
edit_made k item text s _ some few line named fits made =
    record { library = made.library; current_set = more_hand k s.current_set made.current_set; insert_point = tt }

-- ---- lines and runs

steps_made : (k : ℕ) (lines : List LineView) (s t : State) → 0 < k → k + length lines ≤ MAX_RUN_LINES + 1 → AllByRecursion IsReadLine lines → IsMade k s
    → stepped lines s ≡ Ok t → HasLineTexts t.library
steps_made k [] s t some few fit made h = holds_of (λ (x : State). HasLineTexts x.library) s t h made.library
steps_made k (line ∷ lines) s t some few fit made h =
    bind_ok (at_line line.number (step line s)) _ t (HasLineTexts t.library) h (λ x e.
    let after = of_step (IsMade (k + 1)) line s x (line_is line.number (step line s) x e)
    (λ e fits within. edit_made k line.item line.text s e some (omega arith) fit.0.0 fit.0.1 fits made) in
    steps_made (k + 1) lines x t (omega arith) (omega arith) fit.1 after)

pub run_made : (lines : List LineView) (l : LibraryView) (r : Reached) → WereRead lines → HasLineTexts l → applied lines l ≡ Ok r → HasLineTexts r.library
run_made lines l r were made h =
    let read = run_read lines were in
    let short = read.short in
    reached_by HasLineTexts lines l r
    (λ s e. steps_made 1 lines (started l) s (omega arith) (omega arith) read.lines_fit (record { library = made; current_set = tt; insert_point = tt }) e) h

pub empty_made : HasLineTexts empty
empty_made = record { names = tt; cards = tt }

pub runs_made : (runs : List (List LineView)) (l : LibraryView) → AllByRecursion WereRead runs → HasLineTexts l → HasLineTexts (after_runs runs l)
runs_made [] l read made = made
runs_made (run ∷ runs) l read made = runs_made runs (after_run l (applied run l)) read.1 (one (applied run l) refl)
  where
    one : (r : Result Reached Fault) → applied run l ≡ r → HasLineTexts (after_run l r)
    one (Ok reached) e = run_made run l reached read.0 made e
    one (Err fault) e = made
