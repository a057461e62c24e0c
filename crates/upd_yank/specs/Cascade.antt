-- The cascade: how stored statuses change when yank cards are inserted, deleted and changed.
use Rattle.std.specs.Prelude.{◌≡◌, ◌⊎◌, ℕ, ◌+◌, ◌==◌, Bool, false, not, ◌&&◌, ◌||◌, if◌then◌else◌, List, [], ◌∷◌, ◌++◌, map, length, Option, None}
use Rattle.std.specs.Map.{lookup, update_all}
use Rattle.std.specs.List.{list_any, filter, AllByRecursion}
use Rattle.std.specs.Option.{option_or}
use Rattle.upd_text.specs.declared.card_ref.CardRef.{CardRef}
use Rattle.upd_core.specs.declared.target.Target.{Target}
use Rattle.upd_core.specs.declared.target.Target.TheVariants.{Set, SetIn, Deck}
use Rattle.upd_records.specs.Rows.{same_ref}
use Rattle.upd_core.specs.Counted.{CountedCardView, others_of, yanks_of}
use Rattle.upd_core.specs.Library.{CardView, LibraryView}
use Rattle.upd_core.specs.Reach.{is_reached}
use Rattle.upd_core.specs.Status.{stays_on}
use Rattle.upd_core.specs.TargetCounts.{count_on, has_target}

-- whether an ident is taken in deck d, by the counts of live cards
abbrev pub is_taken_by : (Target → ℕ) → ℕ → ℕ → Bool
is_taken_by counts d z = not (counts (Set z) == 0) || not (counts (SetIn z d) == 0)

-- a card of deck d is active where its history stays on and no live card takes the deck
abbrev pub is_active_by : (Target → ℕ) → ℕ → CardView → Bool
is_active_by counts d c = stays_on (is_taken_by counts d) c.history && (counts (Deck d) == 0)

-- a card is due to be examined where it is touched, or reached by a flipped target
abbrev pub is_due : (CountedCardView → Bool) → (Target → ℕ) → (Target → ℕ) → CountedCardView → Bool
is_due touched before now k = touched k || is_reached before now k.deck k.view

-- the status of a card: the new one where it is due, else the one before
abbrev pub status_now : (CountedCardView → Bool) → (CountedCardView → Bool) → (Target → ℕ) → (Target → ℕ) → CountedCardView → Bool
status_now touched was before now k = if is_due touched before now k then is_active_by now k.deck k.view else was k

-- The cards of `YANK$$$` that are live now. Each is decided by the counts of the live ones after it, which are younger.
abbrev pub live_now : (CountedCardView → Bool) → (CountedCardView → Bool) → (Target → ℕ) → List CountedCardView → List CardView
live_now touched was before [] = []
live_now touched was before (y ∷ ys) =
    if status_now touched was before (count_on (live_now touched was before ys)) y then y.view ∷ live_now touched was before ys
    else live_now touched was before ys

-- what is found of a card that is due
abbrev pub found_of : (Target → ℕ) → CountedCardView → CardRef × Bool
found_of now k = (k.card, is_active_by now k.deck k.view)

-- what is found of the cards of `YANK$$$` that are due, the youngest first
abbrev pub found_yanks : (CountedCardView → Bool) → (CountedCardView → Bool) → (Target → ℕ) → List CountedCardView → List (CardRef × Bool)
found_yanks touched was before [] = []
found_yanks touched was before (y ∷ ys) =
    found_yanks touched was before ys ++ found_here touched before (count_on (live_now touched was before ys)) y
  where
    found_here : (CountedCardView → Bool) → (Target → ℕ) → (Target → ℕ) → CountedCardView → List (CardRef × Bool)
    found_here touched before now y = if is_due touched before now y then found_of now y ∷ [] else []

-- what is found of the other cards that are due, by the final counts
abbrev pub found_others : (CountedCardView → Bool) → (Target → ℕ) → (Target → ℕ) → List CountedCardView → List (CardRef × Bool)
found_others touched before now cards = map (found_of now) (filter (is_due touched before now) cards)

-- what is found of all cards that are due
abbrev pub found_of_all : (CountedCardView → Bool) → (CountedCardView → Bool) → (Target → ℕ) → LibraryView → List (CardRef × Bool)
found_of_all touched was before l =
    found_yanks touched was before (yanks_of l) ++ found_others touched before (count_on (live_now touched was before (yanks_of l))) (others_of l)

-- the known statuses of these cards, added to others
abbrev pub stay : (CardRef → Option Bool) → List CountedCardView → (CardRef → Option Bool) → CardRef → Option Bool
stay known ks had r = if list_any (λ k. same_ref k.card r) ks then option_or (known r) (had r) else had r

-- The statuses found are added to others: to all known statuses, where cards aren't loaded or the statuses are then as many as these cards; or
-- to those of only these cards, where each card is loaded.
abbrev pub ArePut : (CardRef → Option Bool) → ℕ → List CountedCardView → List CountedCardView → List (CardRef × Bool) → List (CardRef × Bool) → Type 0
ArePut known rest ys os found statuses =
    ((rest ≡ 0 → length statuses ≡ length ys + length os) × ((r : CardRef) → lookup (same_ref r) statuses ≡ update_all same_ref known found r))
    ⊎ ((rest ≡ 0) × ((r : CardRef) → lookup (same_ref r) statuses ≡ update_all same_ref (stay known os (stay known ys (λ _. None))) found r))

-- ---- what the cascade rests on

-- what is known of a card before: where it isn't touched, its stored status is that of its history by the counts before
pub record IsRightBefore (touched was : CountedCardView → Bool) (before : Target → ℕ) (k : CountedCardView) : Type 0 where
  pub status : touched k ≡ false → was k ≡ is_active_by before k.deck k.view

-- no card takes `YANK$$$` as a whole
abbrev pub TakesNoYanks : List CardView → Type 0
TakesNoYanks cards = AllByRecursion (λ c. has_target (Deck 0) c ≡ false) cards

-- the cards themselves
abbrev pub views : List CountedCardView → List CardView
views ks = map (λ k. k.view) ks

-- cards of `YANK$$$`
abbrev pub AreYanks : List CountedCardView → Type 0
AreYanks ks = AllByRecursion (λ k. k.deck ≡ 0) ks
