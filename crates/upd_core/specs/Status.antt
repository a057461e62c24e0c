-- Which idents are taken, and which cards are good, live and active.
use Rattle.std.specs.Prelude.{◌≡◌, ◌<◌, ◌≤◌, ◌==◌, Bool, false, not, ◌&&◌, if◌then◌else◌, List, [], ◌∷◌, slice_get, Option, None}
use Rattle.std.specs.Option.{option_map, option_and_then}
use Rattle.std.specs.List.{list_any, filter, flat_map, AllByRecursion}
use Rattle.upd_core.specs.declared.card.Entry.{Entry}
use Rattle.upd_text.specs.declared.card_ref.CardRef.{CardRef}
use Rattle.upd_core.specs.declared.ident.Ident.{Ident}
use Rattle.upd_core.specs.declared.library.Place.{Place}
use Rattle.upd_core.specs.declared.target.Target.{Target}
use Rattle.upd_core.specs.declared.target.Target.TheVariants.{Set, SetIn, Deck}
use Rattle.upd_core.specs.First.{index_from}
use Rattle.upd_core.specs.Library.{CardView, LibraryView, held_named, is_card, place_of, card_in}
use Rattle.upd_core.specs.Serials.{Serial}

-- whether a target takes in deck d the ident z
abbrev pub takes : Serial → Serial → Target → Bool
takes d z (Set a) = a == z
takes d z (SetIn a e) = (a == z) && (e == d)
takes d z (Deck e) = false

-- whether a target takes all cards of deck d
abbrev pub takes_deck : Serial → Target → Bool
takes_deck d (Set a) = false
takes_deck d (SetIn a e) = false
takes_deck d (Deck e) = e == d

-- an ident is taken in a deck while a live target takes it there
abbrev pub is_taken : List Target → Serial → Serial → Bool
is_taken live d z = list_any (takes d z) live

-- whether there is a last entry and it switches on
abbrev pub ends_on : List Entry → Bool
ends_on [] = false
ends_on (e ∷ []) = e.active
ends_on (e ∷ f ∷ es) = ends_on (f ∷ es)

-- a history stays on where its last entry of an ident that isn't taken switches on
abbrev pub stays_on : (Serial → Bool) → List Entry → Bool
stays_on taken history = ends_on (filter (λ e. not (taken e.ident)) history)

-- a card of deck d is good where its history stays on
abbrev pub is_good : List Target → Serial → CardView → Bool
is_good live d c = stays_on (is_taken live d) c.history

-- the targets of cards, in order
abbrev pub targets_of : List CardView → List Target
targets_of cards = flat_map (λ c. c.targets) cards

-- The live cards of `YANK$$$`, in order. A yank card is live where it is good, given the targets of the live cards after it. These are younger,
-- and only younger cards can take what switched a card.
abbrev pub live_cards : List CardView → List CardView
live_cards [] = []
live_cards (y ∷ ys) = if is_good (targets_of (live_cards ys)) 0 y then y ∷ live_cards ys else live_cards ys

-- whether each card of `YANK$$$` is live, in order
abbrev pub liveness : List CardView → List Bool
liveness [] = []
liveness (y ∷ ys) = is_good (targets_of (live_cards ys)) 0 y ∷ liveness ys

-- the targets of the live cards of a library
abbrev pub live_targets : LibraryView → List Target
live_targets l = targets_of (live_cards l.yanks)

-- a card of deck d is active where it is good and no live target takes the deck
abbrev pub is_active : List Target → Serial → CardView → Bool
is_active live d c = is_good live d c && not (list_any (takes_deck d) live)

-- whether the card that a reference names is active, if there is one
abbrev pub status_of : CardRef → LibraryView → Option Bool
status_of card l = option_and_then (λ p. option_map (is_active (live_targets l) p.deck) (card_in p l)) (place_of card l)

-- The directory and the cards of `YANK$$$`, whether each of these is live, and the targets of the live ones.
pub record LiveView : Type 0 where
  pub idents : List Ident
  pub yanks : List CardView
  pub live : List Bool
  pub targets : List Target

-- the live view of a library
abbrev pub live_of : LibraryView → LiveView
live_of l = record { idents = l.idents; yanks = l.yanks; live = liveness l.yanks; targets = live_targets l }

-- whether the yank card that a reference names is live, if there is one
abbrev pub live_yank : CardRef → LiveView → Option Bool
live_yank card v =
    option_and_then (λ i. option_and_then (slice_get v.live) (index_from (is_card i.age card.number) 0 v.yanks)) (held_named card.name v.idents)

-- whether the card at a place is live, if it is a yank card
abbrev pub yank_at : LibraryView → Place → Option Bool
yank_at l place = if place.deck == 0 then slice_get (liveness l.yanks) place.index else None

-- an ident is older than a serial; `YANK$$$`, which has serial 0, is not
abbrev pub IsOlder : Serial → Serial → Type 0
IsOlder age z = (0 < z) × (z < age)

-- what a target names, ident and deck, is older than a serial
abbrev pub TakesOlder : Serial → Target → Type 0
TakesOlder age (Set z) = IsOlder age z
TakesOlder age (SetIn z d) = IsOlder age z × IsOlder age d
TakesOlder age (Deck d) = IsOlder age d

-- the idents of a card's entries have this serial or a greater one
abbrev pub HasEntriesFrom : Serial → CardView → Type 0
HasEntriesFrom age c = AllByRecursion (λ e. age ≤ e.ident) c.history

-- The order of `YANK$$$`: targets are older than their card; the entries of the card and of every later card are of the card's ident or of
-- younger ones.
abbrev pub IsAged : List CardView → Type 0
IsAged [] = Unit {0}
IsAged (y ∷ ys) = AllByRecursion (TakesOlder y.ident) y.targets × AllByRecursion (HasEntriesFrom y.ident) (y ∷ ys) × IsAged ys

-- `live` is the list of cards that are good, given the targets of `live`
abbrev pub AreLive : List CardView → List CardView → Type 0
AreLive live yanks = live ≡ filter (is_good (targets_of live) 0) yanks
