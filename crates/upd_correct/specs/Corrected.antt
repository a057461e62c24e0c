-- What corrections do to the cards and the texts of decks.
use Rattle.std.specs.Prelude.{false, if◌then◌else◌, List, map}
use Rattle.std.specs.List.{filter}
use Rattle.upd_text.specs.Units.{Bytes}
use Rattle.upd_core.specs.declared.ident.Kind.TheVariants.{Deck, Common}
use Rattle.upd_core.specs.declared.ident.Kind.{Kind}
use Rattle.upd_core.specs.declared.target.Target.{Target}
use Rattle.upd_core.specs.Edits.{entered}
use Rattle.upd_core.specs.Library.{CardView, LibraryView, cards_of}
use Rattle.upd_core.specs.Serials.{Serial}
use Rattle.upd_core.specs.Status.{is_active, live_targets}
use Rattle.upd_correct.specs.EditedText.{NewDeck}

-- a card that set z switches off
abbrev pub switched_off : Serial → CardView → CardView
switched_off z c = entered (record { ident = z; active = false }) c

-- the kind of a new deck
abbrev pub kind_of : NewDeck → Kind
kind_of d = if d.common then Common else Deck

-- the active cards of a deck
abbrev pub active_cards : Serial → LibraryView → List CardView
active_cards d l = filter (is_active (live_targets l) d) (cards_of d l)

-- the texts of the cards of a deck that are active where these targets are live
abbrev pub texts_under : List Target → Serial → LibraryView → List Bytes
texts_under live d l = map (λ c. c.text) (filter (is_active live d) (cards_of d l))
