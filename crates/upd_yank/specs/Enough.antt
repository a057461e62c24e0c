-- Which libraries are enough for the status update of a run: the library after it, or a part of that.
use Rattle.std.specs.Prelude.{◌≡◌, ◌⊎◌, Bool, false, List, None}
use Rattle.std.specs.List.{AllByRecursion}
use Rattle.upd_text.specs.declared.card_ref.CardRef.{CardRef}
use Rattle.upd_core.specs.Serials.{Serial}
use Rattle.upd_core.specs.Library.{LibraryView}
use Rattle.upd_core.specs.Parts.{part}
use Rattle.upd_core.specs.Sound.{IsWhole}
use Rattle.upd_core.specs.Status.{status_of}
use Rattle.upd_yank.specs.Affected.{affected}

-- Decks that a status update doesn't need: they have no affected card, and the run deleted no card.
pub record AreIdle (touched : List CardRef) (old new : LibraryView) (out : Serial → Bool) : Type 0 where
  pub unaffected : AllByRecursion (λ k. out k.deck ≡ false) (affected touched old new)
  pub staying : (card : CardRef) → status_of card new ≡ None → status_of card old ≡ None

-- a library that is enough for the status update of a run: the whole library after it, or the part of that without idle decks
abbrev pub IsEnough : List CardRef → LibraryView → LibraryView → LibraryView → Type 0
IsEnough touched old new l =
    ((l ≡ new) × IsWhole new) ⊎ ((out : Serial → Bool) × (l ≡ part out new) × AreIdle touched old new out)
