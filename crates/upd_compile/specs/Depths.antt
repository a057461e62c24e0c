-- The walk by the depth of its calls: a call in a chosen deck has depth 1, and one in a deck that a call of depth k reached has depth k + 1.
use Rattle.std.specs.Prelude.{◌≡◌, ℕ, ◌+◌, ◌≤◌, ◌<◌, true, false, List, [], ◌∷◌, ◌++◌, Some, None}
use Rattle.upd_core.specs.Actives.{ActiveCardView, ActiveDeckView, ActivesView}
use Rattle.upd_text.specs.Lines.{is_call, called}
use Rattle.upd_text.specs.declared.limits.TheConstants.{MAX_DEPTH}
use Rattle.upd_compile.specs.Walk.{WalkEvent, Line, Follow, Depth, Unknown, common_named, text_cards}

mutual
  -- The events of an active card where calls have a depth. A text card is a line. A call down to depth 8 is followed: its deck is walked with
  -- calls one deeper; it is unknown where it names no held common deck. A deeper call is too deep, whatever it names.
  pub data Gives (a : ActivesView) : ℕ → ActiveCardView → List WalkEvent → Type 0 where
    Text : (depth : ℕ) (c : ActiveCardView) → is_call c.text ≡ false → Gives a depth c (Line c ∷ [])
    Followed : (depth : ℕ) (c : ActiveCardView) (d : ActiveDeckView) (events : List WalkEvent) → is_call c.text ≡ true → depth ≤ MAX_DEPTH
        → common_named (called c.text) a ≡ Some d → Meets a (depth + 1) (text_cards d) events → Gives a depth c (Follow ∷ events)
    OfNone : (depth : ℕ) (c : ActiveCardView) → is_call c.text ≡ true → depth ≤ MAX_DEPTH → common_named (called c.text) a ≡ None
        → Gives a depth c (Unknown ∷ [])
    TooDeep : (depth : ℕ) (c : ActiveCardView) → is_call c.text ≡ true → MAX_DEPTH < depth → Gives a depth c (Depth ∷ [])

  -- the events of cards in order, where calls have a depth
  pub data Meets (a : ActivesView) : ℕ → List ActiveCardView → List WalkEvent → Type 0 where
    NoMore : (depth : ℕ) → Meets a depth [] []
    Next : (depth : ℕ) (c : ActiveCardView) (later : List ActiveCardView) (here events : List WalkEvent) → Gives a depth c here → Meets a depth later events
        → Meets a depth (c ∷ later) (here ++ events)

-- the events of a deck whose calls have a depth: those of its cards in order, without its first
abbrev pub Walks : ActivesView → ℕ → ActiveDeckView → List WalkEvent → Type 0
Walks a depth d events = Meets a depth (text_cards d) events
