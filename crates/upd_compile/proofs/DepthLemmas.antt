-- Walks by the depth of their calls are walks by the levels left.
use Rattle.upd_compile.proofs.Common.{◌≡◌, ℕ, zero, suc, ◌+◌, ◌↔◌, Bool, true, false, if◌then◌else◌, List, [], ◌∷◌, Option, Some, None, refl, sym, ap, subst}
use Rattle.upd_compile.proofs.Common.{arith, flat_map, ActiveCardView, ActiveDeckView, ActivesView, is_call, called, MAX_DEPTH, WalkEvent, Line, Follow}
use Rattle.upd_compile.proofs.Common.{Depth, card_events, common_named, text_cards, walk}
use Rattle.upd_compile.specs.Depths.{Gives, Meets, Walks, Text, Followed, OfNone, TooDeep, NoMore, Next}
use Rattle.upd_compile.specs.Walk.{call_events}
use Rattle.upd_compile.proofs.WalkLemmas.{events-text, events-unknown}

-- the number of levels left at a depth
abbrev pub AreLeft : ℕ → ℕ → Type 0
AreLeft levels depth = levels + depth ≡ MAX_DEPTH + 1

-- the events of a call where no level is left
events-deep : (levels : ℕ) (a : ActivesView) (c : ActiveCardView) → levels ≡ zero → is_call c.text ≡ true → card_events levels a c ≡ Depth ∷ []
events-deep zero a c none call = rw call refl
events-deep (suc levels) a c none call = absurd (omega arith)

-- the events by depth and those by levels are one list
mutual
  given-is : (a : ActivesView) (depth : ℕ) (c : ActiveCardView) (events : List WalkEvent) → Gives a depth c events
      → (levels : ℕ) → AreLeft levels depth → events ≡ card_events levels a c
  given-is a _ _ _ (Text depth c text) levels left = sym (events-text levels a c text)
  given-is a _ _ _ (Followed depth c d events call within named met) zero left = absurd (omega arith)
  given-is a _ _ _ (Followed depth c d events call within named met) (suc levels) left =
      rw (call, named) (ap (λ es. Follow ∷ es) (met-is a (depth + 1) (text_cards d) events met levels (omega arith)))
  given-is a _ _ _ (OfNone depth c call within none) levels left = sym (events-unknown levels a c (omega arith) call none)
  given-is a _ _ _ (TooDeep depth c call deep) levels left = sym (events-deep levels a c (omega arith) call)

  met-is : (a : ActivesView) (depth : ℕ) (cards : List ActiveCardView) (events : List WalkEvent) → Meets a depth cards events
      → (levels : ℕ) → AreLeft levels depth → events ≡ flat_map (card_events levels a) cards
  met-is a _ _ _ (NoMore depth) levels left = refl
  met-is a _ _ _ (Next depth c later here events given met) levels left =
      rw (← given-is a depth c here given levels left, ← met-is a depth later events met levels left) refl

-- a card has its events where no level is left
gives-deep : (a : ActivesView) (depth : ℕ) → AreLeft zero depth → (c : ActiveCardView) → Gives a depth c (card_events zero a c)
gives-deep a depth left c = of (is_call c.text) refl
  where
    of : (b : Bool) → is_call c.text ≡ b → Gives a depth c (if b then Depth ∷ [] else Line c ∷ [])
    of true e = TooDeep depth c e (omega arith)
    of false e = Text depth c e

-- and where a level is left, if decks one deeper have theirs
gives-next : (a : ActivesView) (levels depth : ℕ) → AreLeft (suc levels) depth → ((d : ActiveDeckView) → Walks a (depth + 1) d (walk levels a d))
    → (c : ActiveCardView) → Gives a depth c (card_events (suc levels) a c)
gives-next a levels depth left deeper c = of (is_call c.text) refl
  where
    of_named : (o : Option ActiveDeckView) → is_call c.text ≡ true → common_named (called c.text) a ≡ o
        → Gives a depth c (call_events (card_events levels a) o)
    of_named None call none = OfNone depth c call (omega arith) none
    of_named (Some d) call named = Followed depth c d _ call (omega arith) named (deeper d)

    of : (b : Bool) → is_call c.text ≡ b → Gives a depth c (if b then call_events (card_events levels a) (common_named (called c.text) a) else Line c ∷ [])
    of true call = of_named (common_named (called c.text) a) call refl
    of false text = Text depth c text

-- where each card has its events, cards have them in order
meets-all : (a : ActivesView) (levels depth : ℕ) → ((c : ActiveCardView) → Gives a depth c (card_events levels a c)) → (cards : List ActiveCardView)
    → Meets a depth cards (flat_map (card_events levels a) cards)
meets-all a levels depth gives [] = NoMore depth
meets-all a levels depth gives (c ∷ cards) = Next depth c cards _ _ (gives c) (meets-all a levels depth gives cards)

-- a walk by depth has the events of the one by levels
walks : (a : ActivesView) (levels depth : ℕ) → AreLeft levels depth → (d : ActiveDeckView) → Walks a depth d (walk levels a d)
walks a zero depth left d = meets-all a zero depth (gives-deep a depth left) (text_cards d)
walks a (suc levels) depth left d =
    meets-all a (suc levels) depth (gives-next a levels depth left (walks a levels (depth + 1) (omega arith))) (text_cards d)

-- and nothing else
pub walks_walk : (a : ActivesView) (d : ActiveDeckView) (events : List WalkEvent) → Walks a 1 d events ↔ (events ≡ walk MAX_DEPTH a d)
walks_walk a d events = (
  λ met. met-is a 1 (text_cards d) events met MAX_DEPTH (omega arith),
  λ e. subst (λ es. Walks a 1 d es) (sym e) (walks a MAX_DEPTH 1 (omega arith) d),
)
