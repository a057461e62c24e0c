-- Stored statuses and counts as tests of lists.
use Rattle.std.specs.Prelude.{◌≡◌, ℕ, ◌==◌, Bool, true, not, ◌&&◌, List, map}
use Rattle.std.specs.List.{list_all}
use Rattle.upd_text.specs.declared.card_ref.CardRef.{CardRef}
use Rattle.upd_core.specs.Counted.{CountedCardView, counted_cards}
use Rattle.upd_core.specs.Library.{CardView, LibraryView}
use Rattle.upd_core.specs.Sound.{AreApart}
use Rattle.upd_core.specs.TargetCounts.{count_in}
use Rattle.upd_core.specs.declared.target.Target.{Target}
use Rattle.upd_yank.specs.Right.{put_counts, was_active}

-- the pair of a card: its reference and its status in a cache
abbrev pub own_state : List (CardRef × Bool) → CountedCardView → CardRef × Bool
own_state statuses k = (k.card, was_active statuses k)

-- the pairs of all cards of a library
abbrev pub own_states : List (CardRef × Bool) → LibraryView → List (CardRef × Bool)
own_states statuses l = map (own_state statuses) (counted_cards l)

-- whether a stored count is that of its target, and not 0
abbrev pub is_count : List (Target × ℕ) → Target × ℕ → Bool
is_count counts p = not (p.1 == 0) && (p.1 == count_in counts p.0)

-- whether the stored count of a target is right; it is 0 where none is stored
abbrev pub is_counted : List (Target × ℕ) → List (Target × ℕ) → Target → Bool
is_counted counts stored t = put_counts stored (λ _. 0) t == count_in counts t

-- Stored counts are of targets that differ, each is right, and none is missing for a target of a yank card.
pub record AreCounts (counts stored : List (Target × ℕ)) (yanks : List CardView) : Type 0 where
  pub apart : AreApart (map (λ p. p.0) stored)
  pub each : list_all (is_count counts) stored ≡ true
  pub all : list_all (λ c. list_all (is_counted counts stored) c.targets) yanks ≡ true
