-- Stored statuses and counts, and when they are those of a library.
use Rattle.std.specs.Prelude.{◌≡◌, ℕ, ◌==◌, ◌<◌, ◌^◌, Bool, false, if◌then◌else◌, List, [], ◌∷◌, Option, Some, None, length, unwrap_or}
use Rattle.std.specs.List.{filter, AllByRecursion}
use Rattle.std.specs.Map.{lookup}
use Rattle.upd_text.specs.declared.card_ref.CardRef.{CardRef}
use Rattle.upd_core.specs.declared.states.States.{States}
use Rattle.upd_core.specs.declared.target.Target.{Target}
use Rattle.upd_core.specs.Targets.{is_same}
use Rattle.upd_core.specs.Counted.{CountedCardView}
use Rattle.upd_core.specs.Library.{CardView, LibraryView}
use Rattle.upd_core.specs.Sound.{AreApart, Continues, IsSound}
use Rattle.upd_core.specs.Status.{status_of}
use Rattle.upd_core.specs.TargetCounts.{count_in, live_count}
use Rattle.upd_apply.specs.Applying.{touched}
use Rattle.upd_records.specs.Rows.{same_ref}

-- Statuses by card, counts by target, and the number of cards that the last update examined.
pub record CacheView : Type 0 where
  pub states : List (CardRef × Bool)
  pub counts : List (Target × ℕ)
  pub work : ℕ

-- the stored status of a card
abbrev pub kept_status : List (CardRef × Bool) → CardRef → Option Bool
kept_status states card = lookup (same_ref card) states

-- whether the stored status of a card is active; false for a card without one
abbrev pub was_active : List (CardRef × Bool) → CountedCardView → Bool
was_active states k = unwrap_or (kept_status states k.card) false

-- a cache has the status of each card of a library and no other, and the number of live yank cards for each target
pub record IsRight (l : LibraryView) (cache : CacheView) : Type 0 where
  pub status : (card : CardRef) → kept_status cache.states card ≡ status_of card l
  pub count : (target : Target) → count_in cache.counts target ≡ live_count l target

-- yank cards whose counts fit into 32 bits: there are fewer than 2^32, and none has a target twice
pub record AreCountable (yanks : List CardView) : Type 0 where
  pub few : length yanks < 2 ^ 32
  pub apart : AllByRecursion (λ c. AreApart c.targets) yanks

-- The premises of a status update: a sound library before a run, a sound one after it whose directory extends the one before, a cache that was
-- right before, and the cards that the run touched.
pub record IsRunBetween (old new : LibraryView) (cache : CacheView) (run : List CardRef) : Type 0 where
  pub before : IsSound old
  pub after : IsSound new
  pub goes_on : Continues old.idents new.idents
  pub right : IsRight old cache
  pub touched : run ≡ touched old new
  pub few : length new.yanks < 2 ^ 32

-- counts with these set, in order
abbrev pub put_counts : List (Target × ℕ) → (Target → ℕ) → Target → ℕ
put_counts [] counts = counts
put_counts (p ∷ ps) counts = put_counts ps (λ t. if is_same p.0 t then p.1 else counts t)

-- the pair of a card with a status; none without one
abbrev pub status_pairs : CardRef → Option Bool → List (CardRef × Bool)
status_pairs card None = []
status_pairs card (Some active) = (card, active) ∷ []

-- the pair of a target; none for a count of 0
abbrev pub count_pairs : Target → ℕ → List (Target × ℕ)
count_pairs target n = if n == 0 then [] else (target, n) ∷ []

-- Rows show the statuses of a library where each card has one pair, with its status; each target of a live yank card has one pair, with the
-- number of live yank cards that have it; and there are no other pairs.
pub record AreStatesOf (rows : States) (l : LibraryView) : Type 0 where
  pub states : (card : CardRef) → filter (λ p. same_ref card p.0) rows.states.items ≡ status_pairs card (status_of card l)
  pub counts : (target : Target) → filter (λ p. is_same target p.0) rows.counts.items ≡ count_pairs target (live_count l target)
