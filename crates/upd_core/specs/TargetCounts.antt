-- The number of live yank cards that have each target.
use Rattle.std.specs.Prelude.{ℕ, List, unwrap_or, count_by, Bool}
use Rattle.std.specs.List.{list_any}
use Rattle.std.specs.Map.{lookup}
use Rattle.upd_core.specs.declared.target.Target.{Target}
use Rattle.upd_core.specs.Library.{CardView, LibraryView}
use Rattle.upd_core.specs.Status.{live_cards}
use Rattle.upd_core.specs.Targets.{is_same}

-- whether a card has a target
abbrev pub has_target : Target → CardView → Bool
has_target t c = list_any (is_same t) c.targets

-- the number of these cards that have a target
abbrev pub count_on : List CardView → Target → ℕ
count_on cards t = count_by (has_target t) cards

-- the number of live yank cards of a library that have a target
abbrev pub live_count : LibraryView → Target → ℕ
live_count l = count_on (live_cards l.yanks)

-- the count of a target in a list of counts: 0 where it isn't listed
abbrev pub count_in : List (Target × ℕ) → Target → ℕ
count_in counts t = unwrap_or (lookup (is_same t) counts) 0
