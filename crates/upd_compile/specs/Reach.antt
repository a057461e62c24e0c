-- Graph search: the positions that are reached from flagged ones along lists of followers.
use Rattle.std.specs.Prelude.{◌≡◌, ℕ, ◌+◌, ◌==◌, ◌<◌, nat_lt, Bool, true, false, not, ◌&&◌, ◌||◌, count_by, List, length, slice_get}
use Rattle.std.specs.List.{list_any}
use Rattle.std.specs.Option.{option_map_or}

-- the flag of a position; false past the last flag
abbrev pub is_flagged : List Bool → ℕ → Bool
is_flagged flags k = option_map_or (λ b. b) (slice_get flags k) false

-- whether a position is one of these
abbrev pub is_in : List ℕ → ℕ → Bool
is_in positions k = list_any (λ p. p == k) positions

-- whether position d is in the list of position c
abbrev pub follows : List (List ℕ) → ℕ → ℕ → Bool
follows lists c d = option_map_or (λ list. is_in list d) (slice_get lists c) false

-- A step of the search: more positions are visited, and those that weren't visited before are added to the work.
pub record VisitsMore (more : ℕ → Bool) (flags visited : List Bool) (work still : List ℕ) : Type 0 where
  pub visits_more : (k : ℕ) → is_flagged visited k ≡ (is_flagged flags k || (more k && nat_lt k (length flags)))
  pub opened : (k : ℕ) → is_in still k ≡ (is_in work k || (is_flagged visited k && not (is_flagged flags k)))
  pub same_length : length visited ≡ length flags
  pub same_work : count_by not visited + length still ≡ count_by not flags + length work

-- More positions follow.
pub record FollowsMore (more : ℕ → ℕ → Bool) (lists longer : List (List ℕ)) : Type 0 where
  pub follows_more : (c d : ℕ) → follows longer c d ≡ (follows lists c d || (more c d && nat_lt c (length lists)))
  pub same_length : length longer ≡ length lists

-- A position follows those that it calls, if it is flagged.
abbrev pub AreCallers : List (List ℕ) → List Bool → List (List ℕ) → Type 0
AreCallers calls flags callers =
    (c d : ℕ) → follows callers c d ≡ ((is_flagged flags d && follows calls d c) && nat_lt c (length calls))

-- The least flags that contain the seeds and are closed under followers.
pub record AreReached (followers : List (List ℕ)) (seeds flags : List Bool) : Type 0 where
  pub same_length : length flags ≡ length seeds
  pub has_seeds : (k : ℕ) → is_flagged seeds k ≡ true → is_flagged flags k ≡ true
  pub is_closed : (c d : ℕ) → is_flagged flags c ≡ true → follows followers c d ≡ true → d < length flags → is_flagged flags d ≡ true
  pub is_least : (test : ℕ → Bool) → ((c d : ℕ) → test c ≡ true → follows followers c d ≡ true → test d ≡ true)
      → ((k : ℕ) → is_flagged seeds k ≡ true → test k ≡ true) → (k : ℕ) → is_flagged flags k ≡ true → test k ≡ true
