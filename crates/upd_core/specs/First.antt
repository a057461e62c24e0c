-- The first element that passes a test.
use Rattle.std.specs.Prelude.{ℕ, ◌+◌, Bool, if◌then◌else◌, List, [], ◌∷◌, Option, Some, None}

-- its index, where the list begins at index n
abbrev pub index_from : {A : Type 0} → (A → Bool) → ℕ → List A → Option ℕ
index_from test n [] = None
index_from test n (x ∷ xs) = if test x then Some n else index_from test (n + 1) xs

-- the list with that element changed
abbrev pub at_first : {A : Type 0} → (A → Bool) → (A → A) → List A → List A
at_first test change [] = []
at_first test change (x ∷ xs) = if test x then change x ∷ xs else x ∷ at_first test change xs
