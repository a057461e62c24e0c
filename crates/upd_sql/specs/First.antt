-- The first of some rows.
use Rattle.std.specs.Prelude.{ℕ, List, [], ◌∷◌, Option, Some, None}
use Rattle.upd_records.specs.Rows.{RunView, MarkRow}

-- the number of the first mark, 0 where there is no mark
abbrev pub first_mark : List MarkRow → ℕ
first_mark [] = 0
first_mark (m ∷ marks) = m.mark

-- the first run
abbrev pub first_run : List RunView → Option RunView
first_run [] = None
first_run (r ∷ runs) = Some r
