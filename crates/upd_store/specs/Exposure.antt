-- The folder of a library's file, and who may write it; its log.
use Rattle.std.specs.Prelude.{ℕ, Bool, List, Option, None, Some, ◌==◌, ◌&&◌, ◌++◌, not, bit_and, codes, length, if◌then◌else◌}
use Rattle.std.specs.Path.{path_parent}

-- everybody may write a folder of this mode, and may replace the files of others there: it is not sticky
abbrev pub is_open_mode : ℕ → Bool
is_open_mode mode = not (bit_and mode 0o002 == 0) && (bit_and mode 0o1000 == 0)

-- the folder that this parent of a path names: the current one where it is none or empty
abbrev pub named_folder : Option (List ℕ) → List ℕ
named_folder None = codes "."
named_folder (Some parent) = if length parent == 0 then codes "." else parent

-- the folder of a file
abbrev pub folder_of : List ℕ → List ℕ
folder_of path = named_folder (path_parent path)

-- the log of a file, beside it
abbrev pub log_of : List ℕ → List ℕ
log_of file = file ++ codes "-wal"
