-- The lines of a server: where it listens or why there is no socket, and what came of each connection.
use Rattle.std.specs.Prelude.{◌≡◌, ◌⊎◌, ℕ, Bool, List, [], ◌∷◌, ◌++◌, codes, length, nat_le, Option, Result, Ok, Err}
use Rattle.std.specs.Io.KnownBytes.{Appends}
use Rattle.std.specs.Net.Text.{socket_text}
use Rattle.std.specs.declared.net.socket_addr.SocketAddr.{SocketAddr}
use Rattle.upd_text.specs.declared.fault.Fault.{Fault}
use Rattle.upd_wire.specs.Fronts.{AppendsFront}
use Rattle.upd_wire.specs.LogLines.{Logs, ServedView}
use Rattle.upd_wire.specs.Serving.{Made}
use Rattle.upd_words.specs.declared.words.Endpoint.{Endpoint}
use Rattle.upd_words.specs.declared.words.Endpoint.TheVariants.{Address, Path}
use Rattle.upd_subcommands.specs.Status.{write_failed}

-- the line for an address, as `upd: listening on 127.0.0.1:8080`
abbrev pub listening_line : SocketAddr → List ℕ
listening_line place = codes "upd: listening on " ++ socket_text place ++ 10 ∷ []

-- The line of an address was written, and nothing else; or a prefix of it, where a write failed; or nothing, where the address isn't available.
abbrev pub ReportsPlace : {U : Type 0} → Result U Fault → Option (List ℕ) → Option (List ℕ) → Type 0
ReportsPlace (Ok u) faults faults' = (place : SocketAddr) × Appends faults faults' (listening_line place)
ReportsPlace (Err fault) faults faults' =
    ((fault ≡ write_failed) × ((place : SocketAddr) × AppendsFront faults faults' (listening_line place))) ⊎ Appends faults faults' []

-- the path of a socket has 100 bytes at most
abbrev pub fits_path : List ℕ → Bool
fits_path path = nat_le (length path) 100

-- the line on a path, as `upd: listening on desk.socket`
abbrev pub path_line : List ℕ → List ℕ → List ℕ → List ℕ
path_line what path why = codes "upd: " ++ (what ++ (path ++ (why ++ 10 ∷ [])))

-- The line of an endpoint was written: of the address that the server got, or of its path. Or a prefix of it was.
abbrev pub ReportsEndpoint : Endpoint → Option (List ℕ) → Option (List ℕ) → Type 0
ReportsEndpoint (Address address) faults faults' = (written : Result (Unit {0}) Fault) × ReportsPlace written faults faults'
ReportsEndpoint (Path path) faults faults' = AppendsFront faults faults' (path_line (codes "listening on ") path.now [])

-- There is no socket at the path of an endpoint, and nothing was served. The line that says why was written, or a prefix of it.
abbrev pub IsUnserved : Endpoint → List Made → Option (List ℕ) → Option (List ℕ) → Type 0
IsUnserved (Address address) made faults faults' = ⊥
IsUnserved (Path path) made faults faults' =
    (made ≡ []) × ((why : List ℕ) × AppendsFront faults faults' (path_line (codes "no socket at ") path.now why))

-- The line of an endpoint, and then those of connections that were served by these calls of the desk, the latest first. A number of lines is lost.
-- Or there is no socket.
abbrev pub ReportsServing : Endpoint → List Made → Option (List ℕ) → Option (List ℕ) → Type 0
ReportsServing endpoint made faults faults' =
    ((mid : Option (List ℕ)) × ReportsEndpoint endpoint faults mid × ((served : List ServedView) × (lost : ℕ) × Logs served made lost mid faults'))
    ⊎ IsUnserved endpoint made faults faults'
