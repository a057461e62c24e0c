-- Replies as values of JSON.
use Rattle.std.specs.Prelude.{ℕ, List, map, codes}
use Rattle.upd_text.specs.Faults.{fault_number, fault_name}
use Rattle.upd_text.specs.declared.fault.Fault.{Fault}
use Rattle.serde_json.specs.Data.{Data, Items, string, number, unsigned, array, object, member, no_members}
use Rattle.serde_json.specs.View.{items_of}

-- a whole number
abbrev pub whole : ℕ → Data
whole n = number (unsigned n)

-- texts as items of an array
abbrev pub items : List (List ℕ) → Items
items texts = items_of (map string texts)

-- the reply to an accepted run: its compile file, the names of the idents that it introduced, the number of its compile lines
abbrev pub accepted_value : List ℕ → ℕ → List ℕ → List (List ℕ) → List ℕ → ℕ → Data
accepted_value site n mode idents file lines =
    object (member (codes "compile") (string file) (member (codes "idents") (array (items idents)) (member (codes "lines") (whole lines)
    (member (codes "mode") (string mode) (member (codes "run") (whole n) (member (codes "site") (string site)
    (member (codes "state") (string (codes "accepted")) no_members)))))))

-- the reply to a refused run
abbrev pub refused_value : List ℕ → ℕ → List ℕ → Fault → Data
refused_value site n mode fault =
    object (member (codes "at") (whole fault.at) (member (codes "fault") (whole (fault_number fault.kind)) (member (codes "mode") (string mode)
    (member (codes "name") (string (fault_name fault.kind)) (member (codes "run") (whole n) (member (codes "site") (string site)
    (member (codes "state") (string (codes "refused")) no_members)))))))

-- a fault where there is no reply
abbrev pub fault_value : Fault → Data
fault_value fault =
    object (member (codes "at") (whole fault.at) (member (codes "fault") (whole (fault_number fault.kind))
    (member (codes "name") (string (fault_name fault.kind)) no_members)))
