-- Replies as text: compact JSON, its keys in the order of the alphabet.
use Rattle.std.specs.Prelude.{ℕ, ◌==◌, nat_le, Bool, ◌&&◌, ◌||◌, if◌then◌else◌, IsTrue, List, [], ◌∷◌, ◌++◌, codes, decimal}
use Rattle.std.specs.List.{concat, flat_map, AllByRecursion}
use Rattle.upd_text.specs.Faults.{fault_number, fault_name}
use Rattle.upd_text.specs.declared.fault.Fault.{Fault}

-- whether a byte can be in a text of a reply: those of lines, and the LF between them
abbrev pub is_shown : ℕ → Bool
is_shown b = (nat_le 32 b && nat_le b 126) || (b == 9) || (b == 10)

-- all bytes of a text can
abbrev pub AreShown : List ℕ → Type 0
AreShown text = AllByRecursion (λ b. IsTrue (is_shown b)) text

-- a byte as a text has it: a quotation mark, a backslash, LF and tab are escaped, and nothing else
abbrev pub escaped : ℕ → List ℕ
escaped b =
    if b == 34
    then codes "\\\""
    else (if b == 92 then codes "\\\\" else (if b == 10 then codes "\\n" else (if b == 9 then codes "\\t" else b ∷ [])))

-- a text in quotation marks
abbrev pub quoted : List ℕ → List ℕ
quoted text = codes "\"" ++ (flat_map escaped text ++ codes "\"")

-- texts with commas between them
abbrev pub listed : List (List ℕ) → List ℕ
listed [] = []
listed (t ∷ []) = quoted t
listed (t ∷ u ∷ ts) = quoted t ++ (codes "," ++ listed (u ∷ ts))

-- the reply to an accepted run: its compile file, the names of the idents that it introduced, the number of its compile lines
abbrev pub accepted_text : List ℕ → ℕ → List ℕ → List (List ℕ) → List ℕ → ℕ → List ℕ
accepted_text site number mode idents file lines =
    concat (codes "{\"compile\":" ∷ quoted file ∷ codes ",\"idents\":[" ∷ listed idents ∷ codes "],\"lines\":" ∷ decimal lines
    ∷ codes ",\"mode\":" ∷ quoted mode ∷ codes ",\"run\":" ∷ decimal number ∷ codes ",\"site\":" ∷ quoted site ∷ codes ",\"state\":\"accepted\"}" ∷ [])

-- the reply to a refused run
abbrev pub refused_text : List ℕ → ℕ → List ℕ → Fault → List ℕ
refused_text site number mode fault =
    concat (codes "{\"at\":" ∷ decimal fault.at ∷ codes ",\"fault\":" ∷ decimal (fault_number fault.kind) ∷ codes ",\"mode\":" ∷ quoted mode
    ∷ codes ",\"name\":" ∷ quoted (fault_name fault.kind) ∷ codes ",\"run\":" ∷ decimal number ∷ codes ",\"site\":" ∷ quoted site
    ∷ codes ",\"state\":\"refused\"}" ∷ [])

-- the text of a fault where there is no reply
abbrev pub fault_text : Fault → List ℕ
fault_text fault =
    concat (codes "{\"at\":" ∷ decimal fault.at ∷ codes ",\"fault\":" ∷ decimal (fault_number fault.kind)
    ∷ codes ",\"name\":" ∷ quoted (fault_name fault.kind) ∷ codes "}" ∷ [])

-- the answer to a settlement: the site's mark
abbrev pub settled_text : List ℕ → ℕ → List ℕ
settled_text site mark = concat (codes "{\"settled\":" ∷ decimal mark ∷ codes ",\"site\":" ∷ quoted site ∷ codes "}" ∷ [])

-- the same with the site as it is
abbrev pub settled_bytes : List ℕ → ℕ → List ℕ
settled_bytes site mark = codes "{\"settled\":" ++ (decimal mark ++ (codes ",\"site\":\"" ++ (site ++ codes "\"}")))
