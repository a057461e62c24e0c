-- Texts in HTML.
use Rattle.std.specs.Prelude.{◌==◌, Bool, true, false, not, ◌&&◌, ◌||◌, if◌then◌else◌, [], ◌∷◌, codes}
use Rattle.std.specs.List.{flat_map}
use Rattle.upd_text.specs.Units.{Byte, Bytes}

-- a byte of a text, or the entity that stands for it
abbrev pub escaped_byte : Byte → Bytes
escaped_byte b =
    if b == 38 then codes "&amp;"
    else if b == 60 then codes "&lt;"
    else if b == 62 then codes "&gt;"
    else if b == 34 then codes "&quot;"
    else if b == 39 then codes "&#39;"
    else b ∷ []

-- a text, with an entity for each `&`, `<`, `>` and quote
abbrev pub escaped : Bytes → Bytes
escaped text = flat_map escaped_byte text

-- `<`, `>` and the two quotes
abbrev pub is_markup : Byte → Bool
is_markup b = (b == 60) || (b == 62) || (b == 34) || (b == 39)

-- whether a text begins with another
abbrev pub begins : Bytes → Bytes → Bool
begins text [] = true
begins [] (b ∷ start) = false
begins (a ∷ text) (b ∷ start) = (a == b) && begins text start

-- whether a text continues an entity after its `&`
abbrev pub is_entity : Bytes → Bool
is_entity text =
    begins text (codes "amp;") || begins text (codes "lt;") || begins text (codes "gt;") || begins text (codes "quot;")
    || begins text (codes "#39;")

-- whether each `&` of a text begins an entity
abbrev pub are_entities : Bytes → Bool
are_entities [] = true
are_entities (b ∷ text) = (not (b == 38) || is_entity text) && are_entities text
