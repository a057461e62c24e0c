-- The library as it was when an ident was the youngest, and the text of a deck in it.
use Rattle.std.specs.Prelude.{◌==◌, nat_le, false, if◌then◌else◌, List, [], map, drop, length, Result, Ok}
use Rattle.std.specs.List.{filter}
use Rattle.upd_text.specs.declared.fault.Fault.{Fault}
use Rattle.upd_text.specs.declared.fault.FaultKind.TheVariants.{Full, IdentUnknown}
use Rattle.upd_text.specs.declared.limits.TheConstants.{MAX_INTRODUCED}
use Rattle.upd_text.specs.Outcome.{◌>>=◌, at_line, need, refuse_if}
use Rattle.upd_text.specs.Units.{Bytes}
use Rattle.upd_core.specs.declared.ident.Kind.TheVariants as kind
use Rattle.upd_core.specs.declared.target.Target.{Target}
use Rattle.upd_core.specs.declared.target.Target.TheVariants.{Set}
use Rattle.upd_core.specs.Edits.{introduced, new_card, next_age, with_yank}
use Rattle.upd_core.specs.Library.{LibraryView, ident_of}
use Rattle.upd_core.specs.Serials.{Serial}
use Rattle.upd_edit.specs.ActiveText.{active_text}

-- the held idents that are younger than one, as targets
abbrev pub younger : Serial → LibraryView → List Target
younger since l = map (λ i. Set i.age) (filter (λ i. i.held) (drop since l.idents))

-- a library in which a new set, which has no name, yanks these targets, if there are any
abbrev pub yanked : List Target → LibraryView → Result LibraryView Fault
yanked targets l =
    if length targets == 0
    then Ok l
    else (at_line 0 (refuse_if (nat_le MAX_INTRODUCED (length l.idents)) Full)
    >>= (λ _. Ok (with_yank (new_card (next_age l) 1 [] targets) (introduced [] kind.Set false l))))

-- the library as it was when the held ident with a name was the youngest: all younger ones are yanked, and their cards are in place
abbrev pub as_of : Bytes → LibraryView → Result LibraryView Fault
as_of since l = do
  age ← at_line 0 (need IdentUnknown (ident_of since l))
  yanked (younger age l) l

-- the text of a deck in that library
abbrev pub text_since : Bytes → Bytes → LibraryView → Result Bytes Fault
text_since name since l = as_of since l >>= active_text name
