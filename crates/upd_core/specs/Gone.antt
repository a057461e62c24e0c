-- The idents that a purge removes, as the code represents them.
use Rattle.std.specs.Prelude.{nat_le, Bool, false, List, slice_index_or}
use Rattle.upd_core.specs.declared.gone.Gone.{Gone}
use Rattle.upd_core.specs.declared.gone.Gone.TheVariants.{From, Listed}
use Rattle.upd_core.specs.Serials.{Serial}

-- the flag of a serial; false past the last flag
abbrev pub is_listed : List Bool → Serial → Bool
is_listed flags z = slice_index_or flags z false

-- whether a purge removes the ident with a serial
abbrev pub is_gone : Gone → Serial → Bool
is_gone (From x) z = nat_le x z
is_gone (Listed flags) z = is_listed flags.items z
