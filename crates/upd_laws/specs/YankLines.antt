-- Yank cards in the listing of `YANK$$$`.
use Rattle.std.specs.Prelude.{ℕ, if◌then◌else◌, List, [], ◌∷◌, codes}
use Rattle.upd_core.specs.declared.ident.Ident.{Ident}
use Rattle.upd_core.specs.declared.target.Target.{Target}
use Rattle.upd_core.specs.Library.{CardView}
use Rattle.upd_core.specs.Status.{is_good}
use Rattle.upd_compile.specs.Listings.{card_name, line_of}

-- the line of a yank card: `A` where the listing of the yanks says live, `I` where it says dead
abbrev pub yank_line : List Ident → List Target → CardView → List ℕ
yank_line idents live c = line_of ((if is_good live 0 c then codes "A" else codes "I") ∷ card_name idents c ∷ c.text ∷ [])
