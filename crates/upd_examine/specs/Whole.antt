-- What of the invariant of libraries is about the directory only.
use Rattle.std.specs.Prelude.{◌≡◌, map, None}
use Rattle.std.specs.List.{filter}
use Rattle.upd_text.specs.Names.{yank_name}
use Rattle.upd_core.specs.Library.{LibraryView, held_named}
use Rattle.upd_core.specs.Sound.{AreAgedFrom, AreApart}

-- serials are 1, 2, ..; held names differ; no held name is that of `YANK$$$`
pub record IsDirectorySound (l : LibraryView) : Type 0 where
  pub ages : AreAgedFrom 1 l.idents
  pub names : AreApart (map (λ i. i.name) (filter (λ i. i.held) l.idents))
  pub reserved : held_named yank_name l.idents ≡ None
