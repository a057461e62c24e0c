-- Warnings as the stored runs have them.
use Rattle.upd_edit.proofs.Common.{◌≡◌, ◌∙◌, ℕ, true, false, LibraryView, List, [], ◌∷◌, ◌++◌, None, Some, ap}
use Rattle.std.proofs.Common.{Option, refl}
use Rattle.std.specs.Option.{is_none}
use Rattle.std.proofs.lemmas.Bool.{or_parts}
use Rattle.std.specs.List.{list_any}
use Rattle.upd_core.specs.declared.ident.Ident.{Ident}
use Rattle.upd_records.specs.Rows.{RunView}
use Rattle.upd_edit.specs.declared.warning.Warning.{Warning}
use Rattle.upd_edit.specs.declared.warning.WarningKind.{WarningKind}
use Rattle.upd_edit.specs.declared.warning.WarningKind.TheVariants as kinds
use Rattle.upd_edit.specs.Found.{found}
use Rattle.upd_edit.specs.StayingDecks.{all_by_runs, asks_runs, kind_by_runs, warnings_by_runs}

kept : (runs : List RunView) (idents : List Ident) (kind : WarningKind) → asks_runs kind ≡ false → kind_by_runs runs idents kind ≡ Some kind
kept runs idents (kinds.Comments count) is = refl
kept runs idents kinds.Empty is = refl
kept runs idents kinds.NearWord is = refl
kept runs idents (kinds.OffAlready card by) is = refl
kept runs idents (kinds.Wide count) is = refl
kept runs idents (kinds.Conflict met) is = refl
kept runs idents (kinds.Purged name since) is = refl
kept runs idents (kinds.TakesSwitched word card by) is = refl
kept runs idents (kinds.TakesFollowed word card next) is = refl
kept runs idents (kinds.DeckStays word set deck known) is = absurd (cc)

-- where no warning asks for stored runs, they change none
unasked : (runs : List RunView) (idents : List Ident) (list : List Warning) → list_any (λ w. asks_runs w.kind) list ≡ false
    → warnings_by_runs runs idents list ≡ list
unasked runs idents [] is = refl
unasked runs idents (w ∷ list) is =
    let parts = or_parts (asks_runs w.kind) (list_any (λ w. asks_runs w.kind) list) is in
    ap (λ kind. found w.line kind ++ warnings_by_runs runs idents list) (kept runs idents w.kind parts.0)
    ∙ ap (λ rest. w ∷ rest) (unasked runs idents list parts.1)

-- where the run is not tried as of an ident, either
pub unasked_now : (since : Option (List ℕ)) (runs : List RunView) (l : LibraryView) (list : List Warning) → is_none since ≡ true
    → list_any (λ w. asks_runs w.kind) list ≡ false → all_by_runs since runs l list ≡ list
unasked_now None runs l list none is = unasked runs l.idents list is
unasked_now (Some name) runs l list none is = absurd (cc)
