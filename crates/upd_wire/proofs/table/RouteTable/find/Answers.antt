use Rattle.upd_wire.proofs.Common.{◌≡◌, ap, sym, ◌∙◌, subst, List, ℕ, Some, IsUtf8, AllText, walk, RouteOf, first, segments_of, parameters_of, routes, Route}
use Rattle.upd_wire.proofs.RouteLemmas.{are_bytes, captures_are_parameters, parameters_are_text}
use Rattle.upd_wire.proofs.table.RouteTable.find.Goals as goal

pub invariant_of-result : goal.invariant_of-result
invariant_of-result c =
    let params = c.in-Ok.found.params in
    let path = c.args.path.now in
    let row : RouteOf Route = record { pattern = params.pattern.now; text = params.text.now; names = params.names.now; value = c.in-Ok.found.value.now } in
    let found : first routes path ≡ Some row = ap (λ rows. first rows path) (sym c.args.self.now.whole) ∙ c.in-Ok.ensures.found in
    let Captures : List ℕ → Type 0 = λ l. walk row.pattern row.text l row.names 0 0 ≡ parameters_of row.value (segments_of l) in
    let segments = subst Captures (sym c.in-Ok.ensures.path) (captures_are_parameters path (are_bytes path c.type_inv.path) row found) in
    let text = subst AllText (sym segments) (parameters_are_text row.value params.path.now (subst IsUtf8 (sym c.in-Ok.ensures.path) c.utf8.path)) in
    record { text = ∣ text ∣₁; segments = segments }
