use Rattle.upd_wire.proofs.Common.{◌≡◌, ap, sym, ◌∙◌, List, ℕ, [], Option, Some, None, Bor, unwrap_or}
use Rattle.std.proofs.Common.{MatchOption}
use Rattle.std.proofs.Math.Logic.{∥∥₁_elim}
use Rattle.std.proofs.Props.{props}
use Rattle.matchit.specs.Params.{named}
use Rattle.upd_wire.specs.Parameters.{captures}
use Rattle.upd_wire.proofs.table.RouteMatch.parameter.Goals as goal

shown_or : (o : Option (Bor (List ℕ))) (x : Option (List ℕ)) (d : Bor (List ℕ)) → MatchOption o (x ≡ None) (λ v. x ≡ Some v.now)
    → (unwrap_or o d).now ≡ unwrap_or x d.now
shown_or None x d is = sym (ap (λ y. unwrap_or y d.now) is)
shown_or (Some v) x d is = sym (ap (λ y. unwrap_or y d.now) is)

pub returns : goal.returns
returns c =
    let Pairs : Type 0 = List (List ℕ × List ℕ) in
    let found : (unwrap_or c.get.result _).now ≡ unwrap_or (named c.args.name.now (captures c.args.self.now.params)) [] =
    ∥∥₁_elim c.args.self.now.text (search props) (λ text. shown_or c.get.result _ _ (c.get.ensures text)) in
    ap (λ (s : Bor (List ℕ)). s.now) c.unwrap_or.ensures
    ∙ (found ∙ ap (λ (pairs : Pairs). unwrap_or (named c.args.name.now pairs) []) c.args.self.now.segments)
