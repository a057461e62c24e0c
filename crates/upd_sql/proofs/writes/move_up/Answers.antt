use Rattle.upd_sql.proofs.Common.{◌≡◌, ℕ, ◌+◌, ◌-◌, [], ◌∷◌, subst, arith, refl, state, Ran, num}
use Rattle.upd_sql.proofs.Typed.{makes_nothing}
use Rattle.upd_sql.proofs.Effects.{cards_moved_up}
use Rattle.upd_sql.specs.declared.texts.TheConstants.{MOVE_UP}
use Rattle.upd_sql.proofs.writes.move_up.Goals as goal

pub returns : goal.returns
returns g c = record {
  same_reference = c.run.ensures.same_reference;
  does =
      let whole : c.args.by ≡ c.args.by - 1 + 1 = omega (arith, c.requires) in
      cards_moved_up c.args.deck c.args.from (c.args.by - 1)
      (subst (λ (n : ℕ). Ran MOVE_UP.now (num c.args.deck ∷ num c.args.from ∷ num n ∷ []) (state g.S.Store c.args.tx.now.conn.now)
      (state g.S.Store c.run.new.tx.conn.now) c.run.result) whole
      (rw (c.in_ok-distance.ensures.value, c.number.ensures, c.number-2.ensures) at c.run.ensures.ran));
}

pub returns-in_err-distance : goal.returns-in_err-distance
returns-in_err-distance g c = record { same_reference = refl; does = makes_nothing _ c.from_residual.ensures.0 }
