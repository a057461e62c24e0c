-- An index of active cards.
use Rattle.std.specs.Prelude.{◌≡◌, ℕ, nat_eq, List}
use Rattle.std.specs.HashMap as hash
use Rattle.std.specs.Str.{bytes_eq}
use Rattle.upd_compile.specs.declared.indexed.Indexed.TheInside.{Inside}
use Rattle.upd_compile.specs.Positions.{held_kind, position_aged}

-- a look-up in the index finds the first match in the lists
pub record IsIndex (x : Inside) : Type 0 where
  pub names : (name : List ℕ) → hash.get_by (λ k. bytes_eq name k.now) x.names ≡ held_kind name x.actives.now.idents
  pub positions : (age : ℕ) → hash.get nat_eq x.positions age ≡ position_aged age x.actives.now.decks
