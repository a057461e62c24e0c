-- The order of targets.
use Rattle.std.specs.Prelude.{ℕ}
use Rattle.std.specs.Ordering.{nat_cmp, ordering_then}
use Rattle.std.specs.declared.cmp.Ordering.{Ordering}
use Rattle.upd_core.specs.contracts.target.TargetOrd.TheImpl as derived
use Rattle.upd_core.specs.declared.target.Target.{Target}
use Rattle.upd_core.specs.declared.target.Target.TheVariants.{Set, SetIn, Deck}
use Rattle.upd_core.specs.Serials.{Serial}

-- The key of a target: its kind (0 an ident, 1 an ident in a deck, 2 a deck), its serial, and the deck's serial for kind 1, 0 for the others.
pub record TargetKey : Type 0 where
  pub kind : ℕ
  pub age : Serial
  pub deck : Serial

-- the key of a target
abbrev pub target_key : Target → TargetKey
target_key (Set z) = record { kind = 0; age = z; deck = 0 }
target_key (SetIn z d) = record { kind = 1; age = z; deck = d }
target_key (Deck d) = record { kind = 2; age = d; deck = 0 }

-- keys are ordered by kind, then serial, then deck
abbrev pub key_order : TargetKey → TargetKey → Ordering
key_order a b = ordering_then (nat_cmp a.kind b.kind) (ordering_then (nat_cmp a.age b.age) (nat_cmp a.deck b.deck))

-- the order of targets, as derived
abbrev pub target_order : Target → Target → Ordering
target_order = (derived.ghosts).cmp
