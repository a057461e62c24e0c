use Rattle.upd_compile.proofs.Common.{◌≡◌, ℕ, List, drop, bytes_eq, held_kind}
use Rattle.std.specs.HashMap as hash
use Rattle.upd_compile.proofs.indexed.held_names.Given as goal

abbrev pub invariant-loop-i : goal.invariant-loop-i
invariant-loop-i l = (name : List ℕ) → hash.get_by (λ k. bytes_eq name k.now) l.names ≡ held_kind name (drop l.i l.idents)
