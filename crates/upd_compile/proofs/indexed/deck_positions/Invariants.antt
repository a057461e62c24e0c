use Rattle.upd_compile.proofs.Common.{◌≡◌, ◌==◌, ℕ, drop, index_from}
use Rattle.std.proofs.Common.{nat_eq}
use Rattle.std.specs.HashMap as hash
use Rattle.upd_compile.proofs.indexed.deck_positions.Given as goal

abbrev pub invariant-loop-i : goal.invariant-loop-i
invariant-loop-i l =
    (age : ℕ) → hash.get nat_eq l.positions age ≡ index_from (λ d. d.ident == age) l.i (drop l.i l.decks)
