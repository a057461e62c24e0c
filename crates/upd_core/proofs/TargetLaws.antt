-- An index of targets answers what the list of them does.
use Rattle.upd_core.proofs.Common.{◌≡◌, ℕ, ◌||◌, List, [], ◌∷◌, refl, arith, list_any, nat_tests, Target, Set, SetIn, Deck, takes, is_taken, is_same}

-- what takes an ident in a deck is one of two targets
takes-split : (d z : ℕ) (t : Target) → takes d z t ≡ (is_same (Set z) t || is_same (SetIn z d) t)
takes-split d z (Set a) = grind (arith, nat_tests)
takes-split d z (SetIn a e) = grind (arith, nat_tests)
takes-split d z (Deck e) = refl

pub is_taken-split : (live : List Target) (d z : ℕ) → is_taken live d z ≡ (list_any (is_same (Set z)) live || list_any (is_same (SetIn z d)) live)
is_taken-split [] d z = refl
is_taken-split (t ∷ ts) d z = grind (arith, takes-split d z t, is_taken-split ts d z)
