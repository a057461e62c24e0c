-- In a directory whose serials are 1, 2, .., the ident with serial n is at index n - 1.
use Rattle.upd_compile.proofs.Common.{◌≡◌, ℕ, zero, suc, ◌+◌, ◌-◌, ◌<◌, ◌==◌, Bool, true, false, not, ◌&&◌, ◌||◌, List, [], ◌∷◌, refl, sym, ap, ◌∙◌, arith}
use Rattle.upd_compile.proofs.Common.{common_steps, option_map_or, Ident}
use Rattle.std.proofs.Common.{eq-eqb}
use Rattle.std.specs.List.{slice_get}
use Rattle.upd_core.specs.Sound.{AreAgedFrom, is_held}
use Rattle.upd_compile.specs.Idents.{ident_at}
use Rattle.upd_compile.specs.Listings.{is_purged}

-- an ident with another serial leaves the question to the rest
passed : (held same rest : Bool) → same ≡ false → (held && same || rest) ≡ rest
passed true same rest e = rw e refl
passed false same rest e = refl

-- an ident with the serial decides it
settled : (held same rest : Bool) → same ≡ true → rest ≡ false → (held && same || rest) ≡ held
settled true same rest e f = rw e refl
settled false same rest e f = f

older_unheld : (n z : ℕ) (idents : List Ident) → AreAgedFrom n idents → z < n → is_held idents z ≡ false
older_unheld n z [] aged older = refl
older_unheld n z (i ∷ idents) aged older =
    let other : (i.age == z) ≡ false = grind (arith, common_steps, aged.0) in
    passed i.held (i.age == z) (is_held idents z) other ∙ older_unheld (n + 1) z idents aged.1 (omega arith)

held_at_position : (n k z : ℕ) (idents : List Ident) → AreAgedFrom n idents → z ≡ n + k
    → is_held idents z ≡ option_map_or (λ i. i.held) (slice_get idents k) false
held_at_position n k z [] aged position = refl
held_at_position n zero z (i ∷ idents) aged position =
    settled i.held (i.age == z) (is_held idents z) (eq-eqb i.age z (omega (arith, aged.0))) (older_unheld (n + 1) z idents aged.1 (omega arith))
held_at_position n (suc k) z (i ∷ idents) aged position =
    let other : (i.age == z) ≡ false = grind (arith, common_steps, aged.0) in
    passed i.held (i.age == z) (is_held idents z) other ∙ held_at_position (n + 1) k z idents aged.1 (omega arith)

at_position : (idents : List Ident) (z : ℕ) → ident_at idents (suc z) ≡ slice_get idents z
at_position idents z =
    let later : (suc z == 0) ≡ false = grind (arith, common_steps) in
    let position : suc z - 1 ≡ z = omega arith in
    rw (later, position) refl

pub purged_not_held : (idents : List Ident) (z : ℕ) → AreAgedFrom 1 idents → is_purged idents z ≡ not (is_held idents z)
purged_not_held idents zero aged = ap not (sym (older_unheld 1 0 idents aged (omega arith)))
purged_not_held idents (suc z) aged =
    rw (at_position idents z) (ap not (sym (held_at_position 1 z (suc z) idents aged (omega arith))))
