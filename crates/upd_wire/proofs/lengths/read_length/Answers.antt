use Rattle.upd_wire.proofs.Common.{◌≡◌, ◌≤◌, ◌<◌, ◌+◌, ◌*◌, ◌-◌, ◌∙◌, ap, refl, sym, arith, ℕ, length, drop, get_or, List, ◌∷◌, add-one, drop-cons}
use Rattle.upd_wire.proofs.Common.{common_steps, number_behind}
use Rattle.upd_wire.proofs.LengthLemmas.{long-said, number_behind-least}
use Rattle.upd_wire.proofs.lengths.read_length.Goals as goal

drop-one : (xs : List ℕ) (i : ℕ) → i < length xs → drop i xs ≡ get_or xs i 0 ∷ drop (i + 1) xs
drop-one xs i h = rw (add-one, drop-cons xs i 0) refl

pub returns-then-number-gt-MAX_RUN_BYTES : goal.returns-then-number-gt-MAX_RUN_BYTES
returns-then-number-gt-MAX_RUN_BYTES c =
    let text = c.args.text.now in
    let i = c.digits.digit-index in
    let next = 10 * c.digits.number + (get_or text i 0 - 48) in
    let rest : number_behind next (drop (i + 1) text) ≡ number_behind 0 text =
    sym (ap (number_behind c.digits.number) (drop-one text i c.digits-test.true)) ∙ c.digits.invariant.rest in
    let least : next ≤ number_behind next (drop (i + 1) text) = number_behind-least next (drop (i + 1) text) in
    sym (long-said text (grind (arith, common_steps)) (grind (arith, common_steps)) (omega arith))
