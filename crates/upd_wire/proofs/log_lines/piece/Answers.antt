use Rattle.upd_wire.proofs.Common.{◌≡◌, ◌==◌, ◌+◌, ◌-◌, ◌<◌, ℕ, zero, suc, List, [], ◌∷◌, get_or, sym, ap, ◌∙◌, arith, piece}
use Rattle.std.specs.List.{slice_split}
use Rattle.upd_wire.proofs.log_lines.piece.Goals as goal

-- the pieces after the first one
further : (at n : ℕ) (text first behind : List ℕ) → slice_split (λ b. b == at) text ≡ first ∷ slice_split (λ b. b == at) behind
    → piece at n behind ≡ piece at (suc n) text
further at n text first behind e = sym (ap (λ pieces. get_or pieces (suc n) []) e)

-- a text without separators has no second piece
no_more : (at n : ℕ) (text : List ℕ) → slice_split (λ b. b == at) text ≡ text ∷ [] → 0 < n → [] ≡ piece at n text
no_more at zero text e some = absurd (omega (arith, some))
no_more at (suc n) text e some = sym (ap (λ pieces. get_or pieces (suc n) []) e)

pub pieces-preserved : goal.pieces-preserved
pieces-preserved c = λ n.
    further c.args.separator n _ _ _ c.in-Some.ensures.pieces ∙ c.pieces.invariant (suc n)
    ∙ ap (λ m. piece c.args.separator m c.args.text.now) (omega arith)

pub returns-in-None : goal.returns-in-None
returns-in-None c =
    let before = c.pieces-test.true in
    let left = c.args.count - c.pieces.counter in
    no_more c.args.separator left _ c.in-None.ensures.whole (omega (arith, before)) ∙ c.pieces.invariant left
    ∙ ap (λ m. piece c.args.separator m c.args.text.now) (omega (arith, before))

pub returns-in-Some-split_once : goal.returns-in-Some-split_once
returns-in-Some-split_once c =
    let within = c.pieces.auto.counter-end in
    let ended = c.pieces-test.false in
    sym (ap (λ pieces. get_or pieces 0 []) c.in-Some-split_once.ensures.pieces) ∙ c.pieces.invariant 0
    ∙ ap (λ m. piece c.args.separator m c.args.text.now) (omega (arith, within, ended))

pub returns-in-None-split_once : goal.returns-in-None-split_once
returns-in-None-split_once c =
    let within = c.pieces.auto.counter-end in
    let ended = c.pieces-test.false in
    sym (ap (λ pieces. get_or pieces 0 []) c.in-None-split_once.ensures.whole) ∙ c.pieces.invariant 0
    ∙ ap (λ m. piece c.args.separator m c.args.text.now) (omega (arith, within, ended))
