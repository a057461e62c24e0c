use Rattle.upd_wire.proofs.Common.{sym, ◌∙◌, arith, length-take-le, take_all}
use Rattle.std.proofs.lemmas.Bool.{cond-false}
use Rattle.upd_wire.specs.declared.log_lines.TheConstants.{MAX_FIELD}
use Rattle.upd_wire.proofs.log_lines.shown.Goals as goal

pub returns-then-text-le-MAX_FIELD : goal.returns-then-text-le-MAX_FIELD
returns-then-text-le-MAX_FIELD c =
    sym (take_all MAX_FIELD c.args.text.now c.if-text-le-MAX_FIELD.true) ∙ sym (cond-false _ _ _ (sym c.is_empty.ensures ∙ c.if-is_empty.false))

pub slice_bounds-result-end-2 : goal.slice_bounds-result-end-2
slice_bounds-result-end-2 c = sym (length-take-le MAX_FIELD c.args.text.now (let more = c.if-text-le-MAX_FIELD.false in omega (arith, more)))
