use Rattle.upd_compile.proofs.Common.{◌≡◌, ◌++◌, drop, flat_map}
use Rattle.upd_compile.proofs.text_parts.push_parts.Given as goal

abbrev pub invariant-loop-part : goal.invariant-loop-part
invariant-loop-part l =
    l.text.items ++ flat_map (λ part. part.now) (drop l.part-index l.parts)
    ≡ l.initial.text.items ++ flat_map (λ part. part.now) l.parts
