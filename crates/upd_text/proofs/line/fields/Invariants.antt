use Rattle.std.proofs.Common.{◌≡◌, ◌++◌, map, length}
use Rattle.std.specs.List.{slice_split}
use Rattle.upd_text.specs.Lines.{fields, fields_of, is_comma}
use Rattle.upd_text.proofs.line.fields.Given as goal

abbrev pub invariant-loop-piece : goal.invariant-loop-piece
invariant-loop-piece l = map (λ x. x.now) l.found.items ++ fields_of (slice_split is_comma l.rest) ≡ fields l.line

abbrev pub decreases-loop-piece : goal.decreases-loop-piece
decreases-loop-piece l = length l.rest
