use Rattle.std.proofs.Common.{sym}
use Rattle.std.proofs.lemmas.List.Sorted.{list_any-IsPermutation}
use Rattle.upd_row_store.specs.Ranges.{in_range}
use Rattle.upd_row_store.proofs.ranges.from_last.Goals as goal

pub returns : goal.returns
returns c = λ x. sym (list_any-IsPermutation (λ range. in_range range x) c.args.ranges.items c.reverse.new.self.items c.reverse.ensures.permutation)
