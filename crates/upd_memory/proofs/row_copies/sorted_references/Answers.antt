use Rattle.upd_memory.proofs.Common.{subst, IsPermutation}
use Rattle.upd_memory.proofs.row_copies.sorted_references.Goals as goal

pub returns : goal.returns
returns c = subst (λ xs. IsPermutation xs c.sort.new.self.items) c.in_ok-cards.ensures c.sort.ensures.permutation
