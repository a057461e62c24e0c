-- Targets that are the same by `==` are equal.
use Rattle.upd_apply.proofs.Common.{◌≡◌, true, Target, is_same}
use Rattle.std.proofs.Common.{rules}

pub same_target : (t u : Target) → is_same t u ≡ true → t ≡ u
same_target t u e = search rules
