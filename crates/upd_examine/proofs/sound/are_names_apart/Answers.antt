use Rattle.upd_examine.proofs.Common.{exact_bytes}
use Rattle.upd_examine.proofs.sound.are_names_apart.Goals as goal

pub are_apart-requires : goal.are_apart-requires
are_apart-requires c = exact_bytes
