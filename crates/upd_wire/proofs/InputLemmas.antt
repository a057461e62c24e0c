-- Inputs that are read.
use Rattle.upd_wire.proofs.Common.{◌≡◌, ℕ, List, [], ◌++◌, Option, None, Some, refl, sym, ap, ◌∙◌, Consumes, IsInput}
use Rattle.std.specs.Io.KnownBytes.{IsAtEnd}

pub some_input : (known : Option (List ℕ)) → (bytes : List ℕ) × IsInput known bytes
some_input None = ([], tt)
some_input (Some all) = (all, refl)

-- what was read, and then what is left
pub input_behind : (old new : Option (List ℕ)) (taken rest : List ℕ) → Consumes old new taken → IsInput new rest → IsInput old (taken ++ rest)
input_behind None new taken rest consumed is = tt
input_behind (Some all) None taken rest consumed is = absurd consumed
input_behind (Some all) (Some later) taken rest consumed is = ap (λ l. taken ++ l) is ∙ sym consumed

-- nothing is left
pub input_at_end : (known : Option (List ℕ)) → IsAtEnd known → IsInput known []
input_at_end None ended = tt
input_at_end (Some all) ended = sym ended
