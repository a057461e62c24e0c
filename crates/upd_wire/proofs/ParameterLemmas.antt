-- Parameters that are texts.
use Rattle.upd_wire.proofs.Common.{◌≡◌, List, ℕ, false, Ok, Err, refl, IsUtf8, IsUtf8-from_is_utf8, FaultKind}
use Rattle.std.specs.Str.{is_utf8}
use Rattle.std.proofs.lemmas.Str.{is_utf8-from_IsUtf8}
use Rattle.std.proofs.lemmas.Bool.{false_from_ne_true}
use Rattle.upd_wire.specs.Calls.{fault_refusal}
use Rattle.upd_wire.specs.Parameters.{or_refuse, text_of}

pub text_is : (kind : FaultKind) (bytes : List ℕ) → IsUtf8 bytes → or_refuse kind (text_of bytes) ≡ Ok bytes
text_is kind bytes is = rw (is_utf8-from_IsUtf8 bytes is) refl

pub text_not : (kind : FaultKind) (bytes : List ℕ) → (IsUtf8 bytes → ⊥) → or_refuse kind (text_of bytes) ≡ Err (fault_refusal kind)
text_not kind bytes none =
    let no : is_utf8 bytes ≡ false = false_from_ne_true (is_utf8 bytes) (λ is. none (IsUtf8-from_is_utf8 bytes is)) in
    rw no refl
