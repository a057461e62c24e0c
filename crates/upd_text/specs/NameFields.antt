-- How a `Name` stores its bytes: at the front of an array, padded with zeros.
use Rattle.std.specs.Prelude.{◌≡◌, ℕ, ◌-◌, ◌≤◌, ◌++◌, length, take, drop, replicate}
use Rattle.std.proofs.Common.{arith}
use Rattle.std.proofs.lemmas.Grind.{common_steps}
use Rattle.upd_text.specs.declared.name.Name.TheInside.{Inside}
use Rattle.upd_text.specs.Units.{Bytes}

-- the bytes of the name
abbrev pub shown : Inside → Bytes
shown n = take n.len n.bytes

-- nine bytes; those after the name are zeros
pub record IsPadded (n : Inside) : Type 0 where
  pub array : length n.bytes ≡ 9
  pub short : n.len ≤ 9
  pub padding : drop n.len n.bytes ≡ replicate (9 - n.len) 0

-- the fields of a name with these bytes
abbrev pub inside_of : Bytes → Inside
inside_of name = record { bytes = name ++ replicate (9 - length name) 0; len = length name }

same_inside : (bs cs : Bytes) (m n : ℕ) → bs ≡ cs → m ≡ n → (let a : Inside = record { bytes = bs; len = m } in a) ≡ record { bytes = cs; len = n }
same_inside bs cs m n e f i = record { bytes = e i; len = f i }

-- the bytes of a name determine its fields
pub fields_again : (n : Inside) → IsPadded n → inside_of (shown n) ≡ n
fields_again n padded =
    let len : length (take n.len n.bytes) ≡ n.len = grind (arith, common_steps, padded.array, padded.short) in
    let bytes : take n.len n.bytes ++ replicate (9 - length (take n.len n.bytes)) 0 ≡ n.bytes =
    rw (len, ← padded.padding) (grind (arith, common_steps)) in
    same_inside _ _ _ _ bytes len
