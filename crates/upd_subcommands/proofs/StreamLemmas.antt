-- What is read of an input.
use Rattle.upd_subcommands.proofs.Common.{◌≡◌, ℕ, ◌⊎◌, ◌<◌, ◌≤◌, inl, inr, List, [], ◌++◌, Option, length, take, sym, ap, ◌∙◌, subst, append-nil, arith}
use Rattle.upd_subcommands.proofs.Common.{cases_lt, take_all, Fault, FaultKind, no_memory, read_failed, some_input}
use Rattle.std.proofs.Math.Seq.{take-append_seam}
use Rattle.std.proofs.KnownBytes.{Consumes-nil}
use Rattle.std.specs.Io.KnownBytes.{Consumes, IsAtEnd}
use Rattle.upd_wire.specs.Inputs.{IsReadFailure}
use Rattle.upd_text.specs.Faults.{fault_at}
use Rattle.upd_wire.proofs.InputLemmas.{input_at_end, input_behind}
use Rattle.upd_subcommands.specs.Streams.{IsFrontOf, TakesFront}

-- what was read up to a bound, or to the end, is the front of the input
front_read : (most : ℕ) (old new : Option (List ℕ)) (items : List ℕ) → Consumes old new items
    → (length items ≡ most) ⊎ ((length items ≤ most) × IsAtEnd new) → IsFrontOf most old items
front_read most old new items consumed (inl full) =
    let (rest, left) = some_input new in
    (items ++ rest, input_behind old new items rest consumed left, sym (take-append_seam items rest) ∙ ap (λ n. take n (items ++ rest)) full)
front_read most old new items consumed (inr (few, ended)) = (
  items ++ [],
  input_behind old new items [] consumed (input_at_end new ended),
  sym (take_all most items few) ∙ ap (take most) (sym (append-nil items)),
)

-- what was read into an empty vector up to a bound
pub front_read_up_to : (most : ℕ) (old new : Option (List ℕ)) (first items taken : List ℕ) (len : ℕ) → first ≡ [] → items ≡ first ++ taken
    → Consumes old new taken
    → len ≡ length items → len ≤ most → (len < most → IsAtEnd new) → IsFrontOf most old items
front_read_up_to most old new first items taken len empty grown consumed is within end =
    let all : items ≡ taken = grown ∙ ap (λ l. l ++ taken) empty in
    front_read most old new items (subst (Consumes old new) (sym all) consumed) (by (cases_lt len most))
  where
    by : (len < most) ⊎ (most ≤ len) → (length items ≡ most) ⊎ ((length items ≤ most) × IsAtEnd new)
    by (inl few) = inr (omega (arith, is, within), end few)
    by (inr many) = inl (omega (arith, is, within, many))

-- and no more than the bound was taken
pub few_taken : (most : ℕ) (first items taken : List ℕ) (len : ℕ) → first ≡ [] → items ≡ first ++ taken → len ≡ length items → len ≤ most
    → length taken ≤ most
few_taken most first items taken len empty grown is within =
    let all = ap length (grown ∙ ap (λ l. l ++ taken) empty) in
    omega (arith, all, is, within)

pub read_fails : (kind : FaultKind) (fault : Fault) → fault ≡ fault_at kind 0 → IsReadFailure kind → (fault ≡ no_memory) ⊎ (fault ≡ read_failed)
read_fails kind fault is (inl memory) = inl (is ∙ ap (λ k. fault_at k 0) memory)
read_fails kind fault is (inr read) = inr (is ∙ ap (λ k. fault_at k 0) read)

-- nothing was taken
pub takes_nothing : (most : ℕ) (known : Option (List ℕ)) → TakesFront most known known
takes_nothing most known =
    let none : 0 ≤ most = omega arith in
    ([], none, Consumes-nil known)
