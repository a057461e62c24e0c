-- What several writes leave in a text of fixed room.
use Rattle.upd_wire.proofs.Common.{◌≡◌, ℕ, List, [], ◌∷◌, ◌++◌, ap, sym, ◌∙◌, append_assoc, append-nil, concat}
use Rattle.std.specs.List.{FoldsTo}
use Rattle.std.specs.Fmt.{WritesInCalls}
use Rattle.std.specs.Fmt.InlineText.{AppendsIfIntact, IsIntact, inline_text}
use Rattle.std.specs.declared.fmt.InlineText.{InlineText}

module _ {n : ℕ} where
  -- each part follows those before it
  parts_written : (old : InlineText n) (parts : List (List ℕ)) (new : InlineText n) → IsIntact old → FoldsTo AppendsIfIntact old parts new
      → inline_text new ≡ inline_text old ++ concat parts
  parts_written old [] new whole calls = ap inline_text (sym calls) ∙ sym (append-nil (inline_text old))
  parts_written old (part ∷ parts) new whole calls =
      let (mid, wrote, then) = calls in
      let (still, is) = wrote whole in
      parts_written mid parts new still then ∙ ap (λ text. text ++ concat parts) is ∙ append_assoc (inline_text old) part (concat parts)

  -- what they write together is appended
  pub text_written : (old : InlineText n) (bytes : List ℕ) (new : InlineText n) → IsIntact old → WritesInCalls AppendsIfIntact old bytes new
      → inline_text new ≡ inline_text old ++ bytes
  text_written old bytes new whole writes =
      parts_written old writes.parts new whole writes.calls ∙ ap (λ text. inline_text old ++ text) writes.whole
