use Rattle.std.proofs.Common.{◌≡◌, ◌∷◌, List, sym, ap, ◌∙◌}
use Rattle.std.proofs.lemmas.List.Sorted.{list_any-IsPermutation}
use Rattle.upd_records.specs.Rows.{same_ref}
use Rattle.upd_text.specs.declared.card_ref.CardRef.{CardRef}
use Rattle.upd_row_store.specs.Ranges.{is_among}
use Rattle.upd_row_store.proofs.ranges.ranges_of.Goals as goal

pub returns-in-Some : goal.returns-in-Some
returns-in-Some c = λ x.
    let sorted : List CardRef = c.sort.new.self.items in
    let parts : sorted ≡ c.in-Some.first.now ∷ c.in-Some.rest.now = sym c.deref.ensures.value ∙ c.in-Some.ensures.cases.0 in
    c.from_last.ensures x ∙ c.in_ok-joined-in-Some.ensures x ∙ ap (λ cards. is_among cards x) (sym parts)
    ∙ sym (list_any-IsPermutation (λ card. same_ref card x) c.args.cards.items sorted c.sort.ensures.permutation)
