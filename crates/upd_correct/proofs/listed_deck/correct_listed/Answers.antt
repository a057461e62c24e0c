use Rattle.upd_correct.proofs.Common.{Bor, ℕ, List, map, ap, subst, rules, ◌∙◌, LibraryView, CorrectError}
use Rattle.upd_correct.specs.Causes.{AreRefusals, IsCause}
use Rattle.upd_correct.specs.ListedDeck.{library_of}
use Rattle.upd_correct.proofs.listed_deck.correct_listed.Goals as goal

pub returns-clause-refused : goal.returns-clause-refused
returns-clause-refused c =
    let lines = ap (map (λ (t : Bor (List ℕ)). t.now)) c.deref-3.ensures.value ∙ c.in_ok-lines.ensures in
    let Refuses : LibraryView → Type 0 = λ l. AreRefusals l l c.args.set.now c.args.text.now c.in-Err-Refused.refusals.items in
    let IsCauseOf : CorrectError → Type 0 = IsCause c.in_ok-library.library c.args.set.now c.args.text.now in
    let refused = subst IsCauseOf c.in-Err-Refused.field-0-is c.in-Err-Refused.ensures.refused in
    (record { listed = search rules; own = search rules }, subst Refuses (c.in_ok-library.ensures ∙ ap library_of lines) refused)
