use Rattle.upd_row_store.proofs.Common.{ap, sym, ◌∙◌, is_among}
use Rattle.upd_row_store.proofs.HolderLemmas.{none_in_yanks}
use Rattle.upd_row_store.proofs.asked.homes_by_age.Goals as goal

pub returns : goal.returns
returns c = λ cards rows l sound shown of. record {
  decks = c.decks_by_age.ensures cards rows l sound shown of;
  yanks = λ none. none_in_yanks cards rows l c.args.ages.items shown of
      (ap (λ ages. is_among ages 0) (sym c.deref.ensures.value) ∙ sym c.contains-may_be_yanks.ensures.value ∙ none);
}
