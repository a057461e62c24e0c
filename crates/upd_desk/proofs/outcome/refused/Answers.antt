use Rattle.upd_desk.proofs.Common.{ℕ, false, List, ap, refl, rules, sym, ◌∙◌, subst, AreShown, refused_text, ArrivalView, ReplyView}
use Rattle.upd_desk.proofs.MadeLemmas.{passed}
use Rattle.upd_desk.proofs.ShownLemmas.{site_shown, word_shown}
use Rattle.upd_desk.proofs.outcome.refused.Goals as goal

pub returns-clause-refusal : goal.returns-clause-refusal
returns-clause-refusal c = record {
  reply = λ mode l entered.
      let through = passed c.args.arrival.now mode entered in
      let site = subst (λ (a : ArrivalView). AreShown a.site) (sym c.arrival.view_is) (site_shown c.args.arrival.now.site through.site) in
      let word = subst (λ (a : ArrivalView). AreShown a.mode) (sym c.arrival.view_is) (word_shown c.args.arrival.now.mode mode through.word) in
      let reply : List ℕ → ReplyView = λ text. record { accepted = false; text = text } in
      ap reply (c.in_ok-text.ensures site word ∙ ap (λ (a : ArrivalView). refused_text a.site a.number a.mode c.args.fault) c.arrival.view_is);
  changes = c.new.ensures.items;
  work = refl;
  kind = search rules;
}
