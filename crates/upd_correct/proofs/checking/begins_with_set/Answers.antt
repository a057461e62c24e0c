use Rattle.upd_correct.proofs.Common.{◌≡◌, ◌++◌, drop, ap, ◌∙◌, Some, inr, arith, codes, Decides-eqb, Bytes}
use Rattle.std.proofs.lemmas.Slice.Eq.{strip_prefix_is}
use Rattle.upd_correct.proofs.TextLemmas.{feed_first}
use Rattle.upd_correct.proofs.checking.begins_with_set.Goals as goal

pub returns-in-len1-up : goal.returns-in-len1-up
returns-in-len1-up c is =
    let name : c.args.run.now ≡ codes "*IDENT " ++ c.in-Some.name.now =
    strip_prefix_is Decides-eqb c.args.run.now (codes "*IDENT ") (Some c.in-Some.name) c.in-Some.ensures.cases in
    let rest : c.in-Some.name.now ≡ c.args.set.now ++ c.in-Some-strip_prefix.rest.now =
    strip_prefix_is Decides-eqb c.in-Some.name.now c.args.set.now (Some c.in-Some-strip_prefix.rest) c.in-Some-strip_prefix.ensures.cases in
    inr (
      drop 1 c.in-Some-strip_prefix.rest.now,
      name ∙ ap (λ (bs : Bytes). codes "*IDENT " ++ bs)
          (rest ∙ ap (λ (bs : Bytes). c.args.set.now ++ bs) (feed_first c.in-Some-strip_prefix.rest.now (omega arith) is)),
    )
