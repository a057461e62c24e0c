use Rattle.upd_correct.proofs.Common.{Bor, ◌≡◌, ℕ, List, map, length, take, drop, sym, ap, ◌∙◌, subst, length-map, AllZip, next_age, LiveView}
use Rattle.upd_correct.proofs.Common.{live_targets, AllByRecursion, HasTexts, LeadsCards, Target, NewDeck, new_decks, IsDeckLeft, held_serials}
use Rattle.upd_correct.specs.Checked.{Brings}
use Rattle.upd_correct.proofs.checked_library.is_corrected.Goals as goal

pub returns-clause-corrects : goal.returns-clause-corrects
returns-clause-corrects c is =
    let before = c.args.base.now.library.now in
    let after = c.args.after.now in
    let added : map (λ (d : Bor NewDeck). d.now) c.deref-else-not-is_kept.result.now ≡ new_decks before c.args.decks.now =
    ap (map (λ (d : Bor NewDeck). d.now)) c.deref-else-not-is_kept.ensures.value ∙ c.in_ok-added.ensures in
    let held : c.deref.result.now ≡ held_serials before c.args.decks.now = c.deref.ensures.value ∙ c.in_ok-held.ensures in
    let kept = c.if-not-is_kept.false in
    let grown = c.if-not-is_grown.false in
    let live : c.in_ok-taken.taken.targets ≡ live_targets c.args.base.now.taken.now = ap (λ (v : LiveView). v.targets) c.in_ok-taken.ensures.ok in
    record {
      idents = c.is_kept.ensures.idents kept;
      brings = subst (λ (ds : List NewDeck). Brings c.args.run.now (next_age before) c.args.set.now ds (drop (length before.idents) after.idents)) added
          (c.is_grown.ensures.brings grown);
      yanks = c.is_kept.ensures.yanks kept;
      rest = c.is_kept.ensures.rest kept;
      others = subst (λ (serials : List ℕ). AllZip (IsDeckLeft serials) before.decks (take (length before.decks) after.decks)) held
          (c.is_kept.ensures.others kept);
      added = c.is_grown.ensures.added grown;
      count = c.is_grown.ensures.count grown ∙ sym (length-map c.deref-else-not-is_kept.result.now (λ (d : Bor NewDeck). d.now)) ∙ ap length added;
      texts = subst (λ (live : List Target). AllByRecursion (HasTexts live after) c.args.decks.now) live (c.in_ok-same.ensures.0 is);
      cards = subst (λ (live : List Target). AllByRecursion (LeadsCards live c.args.base.now.last before after) c.args.decks.now) live
          (c.leave_cards.ensures c.if-not-leave_cards.false);
    }
