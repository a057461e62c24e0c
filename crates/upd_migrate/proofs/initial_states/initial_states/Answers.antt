use Rattle.upd_migrate.proofs.Common.{◌≡◌, ◌<◌, ◌^◌, map, length, ap, sym, ◌∙◌, subst, rules, arith, LibraryView, empty, IsSound, change_view, done_all}
use Rattle.upd_migrate.proofs.Common.{ShowsStates, TakeGone, touched, empty_sound, IsRight}
use Rattle.upd_core.specs.Counted.{CountedView}
use Rattle.upd_core.specs.Sound.{AreApart, all_cards, key_of}
use Rattle.upd_migrate.proofs.RowChanges.{between, enough, none_gone, shows_nothing}
use Rattle.upd_migrate.proofs.initial_states.initial_states.Goals as goal

pub returns-clause-states : goal.returns-clause-states
returns-clause-states c = λ sound rows states counts.
    let l = c.args.library.now in
    let cache = c.in_ok-cache.cache in
    let run = c.in_ok-brought.brought.touched.items in
    let nothing = c.new-nothing.ensures in
    let within : length c.yanks.result.now < 2 ^ 32 = search rules in
    let few = subst (λ ys. length ys < 2 ^ 32) c.yanks.ensures within in
    let empty_few : length empty.yanks < 2 ^ 32 = omega arith in
    let right : IsRight empty cache = subst (λ (x : LibraryView). IsRight x cache) nothing
    (c.in_ok-cache.ensures.right (subst IsSound (sym nothing) empty_sound)
    (subst (λ (x : LibraryView). length x.yanks < 2 ^ 32) (sym nothing) empty_few)) in
    let is : run ≡ touched empty l = c.in_ok-brought.ensures.touched (subst (λ (x : LibraryView). AreApart (map key_of (all_cards x))) (sym nothing) tt)
    ∙ ap (λ (x : LibraryView). touched x l) nothing in
    let across = between l cache run sound few right is in
    let all = enough l c.new-4.result.library run (ap (λ (k : CountedView). k.library) c.new-4.ensures) in
    let no_changes = c.new-3.ensures.items in
    let row_changes = c.in_ok-changes.ensures.changes empty l all across (subst (λ xs. TakeGone empty l (map change_view xs)) (sym no_changes) (none_gone l))
    rows (shows_nothing rows states counts) in
    subst (λ xs. ShowsStates (done_all (map change_view c.in_ok-changes.changes.items) (done_all (map change_view xs) rows)) l) no_changes row_changes
