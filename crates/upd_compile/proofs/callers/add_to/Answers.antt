use Rattle.upd_compile.proofs.Common.{◌≡◌, ◌∙◌, ◌<◌, ◌==◌, ◌&&◌, ℕ, List, [], ◌∷◌, ◌++◌, Some, Vec, Global, map, length, slice_get, refl, sym, subst, arith}
use Rattle.upd_compile.proofs.Common.{common_steps, gets, slice_get-map, slice_get_within, set, FollowsMore}
use Rattle.std.proofs.lemmas.List.{map-set}
use Rattle.upd_compile.proofs.FollowLemmas.{FollowsMore-one}
use Rattle.upd_compile.proofs.callers.add_to.Goals as goal

pub returns-in_ok-push : goal.returns-in_ok-push
returns-in_ok-push c =
    let lists = c.args.lists.now.items in
    let position = c.args.position in
    let shown : List (Vec ℕ Global) → List (List ℕ) = map (λ list. list.items) in
    let list = c.index_mut-list.result.now.items in
    let at : slice_get lists position ≡ Some c.index_mut-list.result.now = grind (arith, common_steps, gets) in
    let found : slice_get (shown lists) position ≡ Some list = slice_get-map (λ (list : Vec ℕ Global). list.items) lists position ∙ rw at refl in
    let within : position < length (shown lists) = slice_get_within (shown lists) position list found in
    let longer : shown (set lists position c.push.new.self) ≡ set (shown lists) position (list ++ c.args.caller ∷ []) =
    map-set (λ (list : Vec ℕ Global). list.items) lists position c.push.new.self ∙ rw c.in_ok-push.ensures.items refl in
    subst (FollowsMore (λ a d. (position == a) && (c.args.caller == d)) (shown lists)) (sym longer)
    (FollowsMore-one (shown lists) position c.args.caller list within found)
