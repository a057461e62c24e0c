-- The listing of `YANK$$$` and that of the yanks agree on each yank card.
use Rattle.upd_laws.proofs.Common.{◌≡◌, ◌∷◌, ◌++◌, [], List, if◌then◌else◌, refl, ap, ◌∙◌, Ok, flat_map, yank_name, CardView, LibraryView, IsSound}
use Rattle.upd_laws.proofs.Common.{live_targets}
use Rattle.std.specs.Prelude.{codes}
use Rattle.upd_core.proofs.YankLemmas.{active_where_good}
use Rattle.upd_compile.specs.Listings.{card_name, deck_heading, deck_line, deck_listing, line_of}
use Rattle.upd_laws.specs.YankLines.{yank_line}

pub listings_agree : (l : LibraryView) → IsSound l
    → deck_listing yank_name l ≡ Ok (deck_heading l.idents 0 ++ flat_map (yank_line l.idents (live_targets l)) l.yanks)
listings_agree l sound = ap (λ lines. Ok (deck_heading l.idents 0 ++ lines)) (same l.yanks)
  where
    one : (c : CardView) → deck_line l.idents (live_targets l) 0 c ≡ yank_line l.idents (live_targets l) c
    one c = ap (λ b. line_of ((if b then codes "A" else codes "I") ∷ card_name l.idents c ∷ c.text ∷ [])) (active_where_good l c sound)

    same : (cards : List CardView) → flat_map (deck_line l.idents (live_targets l) 0) cards ≡ flat_map (yank_line l.idents (live_targets l)) cards
    same [] = refl
    same (c ∷ cards) =
        ap (λ line. line ++ flat_map (deck_line l.idents (live_targets l) 0) cards) (one c)
        ∙ ap (λ lines. yank_line l.idents (live_targets l) c ++ lines) (same cards)
