-- The live cards of `YANK$$$`, one card at a time: what a loop from the last card to the first meets.
use Rattle.upd_core.proofs.Common.{◌≡◌, ℕ, ◌+◌, ◌<◌, Bool, true, false, if◌then◌else◌, List, ◌∷◌, ◌++◌, length, drop, set, get_or, refl, ap, sym, ◌∙◌, arith}
use Rattle.upd_core.proofs.Common.{drop_more, Target, CardView, is_good, targets_of, live_cards, liveness}
use Rattle.std.proofs.lemmas.List.{drop-set}

-- the live cards of a list, given those after its first card y
abbrev pub live_before : CardView → List CardView → List CardView
live_before y later = if is_good (targets_of later) 0 y then y ∷ later else later

pub good_before : (y : CardView) (later : List CardView) → is_good (targets_of later) 0 y ≡ true → live_before y later ≡ y ∷ later
good_before y later e = ap (λ b. if b then y ∷ later else later) e

pub bad_before : (y : CardView) (later : List CardView) → is_good (targets_of later) 0 y ≡ false → live_before y later ≡ later
bad_before y later e = ap (λ b. if b then y ∷ later else later) e

-- one card more: its liveness, and the targets of the live cards from it on
pub flags-more : (yanks : List CardView) (live : List Bool) (targets : List Target) (i : ℕ) (b : Bool) (y : CardView) →
    i < length yanks → length live ≡ length yanks → y ≡ get_or yanks i y → drop (i + 1) live ≡ liveness (drop (i + 1) yanks) →
    targets ≡ targets_of (live_cards (drop (i + 1) yanks)) → b ≡ is_good targets 0 y →
    (drop i (set live i b) ≡ liveness (drop i yanks)) × (targets_of (live_cards (drop i yanks)) ≡ (if b then y.targets ++ targets else targets))
flags-more yanks live targets i b y within lengths read flags taken good =
    let split : drop i yanks ≡ y ∷ drop (i + 1) yanks = drop_more yanks i y within ∙ ap (λ x. x ∷ drop (i + 1) yanks) (sym read) in
    (drop-set live i b (omega (arith, lengths)) ∙ rw (split, flags, good, taken) refl, rw (split, taken) (by_liveness b (good ∙ ap (λ t. is_good t 0 y) taken)))
  where
    later : List CardView
    later = live_cards (drop (i + 1) yanks)

    by_liveness : (b : Bool) → b ≡ is_good (targets_of later) 0 y → targets_of (live_before y later) ≡
        (if b then y.targets ++ targets_of later else targets_of later)
    by_liveness true e = ap targets_of (good_before y later (sym e))
    by_liveness false e = ap targets_of (bad_before y later (sym e))
