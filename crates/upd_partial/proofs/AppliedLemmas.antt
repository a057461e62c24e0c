-- Whole plain runs on a part of a library.
use Rattle.upd_partial.proofs.Common.{◌≡◌, ℕ, Bool, false, List, Result, Ok, Err, refl, sym, ap, ◌∙◌, subst, IfOk, Fault, ◌>>=◌, at_line, LibraryView}
use Rattle.upd_partial.proofs.Common.{IsSound, ItemView, LineView, State, Reached, applied, stepped, part, DoesWithout, left_out, reached_in_part}
use Rattle.upd_text.specs.Outcome.{each}
use Rattle.upd_deck.specs.Items.{Compile}
use Rattle.upd_apply.specs.Applying.{ages_brought, started}
use Rattle.upd_apply.specs.Compile.{decks_in_any, line_ranges, named_decks}
use Rattle.upd_apply.specs.Names.{Ages}
use Rattle.upd_partial.proofs.NeedLemmas.{none_in, sound_listed}
use Rattle.upd_partial.proofs.RunLemmas.{Runs, runs}
use Rattle.upd_partial.proofs.StepLemmas.{in_part, parted}

-- what `*COMPILE` names depends only on the directory
ranges_same : (out : ℕ → Bool) (l : LibraryView) (item : ItemView) → line_ranges (part out l) item ≡ line_ranges l item
ranges_same out l (Compile ranges) = refl
ranges_same out l _ = refl

decks_same : (out : ℕ → Bool) (lines : List LineView) (l : LibraryView) → named_decks lines (part out l) ≡ named_decks lines l
decks_same out lines l =
    ap (λ (r : Result (List Ages) Fault). r >>= (λ ranges. Ok (decks_in_any ranges l)))
    (λ i. each (λ (line : LineView). at_line line.number (ranges_same out l line.item i)) lines)

ran : (out : ℕ → Bool) (lines : List LineView) (l : LibraryView) → IsSound l → DoesWithout out lines l → Runs out lines (started l)
ran out lines l sound does =
    runs out lines (started l) (record { fresh = does.listed; insert_point = tt }) (sound_listed out l sound) does.plain (none_in out lines l sound does.cards)

-- what follows the lines
abbrev finish : List LineView → LibraryView → State → Result Reached Fault
finish lines l s = named_decks lines s.library >>= (λ decks. Ok (record { library = s.library; idents = ages_brought l s.library; compile = decks }))

finish_same : (out : ℕ → Bool) (lines : List LineView) (l : LibraryView) (t : State)
    → finish lines (part out l) (parted out t) ≡ reached_in_part out (finish lines l t)
finish_same out lines l t = go (named_decks lines t.library) (decks_same out lines t.library)
  where
    go : (r : Result (List ℕ) Fault) → named_decks lines (part out t.library) ≡ r
        → finish lines (part out l) (parted out t)
        ≡ reached_in_part out (r >>= (λ decks. Ok (record { library = t.library; idents = ages_brought l t.library; compile = decks })))
    go (Ok decks) e = rw e refl
    go (Err f) e = rw e refl

-- what a run does to the part is what it does to the whole
pub applied_same : (out : ℕ → Bool) (lines : List LineView) (l : LibraryView) → out 0 ≡ false → IsSound l → DoesWithout out lines l
    → applied lines (part out l) ≡ reached_in_part out (applied lines l)
applied_same out lines l yanks sound does = go (stepped lines (started l)) refl
  where
    all : stepped lines (started (part out l)) ≡ in_part out (stepped lines (started l))
    all = (ran out lines l sound does).same yanks

    go : (r : Result State Fault) → stepped lines (started l) ≡ r → applied lines (part out l) ≡ reached_in_part out (applied lines l)
    go (Ok t) e =
        ap (λ r. r >>= finish lines (part out l)) (all ∙ ap (in_part out) e) ∙ finish_same out lines l t
        ∙ ap (λ r. reached_in_part out (r >>= finish lines l)) (sym e)
    go (Err f) e =
        ap (λ r. r >>= finish lines (part out l)) (all ∙ ap (in_part out) e) ∙ ap (λ r. reached_in_part out (r >>= finish lines l)) (sym e)

-- what is left out stays as it is
pub applied_left : (out : ℕ → Bool) (lines : List LineView) (l : LibraryView) (reached : Reached) → IsSound l → DoesWithout out lines l
    → applied lines l ≡ Ok reached → left_out out reached.library ≡ left_out out l
applied_left out lines l reached sound does e = go (stepped lines (started l)) refl
  where
    left : IfOk (stepped lines (started l)) (λ t. left_out out t.library ≡ left_out out l)
    left = (ran out lines l sound does).left

    end : (t : State) (r : Result (List ℕ) Fault) → left_out out t.library ≡ left_out out l
        → (r >>= (λ decks. Ok (record { library = t.library; idents = ages_brought l t.library; compile = decks }))) ≡ Ok reached
        → left_out out reached.library ≡ left_out out l
    end t (Ok decks) h is = let same : t.library ≡ reached.library = cc in subst (λ m. left_out out m ≡ left_out out l) same h
    end t (Err f) h is = absurd (cc)

    go : (r : Result State Fault) → stepped lines (started l) ≡ r → left_out out reached.library ≡ left_out out l
    go (Ok t) f = end t (named_decks lines t.library) (rw f at left) (sym (ap (λ r. r >>= finish lines l) f) ∙ e)
    go (Err g) f = absurd (let bad = sym (ap (λ r. r >>= finish lines l) f) ∙ e in cc)
