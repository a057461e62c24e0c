-- A run that was applied to the decks which it needs has been applied to the whole library.
use Rattle.upd_desk.proofs.Common.{◌≡◌, ℕ, ◌<◌, ◌^◌, Bool, true, false, not, ◌&&◌, if◌then◌else◌, List, length, map, Result, Ok, Err, inl, refl, ap, sym, ◌∙◌}
use Rattle.upd_desk.proofs.Common.{subst, list_any, AllByRecursion, Fault, actives_of, is_among, LibraryView, part, part_of, IsSound, ChangeView, change_view}
use Rattle.upd_desk.proofs.Common.{done_all, Rows, ShowsStates, LineView, Reached, applied, touched, decks_with, run_goes, run_sound, run_whole, run_within}
use Rattle.upd_desk.proofs.Common.{affected, IsEnough, cards_named, decks_needed, is_yank_card, is_plain, is_left_out, whole_part, part_of_others, AppliedRun}
use Rattle.upd_desk.proofs.Common.{IsAppliedRun, IsMade}
use Rattle.std.specs.Prelude.{◌==◌}
use Rattle.upd_core.specs.Sound.{AreApart, IsWhole, all_cards, key_of}
use Rattle.upd_diff.specs.States.{TakeGone}
use Rattle.upd_diff.specs.RowChanges.{RowChanges}
use Rattle.upd_diff.proofs.ShownRowsLemmas.{taken_by_row_changes}
use Rattle.upd_yank.specs.Renewed.{IsAsBefore, renewed}
use Rattle.upd_yank.specs.Right.{CacheView, IsRight, IsRunBetween}
use Rattle.upd_yank.proofs.EnoughLemmas.{part_of_none}
use Rattle.upd_yank.proofs.RenewLemmas.{renewed_is}
use Rattle.upd_partial.specs.Needless.{DoesWithout, IsOnWhole, NamesNone, reached_in_part}
use Rattle.upd_partial.proofs.AloneLemmas.{affected_in, enough_alone}
use Rattle.upd_partial.proofs.AppliedLemmas.{applied_same}
use Rattle.upd_partial.proofs.CountLemmas.{none_left_out}
use Rattle.upd_partial.proofs.LeftLemmas.{no_yank_named}
use Rattle.upd_partial.proofs.NeedLemmas.{others_listed}
use Rattle.upd_partial.proofs.NeededLemmas.{others_unnamed}
use Rattle.upd_partial.proofs.PartLeadLemmas.{part_leads}
use Rattle.upd_partial.proofs.PartSoundLemmas.{part_sound}
use Rattle.upd_partial.proofs.RenewLemmas.{renewed_alone}
use Rattle.upd_partial.proofs.WholeLemmas.{on_whole}
use Rattle.upd_desk.proofs.LeadLemmas.{few_yanks}

abbrev here_of : AppliedRun → Reached
here_of run = record { library = run.library; idents = run.applied.idents.items; compile = run.applied.compile.items }

-- What is known of a run that was applied to a library: where it came, what it touched, and that its changes lead there.
record IsAppliedTo (lines : List LineView) (found : LibraryView) (run : AppliedRun) : Type 0 where
  is : applied lines found ≡ Ok (here_of run)
  touches : AreApart (map key_of (all_cards found)) → run.applied.touched.items ≡ touched found run.library
  tells : RowChanges found run.library (map change_view run.applied.changes.items)

-- from the whole library the active cards are renewed as they are
renewed_all : (l new : LibraryView) (cache : CacheView) → IsSound l → IsSound new → IsWhole new → IsRight new cache
    → renewed cache.states new (actives_of l) ≡ actives_of new
renewed_all l new cache sound later whole right =
    subst (λ m. renewed cache.states m (actives_of l) ≡ actives_of new) (whole_part new)
    (renewed_is (λ z. not (is_among (map (λ d. d.ident) new.decks) z)) l new cache sound later whole right
    (subst (AllByRecursion (IsAsBefore l new)) (sym (none_left_out new)) tt))

-- what the status update of a run stands on where it was applied to a sound library
between : (lines : List LineView) (m : LibraryView) (run : AppliedRun) → IsSound m → length run.library.yanks < 2 ^ 32 → IsAppliedTo lines m run
    → (cache : CacheView) → IsRight m cache → IsRunBetween m run.library cache run.applied.touched.items
between lines m run sound few at cache right = record {
  before = sound;
  after = run_sound lines m (here_of run) sound at.is;
  goes_on = run_goes lines m (here_of run) at.is;
  right = right;
  touched = at.touches sound.keys;
  few = few;
}

takes : (lines : List LineView) (m : LibraryView) (run : AppliedRun) → IsSound m → IsAppliedTo lines m run
    → TakeGone m run.library (map change_view run.applied.changes.items)
takes lines m run sound at =
    taken_by_row_changes m run.library (map change_view run.applied.changes.items) sound (run_sound lines m (here_of run) sound at.is)
    (run_goes lines m (here_of run) at.is) at.tells

-- of the whole library
on_all : (lines : List LineView) (l : LibraryView) (run : AppliedRun) → IsMade l → IsAppliedTo lines l run
    → (reached : Reached) × IsAppliedRun lines l l reached run
on_all lines l run made at = (
  here_of run,
  record {
    applied = at.is;
    idents = refl;
    compile = refl;
    directory = refl;
    row_changes = at.tells;
    part = (λ _. false, refl, part_of_none l);
    status_update = record {
      between = between lines l run made.sound (few_yanks run.library (run_within lines l (here_of run) made.within at.is)) at;
      enough = inl (refl, whole);
      takes = takes lines l run made.sound at;
      looks = ap (λ cards. length (affected cards l run.library)) (at.touches made.sound.keys);
      leads = λ updates only here rows shows. here rows shows;
      renews = λ cache right. renewed_all l run.library cache made.sound (run_sound lines l (here_of run) made.sound at.is) whole right;
    };
  },
)
  where
    whole : IsWhole run.library
    whole = run_whole lines l (here_of run) made.whole at.is

-- of the decks that hold the cards which it names
on_named : (lines : List LineView) (l : LibraryView) (run : AppliedRun) → IsMade l → is_plain lines ≡ true
    → list_any (is_yank_card l) (cards_named lines) ≡ false → IsAppliedTo lines (part_of (decks_with (cards_named lines) l) l) run
    → (reached : Reached) × IsAppliedRun lines l (part_of (decks_with (cards_named lines) l) l) reached run
on_named lines l run made plain none at = by (on_whole ages lines l (here_of run) changes made.sound made.within plain
    (others_unnamed lines l made.sound) at.is at.tells)
  where
    ages : List ℕ
    ages = decks_with (cards_named lines) l

    out : ℕ → Bool
    out = is_left_out ages l

    changes : List ChangeView
    changes = map change_view run.applied.changes.items

    same : part_of ages l ≡ part out l
    same = part_of_others ages l made.sound

    sound : IsSound (part out l)
    sound = part_sound out l made.sound

    here : IsAppliedTo lines (part out l) run
    here = subst (λ m. IsAppliedTo lines m run) same at

    does : DoesWithout out lines l
    does = record { plain = plain; listed = others_listed ages l; cards = others_unnamed lines l made.sound }

    named : NamesNone (λ d. d == 0) lines l
    named = no_yank_named lines l none

    by : IsOnWhole out lines l (here_of run) changes → (reached : Reached) × IsAppliedRun lines l (part_of ages l) reached run
    by on = (
      on.there,
      subst (λ m. IsAppliedRun lines l m on.there run) (sym same) (record {
        applied = on.reached;
        idents = ap (λ (r : Reached). r.idents) on.parted;
        compile = ap (λ (r : Reached). r.compile) on.parted;
        directory = ap (λ (r : Reached). r.library.idents) on.parted;
        row_changes = on.row_changes;
        part = (out, refl, refl);
        status_update = record {
          between = between lines (part out l) run sound few here;
          enough = subst (λ cards. IsEnough cards (part out l) run.library run.library) (sym (here.touches sound.keys))
              (subst (λ m. IsEnough (touched (part out l) m) (part out l) m m) (sym library)
              (enough_alone out lines l on.there refl made.sound does named on.reached));
          takes = takes lines (part out l) run sound here;
          looks = ap (λ cards. length (affected cards (part out l) run.library)) (here.touches sound.keys ∙ sym on.touched)
              ∙ ap (λ m. length (affected (touched l on.there.library) (part out l) m)) library
              ∙ ap length (affected_in out lines l on.there made.sound does named on.reached);
          leads = λ updates only leads rows shows.
              part_leads out lines l on.there refl made.sound does named on.reached changes updates
              (subst (λ m. RowChanges (part out l) m changes) library here.tells) only
              (subst (λ m. (rows : Rows) → ShowsStates rows (part out l) → ShowsStates (done_all updates (done_all changes rows)) m) library leads) rows shows;
          renews = λ cache right.
              ap (λ m. renewed cache.states m (actives_of l)) library
              ∙ renewed_alone out lines l on.there cache made.sound made.whole does named on.reached (subst (λ m. IsRight m cache) library right);
        };
      }),
    )
      where
        library : run.library ≡ part out on.there.library
        library = ap (λ (r : Reached). r.library) on.parted

        few : length run.library.yanks < 2 ^ 32
        few = subst (λ (m : LibraryView). length m.yanks < 2 ^ 32) (sym library)
            (few_yanks on.there.library (run_within lines l on.there made.within on.reached))

pub run_needed : (lines : List LineView) (l found : LibraryView) (run : AppliedRun) → IsMade l → found ≡ part_of (decks_needed lines l) l
    → applied lines found ≡ Ok (record { library = run.library; idents = run.applied.idents.items; compile = run.applied.compile.items })
    → (AreApart (map key_of (all_cards found)) → run.applied.touched.items ≡ touched found run.library)
    → RowChanges found run.library (map change_view run.applied.changes.items) → (reached : Reached) × IsAppliedRun lines l found reached run
run_needed lines l found run made loaded is touches tells = subst (Ran l) (sym loaded)
    (go (is_plain lines) refl (list_any (is_yank_card l) (cards_named lines)) refl
    (subst (λ m. IsAppliedTo lines m run) loaded (record { is = is; touches = touches; tells = tells })))
  where
    needed : Bool → Bool → List ℕ
    needed plain yanks = if plain && not yanks then decks_with (cards_named lines) l else map (λ d. d.ident) l.decks

    Ran : LibraryView → LibraryView → Type 0
    Ran l m = (reached : Reached) × IsAppliedRun lines l m reached run

    all : (ages : List ℕ) → ages ≡ map (λ d. d.ident) l.decks → IsAppliedTo lines (part_of ages l) run → Ran l (part_of ages l)
    all ages e at =
        let whole : part_of ages l ≡ l = ap (λ ds. part_of ds l) e ∙ whole_part l in
        subst (Ran l) (sym whole) (on_all lines l run made (subst (λ m. IsAppliedTo lines m run) whole at))

    go : (plain : Bool) → is_plain lines ≡ plain → (yanks : Bool) → list_any (is_yank_card l) (cards_named lines) ≡ yanks
        → IsAppliedTo lines (part_of (needed (is_plain lines) (list_any (is_yank_card l) (cards_named lines))) l) run
        → Ran l (part_of (needed (is_plain lines) (list_any (is_yank_card l) (cards_named lines))) l)
    go true e true f at = all (needed (is_plain lines) (list_any (is_yank_card l) (cards_named lines))) (rw (e, f) refl) at
    go false e yanks f at = all (needed (is_plain lines) (list_any (is_yank_card l) (cards_named lines))) (rw e refl) at
    go true e false f at =
        let held = decks_with (cards_named lines) l in
        let ages : needed (is_plain lines) (list_any (is_yank_card l) (cards_named lines)) ≡ held =
        ap (λ b. needed b (list_any (is_yank_card l) (cards_named lines))) e ∙ ap (needed true) f in
        subst (λ ds. Ran l (part_of ds l)) (sym ages) (on_named lines l run made e f (subst (λ ds. IsAppliedTo lines (part_of ds l) run) ages at))

-- a refusal of it is one of the whole
pub refused_needed : (lines : List LineView) (l found : LibraryView) (f : Fault) → IsMade l → found ≡ part_of (decks_needed lines l) l
    → applied lines found ≡ Err f → applied lines l ≡ Err f
refused_needed lines l found f made loaded is = go (is_plain lines) refl (list_any (is_yank_card l) (cards_named lines)) refl
    (ap (applied lines) (sym loaded) ∙ is)
  where
    needed : Bool → Bool → List ℕ
    needed plain yanks = if plain && not yanks then decks_with (cards_named lines) l else map (λ d. d.ident) l.decks

    ages : List ℕ
    ages = decks_with (cards_named lines) l

    all : (ages : List ℕ) → ages ≡ map (λ d. d.ident) l.decks → applied lines (part_of ages l) ≡ Err f → applied lines l ≡ Err f
    all ages e at = sym (ap (applied lines) (ap (λ ds. part_of ds l) e ∙ whole_part l)) ∙ at

    refused : (r : Result Reached Fault) → reached_in_part (is_left_out ages l) r ≡ Err f → r ≡ Err f
    refused (Ok reached) e = absurd (cc)
    refused (Err g) e = e

    named : is_plain lines ≡ true → applied lines (part_of ages l) ≡ Err f → applied lines l ≡ Err f
    named plain at =
        let does : DoesWithout (is_left_out ages l) lines l =
        record { plain = plain; listed = others_listed ages l; cards = others_unnamed lines l made.sound } in
        refused (applied lines l) (sym (ap (applied lines) (part_of_others ages l made.sound)
        ∙ applied_same (is_left_out ages l) lines l refl made.sound does) ∙ at)

    go : (plain : Bool) → is_plain lines ≡ plain → (yanks : Bool) → list_any (is_yank_card l) (cards_named lines) ≡ yanks
        → applied lines (part_of (needed (is_plain lines) (list_any (is_yank_card l) (cards_named lines))) l) ≡ Err f → applied lines l ≡ Err f
    go true e true g at = all (needed (is_plain lines) (list_any (is_yank_card l) (cards_named lines))) (rw (e, g) refl) at
    go false e yanks g at = all (needed (is_plain lines) (list_any (is_yank_card l) (cards_named lines))) (rw e refl) at
    go true e false g at = named e
        (subst (λ ds. applied lines (part_of ds l) ≡ Err f) (ap (λ b. needed b (list_any (is_yank_card l) (cards_named lines))) e ∙ ap (needed true) g) at)
