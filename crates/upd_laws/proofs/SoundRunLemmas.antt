-- Lines and runs keep what is sound, extend the directory, and stay within the limits.
use Rattle.upd_laws.proofs.Common.{◌≡◌, ℕ, ◌+◌, true, false, List, [], ◌∷◌, length, refl, ◌∙◌, subst, ◌==◌, Option, Some, None, is_some, Result, Ok, Err}
use Rattle.upd_laws.proofs.Common.{Fault, Target, purged, LibraryView, cards_of, empty, is_within_limits, ◌>>=◌, refuse_if, AreAgedFrom, IsSound, ItemView}
use Rattle.upd_laws.proofs.Common.{LineView, Text, CurrentSet, InsertPoint, Nowhere, End, Inside, State, Reached, applied, started, stepped, named_decks}
use Rattle.upd_laws.proofs.Common.{Edit, Stays, MovesAfter, MovesBefore, NewSet, NewDeck, AddsAtEnd, AddsInside, Switches, AddsYank, Purges, PurgesIn, behind}
use Rattle.upd_laws.proofs.Common.{carried, purged_in_all, step, bind_ok, holds_of, Fits, of_step, steps_keep, IsCurrentSet, IsHandSound, IsAtEnd, IsInside}
use Rattle.upd_laws.proofs.Common.{IsSpotSound, IsSoundState, after_run, after_runs}
use Rattle.std.specs.Prelude.{Bool, not, ◌&&◌}
use Rattle.upd_text.specs.declared.fault.FaultKind.TheVariants as fault
use Rattle.upd_core.specs.Sound.{IsWhole, Continues}
use Rattle.upd_apply.specs.LineEdits.{adds}
use Rattle.upd_apply.specs.Step.{carried_out, judged, text_judged}
use Rattle.upd_apply.proofs.DirectoryLemmas.{continues_on, continues_same, steps_go_on}
use Rattle.upd_apply.proofs.EditLemmas.{AreNamed, BySets, ByPairs, ByDecks}
use Rattle.upd_laws.specs.Soundness.{count_of}
use Rattle.upd_laws.proofs.SoundYankLemmas.{AreYanked, sets_are, pairs_are, decks_are}
use Rattle.upd_laws.proofs.SoundEditLemmas.{purged_sound}
use Rattle.upd_laws.proofs.SoundLeadLemmas.{step_rests, step_within}
use Rattle.upd_laws.proofs.SoundStepLemmas.{set_sound, deck_sound_state, move_sound, before_within, behind_within, place_within, end_sound, inside_sound}
use Rattle.upd_laws.proofs.SoundStepLemmas.{yank_sound_state, others_found, purged_in_all_sound, ended_sound}
use Rattle.upd_laws.proofs.SoundSwitchLemmas.{switched_sound}

-- ---- a line

named_yanked : (z : ℕ) (l : LibraryView) (found : List Target) → AreAgedFrom 1 l.idents → AreNamed z l found → AreYanked z found
named_yanked z l found ages (BySets ranges e) = sets_are z l ranges found ages e
named_yanked z l found ages (ByPairs pairs e) = pairs_are z l pairs found ages e
named_yanked z l found ages (ByDecks names e) = decks_are z l names found ages e

edit_sound : (item : ItemView) (text : List ℕ) (s : State) (e : Edit) → Fits item text s e → IsSoundState s → IsSoundState (carried e s)
edit_sound item text s Stays fits sound = sound
edit_sound item text s (MovesAfter p) fits sound =
    let within = place_within fits.card s.library p sound.library fits.at in
    move_sound item (behind p s.library) p s fits (behind_within (length (cards_of p.deck s.library)) p.index within) sound
edit_sound item text s (MovesBefore p) fits sound =
    let within = place_within fits.0.card s.library p sound.library fits.0.at in
    move_sound item (behind p s.library + 1) p s fits.0 (before_within p (length (cards_of p.deck s.library)) fits.0.outside fits.1 within) sound
edit_sound item text s (NewSet name) fits sound = set_sound name fits.result s fits.free sound
edit_sound item text s (NewDeck name sort noprop first) fits sound = deck_sound_state name sort noprop first fits.0.result s fits.1 fits.0.free sound
edit_sound item text s (AddsAtEnd d n added) fits sound =
    end_sound added d n s sound (subst (λ point. IsSpotSound point s.current_set s.library) fits.0 sound.insert_point)
edit_sound item text s (AddsInside d after c added) fits sound = inside_sound added d after c s fits.point fits.held fits.outside sound
edit_sound item text s (Switches active c p q) fits sound = switched_sound item active c p q s fits sound
edit_sound item text s (AddsYank c added found) fits sound =
    yank_sound_state added found c s fits.held (named_yanked c.ident s.library found sound.library.ages fits.targets) sound
edit_sound item text s (Purges gone) fits sound = ended_sound (purged gone s.library) (purged_sound gone s.library sound.library)
edit_sound item text s (PurgesIn ages) fits sound =
    ended_sound (purged_in_all ages s.library) (purged_in_all_sound ages s.library (others_found fits.1 s.library ages fits.2) sound.library)

pub step_sound : (line : LineView) (s t : State) → IsSoundState s → step line s ≡ Ok t → IsSoundState t
step_sound line s t sound h = of_step IsSoundState line s t h (λ e fits within. edit_sound line.item line.text s e fits sound)

-- ---- runs

pub steps_sound : (lines : List LineView) (s t : State) → IsSoundState s → stepped lines s ≡ Ok t → IsSoundState t
steps_sound lines s t sound h = steps_keep IsSoundState lines s t step_sound sound h

pub steps_within : (lines : List LineView) (s t : State) → is_within_limits s.library ≡ true → stepped lines s ≡ Ok t → is_within_limits t.library ≡ true
steps_within lines s t e h = steps_keep (λ x. is_within_limits x.library ≡ true) lines s t step_within e h

steps_rest : (lines : List LineView) (s t : State) → stepped lines s ≡ Ok t → t.library.rest ≡ s.library.rest
steps_rest lines s t h = steps_keep (λ x. x.library.rest ≡ s.library.rest) lines s t (λ line x y rests e. step_rests line x y e ∙ rests) refl h

pub started_sound : (l : LibraryView) → IsSound l → IsSoundState (started l)
started_sound l s = record { library = s; current_set = tt; insert_point = tt }

-- what holds of the library of each state that lines reach holds of what a run leaves
pub reached_by : (P : LibraryView → Type 0) (lines : List LineView) (l : LibraryView) (r : Reached)
    → ((s : State) → stepped lines (started l) ≡ Ok s → P s.library) → applied lines l ≡ Ok r → P r.library
reached_by P lines l r k h =
    bind_ok (stepped lines (started l)) _ r (P r.library) h (λ s e h1.
    bind_ok (named_decks lines s.library) _ r (P r.library) h1 (λ decks f h2. holds_of (λ (r : Reached). P r.library) _ r h2 (k s e)))

pub run_sound : (lines : List LineView) (l : LibraryView) (r : Reached) → IsSound l → applied lines l ≡ Ok r → IsSound r.library
run_sound lines l r sound h = reached_by IsSound lines l r (λ s e. let t = steps_sound lines (started l) s (started_sound l sound) e in t.library) h

pub run_goes : (lines : List LineView) (l : LibraryView) (r : Reached) → applied lines l ≡ Ok r → Continues l.idents r.library.idents
run_goes lines l r h = reached_by (λ m. Continues l.idents m.idents) lines l r (λ s e. steps_go_on lines (started l) s e) h

pub run_within : (lines : List LineView) (l : LibraryView) (r : Reached) → is_within_limits l ≡ true → applied lines l ≡ Ok r
    → is_within_limits r.library ≡ true
run_within lines l r within h = reached_by (λ m. is_within_limits m ≡ true) lines l r (λ s e. steps_within lines (started l) s within e) h

pub run_whole : (lines : List LineView) (l : LibraryView) (r : Reached) → IsWhole l → applied lines l ≡ Ok r → IsWhole r.library
run_whole lines l r whole h = reached_by (λ m. m.rest ≡ l.rest) lines l r (λ s e. steps_rest lines (started l) s e) h ∙ whole

pub empty_sound : IsSound empty
empty_sound = record {
  ages = tt;
  names = tt;
  reserved = refl;
  decks = tt;
  deck_ages = (tt, tt);
  firsts = tt;
  standing = λ whole d held. absurd (cc);
  cards = tt;
  histories = tt;
  keys = tt;
  yanks = tt;
  targets = tt;
  plain = tt;
}

pub runs_sound : (runs : List (List LineView)) (l : LibraryView) → IsSound l → IsSound (after_runs runs l)
runs_sound [] l s = s
runs_sound (run ∷ runs) l s = runs_sound runs (after_run l (applied run l)) (one (applied run l) refl)
  where
    one : (r : Result Reached Fault) → applied run l ≡ r → IsSound (after_run l r)
    one (Ok reached) e = run_sound run l reached s e
    one (Err fault) e = s

pub runs_within : (runs : List (List LineView)) (l : LibraryView) → is_within_limits l ≡ true → is_within_limits (after_runs runs l) ≡ true
runs_within [] l e = e
runs_within (run ∷ runs) l e = runs_within runs (after_run l (applied run l)) (one (applied run l) refl)
  where
    one : (r : Result Reached Fault) → applied run l ≡ r → is_within_limits (after_run l r) ≡ true
    one (Ok reached) f = run_within run l reached e f
    one (Err fault) f = e

pub runs_go : (runs : List (List LineView)) (l : LibraryView) → Continues l.idents (after_runs runs l).idents
runs_go [] l = continues_same l.idents
runs_go (run ∷ runs) l = continues_on l.idents (after_run l (applied run l)).idents _ (one (applied run l) refl) (runs_go runs (after_run l (applied run l)))
  where
    one : (r : Result Reached Fault) → applied run l ≡ r → Continues l.idents (after_run l r).idents
    one (Ok reached) e = run_goes run l reached e
    one (Err fault) e = continues_same l.idents

-- ---- the next numbers

pub hand_counted : (lines : List LineView) (l : LibraryView) (s : State) (current_set : CurrentSet) → IsSound l → stepped lines (started l) ≡ Ok s
    → s.current_set ≡ Some current_set
    → current_set.next ≡ count_of current_set.ident s.library + 1
hand_counted lines l s current_set sound h e =
    let state = steps_sound lines (started l) s (started_sound l sound) h in
    let in_hand : IsCurrentSet current_set s.library = subst (λ o. IsHandSound o s.library) e state.current_set in
    in_hand.next.counted

pub end_counted : (lines : List LineView) (l : LibraryView) (s : State) (d n : ℕ) → IsSound l → stepped lines (started l) ≡ Ok s → s.insert_point ≡ End d n
    → n ≡ count_of d s.library + 1
end_counted lines l s d n sound h e =
    let state = steps_sound lines (started l) s (started_sound l sound) h in
    let at : IsAtEnd d n s.current_set s.library = subst (λ insert_point. IsSpotSound insert_point s.current_set s.library) e state.insert_point in
    at.next.counted

-- ---- the place of text

some_there : {A : Type 0} (o : Option A) → is_some o ≡ true → (x : A) × (o ≡ Some x)
some_there (Some x) e = (x, refl)
some_there None e = absurd (cc)

-- an edit is refused for the size of the library only
not_placeless : (e : Edit) (s : State) → carried_out (Ok e) s ≡ Err fault.TextNowhere → ⊥
not_placeless e s = go (adds e && not (is_within_limits (carried e s).library))
  where
    go : (b : Bool) → refuse_if b fault.Full >>= (λ _. Ok (carried e s)) ≡ Err fault.TextNowhere → ⊥
    go true e = absurd (cc)
    go false e = absurd (cc)

-- inside a deck a set is in hand
inside_in_hand : (s : State) (d after : ℕ) → IsSoundState s → s.insert_point ≡ Inside d after → (h : CurrentSet) × (s.current_set ≡ Some h)
inside_in_hand s d after state e =
    let at : IsInside d after s.current_set s.library = subst (λ point. IsSpotSound point s.current_set s.library) e state.insert_point in
    some_there s.current_set at.in_hand

pub place_in_hand : (lines : List LineView) (l : LibraryView) (s : State) (d after : ℕ) → IsSound l → stepped lines (started l) ≡ Ok s
    → s.insert_point ≡ Inside d after → (h : CurrentSet) × (s.current_set ≡ Some h)
place_in_hand lines l s d after sound h e = inside_in_hand s d after (steps_sound lines (started l) s (started_sound l sound) h) e

-- text has no place only where there isn't one
placeless : (text : List ℕ) (s : State) (point : InsertPoint) → s.insert_point ≡ point → IsSoundState s
    → carried_out (text_judged text point s.current_set) s ≡ Err fault.TextNowhere → point ≡ Nowhere
placeless text s Nowhere e sound refused = refl
placeless text s (End d n) e sound refused = absurd (not_placeless (AddsAtEnd d n text) s refused)
placeless text s (Inside d after) e sound refused = absurd (by (inside_in_hand s d after sound e))
  where
    no_yanks : (h : CurrentSet) (b : Bool)
        → carried_out (refuse_if b fault.YankText >>= (λ _. Ok (AddsInside d after h text))) s ≡ Err fault.TextNowhere → ⊥
    no_yanks h true e = absurd (cc)
    no_yanks h false e = not_placeless (AddsInside d after h text) s e

    by : (h : CurrentSet) × (s.current_set ≡ Some h) → ⊥
    by (h, hand) = no_yanks h (d == 0) (subst (λ o. carried_out (text_judged text (Inside d after) o) s ≡ Err fault.TextNowhere) hand refused)

pub refused_nowhere : (lines : List LineView) (l : LibraryView) (s : State) (text : List ℕ) → IsSound l → stepped lines (started l) ≡ Ok s
    → carried_out (judged Text text s) s ≡ Err fault.TextNowhere → s.insert_point ≡ Nowhere
refused_nowhere lines l s text sound h refused =
    placeless text s s.insert_point refl (steps_sound lines (started l) s (started_sound l sound) h) refused
