-- Switching cards on or off keeps the state of a run sound.
use Rattle.upd_laws.proofs.Common.{◌≡◌, ◌+◌, ◌<◌, ◌≤◌, Bool, true, false, not, ◌||◌, List, length, inr, refl, sym, ap, ◌∙◌, subst, arith, nat_tests, is_some}
use Rattle.upd_laws.proofs.Common.{◌==◌, nat_lt, IsTrue, AllZip, Entry, Place, entered_range, with_entries, CardView, LibraryView, cards_of, is_held}
use Rattle.upd_laws.proofs.Common.{ItemView, CurrentSet, State, Switches, behind, carried, IsCurrentSet, IsHandSound, IsSoundState}
use Rattle.upd_apply.proofs.EditLemmas.{IsSwitch}
use Rattle.upd_laws.proofs.SoundListLemmas.{same_number, zip_all, zip_length}
use Rattle.upd_laws.proofs.SoundCardLemmas.{IsEntered, entered_some, idents_with, yanks_kept, cards_with, standing, zip_with_entries}
use Rattle.upd_laws.proofs.SoundYankLemmas.{same_ident}
use Rattle.upd_laws.proofs.SoundEditLemmas.{entries_sound}
use Rattle.upd_laws.proofs.SoundNumberLemmas.{next_entered}
use Rattle.upd_laws.proofs.SoundStepLemmas.{place_within, behind_within}

-- ---- entries

not_or : (a b : Bool) → (not a || b) ≡ false → a ≡ true
not_or true b e = refl
not_or false b e = absurd (cc)

or_not : (a b : Bool) → (not a || b) ≡ false → b ≡ false
or_not true b e = e
or_not false b e = absurd (cc)

pub switched_sound : (item : ItemView) (active : Bool) (c : CurrentSet) (p q : Place) (s : State) → IsSwitch item s c p q → IsSoundState s
    → IsSoundState (carried (Switches active c p q) s)
switched_sound item active c p q s switch sound = record {
  library = entries_sound p.deck p.index q.index entry s.library sound.library order was.held was.youngest;
  current_set = subst (λ o. IsHandSound o l) (sym switch.held) (record {
    held = subst (λ idents. IsTrue (is_held idents c.ident)) (sym (idents_with p.deck change s.library)) was.held;
    youngest = yanks_kept (λ (b : CardView). b.ident ≤ c.ident) p.deck change s.library
        (zip_all (IsEntered entry) (λ (b : CardView). b.ident ≤ c.ident) (λ b. b.ident ≤ c.ident) s.library.yanks _
        (λ x y r h. rw (same_ident entry x y r) h) (some s.library.yanks) was.youngest) was.youngest;
    next = next_entered c.ident c.next entry s.library l (zip_with_entries p.deck p.index q.index entry s.library order) was.next;
  });
  insert_point = record { in_hand = ap is_some switch.held; within = inr (subst (λ d. behind q s.library < length (cards_of d l)) deck same_deck) };
}
  where
    was : IsCurrentSet c s.library
    was = subst (λ o. IsHandSound o s.library) switch.held sound.current_set

    deck : p.deck ≡ q.deck
    deck = same_number p.deck q.deck (not_or (p.deck == q.deck) (nat_lt q.index p.index) switch.ordered)

    order : p.index ≤ q.index
    order = in_order (or_not (p.deck == q.deck) (nat_lt q.index p.index) switch.ordered)
      where
        in_order : nat_lt q.index p.index ≡ false → p.index ≤ q.index
        in_order e = grind (arith, nat_tests)

    within : q.index < length (cards_of q.deck s.library)
    within = place_within switch.last s.library q sound.library switch.to

    entry : Entry
    entry = record { ident = c.ident; active = active }

    change : List CardView → List CardView
    change = entered_range p.index q.index entry

    l : LibraryView
    l = with_entries p.deck p.index q.index entry s.library

    some : (cards : List CardView) → AllZip (IsEntered entry) cards (change cards)
    some cards = entered_some entry p.index (q.index + 1) cards (omega (arith, order))

    inside : q.index < length (cards_of p.deck s.library)
    inside = subst (λ d. q.index < length (cards_of d s.library)) (sym deck) within

    same_length : length (cards_of p.deck l) ≡ length (cards_of q.deck s.library)
    same_length =
        ap length (cards_with p.deck change s.library (standing p.deck s.library q.index inside)) ∙ zip_length (IsEntered entry) _ _
        (some (cards_of p.deck s.library)) ∙ ap (λ d. length (cards_of d s.library)) deck

    same_deck : behind q s.library < length (cards_of p.deck l)
    same_deck = rw same_length (behind_within (length (cards_of q.deck s.library)) q.index within)
