-- What a line leaves of the limits, and of the cards and entries of decks that aren't loaded.
use Rattle.upd_laws.proofs.Common.{◌≡◌, ◌-◌, true, [], length, refl, ◌∙◌, Ok, ◌==◌, insert, entered_range, new_card, without_idents, is_within_limits}
use Rattle.upd_laws.proofs.Common.{LineView, State, Edit, Stays, MovesAfter, MovesBefore, AddsAtEnd, AddsInside, Switches, Purges, PurgesIn, carried, step}
use Rattle.upd_laws.proofs.Common.{of_step, purges_keep}
use Rattle.upd_apply.proofs.EditLemmas.{IsWithin}
use Rattle.upd_laws.proofs.SoundCardLemmas.{rest_with}
use Rattle.upd_laws.proofs.SoundLimitLemmas.{purged_within, purged_in_within}

-- ---- the limits

edit_within : (s : State) (e : Edit) → is_within_limits s.library ≡ true → IsWithin s e → is_within_limits (carried e s).library ≡ true
edit_within s Stays was within = was
edit_within s (MovesAfter p) was within = was
edit_within s (MovesBefore p) was within = was
edit_within s (Purges gone) was within = purged_within gone s.library was
edit_within s (PurgesIn ages) was within =
    purges_keep (λ m. is_within_limits m ≡ true) ages s.library (λ a m e. purged_in_within a.deck a.ident m e) was
edit_within s _ was within = within refl

pub step_within : (line : LineView) (s t : State) → is_within_limits s.library ≡ true → step line s ≡ Ok t → is_within_limits t.library ≡ true
step_within line s t was h = of_step (λ (x : State). is_within_limits x.library ≡ true) line s t h (λ e fits within. edit_within s e was within)

-- ---- the cards and entries of decks that aren't loaded

edit_rests : (s : State) (e : Edit) → (carried e s).library.rest ≡ s.library.rest
edit_rests s (AddsAtEnd d next text) = rest_with d (λ cards. insert cards (length cards - 0) (new_card d next text [])) s.library
edit_rests s (AddsInside d after c text) = rest_with d (λ cards. insert cards (length cards - after) (new_card c.ident c.next text [])) s.library
edit_rests s (Switches active c p q) = rest_with p.deck (entered_range p.index q.index (record { ident = c.ident; active = active })) s.library
edit_rests s (PurgesIn ages) =
    purges_keep (λ m. m.rest ≡ s.library.rest) ages s.library (λ a m e. rest_with a.deck (without_idents (λ x. x == a.ident)) m ∙ e) refl
edit_rests s _ = refl

pub step_rests : (line : LineView) (s t : State) → step line s ≡ Ok t → t.library.rest ≡ s.library.rest
step_rests line s t h = of_step (λ (x : State). x.library.rest ≡ s.library.rest) line s t h (λ e fits within. edit_rests s e)
