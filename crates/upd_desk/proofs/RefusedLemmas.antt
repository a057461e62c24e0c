-- A run that is refused: its fault is the defined one, and no card has another status.
use Rattle.upd_desk.proofs.Common.{◌≡◌, ℕ, ◌≤◌, ◌⊎◌, inl, inr, Bool, true, false, List, [], ◌∷◌, length, Some, Result, Ok, Err, IfErr, refl, ap, sym, ◌∙◌}
use Rattle.upd_desk.proofs.Common.{subst, arith, filter, AllByRecursion, IsErrAnd, Fault, FaultKind, fault_at, FailsAt, FailsOf, CountedCardView}
use Rattle.upd_desk.proofs.Common.{counted_cards, LibraryView, IsSound, live_targets, Mode, IsLost, OfMemory, altered, ArrivalView, compiled, outcome}
use Rattle.upd_desk.proofs.Common.{outcome_by}
use Rattle.upd_text.specs.declared.fault.FaultKind.TheVariants as kinds
use Rattle.upd_core.specs.Status.{is_active}
use Rattle.upd_yank.specs.Affected.{is_other, status_before}
use Rattle.upd_yank.proofs.KeptLemmas.{before_at}
use Rattle.upd_yank.proofs.StateLemmas.{all_counted}

-- what an early return passes on is the error that was met
pub error_is : {T E : Type 0} (result : Result T E) (error : E) → IsErrAnd result (λ e. e ≡ error) → result ≡ Err error
error_is (Ok x) error is = absurd is
error_is (Err e) error is = ap Err is

-- a fault is out of memory, at no line, or the defined one
pub fails_by : {A : Type 0} (fault : Fault) (defined : Result A Fault) → FailsAt fault defined
    → ((fault.kind ≡ kinds.NoMemory) × (fault.at ≡ 0)) ⊎ (defined ≡ Err fault)
fails_by fault defined fails = go fault.kind fails
  where
    go : (kind : FaultKind) → FailsOf kind fault defined → ((kind ≡ kinds.NoMemory) × (fault.at ≡ 0)) ⊎ (defined ≡ Err fault)
    go kinds.RunLong fails = inr fails
    go kinds.TooManyLines fails = inr fails
    go kinds.BadByte fails = inr fails
    go kinds.LineLong fails = inr fails
    go kinds.BadName fails = inr fails
    go kinds.BadCard fails = inr fails
    go kinds.BadField fails = inr fails
    go kinds.NoIdent fails = inr fails
    go kinds.TextNowhere fails = inr fails
    go kinds.NameTaken fails = inr fails
    go kinds.IdentUnknown fails = inr fails
    go kinds.DeckUnknown fails = inr fails
    go kinds.CardUnknown fails = inr fails
    go kinds.RangeOrder fails = inr fails
    go kinds.DeckCard fails = inr fails
    go kinds.YankText fails = inr fails
    go kinds.YankSelf fails = inr fails
    go kinds.Reserved fails = inr fails
    go kinds.Full fails = inr fails
    go kinds.CallUnknown fails = inr fails
    go kinds.CallDepth fails = inr fails
    go kinds.CompileLong fails = inr fails
    go kinds.BadSite fails = inr fails
    go kinds.BadNumber fails = inr fails
    go kinds.BadMode fails = inr fails
    go kinds.RunChanged fails = inr fails
    go kinds.Settled fails = inr fails
    go kinds.NoMemory fails = inl (refl, fails)
    go kinds.Store fails = inr fails
    go kinds.BadFrame fails = inr fails
    go kinds.CutFrame fails = inr fails
    go kinds.Read fails = inr fails
    go kinds.Write fails = inr fails

pub fails_is : {A : Type 0} (fault : Fault) (defined : Result A Fault) → (fault.kind ≡ kinds.NoMemory → ⊥) → FailsAt fault defined → defined ≡ Err fault
fails_is fault defined other fails = by (fails_by fault defined fails)
  where
    by : ((fault.kind ≡ kinds.NoMemory) × (fault.at ≡ 0)) ⊎ (defined ≡ Err fault) → defined ≡ Err fault
    by (inl lost) = absurd (other lost.0)
    by (inr met) = met

-- out of memory says nothing about what is defined
pub fails_memory : {X A : Type 0} (result : Result X Fault) (defined : Result A Fault)
    → IfErr result (λ f. (f.kind ≡ kinds.NoMemory) × (f.at ≡ 0)) → IfErr result (λ f. FailsAt f defined)
fails_memory (Ok x) defined lost = tt
fails_memory (Err f) defined lost = subst (λ k. FailsOf k f defined) (sym lost.0) lost.1

-- ---- statuses

none_pass : {A : Type 0} (test : A → Bool) (xs : List A) → AllByRecursion (λ x. test x ≡ false) xs → filter test xs ≡ []
none_pass test [] none = refl
none_pass test (x ∷ xs) none = rw none.0 (none_pass test xs none.1)

pub unaltered : (l : LibraryView) → IsSound l → altered l l ≡ []
unaltered l sound = none_pass is_altered (counted_cards l)
    (all_counted (λ k. is_altered k ≡ false) l (λ d c in_decks in_cards.
    ap (is_other (is_active (live_targets l) d.ident c)) (before_at l d c sound in_decks in_cards) ∙ own (is_active (live_targets l) d.ident c)))
  where
    is_altered : CountedCardView → Bool
    is_altered k = is_other (is_active (live_targets l) k.deck k.view) (status_before l k.view)

    own : (b : Bool) → is_other b (Some b) ≡ false
    own true = refl
    own false = refl

pub least_refused : (mode : Mode) (a : ArrivalView) (l : LibraryView) (fault : Fault) (n : ℕ) → IsSound l → compiled mode a.bytes l ≡ Err fault
    → length (altered l (outcome mode a l).library) ≤ n
least_refused mode a l fault n sound is =
    subst (λ r. length (altered l (outcome_by a l r).library) ≤ n) (sym is)
    (subst (λ (ks : List CountedCardView). length ks ≤ n) (sym (unaltered l sound)) (omega arith))
