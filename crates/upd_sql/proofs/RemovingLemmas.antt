-- Rows of cards that go, range after range.
use Rattle.upd_sql.proofs.Common.{◌≡◌, Bool, true, List, [], ◌∷◌, ◌++◌, Result, Ok, Err, sym, ap}
use Rattle.upd_sql.proofs.Common.{◌∙◌, IsErr, Error, State, CardRef, Rows, HoldsTables, AnyTables, Makes, makes_as, without_states}
use Rattle.std.proofs.Common.{◌||◌}
use Rattle.upd_records.proofs.EffectLemmas.{any_append}
use Rattle.upd_row_store.specs.Ranges.{in_range, in_ranges, without_rows}
use Rattle.upd_row_store.specs.declared.ranges.CardRange.{CardRange}
use Rattle.upd_row_store.specs.declared.ranges.CardRows.{CardRows}
use Rattle.upd_row_store.proofs.RangeLemmas.{filter_alike, one_or, rows_both, rows_stay}
use Rattle.upd_sql.specs.Moving.{MakesIf}
use Rattle.upd_sql.proofs.Typed.{makes_more, makes_none}

pub states_alike : (p q : CardRef → Bool) → ((card : CardRef) → p card ≡ q card) → (it : Rows) → without_states p it ≡ without_states q it
states_alike p q is it = ap (λ xs. record it { states = xs }) (filter_alike (λ r. p r.card) (λ r. q r.card) it.states (λ r. is r.card))

pub none_removed : {X : Type 0} (which : CardRows) (s : State) (x : X) → Makes {X = X} HoldsTables AnyTables (without_rows which (in_ranges [])) s s (Ok x)
none_removed which s x = makes_none s x (λ it any. sym (rows_stay which it))

-- one range more
range_more : (ranges : List CardRange) (range : CardRange) (card : CardRef) → in_ranges (ranges ++ range ∷ []) card
    ≡ (in_ranges ranges card || in_range range card)
range_more ranges range card = any_append (λ r. in_range r card) ranges (range ∷ []) ∙ one_or (in_ranges ranges card) (in_range range card)

pub one_removed : {X Y : Type 0} (which : CardRows) (ranges : List CardRange) (range : CardRange) {a b c : State} {x : X} {r : Result Y Error}
    → Makes HoldsTables AnyTables (without_rows which (in_ranges ranges)) a b (Ok x)
    → Makes HoldsTables AnyTables (without_rows which (in_range range)) b c r
    → Makes HoldsTables AnyTables (without_rows which (in_ranges (ranges ++ range ∷ []))) a c r
one_removed which ranges range p q = makes_more (λ it any. (any, any))
    (λ it. sym (rows_both which (in_ranges ranges) (in_range range) (in_ranges (ranges ++ range ∷ [])) it (range_more ranges range))) p q

-- it is answered that changes are made that were made
pub removed : {X : Type 0} (f g : Rows → Rows) (a b : State) (x : X) → ((it : Rows) → f it ≡ g it) → Makes {X = X} HoldsTables AnyTables f a b (Ok x)
    → MakesIf g a b (Ok true)
removed f g a b x same p =
    let made = makes_as HoldsTables AnyTables AnyTables f g a b (Ok x) (λ it any. any) same p in
    record {
      steps = record { going = p.steps.going; kept = p.steps.kept; survives = p.steps.survives };
      made = λ clean inside it h. made.made clean inside it tt h;
    }

pub not_removed : {X : Type 0} (f g : Rows → Rows) (a b : State) (e : Error) (r : Result Bool Error) → IsErr r
    → Makes {X = X} HoldsTables AnyTables f a b (Err e) → MakesIf g a b r
not_removed f g a b e (Ok x) err p = absurd (cc)
not_removed f g a b e (Err d) err p = record {
  steps = record { going = p.steps.going; kept = p.steps.kept; survives = p.steps.survives };
  made = λ clean. tt;
}
