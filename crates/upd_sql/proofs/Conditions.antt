-- What the tests of the texts say of the rows of records.
use Rattle.upd_sql.proofs.Common.{◌≡◌, ℕ, ◌==◌, Bool, true, false, ◌&&◌, if◌then◌else◌, List, [], ◌∷◌, refl, ap₂, ◌∙◌, arith, bytes_eq, nat_tests, Null}
use Rattle.upd_sql.proofs.Common.{Target, Set, SetIn, Deck, is_same, CardRow, EntryRow, TargetRow, RunView, StateRow, CountRow, MarkRow, same_ref}
use Rattle.upd_sql.proofs.Common.{is_run, is_settled, is_mark_of, eq_text, eq_nat, one_test, two_tests, three_tests, num, target_code, card_row, entry_row}
use Rattle.upd_sql.proofs.Common.{target_row, run_row, state_row, count_row, mark_row, list_all, Text, Row, Term, holds}
use Rattle.std.proofs.Common.{nat_eq}
use Rattle.upd_row_store.specs.Ranges.{in_range}
use Rattle.upd_row_store.specs.declared.ranges.CardRange.{CardRange}
use Rattle.upd_sqlite.proofs.Tests.{ge_nat, le_nat}
use Rattle.upd_sql.proofs.WriteTexts.{card_tests, delete_count_tests, delete_runs_tests, first_tests, range_tests}
use Rattle.upd_sql.proofs.ReadTexts.{run_of_key_tests, mark_of_site_tests}

pub bytes_flip : (a b : List ℕ) → bytes_eq a b ≡ bytes_eq b a
bytes_flip [] [] = refl
bytes_flip [] (y ∷ b) = refl
bytes_flip (x ∷ a) [] = refl
bytes_flip (x ∷ a) (y ∷ b) = ap₂ ◌&&◌ (nat_flip x y) (bytes_flip a b)
  where
    nat_flip : (m n : ℕ) → nat_eq m n ≡ nat_eq n m
    nat_flip m n = grind (arith, nat_tests)

pub nat_flip : (m n : ℕ) → (m == n) ≡ (n == m)
nat_flip m n = grind (arith, nat_tests)

pub grouped : (a b c : Bool) → (a && (b && c)) ≡ ((a && b) && c)
grouped true b c = refl
grouped false b c = refl

pub both_if : {A : Type 0} (a b : Bool) (x y : A) → (if a && b then x else y) ≡ (if a then (if b then x else y) else y)
both_if true b x y = refl
both_if false b x y = refl

-- the parameters that name a range of cards
abbrev pub range_params : CardRange → Row
range_params range = Text range.name ∷ num range.first ∷ num range.last ∷ []

-- a row passes its tests
abbrev pub passes : Row → List Term → Row → Bool
passes params tests v = list_all (holds (params ∷ (Null ∷ v) ∷ [])) tests

pub card_ranged : (range : CardRange) (r : CardRow) → passes (range_params range) range_tests (card_row r) ≡ in_range range r.card
card_ranged range r =
    three_tests (eq_text r.card.name range.name ∙ bytes_flip r.card.name range.name) (ge_nat r.card.number range.first) (le_nat r.card.number range.last)

pub entry_ranged : (range : CardRange) (r : EntryRow) → passes (range_params range) range_tests (entry_row r) ≡ in_range range r.card
entry_ranged range r =
    three_tests (eq_text r.card.name range.name ∙ bytes_flip r.card.name range.name) (ge_nat r.card.number range.first) (le_nat r.card.number range.last)

pub target_ranged : (range : CardRange) (r : TargetRow) → passes (range_params range) range_tests (target_row r) ≡ in_range range r.card
target_ranged range r =
    three_tests (eq_text r.card.name range.name ∙ bytes_flip r.card.name range.name) (ge_nat r.card.number range.first) (le_nat r.card.number range.last)

pub state_ranged : (range : CardRange) (r : StateRow) → passes (range_params range) range_tests (state_row r) ≡ in_range range r.card
state_ranged range r =
    three_tests (eq_text r.card.name range.name ∙ bytes_flip r.card.name range.name) (ge_nat r.card.number range.first) (le_nat r.card.number range.last)

pub state_told : (r s : StateRow) → passes (state_row r) card_tests (state_row s) ≡ same_ref r.card s.card
state_told r s = two_tests (eq_text s.card.name r.card.name ∙ bytes_flip s.card.name r.card.name) (eq_nat s.card.number r.card.number
    ∙ nat_flip s.card.number r.card.number)

-- the three columns of a target decide it
same_codes : (s t : Target) (n : ℕ) → passes (target_code s) delete_count_tests (count_row (record { target = t; n = n })) ≡ is_same s t
same_codes (Set a) (Set b) n = three_tests (eq_nat 0 0) (eq_nat b a) (eq_nat 0 0) ∙ one_test (nat_flip b a)
same_codes (Set a) (SetIn b e) n = three_tests (eq_nat 1 0) (eq_nat b a) (eq_nat e 0)
same_codes (Set a) (Deck b) n = three_tests (eq_nat 2 0) (eq_nat b a) (eq_nat 0 0)
same_codes (SetIn a d) (Set b) n = three_tests (eq_nat 0 1) (eq_nat b a) (eq_nat 0 d)
same_codes (SetIn a d) (SetIn b e) n = three_tests (eq_nat 1 1) (eq_nat b a) (eq_nat e d) ∙ ap₂ ◌&&◌ (nat_flip b a) (nat_flip e d)
same_codes (SetIn a d) (Deck b) n = three_tests (eq_nat 2 1) (eq_nat b a) (eq_nat 0 d)
same_codes (Deck a) (Set b) n = three_tests (eq_nat 0 2) (eq_nat b a) (eq_nat 0 0)
same_codes (Deck a) (SetIn b e) n = three_tests (eq_nat 1 2) (eq_nat b a) (eq_nat e 0)
same_codes (Deck a) (Deck b) n = three_tests (eq_nat 2 2) (eq_nat b a) (eq_nat 0 0) ∙ one_test (nat_flip b a)

pub count_named : (t : Target) (r : CountRow) → passes (target_code t) delete_count_tests (count_row r) ≡ is_same t r.target
count_named t r = same_codes t r.target r.n

pub mark_named : (site : List ℕ) (r : MarkRow) → passes (Text site ∷ []) first_tests (mark_row r) ≡ is_mark_of site r
mark_named site r = one_test (eq_text r.site site)

pub mark_found : (site : List ℕ) (r : MarkRow) → passes (Text site ∷ []) mark_of_site_tests (mark_row r) ≡ is_mark_of site r
mark_found site r = one_test (eq_text r.site site)

pub run_found : (site : List ℕ) (number : ℕ) (r : RunView) → passes (Text site ∷ num number ∷ []) run_of_key_tests (run_row r) ≡ is_run site number r
run_found site number r = two_tests (eq_text r.site site) (eq_nat r.number number)

pub run_settled : (site : List ℕ) (number : ℕ) (r : RunView) → passes (Text site ∷ num number ∷ []) delete_runs_tests (run_row r) ≡ is_settled site number r
run_settled site number r = two_tests (eq_text r.site site) (le_nat r.number number)
