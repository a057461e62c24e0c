-- One more line of an edited text: the decks and the refusals that it gives.
use Rattle.upd_correct.proofs.Common.{◌≡◌, ℕ, ◌+◌, List, [], ◌∷◌, ◌++◌, map, length, refl, sym, ap, ◌∙◌, append_assoc, append-nil, map-append}
use Rattle.upd_correct.proofs.Common.{flat_map-append, option_map_or, LibraryView, reading, NewDeck}
use Rattle.upd_correct.proofs.Common.{Refusal, HasReading, deck_problem, line_problem, AreReadFrom}
use Rattle.upd_correct.specs.EditedText.{First, Further}
use Rattle.upd_correct.specs.LineReads.{IsReadAs}
use Rattle.upd_correct.proofs.Common.{head_read, lines_refusals, refusals_at}
use Rattle.std.specs.Prelude.{Option, Some, None}
use Rattle.upd_correct.specs.declared.refusal.Problem.{Problem}
use Rattle.upd_correct.specs.declared.refusal.Problem.TheVariants.{NoDeck}
use Rattle.upd_correct.specs.Problems.{problem_column}
use Rattle.upd_correct.specs.Refusals.{line_refusals, name_begun, names_begun, place_problem}
use Rattle.upd_correct.proofs.TextLineLemmas.{deck_read, line_read}

-- ---- refusals of one more line

refusals_more : (l : LibraryView) (set : List ℕ) (earlier lines : List (List ℕ)) (line : List ℕ)
    → lines_refusals l set earlier (lines ++ line ∷ []) ≡ lines_refusals l set earlier lines ++ line_refusals l set (earlier ++ lines) line
refusals_more l set earlier [] line =
    append-nil (line_refusals l set earlier line) ∙ ap (λ earlier. line_refusals l set earlier line) (sym (append-nil earlier))
refusals_more l set earlier (x ∷ lines) line =
    ap (λ more. line_refusals l set earlier x ++ more) (refusals_more l set (earlier ++ x ∷ []) lines line)
    ∙ ap (λ before. line_refusals l set earlier x ++ (lines_refusals l set (earlier ++ x ∷ []) lines ++ line_refusals l set before line))
    (append_assoc earlier (x ∷ []) lines)
    ∙ sym (append_assoc (line_refusals l set earlier x) (lines_refusals l set (earlier ++ x ∷ []) lines) (line_refusals l set (earlier ++ x ∷ lines) line))

-- the refusal of a line with a problem of its own
own_refusal : (l : LibraryView) (set : List ℕ) (lines : List (List ℕ)) (line : List ℕ) (problem : Problem) → line_problem (reading line) ≡ Some problem
    → line_refusals l set lines line ≡ refusals_at (length lines + 1) (problem_column line problem) (Some problem)
own_refusal l set lines line problem e =
    ap (λ o. option_map_or (λ problem. refusals_at (length lines + 1) (problem_column line problem) (Some problem)) o
    (refusals_at (length lines + 1) 1 (place_problem l set (names_begun lines) (head_read (reading line))))) e

-- the refusal of a line without one, by its place
place_refusal : (l : LibraryView) (set : List ℕ) (lines : List (List ℕ)) (line : List ℕ) (head : Option NewDeck) → HasReading line None head
    → line_refusals l set lines line ≡ refusals_at (length lines + 1) 1 (place_problem l set (names_begun lines) head)
place_refusal l set lines line head is =
    ap (λ o. option_map_or (λ problem. refusals_at (length lines + 1) (problem_column line problem) (Some problem)) o
    (refusals_at (length lines + 1) 1 (place_problem l set (names_begun lines) (head_read (reading line))))) is.0
    ∙ ap (λ head. refusals_at (length lines + 1) 1 (place_problem l set (names_begun lines) head)) is.1

names_more : (lines : List (List ℕ)) (line : List ℕ) (head : Option NewDeck) → head_read (reading line) ≡ head
    → names_begun (lines ++ line ∷ []) ≡ names_begun lines ++ option_map_or (λ d. d.name ∷ []) head []
names_more lines line head e =
    flat_map-append name_begun lines (line ∷ [])
    ∙ ap (λ names. names_begun lines ++ names)
    (append-nil (name_begun line) ∙ ap (λ (head : Option NewDeck). option_map_or (λ (d : NewDeck). d.name ∷ []) head []) e)

-- the refusals so far with those of one more line
grown : (l : LibraryView) (set : List ℕ) (earlier : List Refusal) (lines : List (List ℕ)) (line : List ℕ) (old new more : List Refusal)
    → old ≡ earlier ++ lines_refusals l set [] lines → new ≡ old ++ more → line_refusals l set lines line ≡ more
    → new ≡ earlier ++ lines_refusals l set [] (lines ++ line ∷ [])
grown l set earlier lines line old new more was now of_line =
    now ∙ ap (λ old. old ++ more) was ∙ append_assoc earlier (lines_refusals l set [] lines) more
    ∙ ap (λ more. earlier ++ (lines_refusals l set [] lines ++ more)) (sym of_line)
    ∙ ap (λ all. earlier ++ all) (sym (refusals_more l set [] lines line))

none_before : {A : Type 0} (old new more : List A) → new ≡ old ++ more → new ≡ [] → (old ≡ []) × (more ≡ [])
none_before [] new more now none = (refl, sym now ∙ none)
none_before (x ∷ old) new more now none = let bad : x ∷ (old ++ more) ≡ [] = sym now ∙ none in absurd (cc)

-- ---- lines with a refusal

-- a line has a problem of its own
pub wrong_taken : (l : LibraryView) (set : List ℕ) (earlier : List Refusal) (lines : List (List ℕ)) (line : List ℕ) (decks new_decks : List NewDeck)
    (old new : List Refusal) (number column : ℕ) (problem : Problem) → number ≡ length lines + 1
    → HasReading line (Some problem) None × (column ≡ problem_column line problem) → new_decks ≡ decks
    → new ≡ old ++ record { line = number; column = column; problem = problem } ∷ [] → AreReadFrom l set earlier lines decks old
    → AreReadFrom l set earlier (lines ++ line ∷ []) new_decks new
wrong_taken l set earlier lines line decks new_decks old new number column problem at is same now are =
    let some : new ≡ [] → ⊥ = λ none. let bad = (none_before old new _ now none).1 in cc in
    record {
      names = ap (map (λ (d : NewDeck). d.name)) same ∙ are.names ∙ sym (names_more lines line None is.0.1 ∙ append-nil (names_begun lines));
      refused = grown l set earlier lines line old new _ are.refused now
          (own_refusal l set lines line problem is.0.0 ∙ ap (λ n. refusals_at n (problem_column line problem) (Some problem)) (sym at)
          ∙ ap (λ c. refusals_at number c (Some problem)) (sym is.1));
      given = λ none. absurd (some none);
    }

no_names : (names : List (List ℕ)) (decks : List NewDeck) → map (λ d. d.name) decks ≡ names → decks ≡ [] → names ≡ []
no_names names decks e none = sym e ∙ ap (map (λ (d : NewDeck). d.name)) none

-- a further line before any deck
pub lost_taken : (l : LibraryView) (set : List ℕ) (earlier : List Refusal) (lines : List (List ℕ)) (line text : List ℕ) (decks new_decks : List NewDeck)
    (old new : List Refusal) (number : ℕ) → number ≡ length lines + 1 → IsReadAs line (Further text) → decks ≡ []
    → new_decks ≡ decks → new ≡ old ++ record { line = number; column = 1; problem = NoDeck } ∷ [] → AreReadFrom l set earlier lines decks old
    → AreReadFrom l set earlier (lines ++ line ∷ []) new_decks new
lost_taken l set earlier lines line text decks new_decks old new number at is empty same now are =
    let some : new ≡ [] → ⊥ = λ none. let bad = (none_before old new _ now none).1 in cc in
    record {
      names = ap (map (λ (d : NewDeck). d.name)) same ∙ are.names ∙ sym (names_more lines line None is.0.1 ∙ append-nil (names_begun lines));
      refused = grown l set earlier lines line old new _ are.refused now
          (place_refusal l set lines line None is.0 ∙ ap (λ n. refusals_at n 1 (place_problem l set (names_begun lines) None)) (sym at)
          ∙ ap (λ names. refusals_at number 1 (place_problem l set names None)) (no_names (names_begun lines) decks are.names empty));
      given = λ none. absurd (some none);
    }

-- ---- the first line of a deck

pub head_taken : (l : LibraryView) (set : List ℕ) (earlier : List Refusal) (lines : List (List ℕ)) (line : List ℕ) (decks new_decks : List NewDeck)
    (old new : List Refusal) (number : ℕ) (d : NewDeck) → number ≡ length lines + 1
    → (d.lines ≡ []) × IsReadAs line (First d)
    → new_decks ≡ decks ++ d ∷ [] → new ≡ old ++ refusals_at number 1 (deck_problem l set (map (λ d. d.name) decks) d)
    → AreReadFrom l set earlier lines decks old → AreReadFrom l set earlier (lines ++ line ∷ []) new_decks new
head_taken l set earlier lines line decks new_decks old new number d at is more now are =
    let split = none_before old new _ now in
    record {
      names = ap (map (λ (d : NewDeck). d.name)) more ∙ map-append (λ (d : NewDeck). d.name) decks (d ∷ [])
          ∙ ap (λ names. names ++ d.name ∷ []) are.names ∙ sym (names_more lines line (Some d) is.1.1);
      refused = grown l set earlier lines line old new _ are.refused now
          (place_refusal l set lines line (Some d) is.1 ∙ ap (λ n. refusals_at n 1 (deck_problem l set (names_begun lines) d)) (sym at)
          ∙ ap (λ names. refusals_at number 1 (deck_problem l set names d)) (sym are.names));
      given = λ none. deck_read lines line decks new_decks d more is.0 is.1 (are.given (split none).0);
    }

-- ---- a further line of a deck

placed_after : (l : LibraryView) (set : List ℕ) (front : List NewDeck) (d : NewDeck) → place_problem l set (map (λ d. d.name) (front ++ d ∷ [])) None ≡ None
placed_after l set [] d = refl
placed_after l set (e ∷ front) d = refl

pub card_taken : (l : LibraryView) (set : List ℕ) (earlier : List Refusal) (lines : List (List ℕ)) (line text : List ℕ) (front decks new_decks : List NewDeck)
    (old new : List Refusal) (d e : NewDeck) → IsReadAs line (Further text) → decks ≡ front ++ d ∷ []
    → new_decks ≡ front ++ e ∷ [] → e ≡ record d { lines = d.lines ++ text ∷ [] } → new ≡ old
    → AreReadFrom l set earlier lines decks old → AreReadFrom l set earlier (lines ++ line ∷ []) new_decks new
card_taken l set earlier lines line text front decks new_decks old new d e is was now more same are =
    let larger : NewDeck = record d { lines = d.lines ++ text ∷ [] } in
    let larger_now : new_decks ≡ front ++ larger ∷ [] = now ∙ ap (λ x. front ++ x ∷ []) more in
    record {
      names = ap (map (λ (d : NewDeck). d.name)) larger_now ∙ map-append (λ (d : NewDeck). d.name) front (larger ∷ [])
          ∙ sym (map-append (λ (d : NewDeck). d.name) front (d ∷ [])) ∙ ap (map (λ (d : NewDeck). d.name)) (sym was) ∙ are.names
          ∙ sym (names_more lines line None is.0.1 ∙ append-nil (names_begun lines));
      refused = grown l set earlier lines line old new [] are.refused (same ∙ sym (append-nil old))
          (place_refusal l set lines line None is.0
          ∙ ap (λ names. refusals_at (length lines + 1) 1 (place_problem l set names None)) (sym are.names ∙ ap (map (λ (d : NewDeck). d.name)) was)
          ∙ ap (refusals_at (length lines + 1) 1) (placed_after l set front d));
      given = λ none. line_read lines line text front decks new_decks d e was now more is (are.given (sym same ∙ none));
    }
