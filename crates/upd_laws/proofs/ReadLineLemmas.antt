-- Runs that were read: the number of their lines, and their texts and names.
use Rattle.upd_laws.proofs.Common.{◌≡◌, ℕ, zero, suc, ◌+◌, ◌-◌, ◌≤◌, Bool, true, false, not, if◌then◌else◌, List, [], ◌∷◌, ◌++◌, length, refl, arith}
use Rattle.upd_laws.proofs.Common.{length-append, nat_tests, nat_lt, IsTrue, IfSome, list_all, AllByRecursion, CardRef, Fault, FaultKind, MAX_RUN_LINES}
use Rattle.upd_laws.proofs.Common.{is_name, ◌>>=◌, at_line, each, refuse_if, ItemView, LineView, Text, is_allowed, IsLineText, WereRead, new_name_of, bind_ok}
use Rattle.upd_laws.proofs.Common.{holds_of, line_is}
use Rattle.std.proofs.Common.{Option, Some, None, Result, Ok}
use Rattle.std.specs.Prelude.{take}
use Rattle.std.specs.List.{suffix_len}
use Rattle.upd_text.specs.declared.fault.FaultKind.TheVariants as fault
use Rattle.upd_text.specs.declared.limits.TheConstants.{MAX_LINE_BYTES, MAX_RUN_BYTES}
use Rattle.upd_text.specs.Lines.{is_blank, is_comment, is_starred, fields, word}
use Rattle.upd_deck.specs.declared.word.Word.{Word}
use Rattle.upd_deck.specs.declared.word.Word.TheVariants as words
use Rattle.upd_deck.specs.Items.{Call, Ident, Deck, Insert, Before, Delete, Restore, Yank, SelYank, YankDeck, Purge, PurgeFrom, SelPurge, PurDeck, Compile}
use Rattle.upd_deck.specs.Reading.{CutLine, are_its_fields, card_ref_in, cut, first_field, is_from_name, last_of_two, two_cards_in, item_by}
use Rattle.upd_deck.specs.Reading.{item_of, item_with, meaning, name_in, said, said_at, text_of, trimmed}
use Rattle.upd_laws.proofs.SoundListLemmas.{and_left, and_right, both}
use Rattle.upd_laws.proofs.SoundOutcomeLemmas.{each_all, refusal_ok}

-- ---- how much is found

each_length : {A B E : Type 0} (f : A → Result (List B) E) (xs : List A) (ys : List B) → ((x : A) (zs : List B) → f x ≡ Ok zs → length zs ≤ 1)
    → each f xs ≡ Ok ys → length ys ≤ length xs
each_length f [] ys k h = holds_of (λ zs. length zs ≤ 0) [] ys h (omega arith)
each_length f (x ∷ xs) ys k h =
    bind_ok (f x) _ ys (length ys ≤ length (x ∷ xs)) h (λ found e h1.
    bind_ok (each f xs) _ ys (length ys ≤ length (x ∷ xs)) h1 (λ more g h2.
    let one = k x found e in
    let rest = each_length f xs more k g in
    let both = length-append found more in
    holds_of (λ zs. length zs ≤ length (x ∷ xs)) (found ++ more) ys h2 (omega arith)))

-- ---- a line

-- the name that a line introduces
abbrev pub BringsName : ItemView → Type 0
BringsName item = IfSome (new_name_of item) (λ name. IsTrue (is_name name))

name_read : (f name : List ℕ) → name_in f ≡ Ok name → is_name name ≡ true
name_read f name h = go (is_name f) refl
  where
    go : (b : Bool) → is_name f ≡ b → is_name name ≡ true
    go true e = holds_of {E = FaultKind} (λ n. is_name n ≡ true) f name (rw e at h) e
    go false e = absurd (let bad = rw e at h in cc)

cards_read : (range : CardRef → CardRef → ItemView) (fs : List (List ℕ)) (item : ItemView) → ((a b : CardRef) → BringsName (range a b))
    → two_cards_in fs range ≡ Ok item → BringsName item
cards_read range fs item k h =
    bind_ok (card_ref_in (first_field fs)) _ item (BringsName item) h (λ a e h1.
    bind_ok (card_ref_in (last_of_two fs)) _ item (BringsName item) h1 (λ b g h2. holds_of BringsName (range a b) item h2 (k a b)))

item_read : (w : Word) (fs : List (List ℕ)) (item : ItemView) → item_with w fs ≡ Ok item → BringsName item
item_read words.Call fs item h = bind_ok (name_in (first_field fs)) _ item (BringsName item) h (λ name e h1. holds_of BringsName (Call name) item h1 tt)
item_read words.Ident fs item h =
    bind_ok (name_in (first_field fs)) _ item (BringsName item) h (λ name e h1. holds_of BringsName (Ident name) item h1 (name_read (first_field fs) name e))
item_read words.Deck fs item h =
    bind_ok (name_in (first_field fs)) _ item (BringsName item) h (λ name e h1. holds_of BringsName (Deck name) item h1 (name_read (first_field fs) name e))
item_read words.CommonDeck fs item h =
    bind_ok (name_in (first_field fs)) _ item (BringsName item) h (λ name e h1. holds_of BringsName _ item h1 (name_read (first_field fs) name e))
item_read words.Insert fs item h = bind_ok (card_ref_in (first_field fs)) _ item (BringsName item) h (λ card e h1. holds_of BringsName (Insert card) item h1 tt)
item_read words.Before fs item h = bind_ok (card_ref_in (first_field fs)) _ item (BringsName item) h (λ card e h1. holds_of BringsName (Before card) item h1 tt)
item_read words.Delete fs item h = cards_read Delete fs item (λ a b. tt) h
item_read words.Restore fs item h = cards_read Restore fs item (λ a b. tt) h
item_read words.Yank fs item h = bind_ok _ _ item (BringsName item) h (λ found e h1. holds_of BringsName (Yank found) item h1 tt)
item_read words.SelYank fs item h = bind_ok _ _ item (BringsName item) h (λ found e h1. holds_of BringsName (SelYank found) item h1 tt)
item_read words.YankDeck fs item h = bind_ok _ _ item (BringsName item) h (λ found e h1. holds_of BringsName (YankDeck found) item h1 tt)
item_read words.Purge fs item h = go (is_from_name fs) refl
  where
    go : (b : Bool) → is_from_name fs ≡ b → BringsName item
    go true e = holds_of {E = FaultKind} BringsName (PurgeFrom (first_field fs)) item (rw e at h) tt
    go false e = bind_ok _ _ item (BringsName item) (rw e at h) (λ found f h1. holds_of BringsName (Purge found) item h1 tt)
item_read words.SelPurge fs item h = bind_ok _ _ item (BringsName item) h (λ found e h1. holds_of BringsName (SelPurge found) item h1 tt)
item_read words.PurDeck fs item h = bind_ok _ _ item (BringsName item) h (λ found e h1. holds_of BringsName (PurDeck found) item h1 tt)
item_read words.Compile fs item h = bind_ok _ _ item (BringsName item) h (λ found e h1. holds_of BringsName (Compile found) item h1 tt)

item_found : (w : Option Word) (fs : List (List ℕ)) (item : ItemView) → item_by w fs ≡ Ok item → BringsName item
item_found None fs item h = holds_of {E = FaultKind} BringsName Text item h tt
item_found (Some w) fs item h = refusal_ok (not (are_its_fields w fs)) fault.BadField _ item (BringsName item) h (λ e h1. item_read w fs item h1)

item_named : (text : List ℕ) (item : ItemView) → item_of text ≡ Ok item → BringsName item
item_named text item h = go (is_starred text) refl
  where
    go : (b : Bool) → is_starred text ≡ b → BringsName item
    go true e = item_found (meaning (word text)) (fields text) item (rw e at h)
    go false e = holds_of {E = FaultKind} BringsName Text item (rw e at h) tt

not_not : (b : Bool) → not b ≡ false → b ≡ true
not_not true e = refl
not_not false e = absurd (cc)

all_taken : (test : ℕ → Bool) (n : ℕ) (bs : List ℕ) → list_all test bs ≡ true → list_all test (take n bs) ≡ true
all_taken test zero bs e = refl
all_taken test (suc n) [] e = refl
all_taken test (suc n) (b ∷ bs) e =
    both (test b) (list_all test (take n bs)) (and_left (test b) (list_all test bs) e) (all_taken test n bs (and_right (test b) (list_all test bs) e))

text_fits : (line text : List ℕ) → text_of line ≡ Ok text → IsLineText text
text_fits line text h =
    refusal_ok (not (list_all is_allowed line)) fault.BadByte _ text (IsLineText text) h (λ e h1.
    refusal_ok (nat_lt MAX_LINE_BYTES (length (trimmed line))) fault.LineLong _ text (IsLineText text) h1 (λ f h2.
    let short : length (trimmed line) ≤ MAX_LINE_BYTES = grind (arith, nat_tests) in
    let allowed = all_taken is_allowed (length line - suffix_len is_blank line) line (not_not (list_all is_allowed line) e) in
    holds_of IsLineText (trimmed line) text h2 (short, allowed)))

-- ---- a run

-- a line's text is one that a line can have, and the name that it introduces is a name
abbrev pub IsReadLine : LineView → Type 0
IsReadLine line = IsLineText line.text × BringsName line.item

line_read : (line : CutLine) (lines : List LineView) → said line ≡ Ok lines → AllByRecursion IsReadLine lines × (length lines ≤ 1)
line_read line lines h =
    bind_ok (text_of line.bytes) _ lines Said h (λ text e h1. go text (text_fits line.bytes text e) (is_comment text) refl h1)
  where
    Said : Type 0
    Said = AllByRecursion IsReadLine lines × (length lines ≤ 1)

    IsSaid : List LineView → Type 0
    IsSaid views = AllByRecursion IsReadLine views × (length views ≤ 1)

    view : List ℕ → ItemView → LineView
    view text item = record { number = line.number; span = record { start = line.start; end = line.start + length text }; text = text; item = item }

    rest : List ℕ → Bool → Result (List LineView) FaultKind
    rest text b = if b then Ok [] else (item_of text >>= (λ item. Ok (view text item ∷ [])))

    go : (text : List ℕ) → IsLineText text → (b : Bool) → is_comment text ≡ b → rest text (is_comment text) ≡ Ok lines → Said
    go text fits true e h1 = holds_of {E = FaultKind} IsSaid [] lines (rw e at h1) (tt, omega arith)
    go text fits false e h1 =
        bind_ok (item_of text) _ lines Said (rw e at h1) (λ item f h2.
        holds_of IsSaid (view text item ∷ []) lines h2 (((fits, item_named text item f), tt), omega arith))

limit_ok : {B : Type 0} (bad : Bool) (kind : FaultKind) (f : Bool → Result B Fault) (y : B) (P : Type 0) → at_line 0 (refuse_if bad kind) >>= f ≡ Ok y
    → (bad ≡ false → f false ≡ Ok y → P) → P
limit_ok false kind f y P h k = k refl h
limit_ok true kind f y P h k = absurd (cc)

pub record IsReadRun (lines : List LineView) : Type 0 where
  pub short : length lines ≤ MAX_RUN_LINES
  pub lines_fit : AllByRecursion IsReadLine lines

pub run_read : (lines : List LineView) → WereRead lines → IsReadRun lines
run_read lines read =
    let bytes = read.0 in
    limit_ok (nat_lt MAX_RUN_BYTES (length bytes)) fault.RunLong _ lines (IsReadRun lines) read.1 (λ e h1.
    limit_ok (nat_lt MAX_RUN_LINES (length (cut bytes))) fault.TooManyLines _ lines (IsReadRun lines) h1 (λ f h2.
    let few : length (cut bytes) ≤ MAX_RUN_LINES = grind (arith, nat_tests) in
    let less = each_length said_at (cut bytes) lines (λ line views g. (line_read line views (line_is line.number (said line) views g)).1) h2 in
    record {
      short = omega arith;
      lines_fit = each_all IsReadLine said_at (cut bytes) lines (λ line views g. (line_read line views (line_is line.number (said line) views g)).0) h2;
    }))
