-- Each column of a line has its width, where what is in it fits, and a text is printable.
use Rattle.std.proofs.Common.{◌≡◌, ℕ, ◌+◌, ◌≤◌, Bool, true, false, if◌then◌else◌, List, [], ◌∷◌, ◌++◌, length, refl, ap, ◌∙◌, arith}
use Rattle.std.specs.List.{list_all}
use Rattle.std.specs.Prelude.{codes, decimal}
use Rattle.std.proofs.lemmas.List.{length-append, length-map, length-replicate}
use Rattle.upd_core.specs.declared.ident.Ident.{Ident}
use Rattle.upd_core.specs.declared.target.Target.{Target}
use Rattle.upd_core.specs.Library.{CardView, name_of}
use Rattle.upd_core.specs.Status.{is_active}
use Rattle.upd_compile.specs.File.{from_left}
use Rattle.upd_compile.specs.Listings.{card_name}
use Rattle.upd_views.specs.Blame.{blame_line, switcher}
use Rattle.upd_views.specs.Printed.{is_printed, printed, printed_text}

column_width : (width : ℕ) (field : List ℕ) → length field ≤ width → length (from_left width field) ≡ width
column_width width field fits = simp (length-append, length-replicate) (omega arith)

letter_fits : (test : Bool) → length (if test then codes "A" else codes "I") ≤ 2
letter_fits true = omega arith
letter_fits false = omega arith

reference_fits : (name digits : List ℕ) → length name ≤ 9 → length digits ≤ 6 → length (name ++ 46 ∷ digits) ≤ 18
reference_fits name digits short few = simp length-append (omega arith)

joined : (status card who text : List ℕ) → length status ≡ 2 → length card ≡ 18 → length who ≡ 12
    → length (status ++ card ++ who ++ text ++ 10 ∷ []) ≡ 33 + length text
joined status card who text p q r = simp length-append (omega arith)

pub one_column : (idents : List Ident) (live : List Target) (deck : ℕ) (c : CardView) → length (name_of idents c.ident) ≤ 9
    → length (decimal c.number) ≤ 6 → length (name_of idents (switcher live deck c)) ≤ 9
    → length (blame_line idents live deck c) ≡ 33 + length c.text
one_column idents live deck c short few other =
    joined _ _ _ (printed_text c.text) (column_width 2 (if is_active live deck c then codes "A" else codes "I") (letter_fits (is_active live deck c)))
    (column_width 18 (card_name idents c) (reference_fits (name_of idents c.ident) (decimal c.number) short few))
    (column_width 12 (name_of idents (switcher live deck c)) (omega arith))
    ∙ ap (λ n. 33 + n) (length-map c.text _)

printed_here : (kept b : ℕ) (v : Bool) → is_printed kept b ≡ v → is_printed kept 63 ≡ true → is_printed kept (if v then b else 63) ≡ true
printed_here kept b true is mark = is
printed_here kept b false is mark = mark

pub all_printed : (kept : ℕ) → is_printed kept 63 ≡ true → (text : List ℕ) → list_all (is_printed kept) (printed kept text) ≡ true
all_printed kept mark [] = refl
all_printed kept mark (b ∷ text) = rw (printed_here kept b _ refl mark) (all_printed kept mark text)
