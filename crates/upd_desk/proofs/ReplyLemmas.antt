-- The text of a reply's value is the reply's text.
use Rattle.upd_desk.proofs.Common.{◌≡◌, ℕ, ◌<◌, List, [], ◌∷◌, ◌++◌, Bool, true, false, ◌&&◌, IsTrue, refl, ap, sym, codes, arith, flat_map, AllByRecursion}
use Rattle.upd_desk.proofs.Common.{IsUtf8, and_parts, nat_tests, compact_text, Fault, FaultKind, is_shown, AreShown, accepted_text, refused_text}
use Rattle.upd_desk.proofs.Common.{accepted_value, refused_value, fault_value}
use Rattle.std.proofs.Common.{append_assoc}
use Rattle.std.specs.Str.{IsAscii}
use Rattle.std.proofs.lemmas.Str.{IsUtf8-from_ascii}
use Rattle.std.proofs.lemmas.Str.Ascii.{IsAscii-nil, IsAscii-cons}
use Rattle.json.specs.Print.{escape, escape_byte}
use Rattle.serde_json.specs.Written.{items_text, items_have_float}
use Rattle.serde_json.proofs.OnLiterals.{serde_json_on_literals}
use Rattle.upd_text.specs.declared.fault.FaultKind.TheVariants as kind
use Rattle.upd_text.specs.Faults.{fault_name}
use Rattle.upd_desk.specs.ReplyTexts.{escaped, listed, fault_text}
use Rattle.upd_desk.specs.ReplyValues.{items}

-- a byte that can stand in a reply is escaped as JSON's writer does it
escape_is : (b : ℕ) → IsTrue (is_shown b) → escape_byte b ≡ escaped b
unfolding escape_byte
escape_is b shown = grind (arith, nat_tests)

pub escapes_are : (text : List ℕ) → AreShown text → escape text ≡ flat_map escaped text
escapes_are [] shown = refl
escapes_are (b ∷ bs) shown = rw (escape_is b shown.0, escapes_are bs shown.1) refl

-- the test of all bytes
abbrev shows_all : List ℕ → Bool
shows_all [] = true
shows_all (b ∷ bs) = is_shown b && shows_all bs

are_shown : (text : List ℕ) → shows_all text ≡ true → AreShown text
are_shown [] passes = tt
are_shown (b ∷ bs) passes = let p = and_parts (is_shown b) (shows_all bs) passes in (p.0, are_shown bs p.1)

name_passes : (kind : FaultKind) → shows_all (fault_name kind) ≡ true
name_passes kind.RunLong = refl
name_passes kind.TooManyLines = refl
name_passes kind.BadByte = refl
name_passes kind.LineLong = refl
name_passes kind.BadName = refl
name_passes kind.BadCard = refl
name_passes kind.BadField = refl
name_passes kind.NoIdent = refl
name_passes kind.TextNowhere = refl
name_passes kind.NameTaken = refl
name_passes kind.IdentUnknown = refl
name_passes kind.DeckUnknown = refl
name_passes kind.CardUnknown = refl
name_passes kind.RangeOrder = refl
name_passes kind.DeckCard = refl
name_passes kind.YankText = refl
name_passes kind.YankSelf = refl
name_passes kind.Reserved = refl
name_passes kind.Full = refl
name_passes kind.CallUnknown = refl
name_passes kind.CallDepth = refl
name_passes kind.CompileLong = refl
name_passes kind.BadSite = refl
name_passes kind.BadNumber = refl
name_passes kind.BadMode = refl
name_passes kind.RunChanged = refl
name_passes kind.Settled = refl
name_passes kind.NoMemory = refl
name_passes kind.Store = refl
name_passes kind.BadFrame = refl
name_passes kind.CutFrame = refl
name_passes kind.Read = refl
name_passes kind.Write = refl

-- names of faults are shown as they are
pub name_shown : (kind : FaultKind) → AreShown (fault_name kind)
name_shown kind = are_shown (fault_name kind) (name_passes kind)

pub fault_written : (fault : Fault) → compact_text (fault_value fault) ≡ fault_text fault
unfolding serde_json_on_literals
fault_written fault = rw (escapes_are (fault_name fault.kind) (name_shown fault.kind)) refl

pub refused_written : (site mode : List ℕ) (n : ℕ) (fault : Fault) → AreShown site → AreShown mode
    → compact_text (refused_value site n mode fault) ≡ refused_text site n mode fault
unfolding serde_json_on_literals
refused_written site mode n fault site_shown mode_shown =
    rw (escapes_are site site_shown, escapes_are mode mode_shown, escapes_are (fault_name fault.kind) (name_shown fault.kind)) refl

-- names in an array: a comma before each but the first
items_written : (names : List (List ℕ)) → AllByRecursion AreShown names → items_text false (items names) ≡ listed names ++ codes "]"
items_written [] shown = refl
items_written (t ∷ []) shown = rw (escapes_are t shown.0) refl
items_written (t ∷ u ∷ ts) shown =
    rw (escapes_are t shown.0, items_written (u ∷ ts) shown.1)
    (ap (λ rest. 34 ∷ rest) (sym (append_assoc (flat_map escaped t ++ codes "\"") (codes "," ++ listed (u ∷ ts)) (codes "]"))))

pub accepted_written : (site mode : List ℕ) (n : ℕ) (names : List (List ℕ)) (file : List ℕ) (lines : ℕ) → AreShown site → AreShown mode
    → AllByRecursion AreShown names → AreShown file → compact_text (accepted_value site n mode names file lines) ≡ accepted_text site n mode names file lines
unfolding serde_json_on_literals
accepted_written site mode n names file lines site_shown mode_shown names_shown file_shown =
    rw (
      escapes_are site site_shown,
      escapes_are mode mode_shown,
      escapes_are file file_shown,
      items_written names names_shown,
      append_assoc (listed names) (codes "]") _,
    ) refl

is_low : (b : ℕ) → IsTrue (is_shown b) → b < 128
is_low b shown = grind (arith, nat_tests)

-- what is shown is ASCII
ascii : (text : List ℕ) → AreShown text → IsAscii text
ascii [] shown = IsAscii-nil
ascii (b ∷ bs) shown = IsAscii-cons b bs (is_low b shown.0) (ascii bs shown.1)

pub utf8 : (text : List ℕ) → AreShown text → IsUtf8 text
utf8 text shown = IsUtf8-from_ascii text (ascii text shown)

pub all_utf8 : (texts : List (List ℕ)) → AllByRecursion AreShown texts → AllByRecursion IsUtf8 texts
all_utf8 [] shown = tt
all_utf8 (t ∷ ts) shown = (utf8 t shown.0, all_utf8 ts shown.1)

-- texts are no floats
pub no_float_items : (texts : List (List ℕ)) → items_have_float (items texts) ≡ false
no_float_items [] = refl
no_float_items (t ∷ ts) = no_float_items ts
