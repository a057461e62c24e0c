-- What the operands of commands are read as.
use Rattle.std.specs.Prelude.{ℕ, ◌==◌, Bool, not, ◌&&◌, ◌||◌, if◌then◌else◌, List, length, slice_index, Some, None, Result}
use Rattle.std.specs.List.{list_all}
use Rattle.std.specs.Net.Grammar.{IsSocketText}
use Rattle.std.specs.declared.net.socket_addr.SocketAddr.{SocketAddr}
use Rattle.upd_text.specs.Names.{card_of, is_between, is_digit, is_name, number_behind}
use Rattle.upd_text.specs.Outcome.{at_line, need}
use Rattle.upd_text.specs.declared.card_ref.CardRef.{CardRef}
use Rattle.upd_text.specs.declared.fault.Fault.{Fault}
use Rattle.upd_text.specs.declared.fault.FaultKind.TheVariants.{BadCard, BadName, BadNumber}
use Rattle.upd_words.specs.declared.operands.TheConstants.{MAX_DIGITS}

-- `0`, or 1 to 9 digits without a leading zero
abbrev pub is_number : List ℕ → Bool
is_number digits =
    is_between 1 MAX_DIGITS (length digits) && list_all is_digit digits && (not (slice_index digits 0 == 48) || (length digits == 1))

-- a run number: another word is BadNumber
abbrev pub number_read : List ℕ → Result ℕ Fault
number_read word = at_line 0 (need BadNumber (if is_number word then Some (number_behind 0 word) else None))

-- the name of a deck or an ident: another word is BadName
abbrev pub name_read : List ℕ → Result (List ℕ) Fault
name_read word = at_line 0 (need BadName (if is_name word then Some word else None))

-- a card: a word that refers to none is BadCard
abbrev pub card_read : List ℕ → Result CardRef Fault
card_read word = at_line 0 (need BadCard (card_of word))

-- a word spells no address
abbrev pub IsNoAddress : List ℕ → Type 0
IsNoAddress word = (a : SocketAddr) → ¬ (IsSocketText word a)
