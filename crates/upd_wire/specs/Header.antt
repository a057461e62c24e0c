-- Headers of frames: how they are spelled, and how they are read.
use Rattle.std.specs.Prelude.{ℕ, ◌<◌, ◌≤◌, ◌^◌, ◌==◌, nat_le, Bool, ◌&&◌, if◌then◌else◌, IsTrue, List, ◌∷◌, ◌++◌, length, codes, decimal, Option, Some, None}
use Rattle.std.specs.List.{list_all, list_any, before_first, after_first}
use Rattle.std.specs.Str.{bytes_eq}
use Rattle.upd_wire.specs.Numbers.{number_of}
use Rattle.upd_wire.specs.declared.digits.TheConstants.{MAX_DIGITS}
use Rattle.upd_text.specs.Names.{is_between}
use Rattle.upd_text.specs.declared.limits.TheConstants.{MAX_RUN_BYTES}
use Rattle.upd_wire.specs.declared.header.TheConstants.{MAX_HEADER_BYTES}

-- What a header says of a run: its site, its number, its mode as a word, and how many bytes it has.
pub record HeaderView : Type 0 where
  pub site : List ℕ
  pub number : ℕ
  pub mode : List ℕ
  pub size : ℕ

-- ---- as it is spelled

-- whether a byte is neither a blank nor a control
abbrev pub is_visible : ℕ → Bool
is_visible b = is_between 33 126 b

-- a word: one or more of these bytes
abbrev pub is_word : List ℕ → Bool
is_word text = nat_le 1 (length text) && list_all is_visible text

-- `RUN`, site, number, mode and length, with single blanks
abbrev pub header_text : HeaderView → List ℕ
header_text h = codes "RUN" ++ 32 ∷ (h.site ++ 32 ∷ (decimal h.number ++ 32 ∷ (h.mode ++ 32 ∷ decimal h.size)))

-- What a header may say.
pub record IsHeader (h : HeaderView) : Type 0 where
  pub site : IsTrue (is_word h.site)
  pub number : h.number < 10 ^ MAX_DIGITS
  pub mode : IsTrue (is_word h.mode)
  pub size : h.size ≤ MAX_RUN_BYTES
  pub fits : length (header_text h) ≤ MAX_HEADER_BYTES

-- ---- as it is read

-- what comes behind is asked only where something was found
infixl 10 ◌>>=◌
abbrev pub ◌>>=◌ : {A B : Type 0} → Option A → (A → Option B) → Option B
(Some x) >>= f = f x
None >>= f = None

-- a value, where it passes
abbrev pub where_true : {A : Type 0} → Bool → A → Option A
where_true passes x = if passes then Some x else None

-- what stands before the first of a byte, and behind it
abbrev pub cut : ℕ → List ℕ → Option (List ℕ × List ℕ)
cut at text = where_true (list_any (λ b. b == at) text) (before_first (λ b. b == at) text, after_first (λ b. b == at) text)

-- a number that may be the length of a run
abbrev pub size_of : List ℕ → Option ℕ
size_of digits = do
  size ← number_of digits
  where_true (nat_le size MAX_RUN_BYTES) size

-- a header without its LF
unfoldable pub header_of : List ℕ → Option HeaderView
header_of text = do
  line ← where_true (nat_le (length text) MAX_HEADER_BYTES) text
  run ← cut 32 line
  command ← where_true (bytes_eq run.0 (codes "RUN")) run.0
  site ← cut 32 run.1
  site_word ← where_true (is_word site.0) site.0
  number ← cut 32 site.1
  value ← number_of number.0
  mode ← cut 32 number.1
  mode_word ← where_true (is_word mode.0) mode.0
  size ← size_of mode.1
  Some (record { site = site_word; number = value; mode = mode_word; size = size })
