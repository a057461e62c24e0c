-- Words that are read do not enter the command `help`.
use Rattle.std.proofs.Common.{◌≡◌, ◌&&◌, ◌∷◌, ℕ, Bool, true, false, not, if◌then◌else◌, List, [], codes, fold, Option, Some, None, IfSome, is_some, refl}
use Rattle.std.proofs.Common.{true≢false}
use Rattle.std.specs.Str.{bytes_eq}
use Rattle.clap.specs.Faults.{other_fault, step_fault, turn_fault, walk_fault, word_fault}
use Rattle.clap.specs.Kinds.{or_else}
use Rattle.clap.specs.Lexer.{long_of, short_of}
use Rattle.clap.specs.Simple.{Shape, argument_words, built, names_of}
use Rattle.clap.specs.Walk.{Held, Names, Outcome, Rule, Step, Text, Waiting, Walk, after_flag, after_step, arg_by_index, arg_by_long, bundle, done, idle}
use Rattle.clap.specs.Walk.{long_met, long_or_other, next, nothing_held, option, plain, plain_word, positional, refused, short_or_plain, stop_after}
use Rattle.clap.specs.Walk.{subcommand, subcommand_met, subcommand_or_other, to_positional, trailing, value, waits, walk_from, walked, walked_from, word_met}
use Rattle.clap.specs.declared.error.kind.ErrorKind.TheVariants.{DisplayHelp, InvalidSubcommand}
use Rattle.upd_words.specs.Words.{upd_app, word_faults}
use Rattle.upd_words.proofs.PassedLemmas.{both_pass}

-- the name of another command
abbrev pub IsOther : Text → Type 0
IsOther name = bytes_eq name (codes "help") ≡ false

-- a step enters no command but another
abbrev EntersOther : Step → Type 0
EntersOther (subcommand name) = IsOther name
EntersOther _ = Unit {0}

-- a walk has entered no command but another
abbrev StopsAtOther : Walk → Type 0
StopsAtOther w = IfSome w.stopped (λ p. IsOther p.0)

-- a command that is named without a fault, where there is a command `help`
named_other : (b disabled : Bool) → disabled ≡ false → (if b && not disabled then DisplayHelp ∷ InvalidSubcommand ∷ [] else []) ≡ [] → b ≡ false
named_other false disabled off none = refl
named_other true false off none = absurd (cc)
named_other true true off none = absurd (true≢false off)

module _ (s : Shape) (names : Names) (helps : s.disable_help_subcommand ≡ false) where
  plain_other : (waiting : Waiting) (word : Text) (h : Held) → EntersOther (plain_word s.rules waiting word h).1
  plain_other (option key) word h = tt
  plain_other idle word h = tt
  plain_other positional word h = tt

  flag_other : (waiting : Waiting) (word : Text) (h : Held) (o : Outcome) → EntersOther (after_flag s.rules waiting word h o).1
  flag_other waiting word h done = tt
  flag_other waiting word h (waits key) = tt
  flag_other waiting word h plain = plain_other waiting word h
  flag_other waiting word h refused = plain_other waiting word h

  short_other : (waiting : Waiting) (word : Text) (o : Option Text) (h : Held) → EntersOther (short_or_plain s.rules waiting word o h).1
  short_other waiting word None h = plain_other waiting word h
  short_other waiting word (Some flags) h = flag_other waiting word (bundle s.rules flags h).0 (bundle s.rules flags h).1

  long_other : (waiting : Waiting) (word : Text) (o : Option (Text × Option Text)) (h : Held) → EntersOther (long_or_other s.rules waiting word o h).1
  long_other waiting word None h = short_other waiting word (short_of word) h
  long_other waiting word (Some x) h =
      let met = long_met s.rules (arg_by_long s.rules x.0) x.1 h in
      flag_other waiting word met.0 met.1

  word_other : (is_trailing : Bool) (waiting : Waiting) (position : ℕ) (word : Text) (h : Held) → word_fault s names is_trailing waiting word h ≡ []
      → EntersOther (word_met s.rules names is_trailing waiting position word h).1
  word_other true waiting position word h none = tt
  word_other false waiting position word h none = of (subcommand_met names waiting word) none
    where
      dashes : (b : Bool) → EntersOther (if b then (h, trailing position) else long_or_other s.rules waiting word (long_of word) h).1
      dashes true = tt
      dashes false = long_other waiting word (long_of word) h

      of : (o : Option Text) → other_fault s o word h ≡ [] → EntersOther (subcommand_or_other s.rules o waiting position word h).1
      of None e = dashes (bytes_eq word (45 ∷ 45 ∷ []))
      of (Some name) e = named_other (bytes_eq name (codes "help")) s.disable_help_subcommand helps e

  step_other : (word : Text) (w : Walk) (h : Held) (step : Step) → StopsAtOther w → EntersOther step → StopsAtOther (after_step s.rules word w h step)
  step_other word w h (next waiting) old new = old
  step_other word w h (trailing position) old new = old
  step_other word w h (subcommand name) old new = new
  step_other word w h value old new = of (arg_by_index s.rules w.position)
    where
      of : (o : Option Rule) → StopsAtOther (to_positional s.rules o word w h)
      of None = old
      of (Some a) = tt

  turn_other : (w : Walk) (word : Text) → turn_fault s names w word ≡ [] → StopsAtOther w → StopsAtOther (walked s.rules names w word)
  unfolding walked
  turn_other w word none old = of w.stopped none old
    where
      met : Held × Step
      met = word_met s.rules names w.is_trailing w.waiting w.position word w.held

      of : (o : Option (Text × List Text))
          → (if is_some o then [] else or_else (word_fault s names w.is_trailing w.waiting word w.held) (step_fault s w.position met.0 met.1)) ≡ []
          → IfSome o (λ p. IsOther p.0) → StopsAtOther (walked_from s.rules names o w word)
      of (Some x) e p = p
      of None e p =
          let both = both_pass (word_fault s names w.is_trailing w.waiting word w.held) (step_fault s w.position met.0 met.1) e in
          step_other word w met.0 met.1 old (word_other w.is_trailing w.waiting w.position word w.held both.0)

  walk_other : (w : Walk) (words : List Text) → walk_fault s names w words ≡ [] → StopsAtOther w → StopsAtOther (fold (walked s.rules names) w words)
  unfolding walk_fault
  walk_other w [] none old = old
  walk_other w (word ∷ words) none old =
      let both = both_pass (turn_fault s names w word) (walk_fault s names (walked s.rules names w word) words) none in
      walk_other (walked s.rules names w word) words both.1 (turn_other w word both.0 old)

-- where the words are read, the command that they name is another
pub other_named : (words : List Text) → word_faults words ≡ []
    → IfSome (stop_after (built upd_app).top.rules (names_of (built upd_app)) (argument_words upd_app words)) (λ p. IsOther p.0)
other_named words none =
    let app = built upd_app in
    let walks = both_pass (walk_fault app.top (names_of app) (walk_from nothing_held) (argument_words upd_app words)) _ none in
    walk_other app.top (names_of app) refl (walk_from nothing_held) (argument_words upd_app words) walks.0 tt
