-- The command lines of `trial` are read, and a command that was entered is one of the program's.
use Rattle.std.proofs.Common.{◌≡◌, ◌⊎◌, inl, inr, if◌then◌else◌, Bool, true, false, List, [], ◌∷◌, ◌++◌, ◌||◌, codes, drop, find, get_or, length, Option}
use Rattle.std.proofs.Common.{Some, None, IfSome, option_and_then, option_map, refl, subst, sym, take, true≢false}
use Rattle.clap.specs.Faults.{fault_of}
use Rattle.clap.specs.Lexer.{long_of, short_of}
use Rattle.clap.specs.Simple.{argument_words, built, label_of, names_of, new_shape, rows_at}
use Rattle.clap.specs.Walk.{answers_to, stop_after}
use Rattle.clap.specs.Words.{App, Shape, Text, subcommand_of}
use Rattle.clap.specs.declared.builder.value_parser.ValueParser.{ValueParser}
use Rattle.clap.specs.declared.builder.value_parser.ValueParser.TheVariants.{String}
use Rattle.clap.specs.ValueTests.{accepts}
use Rattle.clap.specs.Values.{refused_kind}
use Rattle.std.proofs.lemmas.Slice.Eq.{bytes_eq-Decides}
use Rattle.std.specs.Str.{bytes_eq}
use Rattle.clap.proofs.OnLiterals.{clap_on_literals}
use Rattle.upd_words.proofs.HelpLemmas.{IsOther, other_named}
use Rattle.upd_words.specs.Words.{IsOneOf, IsPlain, command_shape, command_word, operand_word, upd_app, upd_commands, word_faults}

pub plain_read : (name mode : Text) → IsPlain mode → word_faults (name ∷ codes "trial" ∷ mode ∷ []) ≡ []
unfolding clap_on_literals
plain_read name [] plain = refl
plain_read name (b ∷ bs) plain = simp plain

pub plain_word : (name mode : Text) → IsPlain mode → operand_word (codes "MODE") (name ∷ codes "trial" ∷ mode ∷ []) ≡ mode
unfolding clap_on_literals
plain_word name [] plain = refl
plain_word name (b ∷ bs) plain = simp plain

pub plain_command : (name mode : Text) → IsPlain mode → command_word (name ∷ codes "trial" ∷ mode ∷ []) ≡ codes "trial"
unfolding clap_on_literals
plain_command name [] plain = refl
plain_command name (b ∷ bs) plain = refl

-- the program, with another test of COUNT
abbrev pub with_count : ValueParser → App
with_count parser =
    record upd_app {
      subs = take 5 upd_app.subs
          ++ command_shape (codes "serve") ((codes "FILE", String) ∷ (codes "ADDRESS", String) ∷ (codes "COUNT", parser) ∷ []) ∷ drop 6 upd_app.subs;
    }

-- how a word is seen that does not begin with a hyphen
pub record IsNoFlag (word : Text) : Type 0 where
  pub long : long_of word ≡ None
  pub short : short_of word ≡ None
  pub dashes : bytes_eq word (45 ∷ 45 ∷ []) ≡ false

pub no_flag : (word : Text) → IsPlain word → IsNoFlag word
no_flag [] plain = record { long = refl; short = refl; dashes = refl }
no_flag (b ∷ bs) plain = record { long = simp plain refl; short = simp plain refl; dashes = simp plain refl }

pub count_accepted : (parser : ValueParser) (name file address count : Text) → IsNoFlag file → IsNoFlag address → IsNoFlag count → accepts false parser count
    ≡ true
    → fault_of (with_count parser) (name ∷ codes "serve" ∷ file ∷ address ∷ count ∷ []) ≡ []
unfolding clap_on_literals
count_accepted parser name file address count f a c is =
    simp (f.long, f.short, f.dashes) (simp (a.long, a.short, a.dashes) (simp (c.long, c.short, c.dashes) (rw is refl)))

pub count_refused : (parser : ValueParser) (name file address count : Text) → IsNoFlag file → IsNoFlag address → IsNoFlag count → accepts false parser count
    ≡ false
    → fault_of (with_count parser) (name ∷ codes "serve" ∷ file ∷ address ∷ count ∷ []) ≡ refused_kind parser ∷ []
unfolding clap_on_literals
count_refused parser name file address count f a c is =
    simp (f.long, f.short, f.dashes) (simp (a.long, a.short, a.dashes) (simp (c.long, c.short, c.dashes) (rw is refl)))

-- a name is that of one of these shapes
abbrev IsNamedIn : Text → List Shape → Type 0
IsNamedIn name [] = ⊥
IsNamedIn name (shape ∷ shapes) = (name ≡ shape.name) ⊎ IsNamedIn name shapes

-- a shape that a test finds, but for the last, which does not pass it
found_name : (test : Shape → Bool) (shapes : List Shape) (last : Shape) → test last ≡ false
    → IfSome (find test (shapes ++ last ∷ [])) (λ shape. IsNamedIn shape.name shapes)
found_name test [] last other = of (test last) other
  where
    of : (b : Bool) → b ≡ false → IfSome (if b then Some last else None) (λ s. IsNamedIn s.name [])
    of true is = absurd (true≢false is)
    of false is = tt
found_name test (shape ∷ shapes) last other = of (test shape) (find test (shapes ++ last ∷ [])) (found_name test shapes last other)
  where
    later : (o : Option Shape) → IfSome o (λ s. IsNamedIn s.name shapes) → IfSome o (λ s. IsNamedIn s.name (shape ∷ shapes))
    later None h = tt
    later (Some s) h = inr h

    of : (b : Bool) (o : Option Shape) → IfSome o (λ s. IsNamedIn s.name shapes)
        → IfSome (if b then Some shape else o) (λ s. IsNamedIn s.name (shape ∷ shapes))
    of true o h = inl refl
    of false o h = later o h

entered_name : (shapes : List Shape) (last : Shape) (stop : Option (Text × List Text)) → IfSome stop (λ p. answers_to p.0 (label_of last) ≡ false)
    → IfSome (option_and_then (λ p. option_map (λ s. rows_at s p.1) (find (λ s. answers_to p.0 (label_of s)) (shapes ++ last ∷ []))) stop)
    (λ c. IsNamedIn c.0 shapes)
entered_name shapes last None other = tt
entered_name shapes last (Some p) other =
    of (find (λ s. answers_to p.0 (label_of s)) (shapes ++ last ∷ [])) (found_name (λ s. answers_to p.0 (label_of s)) shapes last other)
  where
    of : (o : Option Shape) → IfSome o (λ s. IsNamedIn s.name shapes) → IfSome (option_map (λ s. rows_at s p.1) o) (λ c. IsNamedIn c.0 shapes)
    of None h = tt
    of (Some s) h = h

-- `help`, which clap has added behind the program's commands, does not answer to another name
abbrev help_shape : Shape
help_shape = get_or (built upd_app).subs (length upd_commands) (new_shape [])

not_help : (name : Text) → IsOther name → answers_to name (label_of help_shape) ≡ false
not_help name other = of (bytes_eq (codes "help") name) refl
  where
    of : (b : Bool) → bytes_eq (codes "help") name ≡ b → (b || false) ≡ false
    of false is = refl
    of true is =
        let same : codes "help" ≡ name = (bytes_eq-Decides (codes "help") name).0 is in
        absurd (true≢false (subst IsOther (sym same) other))

other_answers : (stop : Option (Text × List Text)) → IfSome stop (λ p. IsOther p.0) → IfSome stop (λ p. answers_to p.0 (label_of help_shape) ≡ false)
other_answers None other = tt
other_answers (Some p) other = not_help p.0 other

pub known_command : (words : List Text) → word_faults words ≡ [] → IfSome (subcommand_of upd_app words) (λ command. IsOneOf command.0 upd_commands)
known_command words none =
    let stop = stop_after (built upd_app).top.rules (names_of (built upd_app)) (argument_words upd_app words) in
    entered_name (take (length upd_commands) (built upd_app).subs) help_shape stop (other_answers stop (other_named words none))
