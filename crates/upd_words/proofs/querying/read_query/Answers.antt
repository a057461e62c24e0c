-- The one command that is left is `source`.
use Rattle.std.proofs.Common.{◌≡◌, ◌⊎◌, inl, inr, Bool, true, false, if◌then◌else◌, List, [], ◌∷◌, codes, refl, sym, ◌∙◌}
use Rattle.std.specs.Str.{bytes_eq}
use Rattle.std.proofs.lemmas.Slice.Eq.{bytes_eq-Decides}
use Rattle.clap.specs.Words.{Text}
use Rattle.upd_words.specs.Words.{IsOneOf, IsOther, Operand, upd_commands}
use Rattle.upd_words.proofs.querying.read_query.Goals as goal

-- the names of commands but one
abbrev names_but : Text → List (Text × List Operand) → List Text
names_but one [] = []
names_but one (command ∷ commands) = if bytes_eq command.0 one then names_but one commands else command.0 ∷ names_but one commands

is_left : (name one : Text) (commands : List (Text × List Operand)) → IsOneOf name commands → IsOther name (names_but one commands) → name ≡ one
is_left name one [] is other = absurd is
is_left name one (command ∷ commands) is other = of (bytes_eq command.0 one) refl (is_left name one commands) other is
  where
    of : (b : Bool) → bytes_eq command.0 one ≡ b → (IsOneOf name commands → IsOther name (names_but one commands) → name ≡ one)
        → IsOther name (if b then names_but one commands else command.0 ∷ names_but one commands) → (name ≡ command.0) ⊎ IsOneOf name commands
        → name ≡ one
    of true same later other (inl is) = is ∙ (bytes_eq-Decides command.0 one).0 same
    of true same later other (inr is) = later is other
    of false same later other (inl is) = absurd (other.0 is)
    of false same later other (inr is) = later is other.1

pub returns-in_ok-name-in_default : goal.returns-in_ok-name-in_default
returns-in_ok-name-in_default c =
    let others : IsOther c.args.command.now (names_but (codes "source") upd_commands) = assumption (c) in
    (is_left c.args.command.now (codes "source") upd_commands c.requires.known others, sym c.name-in_default.ensures ∙ c.in_ok-name-in_default.was)
