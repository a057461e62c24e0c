use Rattle.std.proofs.Common.{◌≡◌, ◌<◌, ◌^◌, Bool, true, false, arith, refl}
use Rattle.clap.specs.Values.{Accepts}
use Rattle.clap.specs.Words.{Text}
use Rattle.clap.specs.declared.builder.value_parser.ValueParser.TheVariants.{Unsigned}
use Rattle.clap.specs.ValueTests.{accepts}
use Rattle.clap.proofs.ValueTestLemmas.{Accepts-accepts, accepts-Accepts}
use Rattle.std.specs.Str.Parse.{digits_value, without_leading_plus}
use Rattle.upd_words.specs.Words.{SpellsCount}
use Rattle.upd_words.proofs.WordLemmas.{count_accepted, count_refused, no_flag}
use Rattle.upd_words.proofs.words.serve_is_read.Goals as goal

accepted : (word : Text) → SpellsCount word → Accepts false (Unsigned 1 1000000) word
accepted word (n, (numeral, is, low, high)) =
    let n64 : digits_value 10 (without_leading_plus word) < 2 ^ 64 = omega (arith, is, high) in
    (numeral, n64, omega (arith, is, low), omega (arith, is, high))

spelled : (word : Text) → Accepts false (Unsigned 1 1000000) word → SpellsCount word
spelled word (numeral, fits, low, high) = (digits_value 10 (without_leading_plus word), (numeral, refl, low, high))

pub returns-clause-read : goal.returns-clause-read
returns-clause-read c = λ name file address count f a p spells.
    count_accepted (Unsigned 1 1000000) name file address count (no_flag file f) (no_flag address a) (no_flag count p)
    (Accepts-accepts false (Unsigned 1 1000000) count (accepted count spells))

pub returns-clause-refused : goal.returns-clause-refused
returns-clause-refused c = λ name file address count f a p none.
    count_refused (Unsigned 1 1000000) name file address count (no_flag file f) (no_flag address a) (no_flag count p)
    (of count (accepts false (Unsigned 1 1000000) count) refl none)
  where
    of : (word : Text) (b : Bool) → accepts false (Unsigned 1 1000000) word ≡ b → ¬ (SpellsCount word) → accepts false (Unsigned 1 1000000) word ≡ false
    of word true is none = absurd (none (spelled word (accepts-Accepts false (Unsigned 1 1000000) word is)))
    of word false is none = is
