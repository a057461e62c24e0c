-- A command line that serves, and is read, has a COUNT within its range.
use Rattle.std.proofs.Common.{◌≡◌, ◌∷◌, ◌++◌, ◌&&◌, ◌||◌, ℕ, Bool, true, false, not, if◌then◌else◌, List, [], codes, drop, find, get_or, length, take}
use Rattle.std.proofs.Common.{true≢false, Option, Some, None, IfSome, option_map, unwrap_or, refl, sym, subst, ap, ◌∙◌}
use Rattle.std.specs.List.{list_all}
use Rattle.std.specs.Option.{option_map_or}
use Rattle.std.specs.Str.{bytes_eq}
use Rattle.std.specs.Str.Parse.{digits_value, without_leading_plus}
use Rattle.clap.specs.Faults.{check_fault, entered_fault, level_fault, repeat_fault, set_fault, use_fault, values_fault, walk_fault}
use Rattle.clap.specs.Kinds.{range_kinds, value_kinds, values_kinds}
use Rattle.clap.specs.Simple.{Shape, argument_words, built, entered, label_of, names_of, new_rule, new_shape, rows_at}
use Rattle.clap.specs.Takes.{is_given}
use Rattle.clap.specs.ValueTests.{accepts}
use Rattle.clap.specs.Walk.{Row, Rule, Text, action_of, answers_to, first_of, nothing_held, rows_after, stop_after, values_or_missing, walk_from}
use Rattle.clap.specs.Words.{subcommand_of}
use Rattle.clap.specs.declared.builder.action.ArgAction.TheVariants.{Set}
use Rattle.clap.specs.declared.builder.value_parser.ValueParser.TheVariants.{Unsigned}
use Rattle.clap.specs.declared.error.kind.ErrorKind.{ErrorKind}
use Rattle.clap.specs.declared.error.kind.ErrorKind.TheVariants.{InvalidValue, MissingRequiredArgument, ValueValidation}
use Rattle.clap.proofs.ValueTestLemmas.{accepts-Accepts}
use Rattle.upd_words.specs.Words.{SpellsCount, HasCount, upd_app, word_faults}
use Rattle.upd_words.proofs.PassedLemmas.{AllKeep, FirstPasses, KeepsPassing, both_pass, level_passes, set_keeps}

-- the word is within the range of COUNT
abbrev IsInRange : Text → Type 0
IsInRange word = accepts false (Unsigned 1 1000000) word ≡ true

in_range : (b : Bool) (kind : ErrorKind) → (if b then [] else kind ∷ []) ≡ [] → b ≡ true
in_range true kind none = refl
in_range false kind none = absurd (cc)

-- `serve` as it is built, and its arguments: FILE, ADDRESS, COUNT and `--help`
abbrev serve_shape : Shape
serve_shape = get_or (built upd_app).subs 5 (new_shape [])

abbrev serve_rule : ℕ → Rule
serve_rule i = get_or serve_shape.rules i (new_rule [])

-- `serve-local` as it is built: it has PATH in place of ADDRESS
abbrev local_shape : Shape
local_shape = get_or (built upd_app).subs 6 (new_shape [])

other_keeps : (a : Rule) → action_of a ≡ Set → bytes_eq a.id (codes "COUNT") ≡ false → KeepsPassing (codes "COUNT") IsInRange a
other_keeps a set other =
    set_keeps (codes "COUNT") IsInRange a set
    (λ again values rows none same. absurd (true≢false (sym (ap (λ t. bytes_eq t (codes "COUNT")) same) ∙ other)))

count_keeps : KeepsPassing (codes "COUNT") IsInRange (serve_rule 2)
count_keeps = set_keeps (codes "COUNT") IsInRange (serve_rule 2) refl first
  where
    first : (again : Bool) (values : List Text) (rows : List Row) → use_fault again (serve_rule 2) values rows ≡ [] → (serve_rule 2).id ≡ codes "COUNT"
        → FirstPasses (codes "COUNT") IsInRange (values_or_missing (serve_rule 2) values)
    first again [] rows none same =
        let bad : InvalidValue ∷ [] ≡ [] = none in
        absurd (cc)
    first again (v ∷ vs) rows none same =
        let one = both_pass (range_kinds 1 1 (length (v ∷ vs))) (set_fault again (serve_rule 2) (v ∷ vs) rows) none in
        let once = both_pass (repeat_fault again (codes "COUNT") rows) (values_fault (serve_rule 2) (v ∷ vs)) one.1 in
        let each = both_pass (value_kinds false (Unsigned 1 1000000) v) (values_kinds false (Unsigned 1 1000000) vs) once.1 in
        in_range (accepts false (Unsigned 1 1000000) v) ValueValidation each.0

all_keep : AllKeep (codes "COUNT") IsInRange serve_shape.rules
all_keep = (other_keeps (serve_rule 0) refl refl, (other_keeps (serve_rule 1) refl refl, (count_keeps, ((λ again values rows none p. p), tt))))

local_keep : AllKeep (codes "COUNT") IsInRange local_shape.rules
local_keep =
    let path = get_or local_shape.rules 1 (new_rule []) in
    (other_keeps (serve_rule 0) refl refl, (other_keeps path refl refl, (count_keeps, ((λ again values rows none p. p), tt))))

third : (a b c : Bool) → (if (not a || (not b || (not c || false))) then MissingRequiredArgument ∷ [] else []) ≡ [] → c ≡ true
third true true true none = refl
third true true false none = absurd (cc)
third true false c none = absurd (cc)
third false b c none = absurd (cc)

asks_count : (rows : List Row) → check_fault serve_shape rows false ≡ [] → is_given (codes "COUNT") rows ≡ true
asks_count rows none = third (is_given (codes "FILE") rows) (is_given (codes "ADDRESS") rows) (is_given (codes "COUNT") rows) none

local_asks_count : (rows : List Row) → check_fault local_shape rows false ≡ [] → is_given (codes "COUNT") rows ≡ true
local_asks_count rows none = third (is_given (codes "FILE") rows) (is_given (codes "PATH") rows) (is_given (codes "COUNT") rows) none

-- the name of a command that serves
abbrev serves : Text → Bool
serves name = bytes_eq name (codes "serve") || bytes_eq name (codes "serve-local")

-- a command of such a name that takes words has a COUNT within its range
abbrev Counts : Shape → Type 0
Counts s = serves s.name ≡ true → (words : List Text) → level_fault s [] nothing_held words false [] ≡ []
    → (v : Text) × (first_of (codes "COUNT") (rows_after s.rules [] words) ≡ Some v) × IsInRange v

abbrev AllCount : List Shape → Type 0
AllCount [] = Unit {0}
AllCount (s ∷ shapes) = Counts s × AllCount shapes

joined : (xs ys : List Shape) → AllCount xs → AllCount ys → AllCount (xs ++ ys)
joined [] ys p q = q
joined (x ∷ xs) ys p q = (p.0, joined xs ys p.1 q)

serve_counts : Counts serve_shape
serve_counts same = level_passes (codes "COUNT") IsInRange serve_shape all_keep (refl, (refl, (refl, (refl, tt)))) asks_count

local_counts : Counts local_shape
local_counts same = level_passes (codes "COUNT") IsInRange local_shape local_keep (refl, (refl, (refl, (refl, tt)))) local_asks_count

others_count : (shapes : List Shape) → list_all (λ s. not (serves s.name)) shapes ≡ true → AllCount shapes
others_count [] none = tt
others_count (s ∷ shapes) none = of (serves s.name) refl (others_count shapes) none
  where
    of : (b : Bool) → serves s.name ≡ b → (list_all (λ s. not (serves s.name)) shapes ≡ true → AllCount shapes)
        → (not b && list_all (λ s. not (serves s.name)) shapes) ≡ true → AllCount (s ∷ shapes)
    of true is later e = absurd (true≢false (sym e))
    of false is later e = ((λ same. absurd (true≢false (sym same ∙ is))), later e)

all_count : AllCount (built upd_app).subs
all_count =
    let subs = (built upd_app).subs in
    joined (take 5 subs) (drop 5 subs) (others_count (take 5 subs) refl) (serve_counts, (local_counts, others_count (drop 7 subs) refl))

found_counts : (test : Shape → Bool) (shapes : List Shape) → AllCount shapes → IfSome (find test shapes) Counts
found_counts test [] all = tt
found_counts test (s ∷ shapes) all = of (test s) (found_counts test shapes all.1)
  where
    of : (b : Bool) → IfSome (find test shapes) Counts → IfSome (if b then Some s else find test shapes) Counts
    of true later = all.0
    of false later = later

spells_count : (word : Text) → IsInRange word → SpellsCount word
spells_count word ok =
    let (numeral, fits, low, high) = accepts-Accepts false (Unsigned 1 1000000) word ok in
    (digits_value 10 (without_leading_plus word), (numeral, refl, low, high))

entered_counts : (stop : Option (Text × List Text)) → entered_fault (built upd_app) stop ≡ [] → IfSome (entered (built upd_app) stop) HasCount
entered_counts None none = tt
entered_counts (Some x) none =
    of (find (λ s. answers_to x.0 (label_of s)) (built upd_app).subs) (found_counts (λ s. answers_to x.0 (label_of s)) (built upd_app).subs all_count) none
  where
    of : (o : Option Shape) → IfSome o Counts → option_map_or (λ s. level_fault s [] nothing_held x.1 false []) o [] ≡ []
        → IfSome (option_map (λ s. rows_at s x.1) o) HasCount
    of None counts e = tt
    of (Some s) counts e =
        let has : serves s.name ≡ true → SpellsCount (unwrap_or (first_of (codes "COUNT") (rows_after s.rules [] x.1)) []) =
        λ yes. let (v, is, ok) = counts yes x.1 e in subst (λ o. SpellsCount (unwrap_or o [])) (sym is) (spells_count v ok) in
        ((λ same. has (ap serves same)), (λ same. has (ap serves same)))

pub read_counts : (words : List Text) → word_faults words ≡ [] → IfSome (subcommand_of upd_app words) HasCount
read_counts words none =
    let app = built upd_app in
    let given = argument_words upd_app words in
    let stop = stop_after app.top.rules (names_of app) given in
    let walked = both_pass (walk_fault app.top (names_of app) (walk_from nothing_held) given) _ none in
    entered_counts stop (both_pass (entered_fault app stop) _ walked.1).0
