-- Where a command's words have no fault, the first value of each row of an id has passed the test of that id's argument.
use Rattle.std.proofs.Common.{◌≡◌, ◌&&◌, ◌∷◌, ◌++◌, ℕ, zero, suc, Bool, true, false, not, if◌then◌else◌, List, [], length, drop, find, fold, Option, Some}
use Rattle.std.proofs.Common.{None, IfSome, is_some, option_and_then, refl, sym, subst, ap, ◌∙◌}
use Rattle.std.specs.Option.{option_map_or}
use Rattle.std.specs.Prelude.{encode_utf8, slice_get}
use Rattle.std.specs.Str.{bytes_eq, chars}
use Rattle.std.proofs.lemmas.Slice.Eq.{bytes_eq-Decides}
use Rattle.clap.specs.Facts.{explicit_source}
use Rattle.clap.specs.Faults.{bundle_step_fault, check_fault, defaults_fault, flag_word_fault, flags_fault, level_fault, long_fault, option_fault}
use Rattle.clap.specs.Faults.{other_fault, positional_fault, react_fault, settle_fault, short_fault, step_fault, stray_fault, turn_fault, use_fault}
use Rattle.clap.specs.Faults.{walk_fault, word_fault}
use Rattle.clap.specs.Kinds.{Kinds, or_else}
use Rattle.clap.specs.Lexer.{long_of, short_of}
use Rattle.clap.specs.Simple.{Shape}
use Rattle.clap.specs.Takes.{is_given}
use Rattle.clap.specs.Walk.{Held, Names, Outcome, Row, Rule, Step, Text, Waiting, Walk, action_of, after_flag, after_step, arg_by_id, arg_by_index}
use Rattle.clap.specs.Walk.{arg_by_long, arg_by_short, at_row, attached_value, bundle, bundle_met, bundle_step, default_rows, done, finished, first_of}
use Rattle.clap.specs.Walk.{flag_met, has_long, has_row, has_short, idle, is_pending, long_met, long_or_other, more_values, next, nothing_held, option}
use Rattle.clap.specs.Walk.{option_met, option_word, plain, plain_word, positional, reacted, reading_by, refused, rows_after, settled, settled_rows}
use Rattle.clap.specs.Walk.{short_met, short_or_plain, subcommand, subcommand_met, subcommand_or_other, takes_several, takes_values, to_positional, trailing}
use Rattle.clap.specs.Walk.{used, used_as, used_by_id, value, values_or_missing, waits, walk, walk_from, walked, walked_from, with_default, with_values}
use Rattle.clap.specs.Walk.{without, word_met}
use Rattle.clap.specs.declared.builder.action.ArgAction.TheVariants.{Set}
use Rattle.clap.specs.declared.builder.value_parser.Reading.{Reading}
use Rattle.clap.specs.declared.error.kind.ErrorKind.TheVariants.{TooManyValues}
use Rattle.clap.specs.declared.parser.matches.ValueSource.{ValueSource}
use Rattle.clap.specs.declared.parser.matches.ValueSource.TheVariants.{CommandLine}

-- two steps have no fault: neither has one
pub both_pass : (a b : Kinds) → or_else a b ≡ [] → (a ≡ []) × (b ≡ [])
both_pass [] b none = (refl, none)
both_pass (k ∷ ks) b none = absurd (cc)

module _ (id : Text) (P : Text → Type 0) where
  -- the first of these values is there, and has passed
  abbrev pub FirstPasses : List Text → Type 0
  FirstPasses [] = ⊥
  FirstPasses (v ∷ vs) = P v

  -- so has that of a row of the id
  abbrev pub RowPasses : Row → Type 0
  RowPasses row = row.id ≡ id → FirstPasses row.values

  abbrev pub Passes : List Row → Type 0
  Passes [] = Unit {0}
  Passes (row ∷ rows) = RowPasses row × Passes rows

  joined : (rows more : List Row) → Passes rows → Passes more → Passes (rows ++ more)
  joined [] more p q = q
  joined (row ∷ rows) more p q = (p.0, joined rows more p.1 q)

  changed : (key : Text) (change : Row → List Row) (missing rows : List Row) → ((row : Row) → RowPasses row → Passes (change row)) → Passes missing
      → Passes rows → Passes (at_row key change missing rows)
  changed key change missing [] keeps new p = new
  changed key change missing (row ∷ rows) keeps new p = of (bytes_eq row.id key) (changed key change missing rows keeps new p.1)
    where
      of : (b : Bool) → Passes (at_row key change missing rows) → Passes (if b then change row ++ rows else row ∷ at_row key change missing rows)
      of true later = joined (change row) rows (keeps row p.0) p.1
      of false later = (p.0, later)

  longer : (values more : List Text) → FirstPasses values → FirstPasses (values ++ more)
  longer [] more p = absurd p
  longer (v ∷ vs) more p = p

  with_more : (key : Text) (how : Reading) (s : ValueSource) (values : List Text) (rows : List Row) → (key ≡ id → FirstPasses values) → Passes rows
      → Passes (with_values key how s values rows)
  with_more key how s values rows new p =
      changed key (more_values s values) (record { id = key; values = values; count = None; source = Some s; reading = how } ∷ []) rows
      (λ row q. (λ is. longer row.values values (q is), tt)) (new, tt) p

  with_less : (key : Text) (rows : List Row) → Passes rows → Passes (without key rows)
  with_less key rows p = changed key (λ _. []) [] rows (λ row _. tt) tt p

  -- a use of the argument that has no fault
  abbrev pub KeepsPassing : Rule → Type 0
  KeepsPassing a = (again : Bool) (values : List Text) (rows : List Row) → use_fault again a values rows ≡ [] → Passes rows → Passes (used a values rows)

  abbrev pub AllKeep : List Rule → Type 0
  AllKeep [] = Unit {0}
  AllKeep (a ∷ rest) = KeepsPassing a × AllKeep rest

  -- an argument of one word keeps it, whose values pass where they are those of the id
  pub set_keeps : (a : Rule) → action_of a ≡ Set
      → ((again : Bool) (values : List Text) (rows : List Row) → use_fault again a values rows ≡ [] → a.id ≡ id → FirstPasses (values_or_missing a values))
      → KeepsPassing a
  set_keeps a is new again values rows none p =
      subst (λ action. Passes (used_as action a.id (reading_by a) (values_or_missing a values) rows)) (sym is)
      (with_more a.id (reading_by a) CommandLine (values_or_missing a values) (without a.id rows) (new again values rows none) (with_less a.id rows p))

  found_keeps : (test : Rule → Bool) (c : List Rule) → AllKeep c → IfSome (find test c) KeepsPassing
  found_keeps test [] all = tt
  found_keeps test (a ∷ rest) all = of (test a) (found_keeps test rest all.1)
    where
      of : (b : Bool) → IfSome (find test rest) KeepsPassing → IfSome (if b then Some a else find test rest) KeepsPassing
      of true later = all.0
      of false later = later

  module _ (s : Shape) (names : Names) (all : AllKeep s.rules) where
    by_id : (key : Text) → IfSome (arg_by_id s.rules key) KeepsPassing
    by_id key = found_keeps (λ a. bytes_eq a.id key) s.rules all

    settled_passes : (h : Held) → settle_fault s.rules s.args_override_self h ≡ [] → Passes h.rows → Passes (settled s.rules h).rows
    settled_passes h none p = of h.pending none
      where
        by : (values : List Text) (o : Option Rule) → IfSome o KeepsPassing → option_map_or (λ a. use_fault s.args_override_self a values h.rows) o [] ≡ []
            → Passes (used_by_id o values h.rows)
        by values None keeps e = p
        by values (Some a) keeps e = keeps s.args_override_self values h.rows e p

        of : (o : Option (Text × List Text))
            → option_map_or (λ x. option_map_or (λ a. use_fault s.args_override_self a x.1 h.rows) (arg_by_id s.rules x.0) []) o [] ≡ []
            → Passes (settled_rows s.rules o h.rows)
        of None e = p
        of (Some x) e = by x.1 (arg_by_id s.rules x.0) (by_id x.0) e

    reacted_passes : (a : Rule) (values : List Text) (h : Held) → KeepsPassing a → react_fault s.rules s.args_override_self a values h ≡ []
        → Passes h.rows → Passes (reacted s.rules a values h).rows
    reacted_passes a values h keeps none p =
        let both = both_pass (settle_fault s.rules s.args_override_self h) (use_fault s.args_override_self a values (settled s.rules h).rows) none in
        keeps s.args_override_self values (settled s.rules h).rows both.1 (settled_passes h both.0 p)

    option_passes : (a : Rule) (v : Option Text) (h : Held) → KeepsPassing a → option_fault s.rules s.args_override_self a v h ≡ [] → Passes h.rows
        → Passes (option_met s.rules a v h).0.rows
    option_passes a (Some v) h keeps none p = reacted_passes a (v ∷ []) h keeps none p
    option_passes a None h keeps none p = settled_passes h none p

    long_passes : (o : Option Rule) (v : Option Text) (h : Held) → IfSome o KeepsPassing → long_fault s.rules s.args_override_self o v h ≡ [] → Passes h.rows
        → Passes (long_met s.rules o v h).0.rows
    long_passes None v h keeps none p = p
    long_passes (Some a) v h keeps none p = of (takes_values a) v none
      where
        of : (b : Bool) (v : Option Text)
            → (if b then option_fault s.rules s.args_override_self a v h
            else (if is_some v then TooManyValues ∷ [] else react_fault s.rules s.args_override_self a [] h)) ≡ []
            → Passes (if b then option_met s.rules a v h else flag_met s.rules a v h).0.rows
        of true v e = option_passes a v h keeps e p
        of false (Some v) e = p
        of false None e = reacted_passes a [] h keeps e p

    short_passes : (o : Option Rule) (rest : Text) (h : Held) (more : Held → Held × Outcome) (fault : Held → Kinds) → IfSome o KeepsPassing
        → ((k : Held) → fault k ≡ [] → Passes k.rows → Passes (more k).0.rows) → short_fault s.rules s.args_override_self o rest h fault ≡ [] → Passes h.rows
        → Passes (short_met s.rules o rest h more).0.rows
    short_passes None rest h more fault keeps later none p = p
    short_passes (Some a) rest h more fault keeps later none p = of (takes_values a) none
      where
        of : (b : Bool)
            → (if b then option_fault s.rules s.args_override_self a (attached_value rest) h
            else or_else (react_fault s.rules s.args_override_self a [] h) (fault (reacted s.rules a [] h))) ≡ []
            → Passes (if b then option_met s.rules a (attached_value rest) h else more (reacted s.rules a [] h)).0.rows
        of true e = option_passes a (attached_value rest) h keeps e p
        of false e =
            let both = both_pass (react_fault s.rules s.args_override_self a [] h) (fault (reacted s.rules a [] h)) e in
            later (reacted s.rules a [] h) both.1 (reacted_passes a [] h keeps both.0 p)

    bundle_passes : (k : ℕ) (flags : Text) (skip : ℕ) (so_far : Outcome) (h : Held) → flags_fault s.rules s.args_override_self k flags skip h ≡ []
        → Passes h.rows → Passes (bundle_met s.rules k flags skip so_far h).0.rows
    unfolding flags_fault bundle_met
    bundle_passes zero flags skip so_far h none p = p
    bundle_passes (suc k) flags skip so_far h none p = of (slice_get (chars flags) 0) skip (bundle_passes k) none
      where
        of : (o : Option ℕ) (skip : ℕ)
            → ((rest : Text) (skip : ℕ) (so_far : Outcome) (h : Held) → flags_fault s.rules s.args_override_self k rest skip h ≡ [] → Passes h.rows
            → Passes (bundle_met s.rules k rest skip so_far h).0.rows)
            → bundle_step_fault s.rules s.args_override_self o flags skip h (flags_fault s.rules s.args_override_self k) ≡ []
            → Passes (bundle_step s.rules o flags skip so_far h (bundle_met s.rules k)).0.rows
        of None skip later e = p
        of (Some x) zero later e =
            let rest = drop (length (encode_utf8 x)) flags in
            short_passes (arg_by_short s.rules x) rest h (bundle_met s.rules k rest 0 done) (flags_fault s.rules s.args_override_self k rest 0)
            (found_keeps (λ a. not (is_some a.index) && has_short a x) s.rules all) (later rest 0 done) e p
        of (Some x) (suc skip) later e = later (drop (length (encode_utf8 x)) flags) skip so_far h e p

    plain_passes : (waiting : Waiting) (word : Text) (h : Held) → Passes h.rows → Passes (plain_word s.rules waiting word h).0.rows
    plain_passes (option key) word h p = of (arg_by_id s.rules key)
      where
        of : (o : Option Rule) → Passes (option_word o key word h).0.rows
        of None = p
        of (Some a) = p
    plain_passes idle word h p = p
    plain_passes positional word h p = p

    after_flag_passes : (waiting : Waiting) (word : Text) (h : Held) (o : Outcome) → Passes h.rows → Passes (after_flag s.rules waiting word h o).0.rows
    after_flag_passes waiting word h done p = p
    after_flag_passes waiting word h (waits key) p = p
    after_flag_passes waiting word h plain p = plain_passes waiting word h p
    after_flag_passes waiting word h refused p = plain_passes waiting word h p

    flag_word_passes : (waiting : Waiting) (word : Text) (h : Held) → flag_word_fault s.rules s.args_override_self (long_of word) word h ≡ [] → Passes h.rows
        → Passes (long_or_other s.rules waiting word (long_of word) h).0.rows
    flag_word_passes waiting word h none p = of (long_of word) none
      where
        short : (o : Option Text) → option_map_or (λ flags. flags_fault s.rules s.args_override_self (length flags) flags h.skip (record h { skip = 0 })) o []
            ≡ []
            → Passes (short_or_plain s.rules waiting word o h).0.rows
        short None e = plain_passes waiting word h p
        short (Some flags) e =
            after_flag_passes waiting word (bundle s.rules flags h).0 (bundle s.rules flags h).1
            (bundle_passes (length flags) flags h.skip plain (record h { skip = 0 }) e p)

        of : (o : Option (Text × Option Text)) → flag_word_fault s.rules s.args_override_self o word h ≡ []
            → Passes (long_or_other s.rules waiting word o h).0.rows
        of None e = short (short_of word) e
        of (Some x) e =
            let met = long_met s.rules (arg_by_long s.rules x.0) x.1 h in
            after_flag_passes waiting word met.0 met.1
            (long_passes (arg_by_long s.rules x.0) x.1 h (found_keeps (λ a. not (is_some a.index) && has_long a x.0) s.rules all) e p)

    word_passes : (is_trailing : Bool) (waiting : Waiting) (position : ℕ) (word : Text) (h : Held) → word_fault s names is_trailing waiting word h ≡ []
        → Passes h.rows → Passes (word_met s.rules names is_trailing waiting position word h).0.rows
    word_passes true waiting position word h none p = p
    word_passes false waiting position word h none p = of (subcommand_met names waiting word) none
      where
        dashes : (b : Bool) → (if b then [] else flag_word_fault s.rules s.args_override_self (long_of word) word h) ≡ []
            → Passes (if b then (h, trailing position) else long_or_other s.rules waiting word (long_of word) h).0.rows
        dashes true e = p
        dashes false e = flag_word_passes waiting word h e p

        of : (o : Option Text) → other_fault s o word h ≡ [] → Passes (subcommand_or_other s.rules o waiting position word h).0.rows
        of None e = dashes (bytes_eq word (45 ∷ 45 ∷ [])) e
        of (Some name) e = p

    step_passes : (word : Text) (w : Walk) (h : Held) (step : Step) → step_fault s w.position h step ≡ [] → Passes h.rows
        → Passes (after_step s.rules word w h step).held.rows
    step_passes word w h (next waiting) none p = p
    step_passes word w h (trailing position) none p = p
    step_passes word w h (subcommand name) none p = p
    step_passes word w h value none p = of (arg_by_index s.rules w.position) none
      where
        by : (a : Rule) (b : Bool) → (if b then [] else settle_fault s.rules s.args_override_self h) ≡ [] → Passes (if b then h else settled s.rules h).rows
        by a true e = p
        by a false e = settled_passes h e p

        of : (o : Option Rule)
            → option_map_or (λ a. positional_fault s.rules s.args_override_self a h) o (stray_fault s) ≡ []
            → Passes (to_positional s.rules o word w h).held.rows
        of None e = p
        of (Some a) e = by a (is_pending a h.pending && takes_several a) e

    turn_passes : (w : Walk) (word : Text) → turn_fault s names w word ≡ [] → Passes w.held.rows → Passes (walked s.rules names w word).held.rows
    unfolding walked
    turn_passes w word none p = of w.stopped none
      where
        met : Held × Step
        met = word_met s.rules names w.is_trailing w.waiting w.position word w.held

        of : (o : Option (Text × List Text))
            → (if is_some o then [] else or_else (word_fault s names w.is_trailing w.waiting word w.held) (step_fault s w.position met.0 met.1)) ≡ []
            → Passes (walked_from s.rules names o w word).held.rows
        of (Some x) e = p
        of None e =
            let both = both_pass (word_fault s names w.is_trailing w.waiting word w.held) (step_fault s w.position met.0 met.1) e in
            step_passes word w met.0 met.1 both.1 (word_passes w.is_trailing w.waiting w.position word w.held both.0 p)

    pub walk_passes : (w : Walk) (words : List Text) → walk_fault s names w words ≡ [] → Passes w.held.rows
        → Passes (fold (walked s.rules names) w words).held.rows
    unfolding walk_fault
    walk_passes w [] none p = p
    walk_passes w (word ∷ words) none p =
        let both = both_pass (turn_fault s names w word) (walk_fault s names (walked s.rules names w word) words) none in
        walk_passes (walked s.rules names w word) words both.1 (turn_passes w word both.0 p)

  -- a row of the id that the words gave has a value that passed
  pub given_passes : (rows : List Row) → Passes rows → is_given id rows ≡ true → (v : Text) × (first_of id rows ≡ Some v) × P v
  given_passes [] p given = absurd (cc)
  given_passes (row ∷ rows) p given = of (bytes_eq row.id id) refl (given_passes rows p.1) given
    where
      first : (values : List Text) → FirstPasses values → (v : Text) × (slice_get values 0 ≡ Some v) × P v
      first [] q = absurd q
      first (v ∷ vs) q = (v, refl, q)

      of : (b : Bool) → bytes_eq row.id id ≡ b → (is_given id rows ≡ true → (v : Text) × (first_of id rows ≡ Some v) × P v)
          → option_map_or (λ r. explicit_source r.source) (if b then Some row else find (λ r. bytes_eq r.id id) rows) false ≡ true
          → (v : Text) × (option_and_then (λ r. slice_get r.values 0) (if b then Some row else find (λ r. bytes_eq r.id id) rows) ≡ Some v) × P v
      of true same later e = first row.values (p.0 ((bytes_eq-Decides row.id id).0 same))
      of false same later e = later e

  -- no argument has a default
  abbrev pub AllBare : List Rule → Type 0
  AllBare [] = Unit {0}
  AllBare (a ∷ rest) = (a.defaults ≡ []) × AllBare rest

  bare_default : (rows : List Row) (a : Rule) → a.defaults ≡ [] → with_default rows a ≡ rows
  bare_default rows a bare =
      ap (λ values. if has_row a.id rows then rows else default_rows a.id (reading_by a) values rows) bare ∙ same (has_row a.id rows)
    where
      same : (b : Bool) → (if b then rows else rows) ≡ rows
      same true = refl
      same false = refl

  bare_defaults : (c : List Rule) (rows : List Row) → AllBare c → fold with_default rows c ≡ rows
  bare_defaults [] rows bare = refl
  bare_defaults (a ∷ rest) rows bare = ap (λ l. fold with_default l rest) (bare_default rows a bare.0) ∙ bare_defaults rest rows bare.1

  -- a command that takes the words, and asks for the argument of the id, has a value that passed
  pub level_passes : (s : Shape) → AllKeep s.rules → AllBare s.rules → ((rows : List Row) → check_fault s rows false ≡ [] → is_given id rows ≡ true)
      → (words : List Text) → level_fault s [] nothing_held words false [] ≡ [] → (v : Text) × (first_of id (rows_after s.rules [] words) ≡ Some v) × P v
  level_passes s all bare asks words none =
      let end = (walk s.rules [] nothing_held words).held in
      let walked_all = both_pass (walk_fault s [] (walk_from nothing_held) words) _ none in
      let settles = both_pass (settle_fault s.rules s.args_override_self end) _ walked_all.1 in
      let checks = both_pass (defaults_fault (settled s.rules end).rows s.rules) (check_fault s (finished s.rules end) false) settles.1 in
      let p : Passes (settled s.rules end).rows = settled_passes s [] all end settles.0 (walk_passes s [] all (walk_from nothing_held) words walked_all.0 tt) in
      given_passes (finished s.rules end) (subst Passes (sym (bare_defaults s.rules (settled s.rules end).rows bare)) p) (asks (finished s.rules end) checks.1)
