use Rattle.std.proofs.Common.{◌≡◌, ◌≢◌, ◌⊎◌, List, [], inl, inr, refl, ap, sym, ◌∙◌, subst, true, map, IfErr, IfOk, IfSome, IsSomeAnd, Option, Some, None}
use Rattle.std.proofs.Common.{Result, Ok, Err}
use Rattle.std.proofs.lemmas.Result.{IfOk-weaker}
use Rattle.clap.specs.Walk.{Row}
use Rattle.clap.specs.Words.{App, HasKind, IsAmong, Text, app_of, fault_of, is_simple, is_simple_and_free, kind_of, subcommand_of, subcommand_rows_of}
use Rattle.clap.specs.declared.error.kind.ErrorKind.{ErrorKind}
use Rattle.clap.specs.declared.error.kind.ErrorKind.TheVariants.{OutOfMemory}
use Rattle.upd_text.specs.declared.fault.Fault.{Fault}
use Rattle.upd_words.specs.Words.{HasCount, IsAskedFor, IsOneOf, IsRead, IsRequest, IsUnasked, IsUnreadRequest, upd_app, upd_commands, word_faults}
use Rattle.upd_words.specs.declared.words.Request.{Request}
use Rattle.upd_words.proofs.CountLemmas.{read_counts}
use Rattle.upd_words.proofs.WordLemmas.{known_command}
use Rattle.upd_words.proofs.words.read_words.Goals as goal

is_simple_upd : is_simple upd_app ≡ true
is_simple_upd = refl

is_free_upd : is_simple_and_free upd_app ≡ true
is_free_upd = refl

-- a command that was read is asked for, and one of which an operand is refused is not
read_command : (words : List Text) (command : Option (Text × List Row)) (result : Result Request Fault) → subcommand_of upd_app words ≡ command
    → word_faults words ≡ [] → IsSomeAnd command (λ found. IsRead (IsRequest found) found result)
    → IfOk result (IsAskedFor words) × IfErr result (IsUnasked words)
read_command words command (Ok request) same none is = (inl (none, rw same is), tt)
read_command words command (Err fault) same none is = (tt, inr (none, rw same is))

asked_told : (words : List Text) (kind : ErrorKind) (request : Request) → IsAmong kind (word_faults words) → IsUnreadRequest kind request
    → IsAskedFor words request
asked_told words kind request among is = inr (kind, among, is)

among : (kind : ErrorKind) (kinds : List ErrorKind) → (kind ≡ OutOfMemory) ⊎ IsAmong kind kinds → kind ≢ OutOfMemory → IsAmong kind kinds
among kind kinds (inl is) other = absurd (other is)
among kind kinds (inr is) other = is

-- a request for a command whose count is within its range
counted : (command : Option (Text × List Row)) (IsMade : Text × List Row → Type 0) → IfSome command HasCount
    → IsSomeAnd command (λ found. HasCount found → IsMade found) → IsSomeAnd command IsMade
counted None IsMade counts made = made
counted (Some found) IsMade counts made = made counts

matched : (words : List Text) (command : Option (Text × List Row)) (result : Result Request Fault) → command ≡ subcommand_of upd_app words
    → word_faults words ≡ [] → IsSomeAnd command (λ found. HasCount found → IsRead (IsRequest found) found result)
    → IfOk result (IsAskedFor words) × IfErr result (IsUnasked words)
matched words command result same none read =
    let HasCounts : Option (Text × List Row) → Type 0 = λ o. IfSome o HasCount in
    read_command words command result (sym same) none
    (counted command (λ found. IsRead (IsRequest found) found result) (subst HasCounts (sym same) (read_counts words none)) read)

pub returns-in-Ok-clause-ok : goal.returns-in-Ok-clause-ok
returns-in-Ok-clause-ok g c =
    let app_is : app_of c.in_ok-program.field-0 ≡ upd_app = c.in_ok-program.ensures in
    let words : List Text = map g.S.AsStr.text c.args.words.now in
    let none : word_faults words ≡ [] = sym (ap (λ (a : App). fault_of a words) app_is) ∙ c.in-Ok.ensures.kinds (ap is_simple_and_free app_is ∙ is_free_upd) in
    let rows : subcommand_rows_of c.in-Ok.matches ≡ subcommand_of upd_app words = (c.in-Ok.ensures.matches (ap is_simple app_is ∙ is_simple_upd)).1
    ∙ ap (λ (a : App). subcommand_of a words) app_is in
    (matched words (subcommand_rows_of c.in-Ok.matches) c.read_request.result rows none c.read_request.ensures).0

pub returns-in-Ok-clause-err : goal.returns-in-Ok-clause-err
returns-in-Ok-clause-err g c =
    let app_is : app_of c.in_ok-program.field-0 ≡ upd_app = c.in_ok-program.ensures in
    let words : List Text = map g.S.AsStr.text c.args.words.now in
    let none : word_faults words ≡ [] = sym (ap (λ (a : App). fault_of a words) app_is) ∙ c.in-Ok.ensures.kinds (ap is_simple_and_free app_is ∙ is_free_upd) in
    let rows : subcommand_rows_of c.in-Ok.matches ≡ subcommand_of upd_app words = (c.in-Ok.ensures.matches (ap is_simple app_is ∙ is_simple_upd)).1
    ∙ ap (λ (a : App). subcommand_of a words) app_is in
    (matched words (subcommand_rows_of c.in-Ok.matches) c.read_request.result rows none c.read_request.ensures).1

pub read_request-requires-clause-known : goal.read_request-requires-clause-known
read_request-requires-clause-known g c =
    let words : List Text = map g.S.AsStr.text c.args.words.now in
    let IsKnown : Option (Text × List Row) → Type 0 = λ o. IfSome o (λ command. IsOneOf command.0 upd_commands) in
    let rows : subcommand_rows_of c.in-Ok.matches ≡ subcommand_of upd_app words =
    (c.in-Ok.ensures.matches (ap is_simple c.in_ok-program.ensures ∙ is_simple_upd)).1
    ∙ ap (λ (a : App). subcommand_of a words) c.in_ok-program.ensures in
    let none : word_faults words ≡ [] =
    sym (ap (λ (a : App). fault_of a words) c.in_ok-program.ensures) ∙ c.in-Ok.ensures.kinds (ap is_simple_and_free c.in_ok-program.ensures ∙ is_free_upd) in
    subst IsKnown (sym rows) (known_command words none)

pub returns-in-Err-clause-ok : goal.returns-in-Err-clause-ok
returns-in-Err-clause-ok g c =
    let app_is : app_of c.in_ok-program.field-0 ≡ upd_app = c.in_ok-program.ensures in
    let words : List Text = map g.S.AsStr.text c.args.words.now in
    let kinds : HasKind (word_faults words) c.in-Err.error =
    let P : App → Type 0 = λ a. HasKind (fault_of a words) c.in-Err.error in
    subst P app_is (c.in-Err.ensures.kinds (ap is_simple_and_free app_is ∙ is_free_upd)) in
    IfOk-weaker c.unread_request.result _ _
    (λ request is. asked_told words (kind_of c.in-Err.error) request (among _ _ kinds is.0) is.1) c.unread_request.ensures.ok
