-- What is asked for by words that are read is the request of the command that they name.
use Rattle.std.proofs.Common.{◌≡◌, inl, inr, List, [], codes, Option, Some, None, IsSomeAnd, option_and_then, option_map, subst, unwrap_or}
use Rattle.clap.specs.Words.{IsAmong, Row, Text, first_of, subcommand_of}
use Rattle.upd_words.specs.Words.{IsAskedFor, IsRequest, command_word, operand_word, request_name, upd_app, word_faults}
use Rattle.upd_words.specs.declared.words.Request.{Request}
use Rattle.upd_words.specs.declared.words.Request.TheVariants.{Trial}

found_command : (words : List Text) (request : Request) → word_faults words ≡ [] → IsAskedFor words request
    → IsSomeAnd (subcommand_of upd_app words) (λ command. IsRequest command request)
found_command words request read (inl command) = command.1
found_command words request read (inr (kind, among, is)) = absurd (subst (IsAmong kind) read among)

name_found : (found : Option (Text × List Row)) (request : Request) → IsSomeAnd found (λ command. IsRequest command request)
    → unwrap_or (option_map (λ c. c.0) found) [] ≡ request_name request
name_found None request is = absurd is
name_found (Some (name, rows)) request is = is.0

mode_found : (found : Option (Text × List Row)) (mode : _) → IsSomeAnd found (λ command. IsRequest command (Trial mode))
    → mode.now ≡ unwrap_or (option_and_then (first_of (codes "MODE")) (option_map (λ c. c.1) found)) []
mode_found None mode is = absurd is
mode_found (Some (name, rows)) mode is = is.1

pub asked_name : (words : List Text) (request : Request) → word_faults words ≡ [] → IsAskedFor words request
    → command_word words ≡ request_name request
asked_name words request read asked = name_found (subcommand_of upd_app words) request (found_command words request read asked)

pub asked_mode : (words : List Text) (mode : _) → word_faults words ≡ [] → IsAskedFor words (Trial mode)
    → mode.now ≡ operand_word (codes "MODE") words
asked_mode words mode read asked = mode_found (subcommand_of upd_app words) mode (found_command words (Trial mode) read asked)
