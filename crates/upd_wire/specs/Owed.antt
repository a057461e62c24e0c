-- The answer that a call of the desk requires after a journal.
use Rattle.std.specs.Prelude.{[], Result, Ok}
use Rattle.std.specs.Result.{result_map_both}
use Rattle.upd_compile.specs.File.{compile_file_of}
use Rattle.upd_compile.specs.Listings.{card_listing, deck_listing, ident_listing, yank_listing}
use Rattle.upd_compile.specs.declared.mode.Mode.TheVariants.{Full}
use Rattle.upd_desk.specs.Holding.{mark_after}
use Rattle.upd_desk.specs.Journal.{Journal, answer, library_after}
use Rattle.upd_wire.specs.Calls.{Asked, run, settle, compile, deck, card, idents, yanks}
use Rattle.upd_text.specs.declared.fault.Fault.{Fault}
use Rattle.upd_wire.specs.Responses.{Response, mark_response, page, reply_response}

-- the reply to a run, the mark after a settlement, and for a query what is defined of the library after the journal
abbrev pub owed : Journal → Asked → Result Response Fault
owed journal (run site number mode bytes) =
    result_map_both reply_response (λ fault. fault) (answer journal (record { site = site; number = number; mode = mode; bytes = bytes }))
owed journal (settle site n) = result_map_both (mark_response site) (λ fault. fault) (mark_after journal site n)
owed journal compile = result_map_both (λ file. page file.bytes) (λ fault. fault) (compile_file_of Full [] (library_after journal) (library_after journal))
owed journal (deck name) = result_map_both page (λ fault. fault) (deck_listing name (library_after journal))
owed journal (card c) = result_map_both page (λ fault. fault) (card_listing c (library_after journal))
owed journal idents = Ok (page (ident_listing (library_after journal)))
owed journal yanks = Ok (page (yank_listing (library_after journal)))
