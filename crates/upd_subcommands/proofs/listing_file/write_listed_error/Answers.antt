use Rattle.upd_subcommands.proofs.Common.{sym, subst, Fault, IsReported, exit_status, fault_line}
use Rattle.upd_correct.specs.declared.listed_deck.ListedError.{ListedError}
use Rattle.upd_subcommands.specs.ListingFile.{IsListedFault}
use Rattle.upd_subcommands.proofs.listing_file.write_listed_error.Goals as goal

pub returns-in-NoMemory-clause-reported : goal.returns-in-NoMemory-clause-reported
returns-in-NoMemory-clause-reported g c =
    let IsFault : ListedError → Type 0 =
    λ error. IsListedFault error c.finish.result (g.E.Write.contents c.args.faults.now) (g.E.Write.contents c.finish.new.faults) in
    let IsLine : Fault → Type 0 =
    λ fault. IsReported (exit_status fault.kind) (fault_line fault) c.finish.result (g.E.Write.contents c.args.faults.now)
    (g.E.Write.contents c.finish.new.faults) in
    subst IsFault (sym c.in-NoMemory.is) (subst IsLine c.without_line.ensures c.finish.ensures.reported)

pub returns-in-OtherDeck-clause-reported : goal.returns-in-OtherDeck-clause-reported
returns-in-OtherDeck-clause-reported g c =
    let IsFault : ListedError → Type 0 =
    λ error. IsListedFault error c.write_place-in-OtherDeck.result (g.E.Write.contents c.args.faults.now)
    (g.E.Write.contents c.write_place-in-OtherDeck.new.faults) in
    subst IsFault (sym c.in-OtherDeck.is) c.write_place-in-OtherDeck.ensures.reported
