use Rattle.upd_subcommands.proofs.Common.{arith, inr, refl, common_steps, front_same}
use Rattle.upd_subcommands.specs.ListingFile.{place_line}
use Rattle.upd_subcommands.proofs.listing_file.write_place.Goals as goal

pub returns-in-Err-clause-reported : goal.returns-in-Err-clause-reported
returns-in-Err-clause-reported g c =
    inr (refl, front_same _ _ _ (place_line c.args.name.now c.args.line c.args.what.now) (grind (arith, common_steps)) c.in-Err.ensures.front)
