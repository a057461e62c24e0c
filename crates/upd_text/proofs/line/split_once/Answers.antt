use Rattle.std.proofs.Common.{◌==◌}
use Rattle.upd_text.proofs.SplitLemmas.{found_place, missed_place, whole_piece, first_piece}
use Rattle.upd_text.proofs.line.split_once.Goals as goal

pub returns-in_err-index-clause-found : goal.returns-in_err-index-clause-found
returns-in_err-index-clause-found c = missed_place (λ b. b == c.args.at) c.args.text.now _ c.from_residual.ensures c.in_err-index.ensures

pub returns-in_err-index-clause-whole : goal.returns-in_err-index-clause-whole
returns-in_err-index-clause-whole c = whole_piece (λ b. b == c.args.at) c.args.text.now _ c.from_residual.ensures c.in_err-index.ensures

pub returns-clause-found : goal.returns-clause-found
returns-clause-found c = found_place (λ b. b == c.args.at) c.args.text.now _ c.in_ok-index.ensures

pub returns-clause-pieces : goal.returns-clause-pieces
returns-clause-pieces c = first_piece (λ b. b == c.args.at) c.args.text.now _ c.in_ok-index.ensures
