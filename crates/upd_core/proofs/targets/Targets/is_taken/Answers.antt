use Rattle.upd_core.proofs.Common.{arith, common_steps, Set, SetIn}
use Rattle.upd_core.proofs.TargetLaws.{is_taken-split}
use Rattle.upd_core.proofs.targets.Targets.is_taken.Goals as goal

pub returns-then-contains : goal.returns-then-contains
returns-then-contains c =
    let split = is_taken-split c.args.self.now c.args.deck c.args.ident in
    let set = c.self.invariant (Set c.args.ident) in
    grind (arith, common_steps)

pub returns-else-contains : goal.returns-else-contains
returns-else-contains c =
    let split = is_taken-split c.args.self.now c.args.deck c.args.ident in
    let set = c.self.invariant (Set c.args.ident) in
    let set_in = c.self.invariant (SetIn c.args.ident c.args.deck) in
    grind (arith, common_steps)
