use Rattle.upd_memory.proofs.Common.{map, change_view}
use Rattle.upd_memory.proofs.MovedIdentLemmas.{all_moved_listed}
use Rattle.upd_memory.proofs.mirror.Mirror.moved_idents.Goals as goal

pub returns : goal.returns
returns c = λ rows are.
    all_moved_listed c.args.self.now.decks rows are.cards c.in_ok-places.places c.new-movable.result c.list_moved.new.movable c.list_new.new.movable
    (map change_view c.args.changes.now) c.in_ok-places.ensures c.in_ok-list_moved.ensures c.in_ok-list_new.ensures
