use Rattle.upd_core.proofs.Common.{AreHome}
use Rattle.upd_core.proofs.HomeLemmas.{decks_kept, home_inserted}
use Rattle.upd_core.proofs.decks.Decks.insert.Goals as goal

pub invariant_of-self-2 : goal.invariant_of-self-2
invariant_of-self-2 c =
    let flags = c.note_kept.new.strays.items in
    let decks = c.self.inside.all.items in
    let home : AreHome flags decks = decks_kept c.self.inside.strays.items flags decks c.note_kept.ensures.kept c.self.invariant in
    rw c.in_ok-found.ensures.ok (home_inserted flags c.args.age c.args.behind c.args.card decks c.note_kept.ensures.home home)
