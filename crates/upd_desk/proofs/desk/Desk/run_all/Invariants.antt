use Rattle.upd_desk.proofs.Common.{◌≡◌, ◌≤◌, take, length, vec_len, AreArrivalFaults, EndsInReply, ReadsNeededByAll, RunAll, HoldsIn, failures_after_all}
use Rattle.upd_desk.proofs.Common.{work_after_all, Journal}
use Rattle.std.specs.Vec.{vec_capacity}
use Rattle.upd_desk.proofs.desk.Desk.run_all.Given as goal

abbrev pub invariant-loop-arrival : goal.invariant-loop-arrival
invariant-loop-arrival g l =
    (length l.answers.items ≡ l.arrival-index)
    × (vec_len l.answers ≡ l.arrival-index)
    × (length l.list ≤ vec_capacity l.answers)
    × RunAll g.S.Meaning (take l.arrival-index l.list) l.answers.items l.initial.self.store l.self.store
    × (g.S.Meaning.is_honest l.self.store → EndsInReply l.answers.items → g.S.Meaning.is_open l.self.store)
    × (g.S.Meaning.failures_of l.self.store ≡ failures_after_all l.answers.items (g.S.Meaning.failures_of l.initial.self.store))
    × (g.S.Meaning.is_honest l.self.store → (journal : Journal)
    → (g.S.Meaning.is_open l.initial.self.store → HoldsIn g.S.Meaning.shows journal (g.S.Meaning.image l.initial.self.store))
    → l.self.work ≡ work_after_all l.initial.self.work journal (take l.arrival-index l.list) l.answers.items)
    × ReadsNeededByAll g.S.Meaning (take l.arrival-index l.list) l.answers.items l.initial.self.store l.self.store
    × AreArrivalFaults (take l.arrival-index l.list) l.answers.items
