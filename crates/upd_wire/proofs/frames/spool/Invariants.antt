use Rattle.upd_wire.proofs.Common.{◌≡◌, List, [], Result, length, Fault, ArrivalView, ReplyView, Answered}
use Rattle.upd_wire.proofs.frames.spool.Given as goal

abbrev pub invariant-loop-count : goal.invariant-loop-count
invariant-loop-count g l =
    (frames : List ArrivalView) × (results : List (Result ReplyView Fault)) × (length frames ≡ l.count)
    × Answered g.S.Meaning
    l.initial.desk.store l.desk.store (g.R.Read.remaining l.initial.reader) (g.R.Read.remaining l.reader) (g.W.Write.contents l.initial.writer)
    (g.W.Write.contents l.writer) frames results []
