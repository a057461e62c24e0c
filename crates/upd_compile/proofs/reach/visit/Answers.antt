use Rattle.upd_compile.proofs.Common.{rules, ◌≡◌, ◌<◌, ◌≤◌, inl, inr, true, false, length, is_flagged}
use Rattle.upd_compile.proofs.ReachLemmas.{VisitsMore-one, VisitsMore-none, is_flagged-at}
use Rattle.upd_compile.proofs.reach.visit.Goals as goal
use Rattle.upd_compile.proofs.reach.visit.Goals.{else-position-len-via-then-position-len+else-not-index, else-position-len-via-else-position-len}

pub returns-in_ok-push : goal.returns-in_ok-push
returns-in_ok-push c =
    let flags = c.args.flags.now.items in
    let within : c.args.position < length flags = search rules in
    let at = is_flagged-at flags c.args.position c.index.result.now within in
    let unvisited : is_flagged flags c.args.position ≡ false = rw (at, ← c.index.ensures) (search rules) in
    rw c.in_ok-push.ensures.items (VisitsMore-one flags c.args.work.now.items c.args.position within unvisited)

pub returns-else-position-len : goal.returns-else-position-len
returns-else-position-len c =
    let flags = c.args.flags.now.items in
    elim c.else-position-len.branch [
      | else-position-len-via-then-position-len+else-not-index w ↦
          let within : c.args.position < length flags = search rules in
          let at = is_flagged-at flags c.args.position w.index.result.now within in
          let visited : is_flagged flags c.args.position ≡ true = rw (at, ← w.index.ensures) (search rules) in
          VisitsMore-none flags c.args.work.now.items c.args.position (inl visited)
      | else-position-len-via-else-position-len w ↦
          let past : length flags ≤ c.args.position = search rules in VisitsMore-none flags c.args.work.now.items c.args.position (inr past)
    ]
