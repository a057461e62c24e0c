use Rattle.upd_keep.proofs.Common.{◌≡◌, drop, length, reply_bytes}
use Rattle.std.specs.List.{fold}
use Rattle.upd_views.specs.SiteLines.{add_sizes}
use Rattle.upd_keep.proofs.file_examination.reply_bytes.Given as goal

abbrev pub invariant-loop-run : goal.invariant-loop-run
invariant-loop-run l = fold (λ count r. add_sizes count (length r.reply)) l.count (drop l.run-index l.runs) ≡ reply_bytes l.runs
