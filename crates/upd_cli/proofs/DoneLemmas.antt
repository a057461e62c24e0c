-- What was done for a request.
use Rattle.std.proofs.Common.{◌≡◌, ◌⊎◌, inl, inr, ℕ, List, Ok, Err, Option, ap, sym, ◌∙◌, subst}
use Rattle.sqlite_disk.specs.declared.Disk.{Ghosts as DiskGhosts}
use Rattle.sqlite_disk.specs.declared.Files.{Files}
use Rattle.sqlite_store.specs.declared.store.FileStore.{FileStore}
use Rattle.sqlite_wal.specs.Recovery.{Image}
use Rattle.sqlite.specs.Held.{Held}
use Rattle.upd_row_store.specs.declared.meaning.Meaning.{Ghosts}
use Rattle.upd_text.specs.declared.fault.Fault.{Fault}
use Rattle.upd_subcommands.specs.Command.{Ending}
use Rattle.upd_subcommands.specs.Status.{exit_status}
use Rattle.upd_subcommands.specs.Streams.{Stream}
use Rattle.upd_words.specs.declared.words.Request.{Request}
use Rattle.upd_cli.specs.Commands.{Carries, IsDone, IsShown}

-- a text that is shown ends with status 0, or 3 where the write failed
pub shown_status : (text : List ℕ) (end : Ending) → IsShown text end → (end.status ≡ 0) ⊎ (end.status ≡ 3)
shown_status text end (Ok done, ok, front, err, told) = inl told.0
shown_status text end (Err fault, ok, front, err, inl (meant, line)) = inr (meant ∙ ap (λ (f : Fault). exit_status f.kind) err)
shown_status text end (Err fault, ok, front, err, inr (three, line)) = inr three

module _ {S D : Type 0} {g : DiskGhosts D} {meaning : Ghosts S} {conn_of : S → Held (FileStore D g)}
    {T : Type 0} {below : Ghosts T} {store_of : T → FileStore D g} {held : Image} {left : Option (Files D)}
    {R W E : Type 0} {input : Stream R} {output : Stream W} {faults : Stream E} where
  -- what was asked is this request
  pub done_as : (request meant : Request) (status : ℕ) → request ≡ meant
      → IsDone meaning conn_of below store_of held left input output faults meant status
      → Carries meaning conn_of below store_of held left input output faults request status
  done_as request meant status is done =
      subst (λ r. Carries meaning conn_of below store_of held left input output faults r status) (sym is) (record { done = done })
