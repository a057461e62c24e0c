use Rattle.upd_store.proofs.Common.{◌≡◌, ◌≤◌, sym, ap, ◌∙◌, seen_image, Trees, view}
use Rattle.upd_store.proofs.Common.{image, state_of, HoldsDatabase}
use Rattle.std.specs.Prelude.{◌==◌, Result, Ok, Err, IfOk}
use Rattle.sqlite_pool.specs.Stored.{stored_size, used_size}
use Rattle.sqlite_wal.proofs.CleanLemmas.{both_clean}
use Rattle.sqlite_wal.specs.PageSize.{bytes_of}
use Rattle.sqlite_wal.specs.Reads.{are_clean}
use Rattle.sqlite.specs.Files.{image_of}
use Rattle.sqlite.proofs.FileLemmas.{probe_size, same_image, stored_used}
use Rattle.sqlite.proofs.OpenLemmas.{pool_files}
use Rattle.upd_store.proofs.TreeFound.{finds_trees, large_used}
use Rattle.upd_store.proofs.one_open.stored.Goals as goal

ok_then : {T E : Type 0} (r : Result T E) {P Q : T → Type 0} → IfOk r P → ((x : T) → P x → Q x) → IfOk r Q
ok_then (Ok x) h f = f x h
ok_then (Err e) h f = tt

pub returns : goal.returns
returns g c = ok_then c.attached.result c.attached.ensures (λ store it early.
    let start = image_of g.D.Disk c.args.files in
    let probe = c.probe_page_size.ensures in
    let first = c.probe_first_page.ensures in
    let fresh = c.in-Ok-with_sums.unopened in
    let attached = it early in
    let chosen = c.in-Some.size in
    let made = c.in-Ok-with_sums.ensures.files ∙ c.in-Ok-new.ensures.files in
    let summed = c.in-Ok-probe_first_page.head.1 == 0x0840_2020 in
    let size : (state_of fresh).page_size ≡ used_size (bytes_of chosen) summed =
    c.in-Ok-with_sums.ensures.size ∙ ap (λ n. used_size n summed) c.in-Ok-new.ensures.size in
    let last = sym ((pool_files fresh.pool).1 ∙ ap (λ f. are_clean g.D.Disk f.0 f.1) made) ∙ attached.clean in
    let seen : image fresh ≡ start = ap (λ f. seen_image g.D.Disk f.0 f.1) made ∙ same_image first.log first.db ∙ same_image probe.log probe.db in
    let early = both_clean _ _ _ _ first.log.clean first.db.clean last in
    let large : 504 ≤ (state_of fresh).page_size = rw size (large_used chosen summed) in
    let sized = λ (db : Trees) (h : HoldsDatabase start db).
    probe_size start c.in-Ok.found (c.in-Ok.ensures.by_log early) (c.in-Ok.ensures.by_file early) db h chosen c.in-Some.is
    ∙ sym (ap stored_size size ∙ stored_used chosen summed) in
    record {
      fresh = attached.fresh;
      is_open = attached.is_open;
      finds = λ lists. finds_trees fresh store attached lists large start seen sized;
    })
