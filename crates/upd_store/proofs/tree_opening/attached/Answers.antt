use Rattle.upd_store.proofs.Common.{◌≡◌, IsTrue, length, map, sym, ap, ap₂, subst, subst₂, ◌∙◌, length-map, seen_image, Table, in_use, Recovers}
use Rattle.upd_store.proofs.Common.{recovers_once, rows_at, view, joined, file_trees, image, state_of, unrooted}
use Rattle.std.proofs.Math.Logic.{∥∥₁_map}
use Rattle.std.proofs.Math.Path.{subst₃}
use Rattle.std.proofs.lemmas.Bool.{cond-true}
use Rattle.sqlite_trees.specs.Tree.{no_trees}
use Rattle.sqlite_trees.proofs.Doubt.{clean_of}
use Rattle.sqlite_pool.specs.Pool
use Rattle.sqlite_store.specs.FileStore.{state}
use Rattle.sqlite_store.specs.Listing.{IsOurs}
use Rattle.sqlite_store.specs.Saved.{kept_schema}
use Rattle.sqlite_store.specs.Unopened.{wanted_by}
use Rattle.upd_store.proofs.tree_opening.attached.Goals as goal

pub returns-in-Ok-open_numbered : goal.returns-in-Ok-open_numbered
returns-in-Ok-open_numbered g c sure =
    let now = clean_of _ sure in
    let old = c.args.files in
    let mid = c.read_catalog.new.self in
    let last = c.list_schema.new.self in
    let store = c.in-Ok-open_numbered.store in
    let e = c.in-Ok-open_numbered.ensures in
    let size = (state_of old).page_size in
    let pages = (state store).committed in
    let pool = c.list_schema.ensures.files in
    let seen : IsTrue (state_of mid).is_clean = sym (ap (λ p. (Pool.state p).is_clean) pool) ∙ e.honest now in
    let listed = c.in-Ok.ensures.ok seen in
    let first = c.read_catalog.ensures.kept seen in
    let sized_last : (state_of last).page_size ≡ size = ap (λ p. (Pool.state p).page_size) pool ∙ first.size in
    let imaged : image last ≡ image mid = ap (λ p. seen_image g.D.Disk (Pool.files p).0 (Pool.files p).1) pool in
    let same = recovers_once size (image mid) listed.pages pages listed.again (subst₂ (λ n i. Recovers n i pages) sized_last imaged (e.found now)) in
    let sized : (state store).page_size ≡ size = (e.kept now).size ∙ sized_last in
    let kept : kept_schema store.saved store.schema.items ≡ wanted_by last = ap (λ o. kept_schema o store.schema.items) e.ready.unaltered ∙ e.schema in
    let rows = ap (map unrooted) (c.deref.ensures.value ∙ listed.lists ∙ ap (λ p. rows_at size (in_use size p) Table 1) same) in
    let laid = c.in-Ok-laid_out.ensures in
    record {
      clean = c.read_catalog.ensures.honest seen;
      fresh = record { sound = e.ready.sound sure; numbered = e.numbered; clean = e.ready.clean; unmarked = e.ready.unmarked };
      is_open = e.ready.is_open sure;
      found = subst (Recovers size (image old)) same listed.found;
      wanted = wanted_by last;
      ours = ∥∥₁_map (store.stored (e.ready.is_open sure)) (λ s. subst₃ (λ n b x. IsOurs n b x pages) sized e.numbered kept s.ours);
      reads = e.ready.clean ∙ cond-true _ (file_trees (state store).page_size (kept_schema store.saved store.schema.items) pages) no_trees now
          ∙ ap₂ (λ n s. file_trees n s pages) sized kept;
      layouts = c.in-Ok-laid_out.layouts.items;
      lists = rw c.if-not-is_listed.false at c.in-Ok-list_schema.ensures.ok ∙ ap₂ joined (c.deref-2.ensures.value ∙ laid.0 ∙ rows) c.deref-3.ensures.value;
      each = laid.1 ∙ ap length (laid.0 ∙ rows) ∙ length-map (rows_at size (in_use size pages) Table 1) unrooted;
    }
