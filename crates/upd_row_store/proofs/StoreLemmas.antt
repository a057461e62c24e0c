-- What a store keeps, and what a crash leaves of it, over several calls.
use Rattle.upd_row_store.proofs.Common.{◌≡◌, ℕ, ◌≤◌, Result, Ok, Err, refl, sym, ap, ◌∙◌, subst, rules, arith, IsErrAnd, Fault, NoMemory, LibraryView, Rows}
use Rattle.upd_row_store.proofs.Common.{MoreFailures, failures_after, failures_with, DeckView, IsSound, List, [], ◌∷◌, Shows, filter, is_among, length, not}
use Rattle.upd_row_store.proofs.Common.{part_of}
use Rattle.std.proofs.Common.{◌⊎◌, OnErr, OnOk, inl, inr}
use Rattle.upd_text.specs.Faults.{fault_at}
use Rattle.upd_row_store.specs.declared.meaning.Meaning.{Ghosts}
use Rattle.upd_core.specs.Sound.{IsWhole}
use Rattle.upd_row_store.specs.Keeping.{IsLater, IsShown, Keeps, LeavesDeck, LeavesLoad, LeavesRead, LeavesWrite, Tries, most_reads, reads_after, reads_with}
use Rattle.upd_row_store.proofs.KeepingLemmas.{lost_for_memory}

-- out of memory counts none, and is no answer
pub memory_counts : {A : Type 0} (n : ℕ) (r : Result A Fault) → IsErrAnd r (λ e. e ≡ fault_at NoMemory 0) → n ≡ failures_after r n
memory_counts n (Ok x) is = search rules
memory_counts n (Err e) is = sym (ap (λ f. failures_with f.kind n) is)

opens_none : {A : Type 0} (P : Type 0) (r : Result A Fault) → IsErrAnd r (λ e. e ≡ fault_at NoMemory 0) → OnOk r P
opens_none P (Ok x) is = search rules
opens_none P (Err e) is = tt

-- ---- counts of decks

reads_most : (r : Result LibraryView Fault) (old new : ℕ) → new ≡ reads_after r old → new ≤ most_reads r old
reads_most (Ok l) old new is = grind (arith, is)
reads_most (Err e) old new is = omega (arith, is)

most_later : (r : Result LibraryView Fault) (old mid new : ℕ) → new ≤ most_reads r mid → mid ≤ old → new ≤ most_reads r old
most_later (Ok l) old mid new less before = omega (arith, less, before)
most_later (Err e) old mid new less before = omega (arith, less, before)

none_kept : (ds : List DeckView) → length (filter (λ (d : DeckView). not (not (is_among [] d.ident))) ds) ≡ 0
none_kept [] = refl
none_kept (d ∷ ds) = none_kept ds

-- the directory is read without a deck
pub head_read : (l head : LibraryView) (old new : ℕ) → head ≡ part_of [] l → new ≡ reads_with head old → new ≤ old
head_read l head old new is reads =
    let none : length head.decks ≡ 0 = ap (λ (h : LibraryView). length h.decks) is ∙ none_kept l.decks in
    grind (arith, reads, none)

-- ---- counts of failures

more_before : (old mid new : ℕ) → old ≤ mid → MoreFailures mid new → MoreFailures old new
more_before old mid new less more = grind arith

more_after : (old mid new : ℕ) → MoreFailures old mid → mid ≤ new → MoreFailures old new
more_after old mid new more less = grind arith

-- what is open after two calls, unless the count rose
closed_by : {Mid New : Type 0} (old mid new : ℕ) → old ≤ mid → mid ≤ new → (Mid → New ⊎ MoreFailures mid new) → Mid ⊎ MoreFailures old mid
    → New ⊎ MoreFailures old new
closed_by old mid new first second closes (inr more) = inr (more_after old mid new more second)
closed_by {New = New} old mid new first second closes (inl is) = by (closes is)
  where
    by : New ⊎ MoreFailures mid new → New ⊎ MoreFailures old new
    by (inl still) = inl still
    by (inr more) = inr (more_before old mid new first more)

module _ {S : Type 0} {meaning : Ghosts S} where
  open meaning use {Image, shows, image, is_open, is_honest, may_leave, failures_of, disk_failures_of, decks_read_of}

  -- nothing was called
  pub later_still : (s : S) → IsLater meaning s s
  later_still s = record { honest = λ h. h; was_open = λ h o. o; closes = λ h o. inl o; disk_counts = omega arith; counts = omega arith }

  pub keeps_still : (s : S) → Keeps meaning s s
  keeps_still s = record { later = later_still s; same = λ h o. refl; crash = λ h i may. may }

  -- calls, then others
  pub later_twice : {old mid new : S} → IsLater meaning old mid → IsLater meaning mid new → IsLater meaning old new
  later_twice {old} {mid} {new} a b = record {
    honest = λ h. a.honest (b.honest h);
    was_open = λ h o. a.was_open (b.honest h) (b.was_open h o);
    closes = λ h o. closed_by (disk_failures_of old) (disk_failures_of mid) (disk_failures_of new) a.disk_counts b.disk_counts (b.closes h)
        (a.closes (b.honest h) o);
    disk_counts = omega (arith, a.disk_counts, b.disk_counts);
    counts = omega (arith, a.counts, b.counts);
  }

  -- two calls that read
  pub keeps_keeps : {old mid new : S} → Keeps meaning old mid → Keeps meaning mid new → Keeps meaning old new
  keeps_keeps a b = record {
    later = later_twice a.later b.later;
    same = λ h o. b.same h o ∙ a.same (b.later.honest h) (b.later.was_open h o);
    crash = λ h i may. a.crash (b.later.honest h) i (b.crash h i may);
  }

  -- a call that reads tries no more than any write
  pub keeps_as_tries : {fits : Rows → Type 0} {write : Rows → Rows} {old new : S} → Keeps meaning old new → Tries meaning fits write old new
  keeps_as_tries a = record { later = a.later; crash = λ h i may. inl (a.crash h i may) }

  -- ---- out of memory

  -- a read after which memory ran out
  pub read_lost : {A : Type 0} (r : Result A Fault) (old new : S) → IsErrAnd r (λ e. e ≡ fault_at NoMemory 0) → Keeps meaning old new
      → failures_of new ≡ failures_of old → decks_read_of new ≡ decks_read_of old → LeavesRead meaning r old new
  read_lost r old new is same unfailed unread = record {
    opens = λ honest. opens_none _ r is;
    same = same;
    lost = lost_for_memory r is;
    failed = unfailed ∙ memory_counts (failures_of old) r is;
    unread = unread;
  }

  -- a load
  pub load_lost : (r : Result LibraryView Fault) (old new : S) → IsErrAnd r (λ e. e ≡ fault_at NoMemory 0) → Keeps meaning old new
      → failures_of new ≡ failures_of old → decks_read_of new ≡ decks_read_of old → LeavesLoad meaning r old new
  load_lost r old new is same unfailed unread = record {
    opens = λ honest. opens_none _ r is;
    same = same;
    lost = lost_for_memory r is;
    failed = unfailed ∙ memory_counts (failures_of old) r is;
    reads = by r is;
  }
    where
      by : (r : Result LibraryView Fault) → IsErrAnd r (λ e. e ≡ fault_at NoMemory 0) → decks_read_of new ≡ reads_after r (decks_read_of old)
      by (Ok x) is = search rules
      by (Err e) is = unread

  -- what was shown before calls that read is shown after them
  pub still_shown : (old mid : S) → Keeps meaning old mid → is_honest mid → is_open mid → (rows : Rows) → IsShown meaning rows old
      → IsShown meaning rows mid
  still_shown old mid keeps honest opened rows shown = subst (λ i. shows i rows) (sym (keeps.same honest opened)) shown

  -- a load is a load of one deck
  pub deck_of_load : (r : Result LibraryView Fault) (old new : S) → LeavesLoad meaning r old new → LeavesDeck meaning r old new
  deck_of_load r old new left = record {
    opens = left.opens;
    same = left.same;
    lost = left.lost;
    failed = left.failed;
    reads = λ honest l sound whole shown. reads_most r (decks_read_of old) (decks_read_of new) left.reads;
  }

  -- so is one after calls that read no deck of what the store showed
  pub deck_after : (r : Result LibraryView Fault) (old mid new : S) → Keeps meaning old mid → failures_of mid ≡ failures_of old
      → (is_honest new → (l : LibraryView) → IsSound l → IsWhole l → (is_open old → (rows : Rows) × IsShown meaning rows old × Shows rows l)
      → decks_read_of mid ≤ decks_read_of old)
      → LeavesLoad meaning r mid new → LeavesDeck meaning r old new
  deck_after r old mid new same unfailed less left = record {
    opens = left.opens;
    same = keeps_keeps same left.same;
    lost = left.lost;
    failed = left.failed ∙ ap (failures_after r) unfailed;
    reads = λ honest l sound whole shown.
        most_later r (decks_read_of old) (decks_read_of mid) (decks_read_of new) (reads_most r _ _ left.reads) (less honest l sound whole shown);
  }

  -- memory ran out
  pub deck_lost : (r : Result LibraryView Fault) (old new : S) → IsErrAnd r (λ e. e ≡ fault_at NoMemory 0) → Keeps meaning old new
      → failures_of new ≡ failures_of old → decks_read_of new ≡ decks_read_of old → LeavesDeck meaning r old new
  deck_lost r old new is same unfailed unread = deck_of_load r old new (load_lost r old new is same unfailed unread)

  -- a write that was not carried out
  pub write_lost : {A : Type 0} (fits : Rows → Type 0) (write : Rows → Rows) (r : Result A Fault) (old new : S)
      → IsErrAnd r (λ e. e ≡ fault_at NoMemory 0) → old ≡ new → LeavesWrite meaning fits write r old new
  write_lost fits write r old new is still = subst (λ s. LeavesWrite meaning fits write r old s) still (record {
    opens = λ honest. opens_none _ r is;
    undone = λ honest opened. by r;
    crash = keeps_as_tries (keeps_still old);
    lost = lost_for_memory r is;
    failed = memory_counts (failures_of old) r is;
    unread = refl;
  })
    where
      by : {A : Type 0} (r : Result A Fault) → OnErr r (image old ≡ image old)
      by (Ok x) = tt
      by (Err e) = refl

  -- a write whose tables have to meet more
  pub write_narrower : {A : Type 0} (fits narrower : Rows → Type 0) (write : Rows → Rows) (r : Result A Fault) (old new : S)
      → ((rows : Rows) → narrower rows → fits rows) → LeavesWrite meaning fits write r old new → LeavesWrite meaning narrower write r old new
  write_narrower fits narrower write r old new enough left = record {
    opens = left.opens;
    undone = left.undone;
    crash = record { later = left.crash.later; crash = λ honest i may. by i (left.crash.crash honest i may) };
    lost = left.lost;
    failed = left.failed;
    unread = left.unread;
  }
    where
      by : (i : Image) → may_leave old i ⊎ (is_open old × ((rows : Rows) → shows (image old) rows → fits rows → shows i (write rows)))
          → may_leave old i ⊎ (is_open old × ((rows : Rows) → shows (image old) rows → narrower rows → shows i (write rows)))
      by i (inl may) = inl may
      by i (inr wrote) = inr (wrote.0, λ rows shown fits. wrote.1 rows shown (enough rows fits))
