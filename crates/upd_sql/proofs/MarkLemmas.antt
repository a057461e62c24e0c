-- A settlement: where the number is at or below the mark nothing changes, else the mark rises.
use Rattle.upd_sql.proofs.Common.{◌≡◌, ℕ, ◌<◌, nat_le, Bool, true, false, if◌then◌else◌, List, [], ◌∷◌, ◌++◌, filter, not, refl, sym, ap, ◌∙◌, arith}
use Rattle.upd_sql.proofs.Common.{bytes_eq, Some, None, option_map_or, nat_tests, Rows, MarkRow, is_mark_of, mark_at}
use Rattle.std.proofs.Common.{find}
use Rattle.upd_row_store.specs.Tables.{settled_to}
use Rattle.upd_sql.specs.RowEdits.{with_runs_settled}

high : (n m : ℕ) → m < n → nat_le n m ≡ false
high n m h = grind (arith, nat_tests)

rises_as : (site : List ℕ) (n : ℕ) (it : Rows) → mark_at site it < n → settled_to site n it ≡ with_runs_settled site n it
rises_as site n it h = ap (λ b. if b then it else with_runs_settled site n it) (high n (mark_at site it) h)

bytes_itself : (a : List ℕ) → bytes_eq a a ≡ true
bytes_itself [] = refl
bytes_itself (x ∷ a) = grind (arith, nat_tests, bytes_itself a)

-- after marks of other sites the new mark is found
found_behind : (site : List ℕ) (n : ℕ) (marks : List MarkRow)
    → find (is_mark_of site) (filter (λ m. not (is_mark_of site m)) marks ++ record { site = site; mark = n } ∷ []) ≡ Some (record { site = site; mark = n })
found_behind site n [] = ap (λ b. if b then Some (record { site = site; mark = n }) else None) (bytes_itself site)
found_behind site n (m ∷ marks) = go (is_mark_of site m) refl (found_behind site n marks)
  where
    go : (b : Bool) → is_mark_of site m ≡ b
        → find (is_mark_of site) (filter (λ k. not (is_mark_of site k)) marks ++ record { site = site; mark = n } ∷ [])
        ≡ Some (record { site = site; mark = n })
        → find (is_mark_of site) ((if not b then m ∷ filter (λ k. not (is_mark_of site k)) marks else filter (λ k. not (is_mark_of site k)) marks) ++ record
        { site = site; mark = n } ∷ [])
        ≡ Some (record { site = site; mark = n })
    go true e more = more
    go false e more = rw e more

pub mark_of_marked : (site : List ℕ) (n : ℕ) (it : Rows) → mark_at site (with_runs_settled site n it) ≡ n
mark_of_marked site n it = ap (λ o. option_map_or (λ (m : MarkRow). m.mark) o 0) (found_behind site n it.settled)

pub mark_rises_to : (site : List ℕ) (n mark : ℕ) (it : Rows) → mark < n → mark ≡ mark_at site it → n ≡ mark_at site (settled_to site n it)
mark_rises_to site n mark it h is = sym (ap (mark_at site) (rises_as site n it (omega (arith, h, is))) ∙ mark_of_marked site n it)
