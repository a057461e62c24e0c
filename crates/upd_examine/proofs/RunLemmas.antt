-- What tests of stored runs and marks decide together.
use Rattle.upd_examine.proofs.Common.{◌≡◌, ℕ, ◌+◌, ◌<◌, Bool, ◌&&◌, List, ◌∷◌, map, length, drop, get_or, sym, ap, ◌∙◌, subst, ◌↔◌, IsTrue, and_parts}
use Rattle.upd_examine.proofs.Common.{and_from, list_all, Bytes, AreApart, MarkRow, RunView, AreRunsSound, is_run_right, run_key}
use Rattle.std.proofs.lemmas.List.{drop_more}
use Rattle.upd_examine.specs.RunForms.{is_key}

pub runs_decided : (runs : List RunView) (marks : List MarkRow) {sites : List Bytes} {keys : List (Bytes × ℕ)} {m a b c : Bool}
    → m ≡ list_all (λ m. is_key m.site m.mark) marks → sites ≡ map (λ m. m.site) marks → keys ≡ map run_key runs → (IsTrue a ↔ AreApart sites)
    → (IsTrue b ↔ AreApart keys)
    → c ≡ list_all (is_run_right marks) runs → IsTrue (m && (a && (b && c))) ↔ AreRunsSound runs marks
runs_decided runs marks {sites} {keys} {m} {a} {b} {c} are_marked are_sites are_keys one two each = (
  (λ t.
      let o = and_parts m (a && (b && c)) t in
      let p = and_parts a (b && c) o.1 in
      let q = and_parts b c p.1 in
      record {
        marked = sym are_marked ∙ o.0;
        sites = subst AreApart are_sites (one.0 p.0);
        keys = subst AreApart are_keys (two.0 q.0);
        each = sym each ∙ q.1;
      }),
  (λ are.
      and_from m (a && (b && c)) (are_marked ∙ are.marked)
      (and_from a (b && c) (one.1 (subst AreApart (sym are_sites) are.sites))
      (and_from b c (two.1 (subst AreApart (sym are_keys) are.keys)) (each ∙ are.each)))),
)

-- a test of what is left of a list, at its first element
pub all_step : {A : Type 0} (test : A → Bool) (xs : List A) (i : ℕ) (d x : A) (b : Bool) → i < length xs → x ≡ get_or xs i d → b ≡ test x
    → list_all test (drop i xs) ≡ (b && list_all test (drop (i + 1) xs))
all_step test xs i d x b within read is =
    ap (list_all test) (drop_more xs i d within ∙ ap (λ t. t ∷ drop (i + 1) xs) (sym read)) ∙ ap (λ c. c && list_all test (drop (i + 1) xs)) (sym is)
