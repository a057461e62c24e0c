use Rattle.upd_correct.proofs.Common.{◌≡◌, ◌+◌, ◌++◌, ◌∷◌, [], List, ℕ, Vec, Global, map, length, sym, ap, subst, length-map, map-append}
use Rattle.upd_correct.proofs.Common.{LibraryView, CorrectsTo, Follows, part_name}
use Rattle.upd_correct.specs.Parts.{IsReached, Next}
use Rattle.upd_correct.proofs.edit_parts.push_run.Goals as goal

-- the bytes of runs
abbrev bytes_of : List (Vec ℕ Global) → List (List ℕ)
bytes_of runs = map (λ run. run.items) runs

one_more : (l : LibraryView) (set : List ℕ) (runs : List (Vec ℕ Global)) (run : Vec ℕ Global) (text : List ℕ) (before after : LibraryView)
    → Follows l set (bytes_of runs) before → CorrectsTo before (part_name set (length runs + 1)) text run.items
    → IsReached run.items before after → Follows l set (bytes_of (runs ++ run ∷ [])) after
one_more l set runs run text before after was corrects reached =
    subst (λ bytes. Follows l set bytes after) (sym (map-append (λ (v : Vec ℕ Global). v.items) runs (run ∷ [])))
    (Next (bytes_of runs) run.items text before after was
    (subst (λ called. CorrectsTo before called text run.items)
    (ap (λ k. part_name set (k + 1)) (sym (length-map runs (λ (v : Vec ℕ Global). v.items)))) corrects) reached)

next : (l : LibraryView) (set text : List ℕ) (runs now : List (Vec ℕ Global)) (run : Vec ℕ Global) (bytes : List ℕ) (before after : LibraryView)
    → Follows l set (bytes_of runs) before → CorrectsTo before (part_name set (length runs + 1)) text run.items → bytes ≡ run.items
    → IsReached bytes before after → now ≡ runs ++ run ∷ [] → Follows l set (bytes_of now) after
next l set text runs now run bytes before after was corrects same reached grown =
    subst (λ runs. Follows l set (bytes_of runs) after) (sym grown)
    (one_more l set runs run text before after was corrects (subst (λ run. IsReached run before after) same reached))

pub returns-clause-follows : goal.returns-clause-follows
returns-clause-follows c l set text was corrects =
    next l set text c.args.runs.now.items c.push.new.self.items c.args.run c.deref.result.now c.args.library.now c.apply_run.new.library was corrects
    c.deref.ensures.value c.in_ok-apply_run.ensures c.in_ok-push.ensures.items
