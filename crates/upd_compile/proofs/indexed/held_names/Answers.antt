use Rattle.upd_compile.proofs.Common.{common_steps, arith, ◌≡◌, ℕ, ◌+◌, ◌-◌, ◌∙◌, Bool, true, false, ◌&&◌, cond, List, ◌∷◌, Some, drop, refl, rules}
use Rattle.upd_compile.proofs.Common.{option_map, bytes_eq, at_drop_more, Ident, held_named, kind_and_age, held_kind}
use Rattle.std.proofs.lemmas.Map.Text.{hash_map_updates_str}
use Rattle.upd_compile.proofs.indexed.held_names.Goals as goal

-- one more held ident in front
held_kind-cons : (i : Ident) (rest : List Ident) (name : List ℕ) → i.held ≡ true
    → held_kind name (i ∷ rest) ≡ cond (bytes_eq i.name name) (Some (kind_and_age i)) (held_kind name rest)
held_kind-cons i rest name held = found i.held (bytes_eq i.name name) held
  where
    found : (held b : Bool) → held ≡ true
        → option_map kind_and_age (cond (held && b) (Some i) (held_named name rest)) ≡ cond b (Some (kind_and_age i)) (held_kind name rest)
    found true true e = refl
    found true false e = refl
    found false b e = cc

pub loop-i-preserved-in_ok-insert : goal.loop-i-preserved-in_ok-insert
loop-i-preserved-in_ok-insert c = λ name.
    let updated = hash_map_updates_str c.as_bytes.result.now c.loop-i.names c.insert.new.self _ c.in_ok-insert.ensures.updates name in
    let here = at_drop_more (held_kind name) c.args.idents.now (c.loop-i.i - 1) c.index-idents-i.result (search rules) in
    let one : c.loop-i.i - 1 + 1 ≡ c.loop-i.i = search rules in
    let before = c.loop-i.invariant name in
    let front = held_kind-cons c.index-idents-i.result (drop c.loop-i.i c.args.idents.now) name c.if-ident.true in
    updated ∙ rw (here, one, ← c.index-idents-i.is, front, ← c.as_bytes.ensures, before) refl

pub loop-i-preserved : goal.loop-i-preserved
loop-i-preserved c = grind (arith, common_steps)
