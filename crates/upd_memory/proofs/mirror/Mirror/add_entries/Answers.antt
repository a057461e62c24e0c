use Rattle.upd_memory.proofs.Common.{◌≡◌, ◌++◌, ◌∷◌, [], ap, arith, sym, ◌∙◌, subst, append-nil, Agrees}
use Rattle.std.proofs.Common.{append_assoc}
use Rattle.std.proofs.lemmas.List.{nil_from_length}
use Rattle.upd_memory.proofs.mirror.Mirror.add_entries.Goals as goal

pub loop-entry-preserved : goal.loop-entry-preserved
loop-entry-preserved c = λ rows are.
    let before = c.loop-entry.invariant rows are in
    let all : (before.0 ++ c.in-Some.entry ∷ []) ++ c.next.new.self.rest.items ≡ c.args.entries.items =
    append_assoc before.0 (c.in-Some.entry ∷ []) c.next.new.self.rest.items
    ∙ ap (λ rest. before.0 ++ rest) (sym c.in-Some.ensures.steps.0) ∙ before.1.0 in (
      before.0 ++ c.in-Some.entry ∷ [],
      (
        all,
        subst (λ more. Agrees c.add_entry.new.self (record rows { entries = more }))
            (append_assoc rows.entries before.0 (c.in-Some.entry ∷ []))
            (c.in_ok-add_entry.ensures (record rows { entries = rows.entries ++ before.0 }) before.1.1),
      ),
    )

pub loop-entry-init : goal.loop-entry-init
loop-entry-init c = λ rows are. ([], ((cc), subst (λ more. Agrees c.args.self.now (record rows { entries = more })) (sym (append-nil rows.entries)) are))

pub returns : goal.returns
returns c = λ rows are.
    let end = c.loop-entry.invariant rows are in
    let none : c.loop-entry.entry-iterator.rest.items ≡ [] =
    nil_from_length c.loop-entry.entry-iterator.rest.items (omega (arith, c.in-None.ensures.steps.0)) in
    subst (λ more. Agrees c.loop-entry.self (record rows { entries = rows.entries ++ more }))
    (sym (append-nil end.0) ∙ ap (λ rest. end.0 ++ rest) (sym none) ∙ end.1.0) end.1.1
