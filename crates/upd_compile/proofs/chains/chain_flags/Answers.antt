use Rattle.upd_compile.proofs.Common.{◌≡◌, ◌∙◌, ◌&&◌, ℕ, List, Vec, Global, map, length, sym, ap, list_any, zip, length-map, IfOk-weaker, is_changed}
use Rattle.upd_compile.proofs.Common.{is_passed_on, called_positions, AreCallers, AreReached, is_flagged}
use Rattle.upd_compile.proofs.SpreadLemmas.{chains-visited, is_flagged-both, is_flagged-map, length-both}
use Rattle.upd_compile.proofs.chains.chain_flags.Goals as goal

pub returns : goal.returns
returns c = IfOk-weaker c.calls_flagged.result _ _ (λ flags ensured before changed.
    let a = c.args.source.now in
    let shown : List (Vec ℕ Global) → List (List ℕ) = map (λ list. list.items) in
    let calls = shown c.in_ok-calls.calls.items in
    let passed = c.in_ok-passed.passed.items in
    let seeds = c.in_ok-seeds.seeds.items in
    let calls_are : calls ≡ map (called_positions a) a.decks = c.in_ok-calls.ensures in
    let passed_are : passed ≡ map (is_passed_on a) a.decks = c.in_ok-passed.ensures in
    let seeds_are : seeds ≡ map (λ p. p.0 && p.1) (zip passed c.args.changed.now) = rw c.deref-3.ensures.value at c.in_ok-seeds.ensures in
    let callers_are : AreCallers calls passed (shown c.in_ok-callers.callers.items) =
    rw (c.deref.ensures.value, c.deref-2.ensures.value) at c.in_ok-callers.ensures in
    let reached : AreReached (shown c.in_ok-callers.callers.items) seeds c.in_ok-flags.flags.items = rw c.deref-4.ensures.value at c.in_ok-flags.ensures in
    let found : flags.items ≡ map (list_any (is_flagged c.in_ok-flags.flags.items)) calls = rw (c.deref-5.ensures.value, c.deref-6.ensures.value) at ensured in
    let same_length : length passed ≡ length c.args.changed.now =
    ap length passed_are ∙ length-map a.decks (is_passed_on a) ∙ sym (ap length changed ∙ length-map a.decks (is_changed before)) in
    found ∙ chains-visited before a calls (shown c.in_ok-callers.callers.items) passed seeds c.in_ok-flags.flags.items (record {
      calls_are = calls_are;
      passed_are = passed_are;
      seeds_are = λ k.
          ap (λ m. is_flagged m k) seeds_are ∙ is_flagged-both passed c.args.changed.now k
          ∙ ap (λ b. is_flagged passed k && b) (ap (λ m. is_flagged m k) changed ∙ is_flagged-map (is_changed before) a.decks k);
      seeds_length = ap length seeds_are ∙ length-both passed c.args.changed.now same_length ∙ ap length passed_are ∙ length-map a.decks (is_passed_on a);
      callers_are = callers_are;
      reached = reached;
    })) c.calls_flagged.ensures
