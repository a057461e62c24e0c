use Rattle.upd_subcommands.proofs.Common.{◌≡◌, ◌+◌, ◌<◌, ◌++◌, ◌∷◌, [], List, ℕ, Vec, Global, get_or, length, map, take, sym, ap, ◌∙◌, subst, arith}
use Rattle.upd_subcommands.proofs.Common.{IsErrAnd, arrival_view, frame_text, frames_text, IsAdmitted, frames_from, inl, no_memory, refl, rules}
use Rattle.std.proofs.Common.{Bool, IsOk, Result, Err, drop, inr}
use Rattle.std.proofs.lemmas.List.{at_drop_all, at_drop_more}
use Rattle.upd_desk.specs.Arrivals.{check_arrival}
use Rattle.upd_text.specs.declared.fault.Fault.{Fault}
use Rattle.upd_correct.proofs.ListLemmas.{mapped_more, taken_count}
use Rattle.upd_row_store.proofs.KeepingLemmas.{memory_is_lost}
use Rattle.upd_subcommands.specs.Parts.{check_all}
use Rattle.upd_subcommands.proofs.PartLemmas.{admitted_first, passed_fault, refused_first, text_more}
use Rattle.upd_subcommands.proofs.parts_command.spool_of.Goals as goal

-- the bytes of the first runs
abbrev first_runs : ℕ → List (Vec ℕ Global) → List (List ℕ)
first_runs i runs = map (λ run. run.items) (take i runs)

one_more : (runs : List (Vec ℕ Global)) (i : ℕ) (run d : Vec ℕ Global) → i < length runs → run ≡ get_or runs i d
    → first_runs i runs ++ run.items ∷ [] ≡ first_runs (i + 1) runs
one_more runs i run d within is =
    subst (λ (v : Vec ℕ Global). first_runs i runs ++ v.items ∷ [] ≡ first_runs (i + 1) runs) (sym is)
    (mapped_more (λ (v : Vec ℕ Global). v.items) [] runs i d within)

-- the checks of the frames of runs that are left
abbrev checks_left : List ℕ → ℕ → List ℕ → List (Vec ℕ Global) → Result Bool Fault
checks_left site next mode runs = check_all (frames_from site next mode (map (λ run. run.items) runs))

pub loop-run-init : goal.loop-run-init
loop-run-init c = record {
  next = omega arith;
  fits = omega (arith, c.in_ok-check_frame.ensures.fits);
  frames = search rules;
  checked = admitted_first (arrival_view c.args.site.now c.args.number c.args.mode.now [])
      (frames_from c.args.site.now c.args.number c.args.mode.now (map (λ (v : Vec ℕ Global). v.items) c.args.runs.now)) c.in_ok-check_frame.ensures.admitted;
}

pub loop-run-preserved : goal.loop-run-preserved
loop-run-preserved c =
    let runs = c.args.runs.now in
    let i = c.loop-run.run-index in
    let site = c.args.site.now in
    let mode = c.args.mode.now in
    let more = one_more runs i c.run-item.result _ c.loop-run-test.true c.run-item.is in
    let count : c.loop-run.next ≡ c.args.number + length (first_runs i runs) =
    c.loop-run.invariant.next ∙ ap (λ k. c.args.number + k) (sym (taken_count (λ (v : Vec ℕ Global). v.items) runs i c.loop-run-test.true)) in
    record {
      next = omega (arith, c.loop-run.invariant.next);
      fits = omega (arith, c.in_ok-check_frame-2.ensures.fits);
      frames = subst (λ all. c.push_frame.new.spool.items ≡ frames_text (frames_from c.args.site.now c.args.number c.args.mode.now all)) more
          (text_more c.args.site.now c.args.number c.loop-run.next c.args.mode.now (first_runs i runs) c.run-item.result.items c.loop-run.spool.items
          c.push_frame.new.spool.items count c.loop-run.invariant.frames
          (subst (λ run. c.push_frame.new.spool.items ≡ c.loop-run.spool.items ++ frame_text (arrival_view c.args.site.now c.loop-run.next c.args.mode.now run))
          c.deref-in-loop-run.ensures.value c.in_ok-push_frame.ensures));
      checked = c.loop-run.invariant.checked ∙ at_drop_more (checks_left site c.loop-run.next mode) runs i _ c.loop-run-test.true
          ∙ admitted_first (arrival_view site c.loop-run.next mode (get_or runs i _).items)
          (frames_from site (c.loop-run.next + 1) mode (map (λ (v : Vec ℕ Global). v.items) (drop (i + 1) runs)))
          (subst (λ run. IsAdmitted (arrival_view site c.loop-run.next mode run))
          (c.deref.ensures.value ∙ ap (λ (v : Vec ℕ Global). v.items) c.run-item.is) c.in_ok-check_frame-2.ensures.admitted);
    }

pub returns-in_err-push_frame-clause-refused : goal.returns-in_err-push_frame-clause-refused
returns-in_err-push_frame-clause-refused c =
    let is : IsErrAnd c.from_residual-in_err-push_frame.result (λ e. e ≡ no_memory) = search rules in
    passed_fault _ c.from_residual-in_err-push_frame.result no_memory is (inl (memory_is_lost no_memory refl))

pub returns-in_err-check_frame-clause-refused : goal.returns-in_err-check_frame-clause-refused
returns-in_err-check_frame-clause-refused c =
    passed_fault _ c.from_residual.result c.in_err-check_frame.field-0.0 c.from_residual.ensures.1
    (inr (refused_first (arrival_view c.args.site.now c.args.number c.args.mode.now [])
    (frames_from c.args.site.now c.args.number c.args.mode.now (map (λ (v : Vec ℕ Global). v.items) c.args.runs.now)) _ c.in_err-check_frame.ensures.refused))

pub returns-in_err-check_frame-2-clause-refused : goal.returns-in_err-check_frame-2-clause-refused
returns-in_err-check_frame-2-clause-refused c =
    let runs = c.args.runs.now in
    let i = c.loop-run.run-index in
    let site = c.args.site.now in
    let mode = c.args.mode.now in
    passed_fault _ c.from_residual-in_err-check_frame-2.result c.in_err-check_frame-2.field-0.0 c.from_residual-in_err-check_frame-2.ensures.1
    (inr (c.loop-run.invariant.checked ∙ at_drop_more (checks_left site c.loop-run.next mode) runs i _ c.loop-run-test.true
    ∙ refused_first (arrival_view site c.loop-run.next mode (get_or runs i _).items)
    (frames_from site (c.loop-run.next + 1) mode (map (λ (v : Vec ℕ Global). v.items) (drop (i + 1) runs))) _
    (subst (λ run. check_arrival (arrival_view site c.loop-run.next mode run) ≡ Err c.in_err-check_frame-2.field-0.0)
    (c.deref.ensures.value ∙ ap (λ (v : Vec ℕ Global). v.items) c.run-item.is) c.in_err-check_frame-2.ensures.refused)))

pub returns-clause-admitted : goal.returns-clause-admitted
returns-clause-admitted c =
    subst IsOk (sym (c.loop-run.invariant.checked
    ∙ at_drop_all (checks_left c.args.site.now c.loop-run.next c.args.mode.now) c.args.runs.now c.loop-run.run-index
    (omega (arith, c.loop-run-test.false)))) refl
