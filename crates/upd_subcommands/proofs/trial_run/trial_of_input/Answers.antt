use Rattle.upd_subcommands.proofs.Common.{rules, ℕ, List, Result, Ok, sym, ◌∙◌, subst, some_input, Fault, GivesAt, FileView, IsRunOn, trial_of}
use Rattle.upd_subcommands.proofs.CommandLemmas.{error_is}
use Rattle.upd_subcommands.proofs.TrialLemmas.{given_of_front}
use Rattle.upd_subcommands.proofs.trial_run.trial_of_input.Goals as goal

pub returns-in_err-mode-clause-gives : goal.returns-in_err-mode-clause-gives
returns-in_err-mode-clause-gives g c =
    let (run, is) = some_input (g.R.Read.remaining c.args.input.now) in
    (run, is, search rules)

pub returns-in_err-run-clause-gives : goal.returns-in_err-run-clause-gives
returns-in_err-run-clause-gives g c =
    let (run, is) = some_input (g.R.Read.remaining c.args.input.now) in
    (run, is, search rules)

pub returns-in_err-file-clause-gives : goal.returns-in_err-file-clause-gives
returns-in_err-file-clause-gives g c =
    let result = c.from_residual-in_err-file.result in
    let IsRead : List ℕ → Type 0 = IsRunOn (g.R.Read.remaining c.args.input.now) in
    let IsGiven : Result FileView Fault → Type 0 = λ r. GivesAt (λ file. file) r (trial_of c.in_ok-mode.mode c.deref.result.now) in
    given_of_front c.args.mode.now c.in_ok-mode.mode c.deref.result.now result (g.R.Read.remaining c.args.input.now)
    (sym c.read_mode.ensures ∙ c.in_ok-mode.was) (subst IsRead (sym c.deref.ensures.value) c.in_ok-run.ensures.ok)
    (subst IsGiven (sym (error_is result c.in_err-file.field-0.0 c.from_residual-in_err-file.ensures.1)) c.in_err-file.ensures)

pub returns-clause-gives : goal.returns-clause-gives
returns-clause-gives g c =
    let IsRead : List ℕ → Type 0 = IsRunOn (g.R.Read.remaining c.args.input.now) in
    given_of_front c.args.mode.now c.in_ok-mode.mode c.deref.result.now (Ok c.in_ok-file.file) (g.R.Read.remaining c.args.input.now)
    (sym c.read_mode.ensures ∙ c.in_ok-mode.was) (subst IsRead (sym c.deref.ensures.value) c.in_ok-run.ensures.ok) c.in_ok-file.ensures

pub returns-in_err-run-clause-waits : goal.returns-in_err-run-clause-waits
returns-in_err-run-clause-waits g c = search rules

pub returns-in_err-mode-clause-waits : goal.returns-in_err-mode-clause-waits
returns-in_err-mode-clause-waits g c = search rules
