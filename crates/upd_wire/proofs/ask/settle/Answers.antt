use Rattle.upd_wire.proofs.Common.{ℕ, inl, refl, sym, subst, None, Some, Result, Ok, Err, settle, Fault, Response, IsMarkResponse}
use Rattle.upd_wire.specs.declared.http_status.Media.TheVariants.{Json}
use Rattle.upd_wire.proofs.AskLemmas.{answered_fault}
use Rattle.upd_wire.proofs.ask.settle.Goals as goal

pub returns-in-Ok : goal.returns-in-Ok
returns-in-Ok g c =
    let body = c.write_mark.new.out.items in
    let said : Response = record { status = 200; media = Json; allow = None; body = body } in
    let told : Result Response Fault = Ok said in
    let IsTold : Result ℕ Fault → Type 0 = λ result. IsMarkResponse c.args.site.now result told in (
      Some (settle c.args.site.now c.args.number, told),
      (
        c.settle_site.result,
        c.settle_site.ensures.settles,
        c.settle_site.ensures.failed,
        subst IsTold (sym c.in-Ok.is) (body, refl, c.write_mark.ensures),
      ),
      inl (told, refl, inl refl),
    )

pub returns-in-Err : goal.returns-in-Err
returns-in-Err g c =
    let told : Result Response Fault = Err c.in-Err.fault in
    let IsTold : Result ℕ Fault → Type 0 = λ result. IsMarkResponse c.args.site.now result told in (
      Some (settle c.args.site.now c.args.number, told),
      (c.settle_site.result, c.settle_site.ensures.settles, c.settle_site.ensures.failed, subst IsTold (sym c.in-Err.is) refl),
      inl (told, refl, answered_fault (λ (r : Response). r) told c.in-Err.fault c.fault.result refl c.fault.ensures.ok c.fault.ensures.err),
    )
