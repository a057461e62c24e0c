use Rattle.std.proofs.Common.{inl, inr, sym}
use Rattle.std.proofs.Math.Logic.{∥∥₁_map}
use Rattle.upd_store.proofs.file.closed.Goals as goal

pub returns-in-Ok : goal.returns-in-Ok
returns-in-Ok g c =
    let (last, are, closed, empty) = c.in-Ok.ensures.ok in
    record {
      last = last;
      are = sym are;
      closed = closed;
      copied = inl (λ clean.
          let copied = c.in-Ok.ensures.copied clean in
          (copied, λ left may found is. ∥∥₁_map (copied.left left may).both (λ holds. is _ holds)));
    }

pub returns-in-Err : goal.returns-in-Err
returns-in-Err g c = record {
  last = c.in-Err.store;
  are = c.close.ensures;
  closed = c.in-Err.ensures.err.0;
  copied = inr (c.in-Err.field-0-0, c.in-Err.ensures.err.1);
}
