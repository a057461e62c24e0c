-- What a connection shows whose last commit is what an open found.
use Rattle.upd_store.proofs.Common.{◌≡◌, ap, sym, ◌∙◌, subst, State, Image}
use Rattle.sqlite.specs.Effect.{Database}
use Rattle.sqlite.specs.Files.{AreFoundIn}
use Rattle.sqlite.specs.Start.{FindsIn}

pub found_still : (image : Image) (old new : State) → FindsIn image old → new.committed ≡ old.committed → FindsIn image new
found_still image old new found same = record {
  holds = λ db held. ap (λ (d : Database). d.trees) same ∙ found.holds db held;
  reads = subst (λ (d : Database). AreFoundIn image d.trees) (sym same) found.reads;
}
