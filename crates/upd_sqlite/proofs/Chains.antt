-- Steps one after another.
use Rattle.std.proofs.Common.{◌≡◌, Result, Ok, Err, subst, ◌∙◌, arith}
use Rattle.sqlite_trees.specs.Tree.{Trees}
use Rattle.sqlite.specs.declared.error.Error.{Error}
use Rattle.sqlite.specs.Effect.{Database}
use Rattle.sqlite.specs.State.{State, HasCleanDisk, KeepsCommit, Survives}
use Rattle.sqlite.proofs.StateLemmas.{survives_then}
use Rattle.upd_sqlite.specs.Steps.{Steps, Makes}

pub clean_before : (a b : State) (P : Trees → Type 0) → Survives a b P → HasCleanDisk b → HasCleanDisk a
clean_before a b P s clean = omega (arith, s.clean)

keeps_then : (a b c : State) → KeepsCommit a b → KeepsCommit b c → KeepsCommit a c
keeps_then a b c p q = record { was_open = λ o. p.was_open (q.was_open o); committed = λ o. q.committed o ∙ p.committed (q.was_open o) }

both_survive : (a b c : State) → Survives a b (λ _. ⊥) → Survives b c (λ _. ⊥) → Survives a c (λ _. ⊥)
both_survive a b c p q = survives_then a b c _ _ (λ _. ⊥) (λ _ db none. none) (λ _ db none. none) p q

-- two steps, of which the first went well
pub steps_then : {X Y : Type 0} (a b c : State) (x : X) (r : Result Y Error) → Steps {X = X} a b (Ok x) → Steps b c r → Steps a c r
steps_then a b c x (Ok y) p q = record {
  going = λ clean inside. q.going clean (p.going (clean_before b c _ q.survives clean) inside);
  kept = λ clean inside. let early = clean_before b c _ q.survives clean in keeps_then a b c (p.kept early inside) (q.kept clean (p.going early inside));
  survives = both_survive a b c p.survives q.survives;
}
steps_then a b c x (Err e) p q = record {
  going = λ clean. tt;
  kept = λ clean inside. let early = clean_before b c _ q.survives clean in keeps_then a b c (p.kept early inside) (q.kept clean (p.going early inside));
  survives = both_survive a b c p.survives q.survives;
}

module _ {A : Type 0} (Has : A → Database → Type 0) where
  pub makes_then : {X Y : Type 0} (F G : A → Type 0) (f g : A → A) (a b c : State) (x : X) (r : Result Y Error) → Makes Has F f a b (Ok x) → Makes Has G g b c r
      → Makes Has (λ it. F it × G (f it)) (λ it. g (f it)) a c r
  makes_then F G f g a b c x (Ok y) p q = record {
    steps = steps_then a b c x (Ok y) p.steps q.steps;
    made = λ clean inside it fits has.
        let early = clean_before b c _ q.steps.survives clean in
        q.made clean (p.steps.going early inside) (f it) fits.1 (p.made early inside it fits.0 has);
  }
  makes_then F G f g a b c x (Err e) p q = record { steps = steps_then a b c x (Err e) p.steps q.steps; made = λ clean. tt }

  -- the same change by other words
  pub makes_as : {X : Type 0} (F G : A → Type 0) (f g : A → A) (a b : State) (r : Result X Error) → ((it : A) → G it → F it) → ((it : A) → f it ≡ g it)
      → Makes Has F f a b r → Makes Has G g a b r
  makes_as F G f g a b (Ok x) weaker same p =
      record { steps = p.steps; made = λ clean inside it fits has. subst (λ x. Has x b.now) (same it) (p.made clean inside it (weaker it fits) has) }
  makes_as F G f g a b (Err e) weaker same p = record { steps = p.steps; made = λ clean. tt }
