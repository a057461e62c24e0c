-- The words of an array are those of its items in turn.
use Rattle.std.proofs.Common.{◌≡◌, List, [], ◌∷◌, ◌++◌, refl, ap}
use Rattle.std.specs.List.{flat_map}
use Rattle.serde_json.specs.View.{items_view, view}
use Rattle.serde_json.specs.declared.value.Value.{Value}
use Rattle.upd_views.specs.RunLines.{word_of, words_of}

pub words_in_turn : (vs : List Value) → words_of (items_view vs) ≡ flat_map (λ v. word_of (view v)) vs
words_in_turn [] = refl
words_in_turn (v ∷ vs) = ap (λ l. word_of (view v) ++ l) (words_in_turn vs)
