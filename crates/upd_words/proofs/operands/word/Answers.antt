use Rattle.std.proofs.Common.{◌≡◌, List, ℕ, Bor, Option, Some, None, [], refl, ap, ◌∙◌, option_map, unwrap_or}
use Rattle.clap.specs.Words.{found_of}
use Rattle.clap.proofs.WalkLemmas.{first_value-rows}
use Rattle.upd_words.proofs.operands.word.Goals as goal

shown-unwrap_or : (o : Option (Bor (List ℕ))) (d : Bor (List ℕ)) → (unwrap_or o d).now ≡ unwrap_or (option_map (λ (s : Bor (List ℕ)). s.now) o) d.now
shown-unwrap_or None d = refl
shown-unwrap_or (Some s) d = refl

pub returns : goal.returns
returns c =
    ap (λ (s : Bor (List ℕ)). s.now) c.unwrap_or.ensures ∙ shown-unwrap_or c.get_str.result _
    ∙ ap (λ (o : Option (List ℕ)). unwrap_or o []) (c.get_str.ensures ∙ first_value-rows (found_of c.args.operands.now) c.args.name.now)
