use Rattle.std.proofs.Common.{◌≡◌, ◌||◌, ◌<◌, ◌+◌, ◌++◌, [], ◌∷◌, ℕ, List, Bor, add-one, length, get_or, map, take, ap, ap₂, sym, ◌∙◌}
use Rattle.std.proofs.Math.Seq.{take-suc}
use Rattle.std.proofs.lemmas.List.{map-append}
use Rattle.clap.specs.Simple.{new_app}
use Rattle.clap.specs.declared.builder.value_parser.ValueParser.{ValueParser}
use Rattle.clap.specs.Words.{Rule, with_rule}
use Rattle.upd_words.specs.Words.{Operand, command_shape, operand_rule}
use Rattle.upd_words.proofs.app.command.Goals as goal

-- an operand as it is written in the program
abbrev Written : Type 0
Written = Bor (List ℕ) × Bor (List ℕ) × ValueParser

rules_more : (operands : List Written) (i : ℕ) (d : Written) → i < length operands
    → map operand_rule (map (λ o. (o.0.now, o.2)) (take i operands)) ++ operand_rule ((get_or operands i d).0.now, (get_or operands i d).2) ∷ []
    ≡ map operand_rule (map (λ o. (o.0.now, o.2)) (take (i + 1) operands))
rules_more operands i d h =
    let operand_of : Written → Operand = λ o. (o.0.now, o.2) in
    sym (ap (λ l. map operand_rule (map operand_of l)) (ap (λ n. take n operands) (add-one i) ∙ take-suc operands i d h)
    ∙ ap (map operand_rule) (map-append operand_of (take i operands) (get_or operands i d ∷ []))
    ∙ map-append operand_rule (map operand_of (take i operands)) (operand_of (get_or operands i d) ∷ []))

pub loop-name-preserved : goal.loop-name-preserved
loop-name-preserved c = record {
  app = c.in_ok-command.ensures.shape c.operand.ensures.local ∙ ap₂ with_rule c.loop-name.invariant.app c.operand.ensures.rule
      ∙ ap (λ (rules : List Rule). record (new_app []) { top = record (command_shape c.args.row.now.name.now []) { rules = rules } })
      (rules_more c.args.row.now.operands.now c.loop-name.name-index _ c.loop-name-test.true);
  local = c.in_ok-command.ensures.globals ∙ ap₂ (λ a b. a || b) c.loop-name.invariant.local c.operand.ensures.local;
}
