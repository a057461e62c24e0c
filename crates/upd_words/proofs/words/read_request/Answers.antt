use Rattle.std.proofs.Common.{◌≡◌, true, false, List, [], Option, Some, None, IsSomeAnd, is_some, option_map, ap, subst}
use Rattle.std.specs.Option.{option_map_or}
use Rattle.clap.specs.Words.{Text, Row}
use Rattle.upd_words.specs.Words.{HasCount, IsRead, IsRequest}
use Rattle.upd_words.proofs.words.read_request.Goals as goal

-- what holds of the name and the rows of a subcommand holds of the subcommand
one_of : {B : Type 0} (name_of : B → Text) (rows_of : B → List Row) (sub : Option B) (name : Text) (rows : List Row) (P : Text × List Row → Type 0)
    → Some name ≡ option_map name_of sub → Some rows ≡ option_map (λ (p : Text × List Row). p.1) (option_map (λ b. (name_of b, rows_of b)) sub)
    → P (name, rows) → IsSomeAnd (option_map (λ b. (name_of b, rows_of b)) sub) P
one_of name_of rows_of None name rows P named has holds = absurd (let clash : true ≡ false = ap is_some named in cc)
one_of name_of rows_of (Some b) name rows P named has holds =
    let own : name ≡ name_of b = ap (λ o. option_map_or (λ t. t) o []) named in
    let its : rows ≡ rows_of b = ap (λ o. option_map_or (λ t. t) o []) has in
    subst (λ n. P (n, rows_of b)) own (subst (λ r. P (name, r)) its holds)

pub returns : goal.returns
returns c =
    one_of _ _ _ _ _ (λ command. HasCount command → IsRead (IsRequest command) command c.read_command.result) c.in-Some.ensures.name c.in-Some.ensures.rows
    c.read_command.ensures
