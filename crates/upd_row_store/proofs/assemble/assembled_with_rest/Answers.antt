use Rattle.upd_row_store.proofs.Common.{◌∙◌, ◌≡◌, arith, part_of, part_rows}
use Rattle.upd_row_store.proofs.RestLemmas.{part_shown, part_sound, parted, rest_made, rows_apart}
use Rattle.upd_row_store.proofs.assemble.assembled_with_rest.Goals as goal

pub returns : goal.returns
returns c = λ ages tables l sound whole shows read all_cards all_entries.
    let are = read (rows_apart ages l sound tables shows) in
    let made = c.in_ok-idents.ensures (part_rows ages tables) (parted ages l sound) (part_sound ages l sound) (part_shown ages l sound tables shows) are in
    let left = rest_made ages l sound tables c.args.rows whole shows are in
    let cards : c.saturating_sub.result ≡ (part_of ages l).rest.cards = omega (arith, c.saturating_sub.ensures, c.len.ensures, all_cards, left.0) in
    let entries : c.saturating_sub-2.result ≡ (part_of ages l).rest.entries =
    omega (arith, c.saturating_sub-2.ensures, c.len-2.ensures, all_entries, left.1) in
    c.library_with.ensures ∙ (λ i. record (made i) { rest = record { cards = cards i; entries = entries i } })
