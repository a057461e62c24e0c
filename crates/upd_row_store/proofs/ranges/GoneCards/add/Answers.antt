use Rattle.std.proofs.Common.{◌≡◌, ◌++◌, ◌∷◌, [], rules}
use Rattle.upd_records.specs.Rows.{same_ref}
use Rattle.upd_row_store.specs.Ranges.{is_among, without_rows}
use Rattle.upd_row_store.specs.declared.ranges.CardRows.TheVariants.{Card, Entries, Targets}
use Rattle.upd_row_store.proofs.RangeLemmas.{among_more, rows_both}
use Rattle.upd_row_store.proofs.ranges.GoneCards.add.Goals as goal

pub returns-in_ok-ok-in-EntriesGone : goal.returns-in_ok-ok-in-EntriesGone
returns-in_ok-ok-in-EntriesGone c = λ rows.
    let was = c.args.self.now in
    let card = c.in-EntriesGone.card in
    let items : c.push.new.self.items ≡ was.entries.items ++ card ∷ [] = search rules in
    rw c.in-EntriesGone.is
    (rows_both Entries (is_among was.entries.items) (same_ref card) (is_among c.push.new.self.items)
    (without_rows Card (is_among was.cards.items) (without_rows Targets (is_among was.targets.items) rows))
    (among_more was.entries.items c.push.new.self.items card items))

pub returns-in_ok-ok-in-TargetsGone : goal.returns-in_ok-ok-in-TargetsGone
returns-in_ok-ok-in-TargetsGone c = λ rows.
    let was = c.args.self.now in
    let card = c.in-TargetsGone.card in
    let items : c.push-in-TargetsGone.new.self.items ≡ was.targets.items ++ card ∷ [] = search rules in
    rw c.in-TargetsGone.is
    (rows_both Targets (is_among was.targets.items) (same_ref card) (is_among c.push-in-TargetsGone.new.self.items)
    (without_rows Card (is_among was.cards.items) (without_rows Entries (is_among was.entries.items) rows))
    (among_more was.targets.items c.push-in-TargetsGone.new.self.items card items))

pub returns-in_ok-ok-in-CardGone : goal.returns-in_ok-ok-in-CardGone
returns-in_ok-ok-in-CardGone c = λ rows.
    let was = c.args.self.now in
    let card = c.in-CardGone.card in
    let items : c.push-in-CardGone.new.self.items ≡ was.cards.items ++ card ∷ [] = search rules in
    rw c.in-CardGone.is
    (rows_both Card (is_among was.cards.items) (same_ref card) (is_among c.push-in-CardGone.new.self.items)
    (without_rows Targets (is_among was.targets.items) (without_rows Entries (is_among was.entries.items) rows))
    (among_more was.cards.items c.push-in-CardGone.new.self.items card items))
