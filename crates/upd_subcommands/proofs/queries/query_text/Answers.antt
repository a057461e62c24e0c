use Rattle.upd_words.specs.declared.querying.Query.TheVariants.{Deck, Card, Idents, Yanks, Show, Runs, Sites, View}
use Rattle.upd_views.specs.RunLines.{IsRunList}
use Rattle.upd_views.specs.SiteLines.{AreSiteLines}
use Rattle.upd_subcommands.proofs.QueryAnswers.{answered_as, seen_rows}
use Rattle.upd_subcommands.proofs.queries.query_text.Goals as goal

pub returns-in-Deck : goal.returns-in-Deck
returns-in-Deck g c =
    answered_as (λ text. text.items) c.deck_list.result c.args.query.now (Deck c.in-Deck.name) c.args.desk.now.store c.deck_list.new.self.store c.in-Deck.is
    c.deck_list.ensures.text c.deck_list.ensures.leaves.same c.deck_list.ensures.leaves.failed

pub returns-in-Card : goal.returns-in-Card
returns-in-Card g c =
    answered_as (λ text. text.items) c.card_list.result c.args.query.now (Card c.in-Card.card) c.args.desk.now.store c.card_list.new.self.store c.in-Card.is
    c.card_list.ensures.text c.card_list.ensures.leaves.same c.card_list.ensures.leaves.failed

pub returns-in-Idents : goal.returns-in-Idents
returns-in-Idents g c =
    answered_as (λ text. text.items) c.ident_list.result c.args.query.now Idents c.args.desk.now.store c.ident_list.new.self.store c.in-Idents.is
    c.ident_list.ensures.text c.ident_list.ensures.leaves.same c.ident_list.ensures.leaves.failed

pub returns-in-Yanks : goal.returns-in-Yanks
returns-in-Yanks g c =
    answered_as (λ text. text.items) c.yank_list.result c.args.query.now Yanks c.args.desk.now.store c.yank_list.new.self.store c.in-Yanks.is
    c.yank_list.ensures.text c.yank_list.ensures.leaves.same c.yank_list.ensures.leaves.failed

pub returns-in-Show : goal.returns-in-Show
returns-in-Show g c =
    answered_as (λ text. text.items) c.show_at.result c.args.query.now (Show c.in-Show.name) c.args.desk.now.store c.show_at.new.desk.store c.in-Show.is
    c.show_at.ensures.text c.show_at.ensures.same c.show_at.ensures.failed

pub returns-in-Runs : goal.returns-in-Runs
returns-in-Runs g c =
    answered_as (λ text. text.items) c.runs_at.result c.args.query.now Runs c.args.desk.now.store c.runs_at.new.desk.store c.in-Runs.is
    (seen_rows g.S.Meaning (λ text. text.items) (λ rows text. IsRunList rows.runs text) c.runs_at.result c.args.desk.now.store c.runs_at.new.desk.store
    c.runs_at.ensures.lines c.runs_at.ensures.lost)
    c.runs_at.ensures.same c.runs_at.ensures.failed

pub returns-in-Sites : goal.returns-in-Sites
returns-in-Sites g c =
    answered_as (λ text. text.items) c.sites_at.result c.args.query.now Sites c.args.desk.now.store c.sites_at.new.desk.store c.in-Sites.is
    (seen_rows g.S.Meaning (λ text. text.items) (λ rows text. AreSiteLines rows.runs rows.settled text) c.sites_at.result c.args.desk.now.store
    c.sites_at.new.desk.store c.sites_at.ensures.lines c.sites_at.ensures.lost)
    c.sites_at.ensures.same c.sites_at.ensures.failed

pub returns-in-View : goal.returns-in-View
returns-in-View g c =
    answered_as (λ text. text.items) c.view_at.result c.args.query.now (View c.in-View.view) c.args.desk.now.store c.view_at.new.desk.store c.in-View.is
    c.view_at.ensures.text c.view_at.ensures.same c.view_at.ensures.failed
