-- The routes, and the one that a path has.
use Rattle.std.specs.Prelude.{ℕ, Bool, false, List, [], ◌∷◌, ◌++◌, codes, get_or, Option, Result, Ok, Err}
use Rattle.std.specs.Option.{is_none, option_map}
use Rattle.matchit.specs.Order.{placed}
use Rattle.matchit.specs.Route.{Scan, parse_route}
use Rattle.matchit.specs.Router.{RouteOf, nearest, route_from}
use Rattle.matchit.specs.Rows.{RowsOf}
use Rattle.matchit.specs.Seek.{first}
use Rattle.upd_wire.specs.Numbers.{number_of}
use Rattle.upd_text.specs.declared.fault.FaultKind.TheVariants.{BadName, BadCard, BadNumber, BadSite, BadMode}
use Rattle.upd_text.specs.Names.{card_of}
use Rattle.upd_text.specs.Outcome.{◌>>=◌}
use Rattle.upd_wire.specs.Calls.{Asked, run, settle, compile, deck, card, idents, yanks}
use Rattle.upd_wire.specs.Parameters.{name_of, or_refuse, parameter, text_of}
use Rattle.upd_wire.specs.declared.call.Refusal.{Refusal}
use Rattle.upd_wire.specs.declared.routes.Route.{Route}
use Rattle.upd_wire.specs.declared.routes.Route.TheVariants as route

-- the routes of a router with one more, where the text of a route has been read
abbrev pub with_scan : {E : Type 0} → Result Scan E → Route → RowsOf (RouteOf Route) → RowsOf (RouteOf Route)
with_scan (Ok scan) value rows = placed (scan.pattern, route_from scan value) rows
with_scan (Err e) value rows = rows

-- whether a route that has been read conflicts with none of these
abbrev pub is_clear : {E : Type 0} → Result Scan E → RowsOf (RouteOf Route) → Bool
is_clear (Ok scan) rows = is_none (nearest scan.pattern rows)
is_clear (Err e) rows = false

-- the routes of a router with one more, by its text
abbrev pub with_route : List ℕ → Route → RowsOf (RouteOf Route) → RowsOf (RouteOf Route)
with_route text value rows = with_scan (parse_route text) value rows

-- whether a text is a route's, and conflicts with none of these
abbrev pub is_free : List ℕ → RowsOf (RouteOf Route) → Bool
is_free text rows = is_clear (parse_route text) rows

-- how `matchit` writes each route
abbrev pub text_of_route : Route → List ℕ
text_of_route route.Run = codes "/sites/{site}/runs/{number}/{mode}"
text_of_route route.Settled = codes "/sites/{site}/settled/{number}"
text_of_route route.Compile = codes "/compile"
text_of_route route.Deck = codes "/decks/{name}"
text_of_route route.Card = codes "/cards/{ident}/{number}"
text_of_route route.Idents = codes "/idents"
text_of_route route.Yanks = codes "/yanks"

-- the routes of a router with this one, as it is written
abbrev pub with_text : Route → RowsOf (RouteOf Route) → RowsOf (RouteOf Route)
with_text route rows = with_route (text_of_route route) route rows

-- the router's routes
abbrev pub routes : RowsOf (RouteOf Route)
routes = with_text route.Yanks (with_text route.Idents (with_text route.Card (with_text route.Deck
    (with_text route.Compile (with_text route.Settled (with_text route.Run []))))))

-- the route of a path: the one that `matchit` finds among them
abbrev pub route_of : List ℕ → Option Route
route_of path = option_map (λ found. found.value) (first routes path)

-- the one method of a route
abbrev pub method_of : Route → List ℕ
method_of route.Run = codes "POST"
method_of route.Settled = codes "POST"
method_of route.Compile = codes "GET"
method_of route.Deck = codes "GET"
method_of route.Card = codes "GET"
method_of route.Idents = codes "GET"
method_of route.Yanks = codes "GET"

-- the parameters of a route by their names, each with its segment of the path
abbrev pub parameters_of : Route → List (List ℕ) → List (List ℕ × List ℕ)
parameters_of route.Run segments =
    (codes "site", get_or segments 2 []) ∷ (codes "number", get_or segments 4 []) ∷ (codes "mode", get_or segments 5 []) ∷ []
parameters_of route.Settled segments = (codes "site", get_or segments 2 []) ∷ (codes "number", get_or segments 4 []) ∷ []
parameters_of route.Compile segments = []
parameters_of route.Deck segments = (codes "name", get_or segments 2 []) ∷ []
parameters_of route.Card segments = (codes "ident", get_or segments 2 []) ∷ (codes "number", get_or segments 3 []) ∷ []
parameters_of route.Idents segments = []
parameters_of route.Yanks segments = []

-- What a route asks, by the segments of its path and the body. The leftmost parameter that is not valid gives the refusal.
abbrev pub call_of : Route → List (List ℕ) → List ℕ → Result Asked Refusal
call_of route.Run segments body = do
  site ← or_refuse BadSite (text_of (parameter segments 2))
  number ← or_refuse BadNumber (number_of (parameter segments 4))
  mode ← or_refuse BadMode (text_of (parameter segments 5))
  Ok (run site number mode body)
call_of route.Settled segments body = do
  site ← or_refuse BadSite (text_of (parameter segments 2))
  number ← or_refuse BadNumber (number_of (parameter segments 4))
  Ok (settle site number)
call_of route.Compile segments body = Ok compile
call_of route.Deck segments body = do
  name ← or_refuse BadName (name_of (parameter segments 2))
  Ok (deck name)
call_of route.Card segments body = do
  c ← or_refuse BadCard (card_of (parameter segments 2 ++ (46 ∷ parameter segments 3)))
  Ok (card c)
call_of route.Idents segments body = Ok idents
call_of route.Yanks segments body = Ok yanks
