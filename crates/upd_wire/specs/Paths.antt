-- The routes in plain words.
use Rattle.std.specs.Prelude.{◌≡◌, ℕ, ◌<◌, Bool, true, false, ◌&&◌, List, [], ◌∷◌, codes, Some}
use Rattle.std.specs.Str.{bytes_eq}
use Rattle.upd_wire.specs.Parameters.{segments_of}
use Rattle.upd_wire.specs.Routes.{route_of}
use Rattle.upd_wire.specs.declared.routes.Route.{Route}
use Rattle.upd_wire.specs.declared.routes.Route.TheVariants as route

-- A part of a route: a word, or a parameter, which takes any segment that is not empty.
pub data Part : Type 0 where
  word : List ℕ → Part
  any : Part

-- the parts of a route, beginning with the empty one before its first slash
abbrev pub parts_of : Route → List Part
parts_of route.Run = word [] ∷ word (codes "sites") ∷ any ∷ word (codes "runs") ∷ any ∷ any ∷ []
parts_of route.Settled = word [] ∷ word (codes "sites") ∷ any ∷ word (codes "settled") ∷ any ∷ []
parts_of route.Compile = word [] ∷ word (codes "compile") ∷ []
parts_of route.Deck = word [] ∷ word (codes "decks") ∷ any ∷ []
parts_of route.Card = word [] ∷ word (codes "cards") ∷ any ∷ any ∷ []
parts_of route.Idents = word [] ∷ word (codes "idents") ∷ []
parts_of route.Yanks = word [] ∷ word (codes "yanks") ∷ []

-- whether a segment is the word, or not empty
abbrev pub part_fits : Part → List ℕ → Bool
part_fits (word w) segment = bytes_eq w segment
part_fits any [] = false
part_fits any (b ∷ rest) = true

-- whether each segment fits its part
abbrev pub fits : List Part → List (List ℕ) → Bool
fits [] [] = true
fits [] (segment ∷ segments) = false
fits (part ∷ parts) [] = false
fits (part ∷ parts) (segment ∷ segments) = part_fits part segment && fits parts segments

-- bytes, one after the other
abbrev pub AreBytes : List ℕ → Type 0
AreBytes [] = Unit {0}
AreBytes (b ∷ path) = (b < 256) × AreBytes path

-- A path of bytes has a route exactly where its segments fit the parts of that route; so no path has two.
pub record ArePlain (path : List ℕ) (route : Route) : Type 0 where
  pub found : route_of path ≡ Some route → fits (parts_of route) (segments_of path) ≡ true
  pub only : fits (parts_of route) (segments_of path) ≡ true → route_of path ≡ Some route
