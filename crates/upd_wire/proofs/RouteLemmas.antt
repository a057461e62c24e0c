-- The router's routes in plain words.
use Rattle.upd_wire.proofs.Common.{◌≡◌, inl, inr, ℕ, suc, List, [], ◌∷◌, ◌++◌, length, drop, map, get_or, Option, Some, None, Bool, true, false, ◌&&◌}
use Rattle.upd_wire.proofs.Common.{if◌then◌else◌, ltb, ◌==◌, refl, sym, ap, ap₂, ◌∙◌, subst, arith, codes, option_map, and_parts, false≢true, ltb-true}
use Rattle.upd_wire.proofs.Common.{bytes_eq-Decides, IsUtf8-from_is_utf8, zip, IsUtf8, bytes_eq, AllText, part_of, walk, RouteOf, RowsOf, first}
use Rattle.std.specs.Str.{is_utf8}
use Rattle.upd_wire.proofs.Common.{segments_of, AreBytes, Part, word, fits, part_fits, parameters_of, routes, Route}
use Rattle.std.proofs.Common.{Fits, w8}
use Rattle.std.specs.Str.{chars}
use Rattle.matchit.proofs.OnLiterals.{matchit_on_literals}
use Rattle.upd_wire.specs.Paths.{ArePlain, parts_of}
use Rattle.upd_wire.specs.Routes.{route_of}
use Rattle.upd_wire.specs.declared.routes.Route.TheVariants as route
use Rattle.upd_wire.proofs.CaptureLemmas.{captures_taken, parameter_count, taken}
use Rattle.upd_wire.proofs.PathLemmas.{are_words, path_goes, tails, tails_are_plain}
use Rattle.upd_wire.proofs.SeekLemmas.{AllPlain, Finds, Has, goes, seek_finds}
use Rattle.upd_wire.proofs.PathSegmentLemmas.{segments_are_text, segments_spell_path, spell}

-- the parts of a route after its first slash
abbrev steps : Route → List Part
steps r = drop 1 (parts_of r)

-- ---- rows and routes

-- what is seen of a row, and what its route says of that
abbrev View : Type 0
View = List ℕ × List ℕ × Bool × ℕ × List (List ℕ × List ℕ)

abbrev view_of : List ℕ → RouteOf Route → List (List ℕ) → View
view_of t k segments =
    (t, k.pattern, ltb (length k.pattern) 256, length k.names, zip (map (λ (n : ℕ × ℕ). part_of k.text n.0 n.1) k.names) (taken segments 1 (steps k.value)))

abbrev view_by : Route → List (List ℕ) → View
view_by r segments = (tails (steps r), tails (steps r), true, parameter_count (steps r), parameters_of r segments)

abbrev IsRoute : List ℕ → RouteOf Route → Type 0
IsRoute t k = (segments : List (List ℕ)) → view_of t k segments ≡ view_by k.value segments

abbrev AreRoutes : RowsOf (RouteOf Route) → Type 0
AreRoutes [] = Unit {0}
AreRoutes ((t, k) ∷ rows) = IsRoute t k × AreRoutes rows

are_routes : AreRoutes routes
unfolding matchit_on_literals
are_routes = (λ s. refl, (λ s. refl, (λ s. refl, (λ s. refl, (λ s. refl, (λ s. refl, (λ s. refl, tt)))))))

has_route : (t : List ℕ) (key : RouteOf Route) (rows : RowsOf (RouteOf Route)) → AreRoutes rows → Has t key rows → IsRoute t key
has_route t key [] are has = absurd has
has_route t key ((u, k) ∷ rows) (is, are) (inl (row, same)) = subst (λ l. IsRoute l key) row (subst (IsRoute u) same is)
has_route t key ((u, k) ∷ rows) (is, are) (inr has) = has_route t key rows are has

misses_value : (g : List ℕ → Bool) → Finds g routes None → (r : Route) → g (tails (steps r)) ≡ false
unfolding matchit_on_literals
misses_value g misses route.Run = misses _ _ (inr (inr (inr (inr (inl (refl, refl))))))
misses_value g misses route.Settled = misses _ _ (inr (inr (inr (inr (inr (inl (refl, refl)))))))
misses_value g misses route.Compile = misses _ _ (inr (inl (refl, refl)))
misses_value g misses route.Deck = misses _ _ (inr (inr (inl (refl, refl))))
misses_value g misses route.Card = misses _ _ (inl (refl, refl))
misses_value g misses route.Idents = misses _ _ (inr (inr (inr (inl (refl, refl)))))
misses_value g misses route.Yanks = misses _ _ (inr (inr (inr (inr (inr (inr (inl (refl, refl))))))))

-- a route begins with a slash
begins : (r : Route) → (parts_of r ≡ word [] ∷ steps r) × (are_words (steps r) ≡ true)
begins route.Run = (refl, refl)
begins route.Settled = (refl, refl)
begins route.Compile = (refl, refl)
begins route.Deck = (refl, refl)
begins route.Card = (refl, refl)
begins route.Idents = (refl, refl)
begins route.Yanks = (refl, refl)

rows_are_plain : AllPlain routes
rows_are_plain t key has =
    let row : t ≡ tails (steps key.value) = ap (λ (v : View). v.0) (has_route t key routes are_routes has []) in
    rw row (tails_are_plain (steps key.value) (begins key.value).1).0

route_goes : (r : Route) (path : List ℕ) → goes (tails (steps r)) path ≡ fits (parts_of r) (segments_of path)
route_goes r path =
    let (begin, are) = begins r in
    path_goes (steps r) are path ∙ sym (ap (λ parts. fits parts (segments_of path)) begin)

-- ---- no path fits two routes

length_fits : (parts : List Part) (segments : List (List ℕ)) → fits parts segments ≡ true → length segments ≡ length parts
length_fits [] [] is = refl
length_fits [] (s ∷ segments) is = absurd (false≢true is)
length_fits (part ∷ parts) [] is = absurd (false≢true is)
length_fits (part ∷ parts) (s ∷ segments) is = ap suc (length_fits parts segments (and_parts (part_fits part s) (fits parts segments) is).1)

second_fits : (part : Part) (w : List ℕ) (parts : List Part) (segments : List (List ℕ)) → fits (part ∷ word w ∷ parts) segments ≡ true → get_or segments 1 []
    ≡ w
second_fits part w parts [] is = absurd (false≢true is)
second_fits part w parts (s ∷ []) is = absurd (false≢true (and_parts (part_fits part s) false is).1)
second_fits part w parts (s ∷ t ∷ segments) is =
    let (here, later) = and_parts (part_fits part s) (bytes_eq w t && fits parts segments) is in
    sym ((bytes_eq-Decides w t).0 (and_parts (bytes_eq w t) (fits parts segments) later).0)

-- the route of a number of segments and the second of them
route_by : ℕ → List ℕ → Route
route_by n w =
    if n == 6 then route.Run
    else (if n == 5 then route.Settled
    else (if n == 4 then route.Card
    else (if n == 3 then route.Deck
    else (if bytes_eq w (codes "compile") then route.Compile
    else (if bytes_eq w (codes "idents") then route.Idents else route.Yanks)))))

by_second : (r : Route) (w : List ℕ) → parts_of r ≡ word [] ∷ word w ∷ drop 2 (parts_of r) → route_by (length (parts_of r)) w ≡ r
    → (segments : List (List ℕ)) → fits (parts_of r) segments ≡ true → route_by (length segments) (get_or segments 1 []) ≡ r
by_second r w is by segments fit =
    ap₂ route_by (length_fits (parts_of r) segments fit) (second_fits (word []) w (drop 2 (parts_of r)) segments (sym (ap (λ l. fits l segments) is) ∙ fit))
    ∙ by

fits_by : (r : Route) (segments : List (List ℕ)) → fits (parts_of r) segments ≡ true → route_by (length segments) (get_or segments 1 []) ≡ r
unfolding route_by
fits_by route.Run = by_second route.Run (codes "sites") refl refl
fits_by route.Settled = by_second route.Settled (codes "sites") refl refl
fits_by route.Compile = by_second route.Compile (codes "compile") refl refl
fits_by route.Deck = by_second route.Deck (codes "decks") refl refl
fits_by route.Card = by_second route.Card (codes "cards") refl refl
fits_by route.Idents = by_second route.Idents (codes "idents") refl refl
fits_by route.Yanks = by_second route.Yanks (codes "yanks") refl refl

one_fits : (r q : Route) (segments : List (List ℕ)) → fits (parts_of r) segments ≡ true → fits (parts_of q) segments ≡ true → r ≡ q
one_fits r q segments one other = sym (fits_by r segments one) ∙ fits_by q segments other

-- the row that a path goes by
found_fits : (path : List ℕ) (k : RouteOf Route) → Finds (λ t. goes t path) routes (Some k)
    → (t : List ℕ) × IsRoute t k × (fits (parts_of k.value) (segments_of path) ≡ true)
found_fits path k (t, has, passes) =
    let is = has_route t k routes are_routes has in
    (t, is, sym (route_goes k.value path) ∙ (ap (λ t. goes t path) (sym (ap (λ (v : View). v.0) (is []))) ∙ passes))

pub plain : (path : List ℕ) → AreBytes path → (r : Route) → ArePlain path r
plain path bytes r = by (first routes path) refl (seek_finds path bytes routes rows_are_plain)
  where
    by : (answer : Option (RouteOf Route)) → first routes path ≡ answer → Finds (λ t. goes t path) routes answer → ArePlain path r
    by None is misses =
        let none : route_of path ≡ None = ap (option_map (λ (k : RouteOf Route). k.value)) is in
        record {
          found = λ e. absurd (cc);
          only = λ e. absurd (false≢true (sym (misses_value (λ t. goes t path) misses r) ∙ (route_goes r path ∙ e)));
        }
    by (Some k) is hit =
        let value : route_of path ≡ Some k.value = ap (option_map (λ (k : RouteOf Route). k.value)) is in
        let (t, row, it_fits) = found_fits path k hit in
        record {
          found = λ e.
              let same : k.value ≡ r = cc in
              subst (λ (q : Route). fits (parts_of q) (segments_of path) ≡ true) same it_fits;
          only = λ e. value ∙ ap Some (one_fits k.value r (segments_of path) it_fits e);
        }

-- ---- parameters

pub captures_are_parameters : (path : List ℕ) → AreBytes path → (k : RouteOf Route) → first routes path ≡ Some k
    → walk k.pattern k.text path k.names 0 0 ≡ parameters_of k.value (segments_of path)
captures_are_parameters path bytes k found =
    let (t, is, fit) = found_fits path k (subst (Finds (λ t. goes t path) routes) found (seek_finds path bytes routes rows_are_plain)) in
    let (begin, are) = begins k.value in
    let (s, more, split, whole, none, rest) = segments_spell_path path in
    let fit' : (bytes_eq [] s && fits (steps k.value) more) ≡ true = sym (ap₂ fits begin split) ∙ fit in
    let (empty, fit'') = and_parts (bytes_eq [] s) (fits (steps k.value) more) fit' in
    let spelled : path ≡ spell more = whole ∙ ap (λ l. l ++ spell more) (sym ((bytes_eq-Decides [] s).0 empty)) in
    let view = is (segments_of path) in
    let short = ltb-true (length k.pattern) 256 (ap (λ (v : View). v.2) view) in
    captures_taken k.pattern k.text path (segments_of path) (steps k.value) more k.names 1 0 0 short are (ap (λ (v : View). v.3) view) fit'' rest
    (ap (drop 1) split) (ap (λ (v : View). v.1) view) spelled ∙ ap (λ (v : View). v.4) view

pub parameters_are_text : (r : Route) (path : List ℕ) → IsUtf8 path → AllText (parameters_of r (segments_of path))
unfolding is_utf8 chars lib.Utf8.encode
parameters_are_text r path text = by r
  where
    segment : (i : ℕ) → IsUtf8 (get_or (segments_of path) i [])
    segment = segments_are_text path text

    name : (bytes : List ℕ) → is_utf8 bytes ≡ true → IsUtf8 bytes
    name = IsUtf8-from_is_utf8

    by : (r : Route) → AllText (parameters_of r (segments_of path))
    by route.Run = (name (codes "site") refl, segment 2, (name (codes "number") refl, segment 4, (name (codes "mode") refl, segment 5, tt)))
    by route.Settled = (name (codes "site") refl, segment 2, (name (codes "number") refl, segment 4, tt))
    by route.Compile = tt
    by route.Deck = (name (codes "name") refl, segment 2, tt)
    by route.Card = (name (codes "ident") refl, segment 2, (name (codes "number") refl, segment 3, tt))
    by route.Idents = tt
    by route.Yanks = tt

pub are_bytes : (path : List ℕ) → ((i : ℕ) → Fits w8 (get_or path i 0)) → AreBytes path
are_bytes [] fit = tt
are_bytes (b ∷ path) fit = (omega (arith, fit 0), are_bytes path (λ i. fit (suc i)))
