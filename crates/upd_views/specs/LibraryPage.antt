-- A page of HTML that shows a library: its idents, the cards of its decks with their histories, and its yanks.
use Rattle.std.specs.Prelude.{Bool, ◌||◌, if◌then◌else◌, List, [], ◌∷◌, ◌++◌, codes}
use Rattle.std.specs.List.{flat_map, list_any}
use Rattle.upd_text.specs.Units.{Bytes}
use Rattle.upd_core.specs.declared.ident.Ident.{Ident}
use Rattle.upd_core.specs.declared.target.Target.{Target}
use Rattle.upd_core.specs.Library.{CardView, DeckView, LibraryView, all_decks}
use Rattle.upd_core.specs.Serials.{Serial}
use Rattle.upd_core.specs.Status.{is_active, live_targets}
use Rattle.upd_compile.specs.Listings.{deck_name, entry_line, ident_listing, line_of, target_line, yank_listing}
use Rattle.upd_views.specs.Blame.{blame_line}
use Rattle.upd_views.specs.Escaped.{begins, escaped}
use Rattle.upd_views.specs.declared.library_page.TheConstants.{PAGE_HEAD}

-- what the page begins with
unfoldable pub page_head : Bytes
page_head = PAGE_HEAD.now

-- whether a text has another in it
abbrev pub has_part : Bytes → Bytes → Bool
has_part [] part = begins [] part
has_part (b ∷ text) part = begins (b ∷ text) part || has_part text part

-- how HTML runs a script, or names what is outside of a page
abbrev pub outside_words : List Bytes
outside_words = codes "<script" ∷ codes "src=" ∷ codes "href=" ∷ codes "url(" ∷ codes "@import" ∷ codes "http" ∷ []

-- whether a text has a script, or names something outside of it
abbrev pub names_outside : Bytes → Bool
names_outside text = list_any (has_part text) outside_words

-- an escaped text between two fixed pieces
unfoldable pub element : Bytes → Bytes → Bytes → Bytes
element start text end = start ++ escaped text ++ end

-- a listing under a heading
unfoldable pub block : Bytes → Bytes → Bytes
block heading text = codes "<h2>" ++ heading ++ codes "</h2>\n" ++ element (codes "<pre>") text (codes "</pre>\n")

-- the history of a card, and what it takes if it is a yank card
abbrev pub history_lines : List Ident → List Target → Serial → CardView → Bytes
history_lines idents live deck c = flat_map (entry_line idents live deck) c.history ++ flat_map (target_line idents) c.targets

-- a card: who switched it last
unfoldable pub card_summary : List Ident → List Target → Serial → CardView → Bytes
card_summary idents live deck c =
    codes "<details class=\"" ++ (if is_active live deck c then codes "A" else codes "I") ++ codes "\">"
    ++ element (codes "<summary>") (blame_line idents live deck c) (codes "</summary>")

-- the same, and its history under that
unfoldable pub card_item : List Ident → List Target → Serial → CardView → Bytes
card_item idents live deck c =
    card_summary idents live deck c ++ element (codes "<pre>") (history_lines idents live deck c) (codes "</pre></details>\n")

-- a deck: its name
unfoldable pub deck_summary : List Ident → Serial → Bytes
deck_summary idents deck = element (codes "<details><summary>") (line_of (codes "DECK" ∷ deck_name idents deck ∷ [])) (codes "</summary>\n")

-- the same, and its cards under that
unfoldable pub deck_item : List Ident → List Target → DeckView → Bytes
deck_item idents live d = deck_summary idents d.ident ++ flat_map (card_item idents live d.ident) d.cards ++ codes "</details>\n"

-- what comes before the decks: the idents
unfoldable pub start_part : Bytes → Bytes
start_part idents = page_head ++ block (codes "Idents") idents ++ codes "<h2>Decks</h2>\n"

-- what comes after the decks: the yanks
unfoldable pub end_part : Bytes → Bytes
end_part yanks = block (codes "Yanks") yanks ++ codes "</body>\n</html>\n"

-- the page of a library
abbrev pub page : LibraryView → Bytes
page l =
    start_part (ident_listing l) ++ flat_map (deck_item l.idents (live_targets l)) (all_decks l) ++ end_part (yank_listing l)
