-- A line and its item as contracts see them.
use Rattle.upd_deck.specs.declared.item.Item.{Item}
use Rattle.upd_deck.specs.declared.item.Item.TheVariants as item
use Rattle.upd_deck.specs.declared.run.Line.TheInside.{Inside}
use Rattle.upd_deck.specs.Items.{ItemView, LineView, Text, Call, Ident, Deck, CommonDeck, Insert, Before, Delete, Restore, Yank, SelYank, YankDeck, Purge}
use Rattle.upd_deck.specs.Items.{PurgeFrom, SelPurge, PurDeck, Compile}

-- an item, its vectors seen as lists
abbrev pub seen : Item → ItemView
seen item.Text = Text
seen (item.Call name) = Call name
seen (item.Ident name) = Ident name
seen (item.Deck name) = Deck name
seen (item.CommonDeck name noprop) = CommonDeck name noprop
seen (item.Insert card) = Insert card
seen (item.Before card) = Before card
seen (item.Delete first last) = Delete first last
seen (item.Restore first last) = Restore first last
seen (item.Yank ranges) = Yank ranges.items
seen (item.SelYank pairs) = SelYank pairs.items
seen (item.YankDeck names) = YankDeck names.items
seen (item.Purge ranges) = Purge ranges.items
seen (item.PurgeFrom name) = PurgeFrom name
seen (item.SelPurge pairs) = SelPurge pairs.items
seen (item.PurDeck ranges) = PurDeck ranges.items
seen (item.Compile ranges) = Compile ranges.items

-- a line, its text seen as a list
abbrev pub line_seen : Inside → LineView
line_seen l = record { number = l.number; span = l.span; text = l.text.now; item = seen l.item }
