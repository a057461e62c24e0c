-- All texts of a reply are plain: sites, words for modes, names of idents and compile files.
use Rattle.upd_desk.proofs.Common.{◌≡◌, ℕ, ◌==◌, nat_le, length, Bool, true, false, ◌&&◌, ◌||◌, IsTrue, List, [], ◌∷◌, map, codes, Some, Ok, refl, ap, sym}
use Rattle.upd_desk.proofs.Common.{◌∙◌, subst, arith, AllByRecursion, bytes_eq, nat_tests, LibraryView, name_of, Mode, FileView, compile_file_of, mode_named}
use Rattle.upd_desk.proofs.Common.{and_right, AreShown, accepted_text, is_shown, is_site, ArrivalView, check_arrival, IsMade, Compiled, compiled, same_bytes}
use Rattle.std.specs.List.{list_all}
use Rattle.upd_text.specs.Names.{is_name}
use Rattle.upd_core.specs.declared.ident.Ident.{Ident}
use Rattle.upd_deck.specs.Reading.{is_allowed}
use Rattle.upd_deck.proofs.GrammarNames.{all_of}
use Rattle.upd_laws.specs.ReadRuns.{HasLineTexts}
use Rattle.upd_laws.proofs.CompileLineLemmas.{file_plain, name_of_plain}
use Rattle.upd_laws.proofs.SoundListLemmas.{all_weaker}
use Rattle.upd_text.specs.Keys.{is_site_byte}
use Rattle.upd_desk.proofs.MadeLemmas.{accepted, accepted_made, passed}

pub site_shown : (site : List ℕ) → is_site site ≡ true → AreShown site
site_shown site is = all_weaker (λ b. is_site_byte b ≡ true) (λ b. IsTrue (is_shown b)) site one (all_of is_site_byte site bytes)
  where
    bytes : list_all is_site_byte site ≡ true
    bytes = and_right (nat_le 1 (length site) && nat_le (length site) 8) (list_all is_site_byte site) is

    one : (b : ℕ) → is_site_byte b ≡ true → is_shown b ≡ true
    one b is = grind (arith, nat_tests)

pub word_shown : (word : List ℕ) (mode : Mode) → mode_named word ≡ Some mode → AreShown word
word_shown word mode named = full (bytes_eq word (codes "full")) refl
  where
    other : (spelled : List ℕ) → AreShown spelled → bytes_eq word spelled ≡ true → AreShown word
    other spelled shown e = subst AreShown (sym (same_bytes word spelled e)) shown

    normal : (b : Bool) → bytes_eq word (codes "normal") ≡ b → bytes_eq word (codes "full") ≡ false → bytes_eq word (codes "quick") ≡ false → AreShown word
    normal true e f g = other (codes "normal") (refl, (refl, (refl, (refl, (refl, (refl, tt)))))) e
    normal false e f g = absurd (let none = rw (f, g, e) at named in cc)

    quick : (b : Bool) → bytes_eq word (codes "quick") ≡ b → bytes_eq word (codes "full") ≡ false → AreShown word
    quick true e f = other (codes "quick") (refl, (refl, (refl, (refl, (refl, tt))))) e
    quick false e f = normal (bytes_eq word (codes "normal")) refl f e

    full : (b : Bool) → bytes_eq word (codes "full") ≡ b → AreShown word
    full true e = other (codes "full") (refl, (refl, (refl, (refl, tt)))) e
    full false e = quick (bytes_eq word (codes "quick")) refl e

plain_shown : (b : ℕ) → IsTrue (is_allowed b || (b == 10)) → is_shown b ≡ true
plain_shown b is = grind (arith, nat_tests)

pub file_shown : (mode : Mode) (named : List ℕ) (before after : LibraryView) (file : FileView) → HasLineTexts after
    → compile_file_of mode named before after ≡ Ok file → AreShown file.bytes
file_shown mode named before after file made h =
    all_weaker (λ b. IsTrue (is_allowed b || (b == 10))) (λ b. IsTrue (is_shown b)) file.bytes plain_shown (file_plain mode named before after file made h)

pub names_shown : (idents : List Ident) (ages : List ℕ) → AllByRecursion (λ i. IsTrue (is_name i.name)) idents
    → AllByRecursion AreShown (map (name_of idents) ages)
names_shown idents [] named = tt
names_shown idents (z ∷ ages) named = (
  all_weaker (λ b. IsTrue (is_allowed b || (b == 10))) (λ b. IsTrue (is_shown b)) (name_of idents z) plain_shown (name_of_plain idents z named),
  names_shown idents ages named,
)

-- All texts of the reply to an accepted run.
pub record AreAllShown (a : ArrivalView) (done : Compiled) : Type 0 where
  pub site : AreShown a.site
  pub word : AreShown a.mode
  pub idents : AllByRecursion AreShown (map (name_of done.reached.library.idents) done.reached.idents)
  pub file : AreShown done.file.bytes

pub all_shown : (mode : Mode) (a : ArrivalView) (l : LibraryView) (done : Compiled) → IsMade l → check_arrival a ≡ Ok mode → compiled mode a.bytes l ≡ Ok done
    → AreAllShown a done
all_shown mode a l done made entered h =
    let through = passed a mode entered in
    let left = accepted_made mode a.bytes l done made h in
    let run = accepted mode a.bytes l done h in
    record {
      site = site_shown a.site through.site;
      word = word_shown a.mode mode through.word;
      idents = names_shown done.reached.library.idents done.reached.idents left.texts.names;
      file = file_shown mode done.reached.compile l done.reached.library done.file left.texts run.file;
    }

-- a text is the reply where it is written from the same parts
pub written : (done : Compiled) (a b : ArrivalView) (idents : List (List ℕ)) (file : List ℕ) (n : ℕ) (text : List ℕ) → a ≡ b
    → idents ≡ map (name_of done.reached.library.idents) done.reached.idents → file ≡ done.file.bytes → n ≡ done.file.lines → AreAllShown b done
    → (AreShown a.site → AreShown a.mode → AllByRecursion AreShown idents → AreShown file → text ≡ accepted_text a.site a.number a.mode idents file n)
    → text ≡ accepted_text b.site b.number b.mode (map (name_of done.reached.library.idents) done.reached.idents) done.file.bytes done.file.lines
written done a b idents file n text same names bytes lines shown is =
    is (subst (λ (x : ArrivalView). AreShown x.site) (sym same) shown.site) (subst (λ (x : ArrivalView). AreShown x.mode) (sym same) shown.word)
    (subst (AllByRecursion AreShown) (sym names) shown.idents) (subst AreShown (sym bytes) shown.file)
    ∙ ap (λ (x : ArrivalView). accepted_text x.site x.number x.mode idents file n) same
    ∙ ap (λ i. accepted_text b.site b.number b.mode i file n) names
    ∙ ap (λ f. accepted_text b.site b.number b.mode (map (name_of done.reached.library.idents) done.reached.idents) f n) bytes
    ∙ ap (λ m. accepted_text b.site b.number b.mode (map (name_of done.reached.library.idents) done.reached.idents) done.file.bytes m) lines
