-- Frames are read as they are spelled, and where none begins none is read.
use Rattle.upd_wire.proofs.Common.{◌≡◌, ℕ, ◌+◌, ◌^◌, ◌<◌, ◌≤◌, ◌==◌, nat_lt, zero, suc, Bool, true, false, ◌&&◌, ◌||◌, List, [], ◌∷◌, ◌++◌, length, take}
use Rattle.upd_wire.proofs.Common.{drop, get_or, decimal, Option, Some, None, sym, ap, ap₂, ◌∙◌, refl, subst, arith, lit<, append_assoc, append-nil}
use Rattle.upd_wire.proofs.Common.{take-append-drop, and_parts, cond-true, eqb-true, false≢true, lt-ltb, ltb-true, or_right, nat_tests, common_steps}
use Rattle.upd_wire.proofs.Common.{length-take-le, list_any-append, drop-cons, take-append_seam, drop-append-add, ArrivalView, HeaderView, IsHeader, ◌>>=◌}
use Rattle.upd_wire.proofs.Common.{cut, header_text, where_true, no_lf, no_header, no_end, in_line, in_run, IsBad, IsCut, IsFrame, arrival_of}
use Rattle.upd_wire.specs.Header.{header_of}
use Rattle.upd_wire.proofs.Common.{frame_text, has_lf}
use Rattle.upd_wire.specs.Frames.{frame_of}
use Rattle.std.proofs.Common.{length-append}
use Rattle.std.proofs.lemmas.Bool.{and_from, eq-eqb}
use Rattle.upd_wire.specs.Frames.{header_for}
use Rattle.upd_wire.proofs.HeaderLemmas.{bind_then, bound, cut_behind, cut_whole, header_is_read, header_is_spelled, number_without, passes, word_without}

misses : {A : Type 0} (b : Bool) (x : A) → b ≡ false → where_true b x ≡ None
misses true x e = absurd (cc)
misses false x e = refl

none_behind : {A B : Type 0} (o : Option A) (f : A → Option B) → o ≡ None → (o >>= f) ≡ None
none_behind o f e = ap (λ (q : Option _). q >>= f) e

-- a text without LF begins no frame
pub no_lf_no_frame : (text : List ℕ) → has_lf text ≡ false → frame_of text ≡ None
unfolding frame_of
no_lf_no_frame text none = none_behind (cut 10 text) _ (misses _ _ none)

-- ---- LF

joined_without : (a b : List ℕ) → has_lf a ≡ false → has_lf b ≡ false → has_lf (a ++ 32 ∷ b) ≡ false
joined_without a b none1 none2 = list_any-append (λ c. c == 10) a (32 ∷ b) ∙ both _ _ none1 none2
  where
    both : (x y : Bool) → x ≡ false → y ≡ false → (x || (false || y)) ≡ false
    both x y e f = grind (arith, nat_tests)

pub header_has_no_lf : (h : HeaderView) → IsHeader h → has_lf (header_text h) ≡ false
header_has_no_lf h is =
    joined_without h.site _ (word_without 10 (lit< tt) h.site is.site) (joined_without (decimal h.number) _ (number_without 10 (lit< tt) h.number is.number)
    (joined_without h.mode _ (word_without 10 (lit< tt) h.mode is.mode) (number_without 10 (lit< tt) h.size (small is.size))))
  where
    small : h.size ≤ 65536 → h.size < 10 ^ 9
    small most = omega arith

-- what stands before the first LF, and behind it, is one
pub parted : (a b c d : List ℕ) → has_lf a ≡ false → has_lf c ≡ false → a ++ 10 ∷ b ≡ c ++ 10 ∷ d → (a ≡ c) × (b ≡ d)
parted a b c d none1 none2 e =
    let same : (let p : Option (List ℕ × List ℕ) = Some (a, b) in p) ≡ Some (c, d) = sym (cut_behind 10 a b none1) ∙ ap (cut 10) e ∙ cut_behind 10 c d none2 in
    (ap first same, ap second same)
  where
    first : Option (List ℕ × List ℕ) → List ℕ
    first (Some p) = p.0
    first None = []

    second : Option (List ℕ × List ℕ) → List ℕ
    second (Some p) = p.1
    second None = []

-- an LF that stands within the first bytes is among them
lf_within : (a b : List ℕ) (n : ℕ) → length a < n → has_lf (take n (a ++ 10 ∷ b)) ≡ true
lf_within a b zero short = absurd (omega arith)
lf_within [] b (suc n) short = refl
lf_within (x ∷ a) b (suc n) short = or_right (x == 10) _ (lf_within a b n (omega arith))

-- ---- frames

whole_text : (a : ArrivalView) (behind : List ℕ) → frame_text a ++ behind ≡ header_text (header_for a) ++ 10 ∷ (a.bytes ++ 10 ∷ behind)
whole_text a behind = append_assoc (header_text (header_for a)) (10 ∷ (a.bytes ++ 10 ∷ [])) behind
    ∙ ap (λ l. header_text (header_for a) ++ 10 ∷ l) (append_assoc a.bytes (10 ∷ []) behind)

at_seam : (bytes : List ℕ) (b : ℕ) (behind : List ℕ) → get_or (bytes ++ b ∷ behind) (length bytes) 0 ≡ b
at_seam [] b behind = refl
at_seam (x ∷ bytes) b behind = at_seam bytes b behind

pub frame_is_read : (a : ArrivalView) (behind : List ℕ) → IsFrame a → frame_of (frame_text a ++ behind) ≡ Some (a, behind)
unfolding frame_of
frame_is_read a behind is =
    ap frame_of (whole_text a behind)
    ∙ bound _ _ _ (cut_behind 10 (header_text (header_for a)) (a.bytes ++ 10 ∷ behind) (header_has_no_lf (header_for a) is))
    ∙ bound _ _ _ (header_is_read (header_for a) is)
    ∙ cond-true _ _ _ (tests a.bytes behind)
    ∙ parts _ _ (take-append_seam a.bytes (10 ∷ behind)) (drop-append-add a.bytes (10 ∷ behind) 1)
  where
    tests : (bytes behind : List ℕ) → (nat_lt (length bytes) (length (bytes ++ 10 ∷ behind)) && (get_or (bytes ++ 10 ∷ behind) (length bytes) 0 == 10)) ≡ true
    tests bytes behind = and_from _ _ (lt-ltb _ _ (simp length-append (omega arith))) (eq-eqb _ _ (at_seam bytes 10 behind))

    parts : (bytes rest : List ℕ) → bytes ≡ a.bytes → rest ≡ behind
        → (let p : Option (ArrivalView × List ℕ) = Some (arrival_of (header_for a) bytes, rest) in p) ≡ Some (a, behind)
    parts bytes rest e f = ap₂ (λ (x y : List ℕ). let p : Option (ArrivalView × List ℕ) = Some (arrival_of (header_for a) x, y) in p) e f

-- what stands before a place, the byte there, and what stands behind it
pub parted_at : (n : ℕ) (rest : List ℕ) (b : ℕ) → n < length rest → get_or rest n 0 ≡ b → rest ≡ take n rest ++ b ∷ drop (n + 1) rest
parted_at n rest b within is = grind (arith, common_steps, drop-cons rest n 0, take-append-drop n rest)

-- a header and as many bytes as it calls for are a frame
pub frame_made : (h : HeaderView) (bytes behind : List ℕ) → IsHeader h → length bytes ≡ h.size
    → IsFrame (arrival_of h bytes) × (header_text h ++ 10 ∷ (bytes ++ 10 ∷ behind) ≡ frame_text (arrival_of h bytes) ++ behind)
frame_made h bytes behind is all =
    let same : header_for (arrival_of h bytes) ≡ h =
    ap (λ n. let k : HeaderView = record { site = h.site; number = h.number; mode = h.mode; size = n } in k) all in
    (subst IsHeader (sym same) is, ap (λ k. header_text k ++ 10 ∷ (bytes ++ 10 ∷ behind)) (sym same) ∙ sym (whole_text (arrival_of h bytes) behind))

pub frame_is_spelled : (text behind : List ℕ) (a : ArrivalView) → frame_of text ≡ Some (a, behind) → IsFrame a × (text ≡ frame_text a ++ behind)
unfolding frame_of
frame_is_spelled text behind a e =
    bind_then _ _ _ _ e (λ line e1 q1. bind_then _ _ _ _ q1 (λ h e2 q2.
    of line.0 line.1 h (cut_whole 10 text line e1) (header_is_spelled line.0 h e2) (passes _ _ _ q2)))
  where
    to : (found : ArrivalView × List ℕ) → found ≡ (a, behind) → IsFrame found.0 × (text ≡ frame_text found.0 ++ found.1)
        → IsFrame a × (text ≡ frame_text a ++ behind)
    to found e is = subst (λ (p : ArrivalView × List ℕ). IsFrame p.0 × (text ≡ frame_text p.0 ++ p.1)) e is

    of : (line rest : List ℕ) (h : HeaderView) → text ≡ line ++ 10 ∷ rest → IsHeader h × (line ≡ header_text h)
        → ((nat_lt h.size (length rest) && (get_or rest h.size 0 == 10)) ≡ true)
        × ((let p : ArrivalView × List ℕ = (arrival_of h (take h.size rest), drop (h.size + 1) rest) in p) ≡ (a, behind))
        → IsFrame a × (text ≡ frame_text a ++ behind)
    of line rest h whole spelled found =
        let tests = and_parts _ _ found.0 in
        let within : h.size < length rest = ltb-true _ _ tests.0 in
        let last : get_or rest h.size 0 ≡ 10 = eqb-true _ _ tests.1 in
        let made = frame_made h (take h.size rest) (drop (h.size + 1) rest) spelled.0 (length-take-le h.size rest (omega arith)) in
        to _ found.1 (made.0, whole ∙ ap₂ (λ (x y : List ℕ). x ++ 10 ∷ y) spelled.1 (parted_at h.size rest 10 within last) ∙ made.1)

-- ---- where none begins

none_unless : {A : Type 0} (o : Option A) → ((x : A) → o ≡ Some x → ⊥) → o ≡ None
none_unless (Some x) not = absurd (not x refl)
none_unless None not = refl

no_frame : (text : List ℕ) → ((a : ArrivalView) (behind : List ℕ) → IsFrame a → text ≡ header_text (header_for a) ++ 10 ∷ (a.bytes ++ 10 ∷ behind) → ⊥)
    → frame_of text ≡ None
no_frame text not = none_unless (frame_of text) (λ found e. of found.0 found.1 (frame_is_spelled text found.1 found.0 e))
  where
    of : (a : ArrivalView) (behind : List ℕ) → IsFrame a × (text ≡ frame_text a ++ behind) → ⊥
    of a behind is = not a behind is.0 (is.1 ∙ whole_text a behind)

same_front : (a b c d : List ℕ) → length a ≡ length c → a ++ b ≡ c ++ d → b ≡ d
same_front [] b [] d same e = e
same_front [] b (y ∷ c) d same e = absurd (omega (arith, same))
same_front (x ∷ a) b [] d same e = absurd (omega (arith, same))
same_front (x ∷ a) b (y ∷ c) d same e = same_front a b c d (omega (arith, same)) (ap (drop 1) e)

-- a header and what stands behind it, which begins with no run
no_frame_behind : (h : HeaderView) (rest : List ℕ) → IsHeader h
    → ((bytes behind : List ℕ) → length bytes ≡ h.size → rest ≡ bytes ++ 10 ∷ behind → ⊥) → frame_of (header_text h ++ 10 ∷ rest) ≡ None
no_frame_behind h rest is not =
    no_frame _ (λ a behind frame e. of a behind frame (parted _ _ _ _ (header_has_no_lf h is) (header_has_no_lf (header_for a) frame) e))
  where
    some_is : (x y : HeaderView) → Some x ≡ Some y → x ≡ y
    some_is x y e = cc

    of : (a : ArrivalView) (behind : List ℕ) → IsFrame a → (header_text h ≡ header_text (header_for a)) × (rest ≡ a.bytes ++ 10 ∷ behind) → ⊥
    of a behind frame (same, e) =
        let header : h ≡ header_for a =
        some_is _ _ (sym (header_is_read h is) ∙ ap header_of same ∙ header_is_read (header_for a) frame) in
        not a.bytes behind (ap (λ (k : HeaderView). k.size) (sym header)) e

pub bad_is_no_frame : (text : List ℕ) → IsBad text → frame_of text ≡ None
bad_is_no_frame text (no_lf many none) = no_frame text (λ a behind frame e.
    absurd (false≢true (sym none ∙ ap (λ l. has_lf (take 64 l)) e ∙ lf_within (header_text (header_for a)) (a.bytes ++ 10 ∷ behind) 64 (short frame.fits))))
  where
    short : {n : ℕ} → n ≤ 63 → n < 64
    short {n} h = omega arith
bad_is_no_frame text (no_header line behind none is e) = no_frame text (λ a later frame f.
    of a frame (parted line behind _ _ none (header_has_no_lf (header_for a) frame) (sym e ∙ f)).0)
  where
    of : (a : ArrivalView) → IsFrame a → line ≡ header_text (header_for a) → ⊥
    of a frame same = let both : None ≡ Some (header_for a) = sym is ∙ ap header_of same ∙ header_is_read (header_for a) frame in absurd (cc)
bad_is_no_frame text (no_end h run b behind is all other e) =
    ap frame_of e ∙ no_frame_behind h (run ++ b ∷ behind) is (λ bytes later size f.
    other (ap (λ l. get_or l 0 0) (same_front run (b ∷ behind) bytes (10 ∷ later) (all ∙ sym size) f)))

pub cut_is_no_frame : (text : List ℕ) → IsCut text → frame_of text ≡ None
cut_is_no_frame text (in_line some short none) = no_lf_no_frame text none
cut_is_no_frame text (in_run h front is short e) =
    ap frame_of e ∙ no_frame_behind h front is (λ bytes behind size f. longer bytes behind size (ap length f))
  where
    longer : (bytes behind : List ℕ) → length bytes ≡ h.size → length front ≡ length (bytes ++ 10 ∷ behind) → ⊥
    longer bytes behind size e = absurd (omega (arith, short, size, e, length-append bytes (10 ∷ behind)))

-- no frame is the beginning of another
pub no_prefix : (a b : ArrivalView) (behind : List ℕ) → IsFrame a → IsFrame b → frame_text b ≡ frame_text a ++ behind → a ≡ b
no_prefix a b behind is1 is2 e =
    let both : (let p : Option (ArrivalView × List ℕ) = Some (a, behind) in p) ≡ Some (b, []) =
    sym (frame_is_read a behind is1) ∙ ap frame_of (sym e ∙ sym (append-nil (frame_text b))) ∙ frame_is_read b [] is2 in
    ap (λ o. first o) both
  where
    first : Option (ArrivalView × List ℕ) → ArrivalView
    first (Some p) = p.0
    first None = a
