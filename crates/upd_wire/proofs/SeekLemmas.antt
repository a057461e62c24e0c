-- What a router finds: the one row that a path goes by, token for token.
use Rattle.upd_wire.proofs.Common.{◌≡◌, ◌⊎◌, inl, inr, ℕ, zero, suc, ◌-◌, ◌<◌, ◌≤◌, List, [], ◌∷◌, ◌++◌, length, drop, Option, Some, None, Bool, true, false}
use Rattle.upd_wire.proofs.Common.{cond, not, ◌&&◌, refl, sym, ap, ap₂, ◌∙◌, subst, arith, append-nil, ◌==◌, ltb, drop-append_seam, false≢true, nat_tests}
use Rattle.upd_wire.proofs.Common.{length-append, RowsOf, cuts, has_slash, segment, AreBytes}
use Rattle.std.proofs.Math.Seq.{drop-length}
use Rattle.matchit.specs.Seek.{better, longest_from, longest_suffix, or_else, own, param_step, same_text, seek, step, with_suffix}
use Rattle.upd_wire.proofs.PathSegmentLemmas.{HaveNoSlash, cut_at_slash, no_slash, rest_of, rest_spelled, segment_all, segment_whole, segments_spell_path}
use Rattle.upd_wire.proofs.PathSegmentLemmas.{slash_in, spell, uncut}

-- whether a path goes by tokens: a parameter takes all up to the next slash, and at least a byte
abbrev pub goes : List ℕ → List ℕ → Bool
goes [] [] = true
goes [] (b ∷ path) = false
goes (x ∷ tokens) [] = false
goes (x ∷ tokens) (b ∷ path) = cond (x == 256) (not (b == 47) && goes tokens (rest_of path)) ((x == b) && goes tokens path)

-- what may follow a parameter
abbrev pub Ends : List ℕ → Type 0
Ends [] = Unit {0}
Ends (x ∷ tokens) = x ≡ 47

-- tokens of words and parameters
abbrev pub IsPlain : List ℕ → Type 0
IsPlain [] = Unit {0}
IsPlain (x ∷ tokens) = (x ≤ 256) × (x ≡ 256 → Ends tokens) × IsPlain tokens

segment_tail : (x : ℕ) (t : List ℕ) → x ≡ 47 → segment (x ∷ t) ≡ 47 ∷ []
segment_tail x t is = rw is refl

module _ {K : Type 0} where
  -- these tokens and this key are a row
  abbrev pub Has : List ℕ → K → RowsOf K → Type 0
  Has t key [] = ⊥
  Has t key ((u, k) ∷ rows) = ((u ≡ t) × (k ≡ key)) ⊎ Has t key rows

  abbrev pub AllPlain : RowsOf K → Type 0
  AllPlain rows = (t : List ℕ) (key : K) → Has t key rows → IsPlain t

  abbrev AllEnd : RowsOf K → Type 0
  AllEnd rows = (t : List ℕ) (key : K) → Has t key rows → Ends t

  -- a row of the key passes, or none does
  abbrev pub Finds : (List ℕ → Bool) → RowsOf K → Option K → Type 0
  Finds g rows None = (t : List ℕ) (key : K) → Has t key rows → g t ≡ false
  Finds g rows (Some key) = (t : List ℕ) × Has t key rows × (g t ≡ true)

  own_finds : (rows : RowsOf K) → Finds (λ t. goes t []) rows (own rows)
  own_finds [] = λ t key has. absurd has
  own_finds (([], k) ∷ rows) = ([], inl (refl, refl), refl)
  own_finds ((x ∷ t, k) ∷ rows) = by (own rows) (own_finds rows)
    where
      miss : Finds (λ t. goes t []) rows None → (u : List ℕ) (key : K) → Has u key ((x ∷ t, k) ∷ rows) → goes u [] ≡ false
      miss none u key (inl (same, is)) = ap (λ l. goes l []) (sym same)
      miss none u key (inr has) = none u key has

      by : (answer : Option K) → Finds (λ t. goes t []) rows answer → Finds (λ t. goes t []) ((x ∷ t, k) ∷ rows) answer
      by None none = miss none
      by (Some key) (u, has, is) = (u, inr has, is)

  -- ---- rows after a token

  step_has : (b : ℕ) (t : List ℕ) (key : K) (rows : RowsOf K) → Has t key (step b rows) → Has (b ∷ t) key rows
  step_has b t key [] has = has
  step_has b t key (([], k) ∷ rows) has = inr (step_has b t key rows has)
  step_has b t key ((x ∷ u, k) ∷ rows) has = by (step_has b t key rows) (x == b) refl has
    where
      by : (Has t key (step b rows) → Has (b ∷ t) key rows) → (v : Bool) → (x == b) ≡ v → Has t key (cond v ((u, k) ∷ step b rows) (step b rows))
          → Has (b ∷ t) key ((x ∷ u, k) ∷ rows)
      by on true e (inl (same, is)) =
          let token : x ≡ b = grind (arith, nat_tests) in
          inl (ap₂ (λ y l. y ∷ l) token same, is)
      by on true e (inr has) = inr (on has)
      by on false e has = inr (on has)

  has_step : (b x : ℕ) → (x == b) ≡ true → (t : List ℕ) (key : K) (rows : RowsOf K) → Has (x ∷ t) key rows → Has t key (step b rows)
  has_step b x token t key [] has = has
  has_step b x token t key (([], k) ∷ rows) (inl (same, is)) = absurd (cc)
  has_step b x token t key (([], k) ∷ rows) (inr has) = has_step b x token t key rows has
  has_step b x token t key ((y ∷ u, k) ∷ rows) has = by (has_step b x token t key rows) (y == b) refl has
    where
      by : (Has (x ∷ t) key rows → Has t key (step b rows)) → (v : Bool) → (y == b) ≡ v → Has (x ∷ t) key ((y ∷ u, k) ∷ rows)
          → Has t key (cond v ((u, k) ∷ step b rows) (step b rows))
      by on true e (inl (same, is)) =
          let rest : u ≡ t = cc in
          inl (rest, is)
      by on true e (inr has) = inr (on has)
      by on false e (inl (same, is)) =
          let first : y ≡ x = cc in
          absurd (false≢true (sym e ∙ (ap (λ z. z == b) first ∙ token)))
      by on false e (inr has) = on has

  -- no route has a catch-all
  no_catch_all : (rows : RowsOf K) → AllPlain rows → step 257 rows ≡ []
  no_catch_all [] plain = refl
  no_catch_all (([], k) ∷ rows) plain = no_catch_all rows (λ u key has. plain u key (inr has))
  no_catch_all ((x ∷ t, k) ∷ rows) plain =
      let small : x ≤ 256 = (plain (x ∷ t) k (inl (refl, refl))).0 in
      let other : (x == 257) ≡ false = grind (arith, nat_tests) in
      rw other (no_catch_all rows (λ u key has. plain u key (inr has)))

  -- ---- rows with a suffix

  suffix_has : (s t : List ℕ) (key : K) (rows : RowsOf K) → Has t key (with_suffix s rows) → Has t key rows
  suffix_has s t key [] has = has
  suffix_has s t key ((u, k) ∷ rows) has = by (suffix_has s t key rows) (same_text (segment u) s) has
    where
      by : (Has t key (with_suffix s rows) → Has t key rows) → (v : Bool) → Has t key (cond v ((u, k) ∷ with_suffix s rows) (with_suffix s rows))
          → Has t key ((u, k) ∷ rows)
      by on true (inl is) = inl is
      by on true (inr has) = inr (on has)
      by on false has = inr (on has)

  has_suffix : (s t : List ℕ) (key : K) → same_text (segment t) s ≡ true → (rows : RowsOf K) → Has t key rows → Has t key (with_suffix s rows)
  has_suffix s t key ends [] has = has
  has_suffix s t key ends ((u, k) ∷ rows) has = by (has_suffix s t key ends rows) (same_text (segment u) s) refl has
    where
      by : (Has t key rows → Has t key (with_suffix s rows)) → (v : Bool) → same_text (segment u) s ≡ v → Has t key ((u, k) ∷ rows)
          → Has t key (cond v ((u, k) ∷ with_suffix s rows) (with_suffix s rows))
      by on true e (inl is) = inl is
      by on true e (inr has) = inr (on has)
      by on false e (inl (same, is)) = absurd (false≢true (sym e ∙ (ap (λ l. same_text (segment l) s) same ∙ ends)))
      by on false e (inr has) = on has

  suffix_finds : (q : List ℕ) (rows : RowsOf K) → AllEnd rows → (answer : Option K) → Finds (λ t. goes t (47 ∷ q)) (with_suffix (47 ∷ []) rows) answer
      → Finds (λ t. goes t (47 ∷ q)) rows answer
  suffix_finds q rows ends None none = miss
    where
      miss : (t : List ℕ) (key : K) → Has t key rows → goes t (47 ∷ q) ≡ false
      miss [] key has = refl
      miss (x ∷ t) key has =
          let is = segment_tail x t (ends (x ∷ t) key has) in
          none (x ∷ t) key (has_suffix (47 ∷ []) (x ∷ t) key (ap (λ s. same_text s (47 ∷ [])) is) rows has)
  suffix_finds q rows ends (Some key) (t, has, is) = (t, suffix_has (47 ∷ []) t key rows has, is)

  -- ---- how far a parameter goes

  -- whether something follows a parameter in some row
  abbrev any_tail : RowsOf K → Bool
  any_tail [] = false
  any_tail (([], k) ∷ rows) = any_tail rows
  any_tail ((x ∷ t, k) ∷ rows) = true

  no_tail : (t : List ℕ) (key : K) (rows : RowsOf K) → any_tail rows ≡ false → Has t key rows → t ≡ []
  no_tail t key [] none has = absurd has
  no_tail t key (([], k) ∷ rows) none (inl (same, is)) = sym same
  no_tail t key (([], k) ∷ rows) none (inr has) = no_tail t key rows none has
  no_tail t key ((x ∷ u, k) ∷ rows) none has = absurd (false≢true (sym none))

  longest_found : (seg : List ℕ) (rows : RowsOf K) → AllEnd rows → longest_from seg (47 ∷ []) rows ≡ 47 ∷ []
  longest_found seg [] ends = refl
  longest_found seg (([], k) ∷ rows) ends = longest_found seg rows (λ u key has. ends u key (inr has))
  longest_found seg ((x ∷ t, k) ∷ rows) ends =
      ap (λ s. longest_from seg (better seg (47 ∷ []) s) rows) (segment_tail x t (ends (x ∷ t) k (inl (refl, refl))))
      ∙ longest_found seg rows (λ u key has. ends u key (inr has))

  longest_is : (seg : List ℕ) (v : Bool) → cuts seg (47 ∷ []) ≡ v → (rows : RowsOf K) → AllEnd rows → longest_suffix seg rows
      ≡ cond (v && any_tail rows) (47 ∷ []) []
  longest_is seg true cut [] ends = refl
  longest_is seg false cut [] ends = refl
  longest_is seg v cut (([], k) ∷ rows) ends = longest_is seg v cut rows (λ u key has. ends u key (inr has))
  longest_is seg true cut ((x ∷ t, k) ∷ rows) ends =
      ap (λ s. longest_from seg (better seg [] s) rows) (segment_tail x t (ends (x ∷ t) k (inl (refl, refl))))
      ∙ (ap (λ v. longest_from seg (cond (true && v) (47 ∷ []) []) rows) cut ∙ longest_found seg rows (λ u key has. ends u key (inr has)))
  longest_is seg false cut ((x ∷ t, k) ∷ rows) ends =
      ap (λ s. longest_from seg (better seg [] s) rows) (segment_tail x t (ends (x ∷ t) k (inl (refl, refl))))
      ∙ (ap (λ v. longest_from seg (cond (true && v) (47 ∷ []) []) rows) cut ∙ longest_is seg false cut rows (λ u key has. ends u key (inr has)))

  param_is : (path : List ℕ) (rows : RowsOf K) (seg longest : List ℕ) (v : Bool) → segment path ≡ seg → longest_suffix seg rows ≡ longest → has_slash path ≡ v
      → param_step rows path ≡ cond (ltb 0 (length longest)) (length seg - length longest, with_suffix longest rows) (cond v (0, []) (length path, rows))
  unfolding param_step
  param_is path rows seg longest v whole is slash = rw (whole, is, slash) refl

  nothing_found : (g : List ℕ → Bool) (answer : Option K) → Finds g [] answer → answer ≡ None
  nothing_found g None none = refl
  nothing_found g (Some key) (t, has, is) = absurd has

  -- the answer after a parameter, which takes the rest of a segment
  param_finds : (b : ℕ) (s : List ℕ) (segments : List (List ℕ)) (rows : RowsOf K) → has_slash (b ∷ s) ≡ false → AllEnd rows → AllPlain rows
      → ((n : ℕ) (rs : RowsOf K) → AllPlain rs → Finds (λ t. goes t (drop n (s ++ spell segments))) rs (seek n rs (s ++ spell segments)))
      → Finds (λ t. goes t (spell segments)) rows (seek ((param_step rows (b ∷ s ++ spell segments)).0 - 1) (param_step rows (b ∷ s ++ spell segments)).1
      (s ++ spell segments))
  param_finds b s [] rows none ends plain later =
      let step_is : param_step rows (b ∷ s) ≡ (suc (length s), rows) =
      param_is (b ∷ s) rows (b ∷ s) [] false (segment_all (b ∷ s) none) (longest_is (b ∷ s) false (uncut (b ∷ s) none) rows ends) none in
      let place : suc (length s) - 1 ≡ length s = omega arith in
      let after = rw append-nil at later in
      let there = rw drop-length at (after (length s) rows plain) in
      simp append-nil (rw (step_is, place) there)
  param_finds b s (t ∷ segments) rows none ends plain later = by (any_tail rows) refl
    where
      path : List ℕ
      path = s ++ spell (t ∷ segments)

      longest : Bool → List ℕ
      longest v = cond v (47 ∷ []) []

      step_is : (v : Bool) → any_tail rows ≡ v
          → param_step rows (b ∷ path) ≡ cond (ltb 0 (length (longest v))) (length (b ∷ s ++ 47 ∷ []) - length (longest v), with_suffix (longest v) rows)
          (0, [])
      step_is v e =
          param_is (b ∷ path) rows (b ∷ s ++ 47 ∷ []) (longest v) true (segment_whole (b ∷ s) (t ++ spell segments) none)
          (longest_is (b ∷ s ++ 47 ∷ []) true (cut_at_slash b s) rows ends ∙ ap longest e) (slash_in (b ∷ s) (t ++ spell segments))

      Answer : ℕ × RowsOf K → Type 0
      Answer st = Finds (λ u. goes u (spell (t ∷ segments))) rows (seek (st.0 - 1) st.1 path)

      by : (v : Bool) → any_tail rows ≡ v → Answer (param_step rows (b ∷ path))
      by true e =
          let kept = with_suffix (47 ∷ []) rows in
          let place : length (b ∷ s ++ 47 ∷ []) - 1 - 1 ≡ length s = omega (arith, length-append s (47 ∷ [])) in
          let found = later (length s) kept (λ u key has. plain u key (suffix_has (47 ∷ []) u key rows has)) in
          let Ahead : List ℕ → Type 0 = λ l. Finds (λ u. goes u l) kept (seek (length s) kept path) in
          let there = suffix_finds (t ++ spell segments) rows ends (seek (length s) kept path)
          (subst Ahead (drop-append_seam s (spell (t ∷ segments))) found) in
          let At : ℕ → Type 0 = λ n. Finds (λ u. goes u (spell (t ∷ segments))) rows (seek n kept path) in
          subst Answer (sym (step_is true e)) (subst At (sym place) there)
      by false e =
          let nothing = nothing_found (λ u. goes u path) (seek 0 [] path) (later 0 [] (λ u key has. absurd has)) in
          let Found : Option K → Type 0 = λ answer. Finds (λ u. goes u (spell (t ∷ segments))) rows answer in
          subst Answer (sym (step_is false e)) (subst Found (sym nothing) (λ u key has. rw (no_tail u key rows e has) refl))

  -- no parameter begins with a slash
  none_at_slash : (path : List ℕ) (rows : RowsOf K) → AllEnd rows → Finds (λ t. goes t path) [] (seek 0 [] path)
      → seek ((param_step rows (47 ∷ path)).0 - 1) (param_step rows (47 ∷ path)).1 path ≡ None
  none_at_slash path rows ends found =
      ap (λ (st : ℕ × RowsOf K). seek (st.0 - 1) st.1 path) (param_is (47 ∷ path) rows (47 ∷ []) [] true refl (longest_is (47 ∷ []) false refl rows ends) refl)
      ∙ nothing_found (λ t. goes t path) (seek 0 [] path) found

  -- what is found over a byte of the path
  join_finds : (b : ℕ) (path : List ℕ) (rows : RowsOf K) → b < 256 → (word param : Option K) → Finds (λ t. goes t path) (step b rows) word
      → (((b == 47) ≡ true) × (param ≡ None)) ⊎ (((b == 47) ≡ false) × Finds (λ t. goes t (rest_of path)) (step 256 rows) param)
      → Finds (λ t. goes t (b ∷ path)) rows (or_else word (or_else param None))
  join_finds b path rows small (Some key) param (t, has, is) how =
      let byte : (b == 256) ≡ false = grind (arith, nat_tests) in
      let same : (b == b) ≡ true = grind (arith, nat_tests) in
      (b ∷ t, step_has b t key rows has, rw (byte, same) is)
  join_finds b path rows small None (Some key) none (inl (slash, is)) = absurd (cc)
  join_finds b path rows small None (Some key) none (inr (other, (t, has, is))) = (256 ∷ t, step_has 256 t key rows has, rw other is)
  join_finds b path rows small None None none how = miss
    where
      here : (x : ℕ) (t : List ℕ) (key : K) → Has (x ∷ t) key rows → (u : Bool) → (x == 256) ≡ u → (v : Bool) → (x == b) ≡ v
          → (((b == 47) ≡ true) × ◌≡◌ {A = Option K} None None) ⊎ (((b == 47) ≡ false) × Finds (λ t. goes t (rest_of path)) (step 256 rows) None)
          → goes (x ∷ t) (b ∷ path) ≡ false
      here x t key has true e v f (inl (slash, same)) = rw (e, slash) refl
      here x t key has true e v f (inr (other, param)) = rw (e, other, param t key (has_step 256 x e t key rows has)) refl
      here x t key has false e true f how = rw (e, f) (none t key (has_step b x f t key rows has))
      here x t key has false e false f how = rw (e, f) refl

      miss : (t : List ℕ) (key : K) → Has t key rows → goes t (b ∷ path) ≡ false
      miss [] key has = refl
      miss (x ∷ t) key has = here x t key has (x == 256) refl (x == b) refl how

  spelled_finds : (s : List ℕ) (segments : List (List ℕ)) → has_slash s ≡ false → HaveNoSlash segments → AreBytes (s ++ spell segments)
      → (n : ℕ) (rows : RowsOf K) → AllPlain rows → Finds (λ t. goes t (drop n (s ++ spell segments))) rows (seek n rows (s ++ spell segments))
  unfolding seek
  spelled_finds [] [] none nones bytes zero rows plain = own_finds rows
  spelled_finds [] [] none nones bytes (suc n) rows plain = own_finds rows
  spelled_finds [] (t ∷ segments) none (none', nones) bytes (suc n) rows plain = spelled_finds t segments none' nones bytes.1 n rows plain
  spelled_finds [] (t ∷ segments) none (none', nones) bytes zero rows plain =
      let path = t ++ spell segments in
      let ends : AllEnd (step 256 rows) = λ u key has. (plain (256 ∷ u) key (step_has 256 u key rows has)).1 refl in
      rw (no_catch_all rows plain) (join_finds 47 path rows bytes.0 (seek 0 (step 47 rows) path) _
      (spelled_finds t segments none' nones bytes.1 0 (step 47 rows) (λ u key has. (plain (47 ∷ u) key (step_has 47 u key rows has)).2))
      (inl (refl, none_at_slash path (step 256 rows) ends (spelled_finds t segments none' nones bytes.1 0 [] (λ u key has. absurd has)))))
  spelled_finds (b ∷ s) segments none nones bytes (suc n) rows plain = spelled_finds s segments (no_slash b s none).1 nones bytes.1 n rows plain
  spelled_finds (b ∷ s) segments none nones bytes zero rows plain =
      let path = s ++ spell segments in
      let (other, later) = no_slash b s none in
      let ends : AllEnd (step 256 rows) = λ u key has. (plain (256 ∷ u) key (step_has 256 u key rows has)).1 refl in
      let Param : List ℕ → Type 0 = λ l. Finds (λ t. goes t l) (step 256 rows) (seek ((param_step (step 256 rows) (b ∷ path)).0 - 1)
      (param_step (step 256 rows) (b ∷ path)).1 path) in
      let param = subst Param (sym (rest_spelled s later segments)) (param_finds b s segments (step 256 rows) none ends
      (λ u key has. (plain (256 ∷ u) key (step_has 256 u key rows has)).2) (spelled_finds s segments later nones bytes.1)) in
      rw (no_catch_all rows plain) (join_finds b path rows bytes.0 (seek 0 (step b rows) path) _
      (spelled_finds s segments later nones bytes.1 0 (step b rows) (λ u key has. (plain (b ∷ u) key (step_has b u key rows has)).2))
      (inr (other, param)))

  -- a router finds a row that the path goes by, or there isn't one
  pub seek_finds : (path : List ℕ) → AreBytes path → (rows : RowsOf K) → AllPlain rows → Finds (λ t. goes t path) rows (seek 0 rows path)
  seek_finds path bytes rows plain =
      let (s, segments, split, whole, none, nones) = segments_spell_path path in
      let Found : List ℕ → Type 0 = λ l. Finds (λ t. goes t l) rows (seek 0 rows l) in
      subst Found (sym whole) (spelled_finds s segments none nones (subst AreBytes whole bytes) 0 rows plain)
