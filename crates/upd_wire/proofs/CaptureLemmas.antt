-- The parameters of a route capture the segments of a path at their places.
use Rattle.upd_wire.proofs.Common.{◌≡◌, ℕ, suc, ◌+◌, ◌-◌, ◌<◌, ◌≤◌, List, [], ◌∷◌, ◌++◌, length, drop, map, get_or, true, false, ltb, refl, sym, ap, ◌∙◌}
use Rattle.upd_wire.proofs.Common.{arith, add-one, take-append_seam, and_parts, false≢true, lt-ltb, nat_tests, length-append, bytes_eq-Decides, zip, bytes_eq}
use Rattle.upd_wire.proofs.Common.{part_of, walk, has_slash, segment, Part, word, any, fits}
use Rattle.std.proofs.Common.{leb}
use Rattle.std.proofs.lemmas.List.{length-drop}
use Rattle.matchit.specs.Params.{after_token, wild_from, wild_stop}
use Rattle.upd_wire.proofs.PathLemmas.{are_words, is_word, tails, word_byte}
use Rattle.upd_wire.proofs.PathSegmentLemmas.{HaveNoSlash, drop_next, drop_past, segment_whole, spell}

-- the segments at the places of parameters, where the parts begin at a place
abbrev pub taken : List (List ℕ) → ℕ → List Part → List (List ℕ)
taken segments i [] = []
taken segments i (word w ∷ parts) = taken segments (suc i) parts
taken segments i (any ∷ parts) = get_or segments i [] ∷ taken segments (suc i) parts

-- how many parameters there are among parts
abbrev pub parameter_count : List Part → ℕ
parameter_count [] = 0
parameter_count (word w ∷ parts) = parameter_count parts
parameter_count (any ∷ parts) = suc (parameter_count parts)

tails_some : (part : Part) (parts : List Part) → (tokens : List ℕ) × (tails (part ∷ parts) ≡ 47 ∷ tokens)
tails_some (word w) parts = (w ++ tails parts, refl)
tails_some any parts = (256 ∷ tails parts, refl)

-- ---- a walk over the names of a route

module _ (pattern text path : List ℕ) where
  abbrev Walk : List (ℕ × ℕ) → ℕ → ℕ → List (List ℕ × List ℕ)
  Walk names token at = walk pattern text path names token at

  -- a walk leads to this place without a parameter, where this follows in the pattern and in the path
  abbrev LeadsTo : List (List ℕ × List ℕ) → List (ℕ × ℕ) → List ℕ → List ℕ → Type 0
  LeadsTo found names tokens rest =
      (token : ℕ) × (at : ℕ) × (found ≡ Walk names token at) × (drop token pattern ≡ tokens) × (drop at path ≡ rest)

  over_byte : (names : List (ℕ × ℕ)) (token at x b : ℕ) (tokens rest : List ℕ) → x < 256 → drop token pattern ≡ x ∷ tokens → drop at path ≡ b ∷ rest
      → Walk names token at ≡ Walk names (suc token) (suc at)
  over_byte [] token at x b tokens rest small here there = refl
  over_byte (n ∷ names) token at x b tokens rest small here there =
      let (here', is, in_pattern) = drop_next token pattern x 0 tokens here in
      let (there', is', in_path) = drop_next at path b 0 rest there in
      let byte : ltb x 256 ≡ true = grind (arith, nat_tests) in
      let within : ltb at (length path) ≡ true = grind (arith, nat_tests) in
      let same : wild_from (drop token pattern) (length path) token at ≡ wild_from (drop (suc token) pattern) (length path) (suc token) (suc at) =
      rw (here, here', byte, within, add-one token, add-one at) refl in
      ap (λ (w : ℕ × ℕ). (part_of text n.0 n.1, part_of path w.1 (wild_stop pattern w.0 path w.1))
      ∷ Walk names (after_token w.0) (wild_stop pattern w.0 path w.1)) same

  over_word : (w : List ℕ) → is_word w ≡ true → (names : List (ℕ × ℕ)) (token at : ℕ) (tokens rest : List ℕ) → drop token pattern ≡ w ++ tokens → drop at path
      ≡ w ++ rest
      → LeadsTo (Walk names token at) names tokens rest
  over_word [] is names token at tokens rest here there = (token, at, refl, here, there)
  over_word (x ∷ w) is names token at tokens rest here there =
      let (small, other, is') = word_byte x w is in
      let (token', at', same, here', there') = over_word w is' names (suc token) (suc at) tokens rest (drop_next token pattern x 0 (w ++ tokens) here).0
      (drop_next at path x 0 (w ++ rest) there).0 in
      (token', at', over_byte names token at x x (w ++ tokens) (w ++ rest) small here there ∙ same, here', there')

  -- a parameter takes the rest of a segment
  wild_stops : (parts : List Part) (segments : List (List ℕ)) (token at b : ℕ) (s : List ℕ) → fits parts segments ≡ true → has_slash (b ∷ s) ≡ false
      → drop token pattern ≡ 256 ∷ tails parts → drop at path ≡ (b ∷ s) ++ spell segments → wild_stop pattern token path at ≡ at + length (b ∷ s)
  wild_stops [] [] token at b s fit none here there =
      let (here', is, within) = drop_next token pattern 256 0 [] here in
      let (there', is', within') = drop_next at path b 0 (s ++ []) there in
      let last : length pattern ≡ token + 1 = omega (arith, ap length here, length-drop token pattern, within) in
      let stop : ltb (token + 1) (length pattern) ≡ false = grind (arith, nat_tests) in
      let inside : ltb token (length pattern) ≡ true = lt-ltb token (length pattern) within in
      let end : length path ≡ at + length (b ∷ s) = omega (arith, ap length there, length-append s [], length-drop at path, within') in
      rw (inside, is, stop) end
  wild_stops [] (s' ∷ segments) token at b s fit none here there = absurd (false≢true fit)
  wild_stops (part ∷ parts) [] token at b s fit none here there = absurd (false≢true fit)
  wild_stops (part ∷ parts) (s' ∷ segments) token at b s fit none here there =
      let (tokens, next) = tails_some part parts in
      let (here', is, within) = drop_next token pattern 256 0 (47 ∷ tokens) (here ∙ ap (λ l. 256 ∷ l) next) in
      let (here'', is'', within'') = drop_next (suc token) pattern 47 0 tokens here' in
      let one : token + 1 ≡ suc token = omega arith in
      let inside : ltb token (length pattern) ≡ true = lt-ltb token (length pattern) within in
      let more : ltb (suc token) (length pattern) ≡ true = lt-ltb (suc token) (length pattern) within'' in
      let whole : segment (drop at path) ≡ (b ∷ s) ++ 47 ∷ [] = ap segment there ∙ segment_whole (b ∷ s) (s' ++ spell segments) none in
      let end : at + length ((b ∷ s) ++ 47 ∷ []) - 1 ≡ at + length (b ∷ s) = omega (arith, length-append (b ∷ s) (47 ∷ [])) in
      rw (one, inside, is, more, whole, here') end

  over_parameter : (name : ℕ × ℕ) (names : List (ℕ × ℕ)) (parts : List Part) (segments : List (List ℕ)) (token at b : ℕ) (s : List ℕ) → length pattern < 256
      → fits parts segments ≡ true → has_slash (b ∷ s) ≡ false → drop token pattern ≡ 256 ∷ tails parts → drop at path ≡ (b ∷ s) ++ spell segments
      → Walk (name ∷ names) token at ≡ (part_of text name.0 name.1, b ∷ s) ∷ Walk names (suc token) (at + length (b ∷ s))
  over_parameter name names parts segments token at b s short fit none here there =
      let (here', is, within) = drop_next token pattern 256 0 (tails parts) here in
      let next : after_token token ≡ suc token = omega arith in
      let stop = wild_stops parts segments token at b s fit none here there in
      let long : at + length (b ∷ s) ≤ length path = omega (arith, ap length there, length-append (b ∷ s) (spell segments), length-drop at path) in
      let size : at + length (b ∷ s) - at ≡ length (b ∷ s) = omega arith in
      let ordered : leb at (at + length (b ∷ s)) ≡ true = grind (arith, nat_tests) in
      let inside : leb (at + length (b ∷ s)) (length path) ≡ true = grind (arith, nat_tests) in
      let part : part_of path at (at + length (b ∷ s)) ≡ b ∷ s = rw (ordered, inside, size, there) (take-append_seam (b ∷ s) (spell segments)) in
      rw (here, stop, next, part) refl

  pub captures_taken : (all : List (List ℕ)) (parts : List Part) (segments : List (List ℕ)) (names : List (ℕ × ℕ)) (i token at : ℕ) → length pattern < 256
      → are_words parts ≡ true → length names ≡ parameter_count parts → fits parts segments ≡ true → HaveNoSlash segments
      → drop i all ≡ segments → drop token pattern ≡ tails parts → drop at path ≡ spell segments
      → Walk names token at ≡ zip (map (λ (n : ℕ × ℕ). part_of text n.0 n.1) names) (taken all i parts)
  captures_taken all [] [] [] i token at short are count fit none left here there = refl
  captures_taken all [] [] (n ∷ names) i token at short are count fit none left here there = absurd (omega arith)
  captures_taken all [] (s ∷ segments) names i token at short are count fit none left here there = absurd (false≢true fit)
  captures_taken all (part ∷ parts) [] names i token at short are count fit none left here there = absurd (false≢true fit)
  captures_taken all (word w ∷ parts) (s ∷ segments) names i token at short are count fit (none, rest) left here there =
      let (is, are') = and_parts (is_word w) (are_words parts) are in
      let (same, fit') = and_parts (bytes_eq w s) (fits parts segments) fit in
      let word : w ≡ s = (bytes_eq-Decides w s).0 same in
      let there' : drop at path ≡ 47 ∷ w ++ spell segments = there ∙ ap (λ l. 47 ∷ l ++ spell segments) (sym word) in
      let (token', at', led, here', there'') = over_word w is names (suc token) (suc at) (tails parts) (spell segments)
      (drop_next token pattern 47 0 (w ++ tails parts) here).0 (drop_next at path 47 0 (w ++ spell segments) there').0 in
      over_byte names token at 47 47 (w ++ tails parts) (w ++ spell segments) (omega arith) here there' ∙ (led
      ∙ captures_taken all parts segments names (suc i) token' at' short are' count fit' rest (drop_next i all s [] segments left).0 here' there'')
  captures_taken all (any ∷ parts) (s ∷ segments) [] i token at short are count fit none left here there = absurd (omega arith)
  captures_taken all (any ∷ parts) ([] ∷ segments) (n ∷ names) i token at short are count fit none left here there = absurd (false≢true fit)
  captures_taken all (any ∷ parts) ((b ∷ s) ∷ segments) (n ∷ names) i token at short are count fit (none, rest) left here there =
      let (left', first, within) = drop_next i all (b ∷ s) [] segments left in
      let here' = (drop_next token pattern 47 0 (256 ∷ tails parts) here).0 in
      let there' = (drop_next at path 47 0 ((b ∷ s) ++ spell segments) there).0 in
      let count' : length names ≡ parameter_count parts = omega arith in
      let here'' = (drop_next (suc token) pattern 256 0 (tails parts) here').0 in
      let there'' = drop_past (suc at) path (b ∷ s) (spell segments) there' in
      over_byte (n ∷ names) token at 47 47 (256 ∷ tails parts) ((b ∷ s) ++ spell segments) (omega arith) here there
      ∙ (over_parameter n names parts segments (suc token) (suc at) b s short fit none here' there'
      ∙ (ap (λ l. (part_of text n.0 n.1, b ∷ s) ∷ l)
      (captures_taken all parts segments names (suc i) (suc (suc token)) (suc at + length (b ∷ s)) short are count' fit rest
      left' here'' there'')
      ∙ ap (λ l. (part_of text n.0 n.1, l) ∷ zip (map (λ (n : ℕ × ℕ). part_of text n.0 n.1) names) (taken all (suc i) parts)) (sym first)))
