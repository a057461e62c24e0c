-- What is written before a write fails.
use Rattle.upd_wire.proofs.Common.{◌≡◌, ℕ, ◌+◌, ◌-◌, ◌<◌, List, [], ◌++◌, Bor, Option, length, get_or, take, drop, sym, ap, ◌∙◌, append_assoc, append-nil}
use Rattle.upd_wire.proofs.Common.{take-append-drop, at_drop_more, take_rest, flat_map-append, flat_map, Appends, Appends-trans}
use Rattle.upd_wire.specs.Fronts.{AppendsFront}

-- what was written is extended by what was taken of the rest
pub front_further : (all done rest : List ℕ) (n : ℕ) → all ≡ done ++ rest → all ≡ (done ++ take n rest) ++ take (length rest - n) (drop n rest)
front_further all done rest n e =
    e ∙ ap (λ l. done ++ l) (sym (take-append-drop n rest)) ∙ sym (append_assoc done (take n rest) (drop n rest))
    ∙ ap (λ l. (done ++ take n rest) ++ l) (sym (take_rest rest n))

pub front_all : (old new : Option (List ℕ)) (bytes : List ℕ) → Appends old new bytes → AppendsFront old new bytes
front_all old new bytes appended = (bytes, [], sym (append-nil bytes), appended)

pub front_same : (old new : Option (List ℕ)) (bytes same : List ℕ) → bytes ≡ same → AppendsFront old new bytes → AppendsFront old new same
front_same old new bytes same is (front, rest, split, appended) = (front, rest, sym is ∙ split, appended)

-- a prefix of one part, after the parts before it
pub front_of_parts : (old mid new : Option (List ℕ)) (parts : List (Bor (List ℕ))) (i : ℕ) (d : Bor (List ℕ)) → i < length parts
    → Appends old mid (flat_map (λ part. part.now) (take i parts)) → AppendsFront mid new (get_or parts i d).now
    → AppendsFront old new (flat_map (λ part. part.now) parts)
front_of_parts old mid new parts i d h first (front, rest, split, then) =
    let all = λ (parts : List (Bor (List ℕ))). flat_map (λ part. part.now) parts in
    let more = all (drop (i + 1) parts) in
    let here : all parts ≡ all (take i parts) ++ ((get_or parts i d).now ++ more) =
    sym (ap all (take-append-drop i parts)) ∙ flat_map-append (λ (part : Bor (List ℕ)). part.now) (take i parts) (drop i parts)
    ∙ ap (λ l. all (take i parts) ++ l) (at_drop_more all parts i d h) in
    let cut : all parts ≡ (all (take i parts) ++ front) ++ (rest ++ more) = here ∙ ap (λ l. all (take i parts) ++ (l ++ more)) split ∙ simp append_assoc in
    (all (take i parts) ++ front, rest ++ more, cut, Appends-trans old mid new (all (take i parts)) front first then)
