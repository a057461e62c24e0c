-- What an input asks of the desk.
use Rattle.upd_wire.proofs.Common.{◌≡◌, ℕ, List, inl, inr, Result, Ok, sym, ap₂, ◌∙◌, Asked, Says, judged, Refusal}
use Rattle.httparse.proofs.GrammarLemmas.{request_unique}

same_ok : {a b : Asked} (outcome : Result Asked Refusal) → Ok a ≡ outcome → Ok b ≡ outcome → a ≡ b
same_ok outcome first second = cc

-- an input begins with one head, and no other reading of it asks anything
pub one_asked : (input : List ℕ) (asked other : Asked) → Says input (Ok asked) → Says input (Ok other) → asked ≡ other
one_asked input asked other (inl (h, rest, small, reads, is)) (inl (k, more, small', reads', is')) =
    let same = request_unique input h k rest more reads reads' in
    same_ok (judged h rest) is (is' ∙ sym (ap₂ judged same.0 same.1))
one_asked input asked other (inl read) (inr (inl (bad, is))) = absurd (cc)
one_asked input asked other (inl read) (inr (inr (cut, is))) = absurd (cc)
one_asked input asked other (inr (inl (bad, is))) says = absurd (cc)
one_asked input asked other (inr (inr (cut, is))) says = absurd (cc)
