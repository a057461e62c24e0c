-- The reasons of statuses are short.
use Rattle.upd_wire.proofs.Common.{◌≡◌, ℕ, ◌<◌, ◌≤◌, Bool, true, false, if◌then◌else◌, ◌==◌, nat_lt, List, [], Option, Bor, length, unwrap_or, option_map}
use Rattle.upd_wire.proofs.Common.{refl, Some, None, ap₂, ◌∙◌, arith, ltb-true}
use Rattle.http.specs.StatusCode.{reason_phrase}
use Rattle.upd_wire.specs.Statuses.{reason_of}

-- a phrase has at most 32 bytes
abbrev is_short : Option (List ℕ) → Bool
is_short phrase = nat_lt (length (unwrap_or phrase [])) 33

either : (test : Bool) (phrase other : Option (List ℕ)) → is_short phrase ≡ true → is_short other ≡ true → is_short (if test then phrase else other) ≡ true
either true phrase other here later = here
either false phrase other here later = later

phrases_are_short : (status : ℕ) → is_short (reason_phrase status) ≡ true
phrases_are_short status =
    either (status == 100) _ _ refl (either (status == 101) _ _ refl (either (status == 102) _ _ refl (either (status == 103) _ _ refl (
    either (status == 200) _ _ refl (either (status == 201) _ _ refl (either (status == 202) _ _ refl (either (status == 203) _ _ refl (
    either (status == 204) _ _ refl (either (status == 205) _ _ refl (either (status == 206) _ _ refl (either (status == 207) _ _ refl (
    either (status == 208) _ _ refl (either (status == 226) _ _ refl (either (status == 300) _ _ refl (either (status == 301) _ _ refl (
    either (status == 302) _ _ refl (either (status == 303) _ _ refl (either (status == 304) _ _ refl (either (status == 305) _ _ refl (
    either (status == 307) _ _ refl (either (status == 308) _ _ refl (either (status == 400) _ _ refl (either (status == 401) _ _ refl (
    either (status == 402) _ _ refl (either (status == 403) _ _ refl (either (status == 404) _ _ refl (either (status == 405) _ _ refl (
    either (status == 406) _ _ refl (either (status == 407) _ _ refl (either (status == 408) _ _ refl (either (status == 409) _ _ refl (
    either (status == 410) _ _ refl (either (status == 411) _ _ refl (either (status == 412) _ _ refl (either (status == 413) _ _ refl (
    either (status == 414) _ _ refl (either (status == 415) _ _ refl (either (status == 416) _ _ refl (either (status == 417) _ _ refl (
    either (status == 418) _ _ refl (either (status == 421) _ _ refl (either (status == 422) _ _ refl (either (status == 423) _ _ refl (
    either (status == 424) _ _ refl (either (status == 425) _ _ refl (either (status == 426) _ _ refl (either (status == 428) _ _ refl (
    either (status == 429) _ _ refl (either (status == 431) _ _ refl (either (status == 451) _ _ refl (either (status == 500) _ _ refl (
    either (status == 501) _ _ refl (either (status == 502) _ _ refl (either (status == 503) _ _ refl (either (status == 504) _ _ refl (
    either (status == 505) _ _ refl (either (status == 506) _ _ refl (either (status == 507) _ _ refl (either (status == 508) _ _ refl (
    either (status == 510) _ _ refl (either (status == 511) _ _ refl (refl))))))))))))))))))))))))))))))))))))))))))))))))))))))))))))))

pub reason_short : (status : ℕ) → length (reason_of status) ≤ 32
unfolding reason_of
reason_short status =
    let few = ltb-true (length (unwrap_or (reason_phrase status) [])) 33 (phrases_are_short status) in
    below _ few
  where
    below : (n : ℕ) → n < 33 → n ≤ 32
    below n h = omega arith

pub reason_is : (status : ℕ) (text : Option (Bor (List ℕ))) (other : Bor (List ℕ)) → option_map (λ (s : Bor (List ℕ)). s.now) text ≡ reason_phrase status
    → other.now ≡ [] → (unwrap_or text other).now ≡ reason_of status
unfolding reason_of
reason_is status text other is none = shown_or text other ∙ ap₂ unwrap_or is none
  where
    shown_or : (text : Option (Bor (List ℕ))) (other : Bor (List ℕ)) → (unwrap_or text other).now
        ≡ unwrap_or (option_map (λ (s : Bor (List ℕ)). s.now) text) other.now
    shown_or None other = refl
    shown_or (Some s) other = refl
