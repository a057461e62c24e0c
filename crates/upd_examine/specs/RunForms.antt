-- What stored runs and marks have to be.
use Rattle.std.specs.Prelude.{◌≡◌, ℕ, nat_le, nat_lt, ◌==◌, Bool, true, not, ◌&&◌, ◌||◌, if◌then◌else◌, List, [], ◌++◌, codes, decimal, map}
use Rattle.std.specs.List.{list_all, starts_with, ends_with}
use Rattle.std.specs.Str.{bytes_eq}
use Rattle.upd_text.specs.Keys.{is_run_number, is_site}
use Rattle.upd_text.specs.Units.{Bytes}
use Rattle.upd_core.specs.Sound.{AreApart}
use Rattle.upd_records.specs.Rows.{MarkRow, RunView, mode_word}

-- what a reply begins with
abbrev pub reply_start : RunView → Bytes
reply_start r = if r.accepted then codes "{\"compile\":\"" else codes "{\"at\":"

-- what only a reply to an accepted run has in front of its number
abbrev pub mode_part : RunView → Bytes
mode_part r = if r.accepted then codes ",\"mode\":\"" ++ (mode_word r.mode ++ codes "\"") else []

-- the last word of a reply
abbrev pub outcome_word : RunView → Bytes
outcome_word r = if r.accepted then codes "accepted" else codes "refused"

-- what a reply ends with: the number of the run, its site and what came of it, and of an accepted run its mode
abbrev pub reply_end : RunView → Bytes
reply_end r =
    mode_part r ++ (codes ",\"run\":" ++ (decimal r.number ++ (codes ",\"site\":\"" ++ (r.site ++ (codes "\",\"state\":\""
    ++ (outcome_word r ++ codes "\"}"))))))

-- whether a reply begins and ends as one to this run
abbrev pub has_reply : RunView → Bool
has_reply r = starts_with (λ a b. a == b) r.reply (reply_start r) && ends_with (λ a b. a == b) r.reply (reply_end r)

-- whether a run has a number above the mark of its site
abbrev pub is_above : List MarkRow → RunView → Bool
is_above marks r = list_all (λ m. not (bytes_eq m.site r.site) || nat_lt m.mark r.number) marks

-- whether a site is one, and a number is a run's
abbrev pub is_key : Bytes → ℕ → Bool
is_key site number = is_site site && is_run_number number

-- whether a run has a site and a number, is above its site's mark, is of a mode that there is, and has a reply to it
abbrev pub is_run_right : List MarkRow → RunView → Bool
is_run_right marks r = is_key r.site r.number && (is_above marks r && (nat_le r.mode 2 && has_reply r))

-- the key of a run
abbrev pub run_key : RunView → Bytes × ℕ
run_key r = (r.site, r.number)

-- each mark has a site and a run's number, no two marks are of one site, no two runs have one key, and each run is right
pub record AreRunsSound (runs : List RunView) (marks : List MarkRow) : Type 0 where
  pub marked : list_all (λ m. is_key m.site m.mark) marks ≡ true
  pub sites : AreApart (map (λ m. m.site) marks)
  pub keys : AreApart (map run_key runs)
  pub each : list_all (is_run_right marks) runs ≡ true
