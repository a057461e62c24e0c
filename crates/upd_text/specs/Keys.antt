-- What names a run: its site and its number.
use Rattle.std.specs.Prelude.{ℕ, nat_le, Bool, ◌&&◌, ◌||◌, length}
use Rattle.std.specs.List.{list_all}
use Rattle.upd_text.specs.Units.{Bytes}

-- whether a byte may stand in a site: `A-Z` and `0-9`
abbrev pub is_site_byte : ℕ → Bool
is_site_byte b = (nat_le 65 b && nat_le b 90) || (nat_le 48 b && nat_le b 57)

-- whether a text is a site: 1 to 8 of these
abbrev pub is_site : Bytes → Bool
is_site text = nat_le 1 (length text) && nat_le (length text) 8 && list_all is_site_byte text

-- whether a number is a run's
abbrev pub is_run_number : ℕ → Bool
is_run_number n = nat_le 1 n && nat_le n 999999999
