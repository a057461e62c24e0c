-- One line for each site: its mark, the greatest number that is taken, the next one, and how many bytes are stored.
use Rattle.std.specs.Prelude.{◌≡◌, ℕ, ◌+◌, ◌-◌, ◌^◌, nat_lt, min, max, length, if◌then◌else◌, List, [], ◌∷◌, ◌++◌, codes, decimal, map, IsPermutation}
use Rattle.std.specs.List.Sorted.{IsSortedByKey}
use Rattle.std.specs.Ordering.{nat_cmp}
use Rattle.std.specs.Cmp.Lexicographic.{slice_cmp}
use Rattle.std.specs.Str.{bytes_eq}
use Rattle.upd_views.specs.declared.sites.TheConstants.{MAX_NUMBER}
use Rattle.upd_records.specs.Rows.{MarkRow, RunView}
use Rattle.upd_views.specs.Printed.{printed_field}

-- A site, its mark, the greatest of its mark and the numbers of its stored runs, and how many bytes these runs and their replies have.
pub record SiteView : Type 0 where
  pub site : List ℕ
  pub mark : ℕ
  pub greatest : ℕ
  pub stored : ℕ

-- two numbers of bytes together, or 2^64 - 1 where they are more
abbrev pub add_sizes : ℕ → ℕ → ℕ
add_sizes a b = min (a + b) (2 ^ 64 - 1)

-- what a stored run says of its site
abbrev pub of_run : RunView → SiteView
of_run r = record { site = r.site; mark = 0; greatest = r.number; stored = add_sizes (length r.bytes) (length r.reply) }

-- what a mark says of its site
abbrev pub of_mark : MarkRow → SiteView
of_mark m = record { site = m.site; mark = m.mark; greatest = m.mark; stored = 0 }

-- two of one site as one
abbrev pub joined : SiteView → SiteView → SiteView
joined a b = record { site = a.site; mark = max a.mark b.mark; greatest = max a.greatest b.greatest; stored = add_sizes a.stored b.stored }

-- the number after the greatest one; the last number of all has none
abbrev pub next_number : ℕ → List ℕ
next_number greatest = if nat_lt greatest MAX_NUMBER then decimal (greatest + 1) else codes "none"

-- the line of a site
abbrev pub site_line : SiteView → List ℕ
site_line s =
    printed_field s.site ++ 32 ∷ decimal s.mark ++ 32 ∷ decimal s.greatest ++ 32 ∷ next_number s.greatest ++ 32 ∷ decimal s.stored ++ 10 ∷ []

-- the lines of sites: what is said of one site next to each other is joined
abbrev pub lines_from : SiteView → List SiteView → List ℕ
lines_from s [] = site_line s
lines_from s (t ∷ ts) = if bytes_eq t.site s.site then lines_from (joined s t) ts else site_line s ++ lines_from t ts

abbrev pub lines_of : List SiteView → List ℕ
lines_of [] = []
lines_of (s ∷ ss) = lines_from s ss

-- what is said of sites, in the order of their names
abbrev pub AreBySite : List SiteView → Type 0
AreBySite ss = IsSortedByKey (λ s. s.site) (slice_cmp nat_cmp) ss

-- A text has the lines of all sites with a stored run or a mark, in the order of their names.
abbrev pub AreSiteLines : List RunView → List MarkRow → List ℕ → Type 0
AreSiteLines runs marks text =
    (all : List SiteView) × IsPermutation (map of_run runs ++ map of_mark marks) all × AreBySite all × (text ≡ lines_of all)
