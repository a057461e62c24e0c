-- The arrival that stands for a run that is only tried.
use Rattle.std.specs.Prelude.{codes}
use Rattle.upd_text.specs.Units.{Bytes}
use Rattle.upd_desk.specs.Arrivals.{ArrivalView}

-- the run in a mode, from the site `TRY` under the number 1
abbrev pub tried : Bytes → Bytes → ArrivalView
tried mode run = record { site = codes "TRY"; number = 1; mode = mode; bytes = run }
