use Rattle.std.proofs.Common.{arith, sym, subst}
use Rattle.upd_cli.proofs.desk_work.warm.Goals as goal

pub returns : goal.returns
returns g c =
    let same = c.warm.ensures.same in
    let counts = c.warm.ensures.counts in
    record {
      later = record {
        honest = same.later.honest;
        was_open = same.later.was_open;
        closes = same.later.closes;
        disk_counts = same.later.disk_counts;
        counts = omega (arith, counts.0);
      };
      shows = λ honest is rows shown.
          let IsShownIn = λ (image : g.S.Meaning.Image). g.S.Meaning.shows image rows in
          (subst IsShownIn (sym (same.same honest is)) shown.0, c.warm.ensures.shows honest is rows shown.0 shown.1);
      crash = λ honest i left. (same.crash honest i.0 left.0, left.1);
    }
