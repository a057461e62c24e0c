use Rattle.upd_examine.proofs.Common.{◌≡◌, ℕ, ◌+◌, ◌-◌, ◌<◌, ◌≤◌, true, length, get_or, refl, sym, ap, ◌∙◌, arith, rules, is_eq}
use Rattle.upd_examine.proofs.SortedLemmas.{apart_back, apart_moved, no_twins, sorted_apart}
use Rattle.upd_examine.proofs.sound_tests.are_apart.Goals as goal

pub returns-then-is_eq : goal.returns-then-is_eq
returns-then-is_eq g c =
    let ys = c.sort_unstable.new.self.items in
    let k : ℕ = c.loop-i.i - 1 in
    let near : k + 1 ≡ c.loop-i.i = omega (arith, c.loop-i.auto.i) in
    let within : c.loop-i.i < length ys = search rules in
    let same : is_eq (g.T.Ord.cmp c.index.result.now c.index-in-loop-i.result.now) ≡ true =
    ap is_eq (sym c.cmp.ensures) ∙ sym c.is_eq.ensures ∙ c.if-is_eq.true in
    let to : c.index-in-loop-i.result.now ≡ get_or ys (k + 1) c.index-in-loop-i.result.now = rw near c.index-in-loop-i.ensures in (
      (λ t. absurd (cc)),
      (λ apart. absurd (no_twins g.T.Ord.cmp g.met.T.Ord.total c.requires ys k _ _ (omega arith) c.index.ensures to
          (apart_moved g.T.Ord.cmp g.met.T.Ord.total c.requires _ ys c.sort_unstable.ensures.permutation apart) same)),
    )

pub returns : goal.returns
returns g c =
    let ys = c.sort_unstable.new.self.items in
    let all : length ys ≤ c.loop-i.i = search rules in (
      (λ t. apart_back g.T.Ord.cmp g.met.T.Ord.total c.requires _ ys c.sort_unstable.ensures.permutation
          (sorted_apart g.T.Ord.cmp g.met.T.Ord.total c.requires ys c.sort_unstable.ensures.sorted
          (λ k d within. c.loop-i.invariant k d (omega arith)))),
      (λ _. refl),
    )
