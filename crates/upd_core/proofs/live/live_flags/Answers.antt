use Rattle.upd_core.proofs.Common.{ℕ, ◌≡◌, ◌+◌, ◌-◌, ◌<◌, length, ◌∙◌, rules, arith, common_steps}
use Rattle.std.proofs.lemmas.List.{length-set}
use Rattle.upd_core.proofs.LiveLemmas.{flags-more}
use Rattle.upd_core.proofs.live.live_flags.Goals as goal

pub loop-i-init : goal.loop-i-init
loop-i-init c = grind (arith, common_steps)

pub loop-i-preserved-in-Continue-branch-2 : goal.loop-i-preserved-in-Continue-branch-2
loop-i-preserved-in-Continue-branch-2 c =
    let i : ℕ = c.loop-i.i - 1 in
    let here : c.loop-i.i ≡ i + 1 = omega (arith, c.loop-i-test.true) in
    let known = rw here at c.loop-i.invariant in
    let within : i < length c.args.yanks.now = search rules in
    let more = flags-more c.args.yanks.now c.loop-i.live.items c.loop-i.targets i c.is_good.result c.index-yanks-i.result
    within known.len (search rules) known.flags known.targets (search rules) in
    record { flags = more.0; targets = search rules; len = length-set c.loop-i.live.items i c.is_good.result ∙ known.len }

pub loop-i-preserved : goal.loop-i-preserved
loop-i-preserved c =
    let i : ℕ = c.loop-i.i - 1 in
    let here : c.loop-i.i ≡ i + 1 = omega (arith, c.loop-i-test.true) in
    let known = rw here at c.loop-i.invariant in
    let within : i < length c.args.yanks.now = search rules in
    let more = flags-more c.args.yanks.now c.loop-i.live.items c.loop-i.targets i c.is_good.result c.index-yanks-i.result
    within known.len (search rules) known.flags known.targets (search rules) in
    record { flags = more.0; targets = search rules; len = length-set c.loop-i.live.items i c.is_good.result ∙ known.len }
