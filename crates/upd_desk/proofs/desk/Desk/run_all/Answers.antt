-- After each arrival the answers so far are those that are expected for the arrivals so far, and there is room for the rest.
use Rattle.upd_desk.proofs.Common.{◌≡◌, ◌+◌, [], ◌∷◌, ◌++◌, take, length, refl, sym, ap, ◌∙◌, rules, arith, vec_len, failures_after, failures_after_all}
use Rattle.std.proofs.lemmas.List.{length-take-le, length_push, take_more}
use Rattle.upd_desk.proofs.RunAllLemmas.{failures_more, faults_more, none_arrived, none_read_by, one_more, opens_more, reads_one_more, work_one_more}
use Rattle.upd_desk.proofs.desk.Desk.run_all.Goals as goal

pub loop-arrival-init : goal.loop-arrival-init
loop-arrival-init g c =
    let empty = c.in_ok-answers.ensures.items in (
      ap length empty,
      c.in_ok-answers.ensures.len,
      (let room = c.in_ok-answers.ensures.capacity in grind (arith, rules)),
      rw empty (none_arrived c.args.self.now.store),
      λ honest. rw empty (λ none. absurd none),
      rw empty refl,
      λ honest journal held. refl,
      rw empty (none_read_by g.S.Meaning c.args.self.now.store),
      rw empty tt,
    )

pub unreachable-requires : goal.unreachable-requires
unreachable-requires g c =
    let len = c.loop-arrival.invariant.1 in
    let room = c.loop-arrival.invariant.2 in
    let more = c.loop-arrival-test.true in
    let full = c.push.ensures.full in
    let failed = c.if-is_err.ensures.value in
    grind (arith, rules)

pub loop-arrival-preserved : goal.loop-arrival-preserved
loop-arrival-preserved g c =
    let list = c.args.list.now in
    let i = c.loop-arrival.arrival-index in
    let before = c.loop-arrival.answers.items in
    let more = take_more list i c.arrival-item.result c.loop-arrival-test.true
    ∙ ap (λ x. take i list ++ x ∷ []) (sym c.arrival-item.is) in
    let items : c.push.new.self.items ≡ before ++ c.arrive_one-answer.result ∷ [] = rw c.if-is_err.ensures.negation at c.push.ensures.items in
    let longer : vec_len c.push.new.self ≡ vec_len c.loop-arrival.answers + 1 = rw c.if-is_err.ensures.negation at c.push.ensures.len in
    let within = c.loop-arrival-test.true in
    let same = length-take-le i list (omega (arith, within)) ∙ sym c.loop-arrival.invariant.0 in
    let went = c.arrive_one-answer.ensures.arrives in
    let all = c.loop-arrival.invariant.3 in (
      ap length items ∙ length_push before c.arrive_one-answer.result ∙ ap (λ n. n + 1) c.loop-arrival.invariant.0,
      longer ∙ ap (λ n. n + 1) c.loop-arrival.invariant.1,
      (let room = c.loop-arrival.invariant.2 in let kept = c.push.ensures.capacity in grind (arith, rules)),
      rw (more, items) (one_more (take i list) before c.arrival-item.result c.arrive_one-answer.result c.args.self.now.store
          c.loop-arrival.self.store c.arrive_one-answer.new.self.store same all went),
      λ honest. rw items (opens_more before c.arrive_one-answer.result (went.opens honest)),
      c.arrive_one-answer.ensures.failed ∙ ap (failures_after c.arrive_one-answer.result) c.loop-arrival.invariant.5
          ∙ sym (failures_more before c.arrive_one-answer.result _)
          ∙ ap (λ rs. failures_after_all rs (g.S.Meaning.failures_of c.args.self.now.store)) (sym items),
      rw (more, items) (work_one_more (take i list) before c.arrival-item.result c.arrive_one-answer.result c.args.self.now.store
          c.loop-arrival.self.store c.arrive_one-answer.new.self.store c.args.self.now.work c.loop-arrival.self.work
          c.arrive_one-answer.new.self.work same all went c.loop-arrival.invariant.6 c.arrive_one-answer.ensures.work
          c.arrive_one-answer.ensures.idle),
      rw (more, items) (reads_one_more (take i list) before c.arrival-item.result c.arrive_one-answer.result c.args.self.now.store
          c.loop-arrival.self.store c.arrive_one-answer.new.self.store same all went c.loop-arrival.invariant.7
          c.arrive_one-answer.ensures.reads),
      rw (more, items) (faults_more (take i list) before c.arrival-item.result c.arrive_one-answer.result c.loop-arrival.invariant.8
          c.arrive_one-answer.ensures.faults),
    )
