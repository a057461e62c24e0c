use Rattle.upd_wire.proofs.Common.{◌≡◌, ◌≤◌, ◌+◌, ◌++◌, drop, length, take, vec_len, flat_map}
use Rattle.std.proofs.Common.{vec_capacity}
use Rattle.upd_wire.proofs.http_answer.put_all.Given as goal

abbrev pub invariant-loop-part : goal.invariant-loop-part
invariant-loop-part l = record {
  items : l.out.items ≡ l.initial.out.items ++ flat_map (λ part. part.now) (take l.part-index l.parts);
  room : vec_len l.out + length (flat_map (λ part. part.now) (drop l.part-index l.parts)) ≤ vec_capacity l.out;
}
