-- `put_steps`: the loop has walked the first bytes of the run to the state at hand and written their blocks.
use Rattle.std.proofs.Common.{◌≡◌, take}
use Rattle.std.specs.Prelude.{Some}
use Rattle.model.specs.Run.{walk}
use Rattle.list.specs.Assignments.{one_hot, steps_bytes}
use Rattle.buffer.specs.Buffers.{Wrote}
use Rattle.encode.proofs.put_steps.Given as goal

abbrev pub invariant-loop-byte : goal.invariant-loop-byte
invariant-loop-byte l = record {
  reached : walk l.fn.m l.initial.s (take l.byte-index l.run) ≡ Some l.s;
  written : Wrote (steps_bytes one_hot l.fn.m l.initial.s (take l.byte-index l.run)) l.initial.out l.out l.at l.end;
}
