-- `put_groups`: the loop has written the first groups.
use Rattle.model.specs.Indexed.{each}
use Rattle.buffer.specs.Buffers.{Wrote}
use Rattle.encode.specs.BlockBytes.{shown_bytes}
use Rattle.encode.proofs.put_groups.Given as goal

abbrev pub invariant-loop-group : goal.invariant-loop-group
invariant-loop-group l = Wrote (each l.group-index (shown_bytes l.groups)) l.initial.out l.out l.at l.end
