-- `put_run`: the first bytes are the run's.
use Rattle.std.proofs.Common.{◌≡◌, length, take}
use Rattle.model.specs.Indexed.{list_below}
use Rattle.decode.proofs.Bytes.{step_byte}
use Rattle.decode.proofs.put_run.Given as goal

abbrev pub invariant-loop-t : goal.invariant-loop-t
invariant-loop-t l = record {
  long : length l.bytes ≡ l.fn.bound;
  bytes_are : take l.t l.bytes ≡ list_below (step_byte l.a l.layout.totals.state l.layout.totals.choices) l.t;
}
