-- `put_group`: the loop has written the first members of the group.
use Rattle.std.proofs.Common.{◌≡◌, length, take}
use mathlib.Core.Bool.{cond}
use lib.Dec.{eqb}
use Rattle.model.specs.Indexed.{list_below}
use Rattle.encode.proofs.put_group.Given as goal

abbrev pub invariant-loop-v : goal.invariant-loop-v
invariant-loop-v l = record {
  long : length l.group ≡ l.fn.n;
  members_are : take l.v l.group ≡ list_below (λ v. cond (eqb v l.fn.d) 1 0) l.v;
}
