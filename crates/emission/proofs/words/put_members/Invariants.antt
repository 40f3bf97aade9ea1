-- The clause of all members: the words of the members so far, in the part of the buffer that is for them.
use Rattle.std.proofs.Common.{◌≡◌, take, length}
use Rattle.model.specs.Indexed.{list_below}
use Rattle.emission.proofs.Members.{member_word}
use Rattle.emission.proofs.words.put_members.Given as goal

abbrev pub invariant-loop-v : goal.invariant-loop-v
invariant-loop-v l = record {
  long : length l.member-items ≡ l.n;
  so_far : take l.v l.member-items ≡ list_below (member_word l.b) l.v;
}
