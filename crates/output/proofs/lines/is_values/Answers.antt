-- `is_values`: what follows the key decides; without the key it is false.
use mathlib.Core.Path.{◌≡◌, sym}
use mathlib.Core.Bool.{Bool, true, false}
use mathlib.Core.List.{List}
use Prim.Native.Nat.{ℕ, ◌+◌}
use denote.Ref.{Bor}
use lib.Dec.{eqb}
use lib.ListN.{length, take, drop}
use lib.Pointwise.{pointwise}
use Rattle.std.specs.Prelude.{Option, Some, None, MatchOption}
use Rattle.text.specs.bytes.Ascii.{ascii}
use Rattle.text.specs.bytes.Bytes.{split_on}
use Rattle.output.specs.Literals.{are_literals}
use Rattle.output.specs.Lines.{is_values, words_of}
use Rattle.output.proofs.LineLaws.{stripped}
use Rattle.output.proofs.lines.is_values.Goals as goal

-- the answer b, from what `strip_prefix` gave
tested : (l : List ℕ) (r : Option (Bor (List ℕ))) (b : Bool)
    → MatchOption r (pointwise eqb (take 2 l) (ascii "v ") ≡ false)
    (λ x. (pointwise eqb (take 2 l) (ascii "v ") ≡ true) × (x.now ≡ drop 2 l) × (length x.now + 2 ≡ length l))
    → MatchOption r (b ≡ false) (λ x. b ≡ are_literals (split_on 32 x.now)) → b ≡ is_values l
unfolding is_values words_of
tested l None b e h = rw (stripped (ascii "v ") l e) h
tested l (Some x) b e h = rw (stripped (ascii "v ") l e.0, sym e.1) h

pub returns : goal.returns
returns c = tested c.args.l.now c.strip_prefix.result c.is_some_and.result c.strip_prefix.ensures.cases c.is_some_and.ensures
