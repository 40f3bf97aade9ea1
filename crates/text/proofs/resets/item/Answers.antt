-- `item`: x stands first, or not.
use Rattle.std.proofs.Common.{◌≡◌, ◌==◌, ◌∙◌, sym, get_or, true, false}
use Rattle.text.specs.resets.Resets.{reset_of}
use Rattle.text.proofs.bytes.Library.{x_first}
use Rattle.text.proofs.resets.item.Goals as goal

pub returns-in_err-set : goal.returns-in_err-set
unfolding reset_of
returns-in_err-set c =
    let other : (get_or c.args.s.now 0 0 == 120) ≡ false = sym (x_first c.args.s.now) ∙ c.in_err-set.ensures.cases in
    rw (c.from_residual.ensures, other)

pub returns : goal.returns
unfolding reset_of
returns c =
    let first : (get_or c.args.s.now 0 0 == 120) ≡ true = sym (x_first c.args.s.now) ∙ c.in_ok-set.ensures.cases.0 in
    rw (first, ← c.in_ok-set.ensures.cases.1) c.clock_set.ensures
