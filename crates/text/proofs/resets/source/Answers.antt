-- `source`: x stands first, or not.
use Rattle.std.proofs.Common.{◌≡◌, ◌==◌, ◌∙◌, sym, get_or, true, false}
use Rattle.text.specs.resets.Resets.{source_of}
use Rattle.text.proofs.bytes.Library.{x_first}
use Rattle.text.proofs.resets.source.Goals as goal

pub returns-in_err-number : goal.returns-in_err-number
unfolding source_of
returns-in_err-number c =
    let other : (get_or c.args.s.now 0 0 == 120) ≡ false = sym (x_first c.args.s.now) ∙ c.in_err-number.ensures.cases in
    rw (c.from_residual.ensures, other)

pub returns : goal.returns
unfolding source_of
returns c =
    let first : (get_or c.args.s.now 0 0 == 120) ≡ true = sym (x_first c.args.s.now) ∙ c.in_ok-number.ensures.cases.0 in
    rw (first, ← c.in_ok-number.ensures.cases.1) c.number.ensures
