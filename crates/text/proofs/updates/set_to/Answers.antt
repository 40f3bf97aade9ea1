-- `set_to`: v stands first, or the value is a constant.
use Rattle.std.proofs.Common.{◌≡◌, ◌∙◌, sym, None, Some}
use borrow.Author.Tests.{eq-eqb, ne_eqb}
use Rattle.text.specs.bytes.Bytes.{number_of}
use Rattle.text.specs.updates.Sets.{set_to}
use Rattle.text.proofs.updates.set_to.Goals as goal

pub returns-then-byte-eq118 : goal.returns-then-byte-eq118
unfolding set_to
returns-then-byte-eq118 c = rw (← c.byte.ensures, eq-eqb _ _ c.if-byte-eq118.true) c.sum.ensures

pub returns-in_err-constant : goal.returns-in_err-constant
unfolding set_to
returns-in_err-constant c =
    let n : number_of c.args.s.now ≡ None = sym c.number.ensures ∙ c.in_err-constant.was in
    rw (c.from_residual.ensures, ← c.byte.ensures, ne_eqb _ _ c.if-byte-eq118.false, n)

pub returns : goal.returns
unfolding set_to
returns c =
    let n : number_of c.args.s.now ≡ Some c.in_ok-constant.constant = sym c.number.ensures ∙ c.in_ok-constant.was in
    rw (← c.byte.ensures, ne_eqb _ _ c.if-byte-eq118.false, n)
