-- `sum`: the parts are taken in turn, and the first that is not of its form makes the answer.
use Rattle.std.proofs.Common.{◌≡◌, drop, None, Some}
use Rattle.text.specs.bytes.Bytes.{number_of}
use Rattle.text.proofs.updates.Parts.{sum_parts}
use Rattle.text.proofs.updates.sum.Goals as goal

pub returns-in_err-source : goal.returns-in_err-source
returns-in_err-source c =
    rw (c.from_residual.ensures, sum_parts _ c.tail.ensures c.leading-source.ensures.0 c.leading-source.ensures.1 c.args.counter, c.in_err-source.was)

pub returns-in_err-amount : goal.returns-in_err-amount
returns-in_err-amount c =
    let n : number_of (drop 1 c.leading-source.result.1.now) ≡ None = rw (← c.tail-2.ensures, ← c.number.ensures) c.in_err-amount.was in
    rw (
      c.from_residual-in_err-amount.ensures,
      sum_parts _ c.tail.ensures c.leading-source.ensures.0 c.leading-source.ensures.1 c.args.counter,
      c.in_ok-source.was,
      n,
    )

pub returns : goal.returns
returns c =
    let n : number_of (drop 1 c.leading-source.result.1.now) ≡ Some c.in_ok-amount.amount = rw (← c.tail-2.ensures, ← c.number.ensures) c.in_ok-amount.was in
    rw (sum_parts _ c.tail.ensures c.leading-source.ensures.0 c.leading-source.ensures.1 c.args.counter, c.in_ok-source.was, n, ← c.byte.ensures)
    c.signed_sum.ensures
