-- `atom`: the parts are taken in turn, and the first that is not of its form makes the answer.
use Rattle.std.proofs.Common.{◌≡◌, sym, get_or, drop, None, Some}
use Rattle.text.specs.bytes.Bytes.{number_of}
use Rattle.text.specs.atoms.Atoms.{relation_at}
use Rattle.text.proofs.atoms.Parts.{atom_parts, no_sign}
use Rattle.text.proofs.atoms.atom.Goals as goal

pub returns-in_err-index : goal.returns-in_err-index
returns-in_err-index c =
    rw (c.from_residual.ensures, atom_parts _ c.tail.ensures c.leading-index.ensures.0 c.leading-index.ensures.1, c.in_err-index.was)

pub returns-in_err-sign : goal.returns-in_err-sign
returns-in_err-sign c =
    let u = c.leading-index.result.1.now in
    let sign : relation_at (get_or u 0 0) (get_or u 1 0) ≡ None = rw (← c.byte.ensures, ← c.byte-2.ensures, ← c.relation.ensures) c.in_err-sign.was in
    rw (c.from_residual-in_err-sign.ensures, atom_parts _ c.tail.ensures c.leading-index.ensures.0 c.leading-index.ensures.1, c.in_ok-index.was, sign)
    (sym (no_sign (get_or c.args.s.now 0 0) c.in_ok-index.index _))

pub returns-in_err-constant : goal.returns-in_err-constant
returns-in_err-constant c =
    let u = c.leading-index.result.1.now in
    let sign : relation_at (get_or u 0 0) (get_or u 1 0) ≡ Some c.in_ok-sign.sign =
    rw (← c.byte.ensures, ← c.byte-2.ensures, ← c.relation.ensures) c.in_ok-sign.was in
    let n : number_of (drop c.in_ok-sign.sign.width u) ≡ None = rw (← c.tail-2.ensures, ← c.number.ensures) c.in_err-constant.was in
    rw (c.from_residual-in_err-constant.ensures, atom_parts _ c.tail.ensures c.leading-index.ensures.0 c.leading-index.ensures.1, c.in_ok-index.was, sign, n)

pub returns : goal.returns
returns c =
    let u = c.leading-index.result.1.now in
    let sign : relation_at (get_or u 0 0) (get_or u 1 0) ≡ Some c.in_ok-sign.sign =
    rw (← c.byte.ensures, ← c.byte-2.ensures, ← c.relation.ensures) c.in_ok-sign.was in
    let n : number_of (drop c.in_ok-sign.sign.width u) ≡ Some c.in_ok-constant.constant = rw (← c.tail-2.ensures, ← c.number.ensures) c.in_ok-constant.was in
    rw (atom_parts _ c.tail.ensures c.leading-index.ensures.0 c.leading-index.ensures.1, c.in_ok-index.was, sign, n, ← c.byte-3.ensures) c.named_atom.ensures
