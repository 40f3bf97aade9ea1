-- `Reader::model`: too long, a refused line, bytes left, or the model.
use Rattle.std.proofs.Common.{rules, ◌≡◌, Err}
use Rattle.text.proofs.ItemLaws.{rest_long, rest_refused, rest_left, rest_read}
use Rattle.text.proofs.reader.Reader.model.Goals as goal

pub returns-then-self-gt-BYTES : goal.returns-then-self-gt-BYTES
returns-then-self-gt-BYTES c = rest_long c.args.self.text.now c.args.self.at c.if-self-gt-BYTES.true

pub returns-in_err-r : goal.returns-in_err-r
returns-in_err-r c =
    let e : c.from_residual.result ≡ Err c.in_err-r.field-0.0 = search rules in
    rw e (rest_refused c.args.self.text.now c.args.self.at c.if-self-gt-BYTES.false c.in_err-r.ensures)

pub returns-then-r-self : goal.returns-then-r-self
returns-then-r-self c = rest_left c.args.self.text.now c.args.self.at c.if-self-gt-BYTES.false c.in_ok-r.ensures c.if-r-self.true

pub returns : goal.returns
returns c = rest_read c.args.self.text.now c.args.self.at c.if-self-gt-BYTES.false c.in_ok-r.ensures c.if-r-self.false
