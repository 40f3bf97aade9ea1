-- `requested`: 9, the text's refusal, 21, or what is asked.
use Rattle.std.proofs.Common.{rules, ◌≡◌, Err}
use Rattle.dimacs.specs.Request.{as_request_refusal}
use Rattle.dimacs.proofs.RequestLaws.{line_refused, text_refused, bound_refused, accepted}
use Rattle.dimacs.proofs.requested.Goals as goal

pub returns-in_default : goal.returns-in_default
returns-in_default c = line_refused c.args.input.now c.read_item-item.result c.read_item-item.ensures c.in_default.is

pub returns-in_err-model : goal.returns-in_err-model
returns-in_err-model c =
    let e : c.from_residual.result ≡ Err (as_request_refusal c.in_err-model.field-0.0) = search rules in
    rw e (text_refused c.args.input.now c.read_item-item.result c.read_item-item.ensures c.in-Some.is c.in_err-model.was)

pub returns-then-bound-gt-STEPS : goal.returns-then-bound-gt-STEPS
returns-then-bound-gt-STEPS c =
    bound_refused c.args.input.now c.read_item-item.result c.read_item-item.ensures c.in-Some.is c.in_ok-model.was c.if-bound-gt-STEPS.true

pub returns : goal.returns
returns c = accepted c.args.input.now c.read_item-item.result c.read_item-item.ensures c.in-Some.is c.in_ok-model.was c.if-bound-gt-STEPS.false
