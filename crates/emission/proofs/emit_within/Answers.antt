-- The refusals of the tests, then the list by `put_list`; the counts say whether it fits.
use Rattle.std.proofs.Common.{arith, rules, ◌≡◌, min, length, Err}
use Rattle.model.proofs.IndexedLaws.{T_true}
use Rattle.form.proofs.BoundLaws.{bound_accepted}
use Rattle.emission.specs.EmitCall.{emit_refusal}
use Rattle.emission.proofs.EmitLaws.{refused, refused_22, accepted, list_room}
use Rattle.emission.proofs.emit_within.Goals as goal

pub returns-in_err-check_bound : goal.returns-in_err-check_bound
returns-in_err-check_bound c =
    let a = c.args in
    let x = refused a.m a.bound (min a.limit (length a.out.now)) a.out.now _ c.in_err-check_bound.ensures in
    let e : c.from_residual.result ≡ Err (emit_refusal c.in_err-check_bound.field-0.0) = search rules in
    rw e (x.report, x.left)

pub new-layout-requires : goal.new-layout-requires
new-layout-requires c = (T_true _).1 (bound_accepted c.args.m c.args.bound c.in_ok-check_bound.ensures).0

pub list_counts-counts-requires : goal.list_counts-counts-requires
list_counts-counts-requires c = (bound_accepted c.args.m c.args.bound c.in_ok-check_bound.ensures).1

pub returns-then-room-words : goal.returns-then-room-words
returns-then-room-words c =
    let a = c.args in
    let ok = bound_accepted a.m a.bound c.in_ok-check_bound.ensures in
    let n = rw c.new-layout.ensures at c.list_counts-counts.ensures in
    let x = rw c.min-room.ensures at (refused_22 a.m a.bound c.min-room.result a.out.now ok _ n c.if-room-words.true) in
    (x.report, x.left)

pub put_list-requires : goal.put_list-requires
put_list-requires c =
    let a = c.args in
    let ok = bound_accepted a.m a.bound c.in_ok-check_bound.ensures in
    let n = rw c.new-layout.ensures at c.list_counts-counts.ensures in
    (ok.1, rw c.new-layout.ensures (list_room a.m a.bound c.min-room.result a.out.now ok _ n (omega (arith, c.min-room.ensures, c.if-room-words.false))))

pub returns : goal.returns
returns c =
    let a = c.args in
    let ok = bound_accepted a.m a.bound c.in_ok-check_bound.ensures in
    let n = rw c.new-layout.ensures at c.list_counts-counts.ensures in
    let w = rw c.new-layout.ensures at c.put_list.ensures in
    let x = rw c.min-room.ensures at (accepted a.m a.bound c.min-room.result a.out.now ok _ n c.if-room-words.false _ _ w) in
    (x.report, x.left)
