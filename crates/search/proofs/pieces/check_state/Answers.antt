-- check_state: the groups, then the invariants of the first locations.
use Rattle.std.proofs.Common.{arith, sym, ◌*◌}
use Rattle.list.proofs.PieceClauses.{state_piece_lem}
use Rattle.counts.specs.Tables.{most_invariant_clauses}
use Rattle.parts.proofs.KnownLaws.{groups_piece_of, invariants_piece_of, wf}
use Rattle.parts.proofs.LayoutLaws.{known_of_layout}
use Rattle.search.proofs.CheckLaws.{checked_as, checked_stop, checked_then, passed_check, stopped, upto_done, upto_failed, upto_next, upto_none}
use Rattle.search.specs.Limits.{most_state_clauses}
use Rattle.search.proofs.pieces.check_state.Goals as goal

pub check_groups-requires : goal.check_groups-requires
check_groups-requires c = (c.requires.2, omega (arith, c.requires.3))

pub returns-in_err-count : goal.returns-in_err-count
returns-in_err-count c =
    let groups = checked_as (groups_piece_of (known_of_layout c.args.layout.now) c.args.o) c.in_err-count.ensures in
    stopped c.from_residual.ensures.1
    (checked_as (sym (state_piece_lem c.args.layout.now.model c.args.o)) (checked_stop _ most_state_clauses groups (omega arith)))

pub loop-l-init : goal.loop-l-init
loop-l-init c = upto_none

pub check_location-requires : goal.check_location-requires
check_location-requires c =
    let pre = c.requires in (
      pre.0,
      c.loop-l-test.true,
      pre.1,
      pre.2,
      omega (arith, pre.3, (wf (known_of_layout c.args.layout.now)).locations_le, c.loop-l.invariant.few, c.loop-l-test.true, c.in_ok-count.ensures.most),
    )

pub returns-in_err-count-2 : goal.returns-in_err-count-2
returns-in_err-count-2 c =
    let k = known_of_layout c.args.layout.now in
    let groups = checked_as (groups_piece_of k c.args.o) c.in_ok-count.ensures in
    let invariants = upto_failed c.loop-l.invariant (16 * most_invariant_clauses) c.loop-l-test.true c.in_err-count-2.ensures
    (omega (arith, c.loop-l-test.true, (wf k).locations_le)) in
    stopped c.from_residual-in_err-count-2.ensures.1
    (checked_as (sym (state_piece_lem c.args.layout.now.model c.args.o))
    (checked_then most_state_clauses (passed_check groups) (checked_as (invariants_piece_of k c.args.o) invariants) (omega (arith, groups.most))))

pub loop-l-preserved : goal.loop-l-preserved
loop-l-preserved c = upto_next c.loop-l.invariant c.loop-l-test.true c.in_ok-count-2.ensures

pub returns : goal.returns
returns c =
    let k = known_of_layout c.args.layout.now in
    let groups = checked_as (groups_piece_of k c.args.o) c.in_ok-count.ensures in
    let invariants = upto_done c.loop-l.invariant (16 * most_invariant_clauses) c.loop-l-test.false
    (omega (arith, c.loop-l.invariant.le, (wf k).locations_le)) in
    checked_as (sym (state_piece_lem c.args.layout.now.model c.args.o))
    (checked_then most_state_clauses (passed_check groups) (checked_as (invariants_piece_of k c.args.o) invariants) (omega (arith, groups.most)))
