-- The initial value of each group, a group a turn.
use Rattle.std.proofs.Common.{arith, sym, ap, ◌≡◌, ℕ, ◌+◌, [], ◌∷◌}
use Rattle.model.specs.Automaton.{initial_value}
use Rattle.model.proofs.FormLaws.{state_size_le}
use Rattle.list.specs.Clauses.{bare, one}
use Rattle.parts.specs.declared.Group.{Group}
use Rattle.parts.specs.StateBlock.{component_at, first_at}
use Rattle.parts.proofs.KnownLaws.{wf, known_initial, initial_piece_of}
use Rattle.parts.proofs.LayoutLaws.{known_of_layout}
use Rattle.emission.proofs.ClauseLaws.{wrote_each, wrote_each_none, room_each, wrote_as, room_as}
use Rattle.emission.proofs.start.put_initial.Goals as goal

pub loop-g-init : goal.loop-g-init
loop-g-init c = wrote_each_none _ _ _ (omega (arith, c.requires.words.room))

pub initial_value-v-requires : goal.initial_value-v-requires
initial_value-v-requires c = (wf (known_of_layout c.args.layout.now)).vars_le

pub overflow_add-first : goal.overflow_add-first
overflow_add-first c =
    let l = c.args.layout.now in
    let k = known_of_layout l in
    let first = ap (λ (x : Group). x.first) c.group-first.ensures in
    omega (arith, first, c.initial_value-v.ensures, known_initial k c.loop-g.g c.loop-g-test.true, state_size_le l.model (wf k))

pub put_unit-end-requires : goal.put_unit-end-requires
put_unit-end-requires c =
    let l = c.args.layout.now in
    let k = known_of_layout l in
    let named : first_at l.table c.loop-g.g + initial_value l.model (component_at l.model c.loop-g.g) ≡ c.group-first.result.first + c.initial_value-v.result =
    omega (arith, ap (λ (x : Group). x.first) c.group-first.ensures, c.initial_value-v.ensures) in (
      omega (arith, named, known_initial k c.loop-g.g c.loop-g-test.true, state_size_le l.model (wf k)),
      room_as (ap (λ (n : ℕ). one (bare n ∷ [])) named) (room_each _ _ _ c.loop-g.invariant c.loop-g-test.true (room_as (sym (initial_piece_of k)) c.requires)),
    )

pub loop-g-preserved : goal.loop-g-preserved
loop-g-preserved c =
    let l = c.args.layout.now in
    let named : first_at l.table c.loop-g.g + initial_value l.model (component_at l.model c.loop-g.g) ≡ c.group-first.result.first + c.initial_value-v.result =
    omega (arith, ap (λ (x : Group). x.first) c.group-first.ensures, c.initial_value-v.ensures) in
    wrote_each _ _ c.loop-g.invariant (wrote_as (ap (λ (n : ℕ). one (bare n ∷ [])) named) c.put_unit-end.ensures)

pub returns : goal.returns
returns c =
    let l = c.args.layout.now in
    let done : c.loop-g.g ≡ l.table.groups = omega (arith, c.loop-g-test.false, c.loop-g.auto.g-end) in
    wrote_as (sym (initial_piece_of (known_of_layout l))) (rw done at c.loop-g.invariant)
