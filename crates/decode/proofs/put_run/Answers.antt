-- `put_run`: the first bytes are the run's.
use Rattle.std.proofs.Common.{arith, ap, sym, ◌≡◌, ◌∙◌, ℕ, ◌+◌, ◌*◌, ◌-◌, ◌<◌, ◌++◌, length, length-set, length-take-le, drop, List}
use Rattle.model.specs.declared.Model.{Model}
use Rattle.model.specs.Automaton.{variables}
use Rattle.list.specs.Assignments.{run_of}
use Rattle.model.proofs.Filled.{filled, whole}
use Rattle.model.proofs.FormLaws.{choices_le, formed}
use Rattle.model.proofs.IndexedLaws.{list_none}
use Rattle.parts.proofs.LayoutLaws.{choices_of_layout, choice_in_layout, totals_of_layout}
use Rattle.parts.proofs.NumberingLaws.{number_is}
use Rattle.decode.proofs.Bytes.{step_byte_lem, step_fits, run_is, step_byte}
use Rattle.decode.proofs.put_run.Goals as goal

pub loop-t-init : goal.loop-t-init
loop-t-init c = record { long = length-take-le _ _ c.requires.3; bytes_are = sym (list_none _) }

pub variable_number-choice-requires : goal.variable_number-choice-requires
variable_number-choice-requires c = (
  omega (arith, c.loop-t-test.true, length-take-le c.args.bound c.args.run.now c.requires.3, c.requires.1),
  omega
      (arith, choice_in_layout c.new-layout.result),
)

pub overflow_sub-choice : goal.overflow_sub-choice
overflow_sub-choice c =
    let layout = c.new-layout.result in
    omega (arith, c.variable_number-choice.ensures, number_is _ _ (totals_of_layout layout) c.loop-t.t layout.totals.state)

pub place_of_true-requires : goal.place_of_true-requires
place_of_true-requires c =
    let layout = c.new-layout.result in
    let known = totals_of_layout layout in
    let l : c.loop-t.t < c.args.bound = omega (arith, c.loop-t-test.true, length-take-le c.args.bound c.args.run.now c.requires.3) in
    let long : length c.args.a.now ≡ variables layout.model c.args.bound = c.requires.2
    ∙ ap (λ (m : Model). variables m c.args.bound) (sym c.new-layout.ensures) in
    omega (
      arith,
      c.variable_number-choice.ensures,
      number_is _ _ known c.loop-t.t layout.totals.state,
      step_fits layout.model c.args.bound c.loop-t.t _ _ known long l,
    )

pub overflow_cast-byte : goal.overflow_cast-byte
overflow_cast-byte c =
    let layout = c.new-layout.result in
    record { fits = omega (arith, c.place_of_true.ensures.most, choices_of_layout layout, choices_le layout.model (formed layout.model layout.formed)) }

pub loop-t-preserved : goal.loop-t-preserved
loop-t-preserved c =
    let layout = c.new-layout.result in
    let t = c.loop-t.t in
    let v = c.loop-t.invariant in
    let begins : c.variable_number-choice.result - 1 ≡ t * (layout.totals.state + layout.totals.choices) + layout.totals.state =
    omega (arith, c.variable_number-choice.ensures, number_is _ _ (totals_of_layout layout) t layout.totals.state) in
    record {
      long = length-set _ _ _ ∙ v.long;
      bytes_are = filled _ _ _ _ (omega (arith, c.loop-t-test.true, c.loop-t.auto.bytes)) v.bytes_are
          (step_byte_lem _ _ _ _ _ _ begins c.place_of_true.ensures.is);
    }

pub returns : goal.returns
returns c =
    let layout = c.new-layout.result in
    let v = c.loop-t.invariant in
    let bound : ℕ = c.args.bound in
    let done : c.loop-t.t ≡ bound = omega (arith, c.loop-t-test.false, c.loop-t.auto.t-end, length-take-le bound c.args.run.now c.requires.3) in
    let bytes = whole (step_byte c.args.a.now layout.totals.state layout.totals.choices) c.loop-t.bytes v.long (rw done at v.bytes_are) in
    ap (λ (l : List ℕ). l ++ drop bound c.args.run.now)
    (bytes ∙ run_is layout.model bound c.args.a.now _ (totals_of_layout layout) ∙ ap (λ (m : Model). run_of m bound c.args.a.now) c.new-layout.ensures)
