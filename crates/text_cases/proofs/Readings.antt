-- Every worked text is read as its row says, by evaluation.
use mathlib.Core.Path.{refl}
use Rattle.text.specs.bytes.Bytes.{first_at, starts_with, is_due, value_of, number_of, digits_of, split_on, is_hyphen, items_of}
use Rattle.text.specs.bytes.Faulty.{fault_number, line_number, any_of, rises_from}
use Rattle.text.specs.atoms.Atoms.{relation_at, atom_of, atom_faults, atom_slots, inv_items, when_items}
use Rattle.text.specs.updates.Sets.{sum_of, set_to, set_of, times_set, set_twice, set_faults, update_slots, order_slots, set_items}
use Rattle.text.specs.resets.Resets.{source_of, clock_set, reset_of, reset_faults, reset_slots, reset_items}
use Rattle.text.specs.line.Values.{number_faults, reference_faults, counter_faults}
use Rattle.text.specs.lines.Store.{with_locations, with_initial, with_target, with_clocks, with_vars, with_used, with_counter, with_invariant, with_edge}
use Rattle.text.specs.lines.Store.{with_source, with_edge_target, with_label, with_guard, with_updates, with_resets}
use Rattle.text.specs.lines.Progress.{read_line}
use Rattle.text.specs.lines.Lines.{locations_line, init_line, target_line, clocks_line, vars_line, var_line, inv_line, edges_line, from_line, to_line}
use Rattle.text.specs.lines.Lines.{label_line, when_line, set_line, reset_line}
use Rattle.text.specs.lines.Sequence.{in_turn, read_head, read_counters, read_invariants, read_edge, read_edges, read_lines}
use Rattle.text.specs.Text.{read_ended, read_report}
use Rattle.text.specs.Bound.{bound_report}
use Rattle.samples.specs.Models.{model_a, model_b}
use Rattle.model.specs.Indexed.{list_below, all_below}
use Rattle.model.specs.Record.{blank_model}
use Rattle.text_cases.specs.Cases.{Lengths, EachRead, EachBound, accepted, refused, bounds}

infixr 5 ◌&◌
◌&◌ : {A B : Type 0} → A → B → A × B
a & b = (a, b)

texts_read : EachRead accepted × EachRead refused
unfolding accepted refused first_at starts_with is_due value_of number_of digits_of split_on is_hyphen items_of fault_number line_number any_of
    rises_from relation_at atom_of atom_faults atom_slots inv_items when_items sum_of set_to set_of times_set set_twice set_faults update_slots
    order_slots set_items source_of clock_set reset_of reset_faults reset_slots reset_items number_faults reference_faults counter_faults
    with_locations with_initial with_target with_clocks with_vars with_used with_counter with_invariant with_edge with_source with_edge_target
    with_label with_guard with_updates with_resets read_line locations_line init_line target_line clocks_line vars_line var_line inv_line edges_line
    from_line to_line label_line when_line set_line reset_line in_turn read_head read_counters read_invariants read_edge read_edges read_lines
    read_ended read_report list_below all_below model_a model_b blank_model
texts_read = (
  refl & refl & refl & refl & refl & refl & refl & refl & refl & refl & refl & refl & refl & tt,
  refl & refl & refl & refl & refl & refl & refl & refl & refl & refl & refl & refl & refl & refl & refl & refl & refl & refl & refl & refl & refl &
      refl & refl & refl & refl & refl & refl & refl & refl & refl & refl & refl & refl & refl & refl & refl & refl & refl & refl & refl & refl & refl &
      refl & refl & refl & refl & refl & refl & refl & refl & refl & refl & refl & refl & refl & refl & refl & refl & refl & refl & refl & refl & refl &
      refl & refl & refl & refl & refl & refl & refl & refl & refl & refl & refl & refl & tt,
)

pub accepted_read : EachRead accepted
accepted_read = texts_read.0

pub refused_read : EachRead refused
refused_read = texts_read.1

pub bounds_read : EachBound bounds
unfolding bounds first_at starts_with is_due value_of number_of digits_of split_on is_hyphen items_of bound_report
bounds_read = refl & refl & refl & refl & refl & tt

pub lengths_are : Lengths
lengths_are = (refl, refl)
