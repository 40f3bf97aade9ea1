-- The worked pairs of models, by evaluation: every definition that they reach is unfolded.
use mathlib.Core.Path.{refl}
use Rattle.model.specs.Indexed.{each, list_below, all_below, sum_below, first_below}
use Rattle.model.specs.Record.{blank_model}
use Rattle.model.specs.Automaton.{listed, place_in}
use Rattle.model.specs.Form.{well_formed, head_formed, each_formed, filled_from_first, atoms_formed, updates_formed, order_formed, resets_formed, edge_formed}
use Rattle.model.specs.Form.{counters_formed, invariants_formed, edges_formed}
use Rattle.compose.specs.Joined.{atom_count, joined_atoms, joined_updates, joined_order, joined_resets, standing, joined_edge}
use Rattle.compose.specs.Moves.{bears, shared, paired, first_alone, second_alone, pairs_of, moves, placed}
use Rattle.compose.specs.Composed.{invariants_fit, guards_fit, fits, joined_counters, joined_invariants, composed}
use Rattle.compose.specs.ComposeCall.{compose_report}
use Rattle.samples.specs.Models.{model_a}
use Rattle.text.specs.bytes.Bytes.{first_at, starts_with, is_due, value_of, number_of, digits_of, split_on, is_hyphen, items_of}
use Rattle.text.specs.bytes.Faulty.{fault_number, line_number, any_of, rises_from}
use Rattle.text.specs.atoms.Atoms.{relation_at, atom_of, atom_faults, atom_slots, inv_items, when_items}
use Rattle.text.specs.updates.Sets.{sum_of, set_to, set_of, times_set, set_twice, set_faults, update_slots, order_slots, set_items}
use Rattle.text.specs.resets.Resets.{source_of, clock_set, reset_of, reset_faults, reset_slots, reset_items}
use Rattle.text.specs.line.Values.{number_faults, reference_faults, counter_faults}
use Rattle.text.specs.lines.Store.{with_locations, with_initial, with_target, with_clocks, with_vars, with_used, with_counter, with_invariant, with_edge}
use Rattle.text.specs.lines.Store.{with_source}
use Rattle.text.specs.lines.Store.{with_edge_target, with_label, with_guard, with_updates, with_resets}
use Rattle.text.specs.lines.Progress.{read_line}
use Rattle.text.specs.lines.Lines.{locations_line, init_line, target_line, clocks_line, vars_line, var_line, inv_line, edges_line, from_line, to_line}
use Rattle.text.specs.lines.Lines.{when_line, set_line}
use Rattle.text.specs.lines.Lines.{label_line, reset_line}
use Rattle.text.specs.lines.Sequence.{in_turn, read_head, read_counters, read_invariants, read_edge, read_edges, read_lines}
use Rattle.text.specs.Text.{read_ended, read_report}
use Rattle.claims.specs.RowModels.{labelled_a}
use Rattle.claims.specs.PairModels.{logger, watchdog, logger_and_watchdog, apart_a, paired_a}
use Rattle.claims.specs.Pairs.{WorkedPairs}

pub worked_pairs : WorkedPairs
unfolding list_below all_below first_at starts_with is_due value_of number_of digits_of split_on is_hyphen items_of fault_number line_number any_of rises_from
    relation_at atom_of atom_faults atom_slots inv_items when_items sum_of set_to set_of times_set set_twice set_faults update_slots order_slots set_items
    source_of clock_set reset_of reset_faults reset_slots reset_items number_faults reference_faults counter_faults with_locations with_initial with_target
    with_clocks with_vars with_used with_counter with_invariant with_edge with_source with_edge_target with_label with_guard with_updates with_resets
    read_line locations_line init_line target_line clocks_line vars_line var_line inv_line edges_line from_line to_line label_line when_line set_line
    reset_line in_turn read_head read_counters read_invariants read_edge read_edges read_lines read_ended read_report blank_model logger watchdog
    logger_and_watchdog apart_a paired_a labelled_a model_a each sum_below first_below listed place_in well_formed head_formed each_formed filled_from_first
    atoms_formed updates_formed order_formed resets_formed edge_formed counters_formed invariants_formed edges_formed compose_report fits invariants_fit
    guards_fit composed joined_counters joined_invariants bears shared paired first_alone second_alone pairs_of moves placed atom_count joined_atoms
    joined_updates joined_order joined_resets standing joined_edge
worked_pairs = record {
  logger_read = refl;
  watchdog_read = refl;
  logger_watchdog = refl;
  labels_0_0 = refl;
  labels_1_1 = refl;
  labels_1_2 = refl;
}
