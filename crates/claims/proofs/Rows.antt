-- The rows, by evaluation: every definition that they reach is unfolded.
use mathlib.Core.List.{flat_map}
use lib.Dec.{T}
use Rattle.model.specs.Indexed.{each, list_below, all_below, max_below, sum_below, first_below}
use Rattle.model.specs.Automaton.{greatest_constant, ceiling, state_size, choices, variables, all_hold, invariant_holds, initial_state, delayed, delay_step}
use Rattle.model.specs.Automaton.{listed, applied, updated, place_in, set_earlier, after_edge, edge_allowed, edge_step, step}
use Rattle.model.specs.Run.{walk, start, is_run}
use Rattle.model.specs.Form.{well_formed, head_formed, each_formed, filled_from_first, atoms_formed, updates_formed, order_formed, resets_formed, edge_formed}
use Rattle.model.specs.Form.{counters_formed, invariants_formed, edges_formed, counters_in_group, clocks_in_group, state_formed}
use Rattle.list.specs.Items.{group_items, invariant_items, state_items, initial_items, start_items, choice_items, delay_items, delays_items, source_items}
use Rattle.list.specs.Items.{target_items, guard_items, updates_items, resets_items, edge_items, edges_items, step_items, end_items, body_items, items}
use Rattle.list.specs.Clauses.{clause_words, words_of, one, members, pairs, group_clauses, clauses, words}
use Rattle.list.specs.Assignments.{satisfied, true_before, first_false, place_of_true, run_of, state_bytes, steps_bytes, assignment_of}
use Rattle.walk.specs.StepCall.{step_report}
use Rattle.walk.specs.Walker.{walk_steps, walk_report}
use Rattle.encode.specs.EncodeCall.{encode_report, encode_left}
use Rattle.decode.specs.DecodeCall.{first_wrong_byte, decode_report, decode_left}
use Rattle.emission.specs.EmitCall.{emit_report, emit_left}
use Rattle.parts.specs.Numbering.{variable_number, state_numbers, choice_numbers, numbers_in_order}
use Rattle.samples.specs.Models.{model_a, waiting_a, model_b, full_model}
use Rattle.claims.specs.RowModels.{clock_relations, counter_relations, counter_updates, two_of_each, raised_then_copied, copied_then_raised, two_orders}
use Rattle.claims.specs.RowModels.{reset_and_copied, clocks_swapped, labelled_a}
use Rattle.claims.specs.RowWords.{clock_relations_words, counter_relations_words, counter_updates_words, two_of_each_words}
use Rattle.claims.specs.RowWords.{raised_then_copied_words, copied_then_raised_words, two_orders_words, reset_and_copied_words, clocks_swapped_words}
use Rattle.compose.specs.Joined.{atom_count}
use Rattle.compose.specs.Moves.{bears, shared, paired, first_alone, second_alone, pairs_of, moves}
use Rattle.compose.specs.Composed.{invariants_fit, guards_fit, fits, composed}
use Rattle.compose.specs.ComposeCall.{compose_report}
use Rattle.refutation.specs.Codes.{opposite, begins, all_within}
use Rattle.refutation.specs.Refutation.{is_in, left, span, literals, follows, refutes}
use Rattle.refute.specs.RefuteCall.{refute_report}
use Rattle.claims.specs.PairModels.{logger, watchdog, logger_and_watchdog, apart_a, paired_a}
use Rattle.claims.specs.Cases.{holds, rows, all_rows_hold}
use Rattle.claims.specs.Refutations.{tells, refutations, all_refutations_hold}

pub all_rows : T all_rows_hold
unfolding model_a waiting_a model_b full_model variable_number state_numbers choice_numbers numbers_in_order clock_relations counter_relations counter_updates
    two_of_each raised_then_copied copied_then_raised two_orders clock_relations_words counter_relations_words counter_updates_words two_of_each_words
    raised_then_copied_words copied_then_raised_words two_orders_words reset_and_copied clocks_swapped labelled_a reset_and_copied_words clocks_swapped_words
    flat_map each list_below all_below max_below sum_below first_below greatest_constant ceiling state_size choices variables all_hold invariant_holds
    initial_state delayed delay_step listed applied updated place_in set_earlier after_edge edge_allowed edge_step step walk start is_run well_formed
    head_formed each_formed filled_from_first atoms_formed updates_formed order_formed resets_formed edge_formed counters_formed invariants_formed
    edges_formed counters_in_group clocks_in_group state_formed step_report group_items invariant_items state_items initial_items start_items choice_items
    delay_items delays_items source_items target_items guard_items updates_items resets_items edge_items edges_items step_items end_items body_items items
    clause_words words_of one members pairs group_clauses clauses words satisfied true_before first_false place_of_true run_of state_bytes steps_bytes
    assignment_of walk_steps walk_report encode_report encode_left first_wrong_byte decode_report decode_left emit_report emit_left holds logger watchdog
    logger_and_watchdog apart_a paired_a compose_report fits invariants_fit guards_fit bears shared paired first_alone second_alone pairs_of moves atom_count
    composed rows all_rows_hold
all_rows = tt

pub all_refutations : T all_refutations_hold
unfolding model_a each list_below all_below max_below sum_below first_below greatest_constant ceiling state_size choices variables well_formed head_formed
    each_formed filled_from_first atoms_formed updates_formed order_formed resets_formed edge_formed counters_formed invariants_formed edges_formed
    counters_in_group clocks_in_group group_items invariant_items state_items initial_items start_items choice_items delay_items delays_items source_items
    target_items guard_items updates_items resets_items edge_items edges_items step_items end_items body_items items clause_words words_of one members pairs
    group_clauses clauses words flat_map listed place_in emit_report emit_left opposite begins all_within is_in left span literals follows refutes
    refute_report tells refutations all_refutations_hold
all_refutations = tt
