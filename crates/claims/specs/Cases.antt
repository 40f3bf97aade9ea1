-- The cases that document 01 marks P, and rows that pin the definitions: a list of rows over the worked models, the small models and the model at every
-- limit.
-- proofs/Claims.antt has the one claim that covers all rows.
use Rattle.std.specs.Prelude.{Bool, true, false, not, ◌&&◌, cond, List, [], ◌∷◌, map, ℕ, zero, suc, eqb, length, replicate, ℤ, pos, negsuc}
use Rattle.model.specs.declared.Model.{Model}
use Rattle.model.specs.declared.State.{State}
use Rattle.model.specs.Indexed.{each}
use Rattle.model.specs.Automaton.{ceiling, Component, loc, counter, clock, state_size, choices, variables}
use Rattle.model.specs.Form.{well_formed}
use Rattle.model.specs.Refusal.{Refusal, is_accepted}
use Rattle.model.specs.Run.{is_run}
use Rattle.list.specs.Lists.{all_of}
use Rattle.list.specs.Clauses.{clauses}
use Rattle.list.specs.Assignments.{satisfied}
use Rattle.parts.specs.Numbering.{state_number, choice_number, numbers_in_order}
use Rattle.walk.specs.StepCall.{StepReport, step_report}
use Rattle.walk.specs.Walker.{walk_report}
use Rattle.compose.specs.ComposeCall.{compose_report}
use Rattle.encode.specs.EncodeCall.{encode_report, encode_left}
use Rattle.decode.specs.DecodeCall.{decode_report, decode_left}
use Rattle.emission.specs.EmitCall.{EmitReport, emit_report, emit_left}
use Rattle.samples.specs.Models.{model_a, waiting_a, model_b, full_model}
use Rattle.claims.specs.RowModels.{clock_relations, counter_relations, counter_updates, two_of_each, raised_then_copied, copied_then_raised, two_orders}
use Rattle.claims.specs.RowModels.{reset_and_copied, clocks_swapped, labelled_a}
use Rattle.claims.specs.PairModels.{logger, watchdog, logger_and_watchdog, apart_a, paired_a, bare, clocked, counted, looped, waiting, guarded}
use Rattle.claims.specs.RowWords.{neg, end, clock_relations_words, counter_relations_words, counter_updates_words, two_of_each_words}
use Rattle.claims.specs.RowWords.{raised_then_copied_words, copied_then_raised_words, two_orders_words, reset_and_copied_words, clocks_swapped_words}

-- ---- what a row may say
pub data Fact : Type 0 where
  -- the records are well formed; they are refused with 20
  are_formed : List Model → Fact
  are_refused : List Model → Fact
  -- emission for k is accepted in a buffer of so many words, and tells so many variables, clauses and words
  counts_are : Model → ℕ → ℕ → ℕ → ℕ → Fact
  -- M, S and H
  totals_are : Model → ℕ → ℕ → ℕ → Fact
  -- N for k
  variables_are : Model → ℕ → ℕ → Fact
  -- in state t, this value of this component has this number; in step t + 1, this choice
  state_number_is : Model → ℕ → Component → ℕ → ℕ → Fact
  choice_number_is : Model → ℕ → ℕ → ℕ → Fact
  -- the members for k in document 01's order have these numbers
  numbers_are : Model → ℕ → List ℕ → Fact
  -- emission for k leaves these words, in order, in a buffer of as many
  words_are : Model → ℕ → List ℤ → Fact
  -- of all assignments for k, exactly these satisfy the list
  satisfied_by : Model → ℕ → List (List ℕ) → Fact
  -- the assignment for k has this run, and the run this assignment: both calls accept, and leave the one and the other
  decodes_to : Model → ℕ → List ℕ → List ℕ → Fact
  -- the call from assignment to run refuses the assignment for k with this number and place
  assignment_refused : Model → ℕ → List ℕ → ℕ → ℕ → Fact
  -- of all lists of k choices, exactly these are runs
  runs_are : Model → ℕ → List (List ℕ) → Fact
  -- from the state with this location and these clocks, this byte leads to the state with that location and those clocks; counters show 0
  step_is : Model → ℕ → List ℕ → ℕ → ℕ → List ℕ → Fact
  -- the walker refuses the run with this number and place
  run_refused : Model → List ℕ → ℕ → ℕ → Fact
  -- the steps are a run
  is_a_run : Model → List ℕ → Fact
  -- composing the two records answers with this number
  composing_is : Model → Model → ℕ → Fact

-- ---- how it is checked: by evaluation
-- All lists of k numbers below n, in order.
abbrev strings : ℕ → ℕ → List (List ℕ)
strings n zero = [] ∷ []
strings n (suc k) = each n (λ x. map (λ r. x ∷ r) (strings n k))

abbrev equal_integers : ℤ → ℤ → Bool
equal_integers (pos a) (pos b) = eqb a b
equal_integers (pos a) (negsuc b) = false
equal_integers (negsuc a) (pos b) = false
equal_integers (negsuc a) (negsuc b) = eqb a b

-- Two lists are equal, element by element.
abbrev equal_lists : {A : Type 0} → (A → A → Bool) → List A → List A → Bool
equal_lists same [] [] = true
equal_lists same [] (y ∷ ys) = false
equal_lists same (x ∷ xs) [] = false
equal_lists same (x ∷ xs) (y ∷ ys) = same x y && equal_lists same xs ys

abbrev equal_counts : EmitReport → ℕ → ℕ → ℕ → Bool
equal_counts r v c w = eqb r.number 0 && eqb r.variables v && eqb r.clauses c && eqb r.words w

abbrev equal_refusal : Refusal → ℕ → ℕ → Bool
equal_refusal x number place = eqb x.number number && eqb x.place place

-- The state with this location and these clocks, and counters at 0.
abbrev standing : ℕ → List ℕ → State
standing l clocks = record { location = l; counters = replicate 4 0; clocks = clocks }

abbrev equal_step : StepReport → State → Bool
equal_step r t =
    eqb r.number 0 && eqb r.state.location t.location && equal_lists eqb r.state.counters t.counters &&
    equal_lists eqb r.state.clocks t.clocks

-- Those that pass the test, in order.
abbrev keep_if : (List ℕ → Bool) → List (List ℕ) → List (List ℕ)
keep_if p [] = []
keep_if p (x ∷ xs) = cond (p x) (x ∷ keep_if p xs) (keep_if p xs)

-- The fact holds.
unfoldable pub holds : Fact → Bool
holds (are_formed ms) = all_of well_formed ms
holds (are_refused ms) = all_of (λ m. not (well_formed m)) ms
holds (counts_are m k v c w) = equal_counts (emit_report m k w) v c w
holds (totals_are m top s h) = eqb (ceiling m) top && eqb (state_size m) s && eqb (choices m) h
holds (variables_are m k n) = eqb (variables m k) n
holds (state_number_is m t x v n) = eqb (state_number m t x v) n
holds (choice_number_is m t c n) = eqb (choice_number m t c) n
holds (numbers_are m k ns) = equal_lists eqb (numbers_in_order m k) ns
holds (words_are m k ws) = equal_lists equal_integers (emit_left m k (length ws) (replicate (length ws) (pos 0))) ws
holds (satisfied_by m k found) = equal_lists (equal_lists eqb) (keep_if (λ a. satisfied a (clauses m k)) (strings 2 (variables m k))) found
holds (decodes_to m k a r) =
    is_accepted (decode_report m k a k) && equal_lists eqb (decode_left m k a (replicate k 0)) r &&
    is_accepted (encode_report m r (length a)) && equal_lists eqb (encode_left m r (replicate (length a) 0)) a
holds (assignment_refused m k a number place) = equal_refusal (decode_report m k a k) number place
holds (runs_are m k rs) = equal_lists (equal_lists eqb) (keep_if (is_run m) (strings (choices m) k)) rs
holds (step_is m l xs byte l' ys) = equal_step (step_report m (standing l xs) byte) (standing l' ys)
holds (run_refused m r number place) = equal_refusal (walk_report m r) number place
holds (is_a_run m r) = is_run m r
holds (composing_is a b number) = eqb (compose_report a b).number number

-- ---- the rows
-- A row: the number of its case P1 to P10 and what it says; 0 for what the cases take for granted, for the small models and for numbers.
pub record Row : Type 0 where
  pub number : ℕ
  pub says : Fact

abbrev P : ℕ → Fact → Row
P n f = record { number = n; says = f }

-- P1 to P10, the lists of the small models for one step, what pairs of models compose, both sides of each limit of it, and the numbers of members, up to
-- the greatest.
unfoldable pub rows : List Row
rows =
    P 0 (are_formed (model_a ∷ waiting_a ∷ model_b ∷ clock_relations ∷ counter_relations ∷ counter_updates ∷ two_of_each ∷ [])) ∷
    P 0 (are_formed (raised_then_copied ∷ copied_then_raised ∷ two_orders ∷ reset_and_copied ∷ clocks_swapped ∷ [])) ∷
    P 1 (counts_are model_a 0 2 4 10) ∷
    P 1 (satisfied_by model_a 0 []) ∷
    P 2 (words_are model_a 1 (
    pos 1 ∷ pos 2 ∷ end ∷ neg 1 ∷ neg 2 ∷ end ∷ pos 1 ∷ end ∷
    pos 3 ∷ pos 4 ∷ pos 5 ∷ end ∷ neg 3 ∷ neg 4 ∷ end ∷ neg 3 ∷ neg 5 ∷ end ∷ neg 4 ∷ neg 5 ∷ end ∷
    neg 3 ∷ neg 1 ∷ pos 6 ∷ end ∷ neg 3 ∷ neg 2 ∷ pos 7 ∷ end ∷ neg 4 ∷ neg 1 ∷ pos 6 ∷ end ∷ neg 4 ∷ neg 2 ∷ pos 7 ∷ end ∷
    neg 5 ∷ pos 1 ∷ end ∷ neg 5 ∷ pos 7 ∷ end ∷ pos 6 ∷ pos 7 ∷ end ∷ neg 6 ∷ neg 7 ∷ end ∷ pos 7 ∷ end ∷ [])) ∷
    P 2 (counts_are model_a 1 7 16 51) ∷
    P 3 (satisfied_by model_a 1 ((1 ∷ 0 ∷ 0 ∷ 0 ∷ 1 ∷ 0 ∷ 1 ∷ []) ∷ [])) ∷
    P 3 (decodes_to model_a 1 (1 ∷ 0 ∷ 0 ∷ 0 ∷ 1 ∷ 0 ∷ 1 ∷ []) (2 ∷ [])) ∷
    P 4 (assignment_refused model_a 1 (1 ∷ 0 ∷ 1 ∷ 0 ∷ 0 ∷ 1 ∷ 0 ∷ []) 26 15) ∷
    P 5 (counts_are model_a 2 12 28 92) ∷
    P 5 (runs_are model_a 2 ((0 ∷ 2 ∷ []) ∷ (1 ∷ 2 ∷ []) ∷ (2 ∷ 0 ∷ []) ∷ (2 ∷ 1 ∷ []) ∷ [])) ∷
    P 6 (totals_are model_b 4 11 8) ∷
    P 6 (variables_are model_b 3 68) ∷
    P 6 (runs_are model_b 3 ((5 ∷ 3 ∷ 7 ∷ []) ∷ [])) ∷
    P 7 (run_refused model_b (5 ∷ 4 ∷ 7 ∷ []) 28 2) ∷
    P 8 (run_refused model_b (5 ∷ 3 ∷ []) 30 0) ∷
    P 9 (run_refused model_b (5 ∷ 3 ∷ 8 ∷ []) 27 3) ∷
    P 10 (run_refused waiting_a [] 29 0) ∷
    P 0 (words_are clock_relations 1 clock_relations_words) ∷
    P 0 (words_are counter_relations 1 counter_relations_words) ∷
    P 0 (words_are counter_updates 1 counter_updates_words) ∷
    P 0 (words_are two_of_each 1 two_of_each_words) ∷
    P 0 (counts_are raised_then_copied 1 15 38 126) ∷
    P 0 (words_are raised_then_copied 1 raised_then_copied_words) ∷
    P 0 (decodes_to raised_then_copied 1 (1 ∷ 0 ∷ 1 ∷ 0 ∷ 1 ∷ 0 ∷ 0 ∷ 0 ∷ 1 ∷ 0 ∷ 1 ∷ 0 ∷ 1 ∷ 0 ∷ 1 ∷ []) (2 ∷ [])) ∷
    P 0 (words_are copied_then_raised 1 copied_then_raised_words) ∷
    P 0 (decodes_to copied_then_raised 1 (1 ∷ 0 ∷ 1 ∷ 0 ∷ 1 ∷ 0 ∷ 0 ∷ 0 ∷ 1 ∷ 0 ∷ 1 ∷ 0 ∷ 1 ∷ 1 ∷ 0 ∷ []) (2 ∷ [])) ∷
    P 0 (words_are two_orders 1 two_orders_words) ∷
    P 0 (decodes_to two_orders 1 (1 ∷ 1 ∷ 0 ∷ 0 ∷ 1 ∷ 0 ∷ 0 ∷ 1 ∷ 0 ∷ 1 ∷ 0 ∷ 1 ∷ 0 ∷ 1 ∷ []) (2 ∷ [])) ∷
    P 0 (run_refused two_orders (3 ∷ 3 ∷ []) 28 2) ∷
    P 0 (totals_are reset_and_copied 2 8 4) ∷
    P 0 (counts_are reset_and_copied 1 20 62 215) ∷
    P 0 (counts_are reset_and_copied 2 32 110 390) ∷
    P 0 (words_are reset_and_copied 1 reset_and_copied_words) ∷
    P 0 (runs_are reset_and_copied 2 ((1 ∷ 3 ∷ []) ∷ (2 ∷ 3 ∷ []) ∷ [])) ∷
    P 0 (step_is reset_and_copied 0 (1 ∷ 2 ∷ 0 ∷ 0 ∷ []) 3 1 (0 ∷ 1 ∷ 0 ∷ 0 ∷ [])) ∷
    P 0 (decodes_to reset_and_copied 2 (
    1 ∷ 0 ∷ 1 ∷ 0 ∷ 0 ∷ 1 ∷ 0 ∷ 0 ∷ 0 ∷ 1 ∷ 0 ∷ 0 ∷ 1 ∷ 0 ∷ 0 ∷ 1 ∷ 0 ∷ 0 ∷ 1 ∷ 0 ∷ 0 ∷ 0 ∷ 0 ∷ 1 ∷ 0 ∷ 1 ∷ 1 ∷ 0 ∷ 0 ∷ 0 ∷ 1 ∷ 0 ∷ [])
    (1 ∷ 3 ∷ [])) ∷
    P 0 (totals_are clocks_swapped 1 6 3) ∷
    P 0 (counts_are clocks_swapped 1 15 38 127) ∷
    P 0 (words_are clocks_swapped 1 clocks_swapped_words) ∷
    P 0 (step_is clocks_swapped 0 (1 ∷ 0 ∷ 0 ∷ 0 ∷ []) 2 1 (0 ∷ 1 ∷ 0 ∷ 0 ∷ [])) ∷
    P 0 (are_formed (labelled_a 15 0 ∷ [])) ∷
    P 0 (are_refused (labelled_a 16 0 ∷ labelled_a 255 0 ∷ labelled_a 0 5 ∷ labelled_a 15 1 ∷ [])) ∷
    P 0 (counts_are (labelled_a 15 0) 1 7 16 51) ∷
    P 0 (are_formed (logger ∷ watchdog ∷ logger_and_watchdog ∷ apart_a 1 2 ∷ paired_a 1 ∷ [])) ∷
    P 0 (totals_are logger_and_watchdog 5 21 11) ∷
    P 0 (counts_are logger_and_watchdog 1 53 382 1361) ∷
    P 0 (runs_are logger_and_watchdog 2 []) ∷
    P 0 (is_a_run logger_and_watchdog (1 ∷ 6 ∷ 1 ∷ 10 ∷ [])) ∷
    P 0 (counts_are (apart_a 0 0) 1 14 48 158) ∷
    P 0 (runs_are (apart_a 0 0) 2 ((2 ∷ 5 ∷ []) ∷ (4 ∷ 3 ∷ []) ∷ [])) ∷
    P 0 (counts_are (paired_a 1) 1 11 30 101) ∷
    P 0 (runs_are (paired_a 1) 1 ((2 ∷ []) ∷ [])) ∷
    P 0 (composing_is (bare 17) (bare 4) 20) ∷
    P 0 (composing_is (bare 4) (bare 17) 20) ∷
    P 0 (composing_is (bare 4) (bare 4) 0) ∷
    P 0 (composing_is (bare 4) (bare 5) 38) ∷
    P 0 (composing_is (clocked 2) (clocked 2) 0) ∷
    P 0 (composing_is (clocked 3) (clocked 2) 38) ∷
    P 0 (composing_is (counted 2) (counted 2) 0) ∷
    P 0 (composing_is (counted 3) (counted 2) 38) ∷
    P 0 (composing_is (looped 2 8 0) (looped 2 8 0) 0) ∷
    P 0 (composing_is (looped 2 9 0) (looped 2 8 0) 38) ∷
    P 0 (composing_is (looped 1 4 1) (looped 1 8 1) 0) ∷
    P 0 (composing_is (looped 1 3 1) (looped 1 11 1) 38) ∷
    P 0 (composing_is (waiting 2) (waiting 2) 0) ∷
    P 0 (composing_is (waiting 3) (waiting 2) 38) ∷
    P 0 (composing_is (guarded 2 1) (guarded 2 1) 0) ∷
    P 0 (composing_is (guarded 3 1) (guarded 2 1) 38) ∷
    P 0 (composing_is (guarded 3 1) (guarded 2 2) 0) ∷
    P 0 (numbers_are model_a 1 (1 ∷ 2 ∷ 3 ∷ 4 ∷ 5 ∷ 6 ∷ 7 ∷ [])) ∷
    P 0 (state_number_is model_b 1 (counter 0) 1 25) ∷
    P 0 (choice_number_is model_b 2 7 57) ∷
    P 0 (state_number_is model_b 3 loc 3 61) ∷
    P 0 (state_number_is model_b 3 (clock 0) 4 68) ∷
    P 0 (are_formed (full_model ∷ [])) ∷
    P 0 (choice_number_is full_model 63 63 21504) ∷
    P 0 (state_number_is full_model 64 loc 15 21520) ∷
    P 0 (state_number_is full_model 64 (clock 3) 31 21776) ∷ []

-- Every row holds.
unfoldable pub all_rows_hold : Bool
all_rows_hold = all_of (λ row. holds row.says) rows
