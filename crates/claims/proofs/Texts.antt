-- The calls for C. On a text that is read they are the calls on the record read, so the demands carry over; an accepted emission means that the text
-- was read. None answers 20: the record read is well formed, and the numbers of a refused text are 1 to 8. The small models' texts, by evaluation.
use mathlib.Core.Path.{◌≡◌, refl}
use mathlib.Core.Bool.{Bool, true, false, not, cond}
use mathlib.Core.List.{List, [], ◌∷◌}
use Rattle.std.specs.Prelude.{Option, None, Some}
use Prim.Native.Nat.{ℕ, zero, suc, ◌+◌, ◌≤◌}
use native.Mathlib.Omega.{arith}
use lib.Dec.{T, ltb, leb, eqb}
use lib.IntN.{ℤ}
use lib.ListN.{length, drop}
use Rattle.model.specs.declared.Model.{Model}
use Rattle.model.specs.declared.State.{State}
use Rattle.model.specs.Indexed.{list_below, all_below, maybe}
use Rattle.model.specs.Record.{blank_model}
use Rattle.model.specs.Automaton.{choices, variables, initial_state, step}
use Rattle.model.specs.Form.{well_formed, state_formed}
use Rattle.model.specs.Refusal.{Refusal, refusal, accepted, is_accepted}
use Rattle.model.specs.Run.{start}
use Rattle.model.proofs.IndexedLaws.{T_true}
use Rattle.list.specs.Clauses.{clauses, words}
use Rattle.list.specs.Assignments.{first_false}
use Rattle.walk.specs.StepCall.{step_report, step_reported}
use Rattle.walk.specs.Walker.{walk_steps, walk_report}
use Rattle.encode.specs.EncodeCall.{encode_report}
use Rattle.decode.specs.DecodeCall.{first_wrong_byte, decode_report}
use Rattle.counts.specs.CountsCall.{list_report, list_reported}
use Rattle.emission.specs.EmitCall.{EmitReport, emit_report, emit_reported, emit_left}
use Rattle.refutation.specs.Refutation.{refutes}
use Rattle.refute.specs.RefuteCall.{checked_report, refute_reported, refute_report}
use Rattle.text.specs.bytes.Ascii.{ascii}
use Rattle.text.specs.bytes.Bytes.{first_at, starts_with, is_due, value_of, number_of, digits_of, split_on, is_hyphen, items_of}
use Rattle.text.specs.bytes.Faulty.{fault_number, line_number, any_of, rises_from}
use Rattle.text.specs.declared.bytes.Faults.{Faults}
use Rattle.text.specs.atoms.Atoms.{relation_at, atom_of, atom_faults, atom_slots, inv_items, when_items}
use Rattle.text.specs.updates.Sets.{sum_of, set_to, set_of, times_set, set_twice, set_faults, update_slots, order_slots, set_items}
use Rattle.text.specs.resets.Resets.{source_of, clock_set, reset_of, reset_faults, reset_slots, reset_items}
use Rattle.text.specs.line.Values.{number_faults, reference_faults, counter_faults}
use Rattle.text.specs.lines.Store.{with_locations, with_initial, with_target, with_clocks, with_vars, with_used, with_counter, with_invariant, with_edge}
use Rattle.text.specs.lines.Store.{with_source}
use Rattle.text.specs.lines.Store.{with_edge_target, with_label, with_guard, with_updates, with_resets}
use Rattle.text.specs.lines.Progress.{Progress, unread, advanced, refused, tried, read_line}
use Rattle.text.specs.lines.Lines.{locations_line, init_line, target_line, clocks_line, vars_line, var_line, inv_line, edges_line, from_line, to_line}
use Rattle.text.specs.lines.Lines.{when_line, set_line}
use Rattle.text.specs.lines.Lines.{label_line, reset_line}
use Rattle.text.specs.lines.Sequence.{in_turn, read_head, read_counters, read_invariants, read_edge, read_edges, read_lines}
use Rattle.text.specs.Text.{read_refused, read_accepted, read_ended, read_report, if_read}
use Rattle.text.specs.Bound.{BoundReport, bound_report, bound_refused, bound_in}
use Rattle.text.proofs.Laws.Accepted.{accepted_formed}
use Rattle.dimacs.specs.DimacsCall.{file_report, file_reported}
use Rattle.dimacs.specs.File.{file}
use Rattle.sizing.specs.SizeCall.{SizeReport, refused_sizes, emitted_sizes, text_sizes, size_report}
use Rattle.wirdoku.specs.TextCall.{counted_sizes, shape_of, refused_shape, file_reply, refused_file, state_answer, zero_state, step_answer}
use Rattle.wirdoku.specs.TextCall.{refute_reply, refused_refute}
use Rattle.wirdoku.specs.declared.FileReply.{FileReply}
use Rattle.wirdoku.specs.declared.RefuteReply.{RefuteReply}
use Rattle.wirdoku.specs.declared.Shape.{Shape}
use Rattle.wirdoku.specs.declared.StateAnswer.{StateAnswer}
use Rattle.claims.specs.Calls.{record_calls, Emitted, EmittedWords, EmittedDemand2, EmittedDemand3, EmittedShortest}
use Rattle.claims.specs.Files.{Filed, FiledBytes}
use Rattle.claims.specs.Refuted.{record_refutes, text_refutes, RefutedList, NoRun}
use Rattle.claims.specs.Texts.{text_model, text_calls, IsRead, Not20, Never20, RowTexts}
use Rattle.claims.specs.RowModels.{clock_relations, counter_relations, counter_updates, two_of_each, raised_then_copied, copied_then_raised, two_orders}
use Rattle.claims.specs.RowModels.{reset_and_copied, clocks_swapped}
use Rattle.claims.proofs.Given.{given_calls, emitted_given, filed_given, given_emits, given_files, given_filed, given_words, given_2, given_3}
use Rattle.claims.proofs.Given.{given_shortest, given_not_20, given_refutes, refuted_given, given_no_run}

-- ---- a text that is read
pub read_calls : (t : List ℕ) → IsRead t → text_calls t ≡ record_calls (read_report t).model
unfolding if_read
read_calls t z = given_calls (read_report t).number (read_report t).line (read_report t).model z

pub read_refutes : (t : List ℕ) → IsRead t → text_refutes t ≡ record_refutes (text_model t)
unfolding if_read
read_refutes t z = given_refutes (read_report t).number (read_report t).line (read_report t).model z

module _ (t : List ℕ) where
  abbrev n : ℕ
  n = (read_report t).number

  abbrev l : ℕ
  l = (read_report t).line

  abbrev m : Model
  m = (read_report t).model

  pub emitted_read : (k : ℕ) → Emitted (text_calls t) k → IsRead t
  unfolding if_read
  emitted_read = emitted_given n l m

  pub filed_read : (k : ℕ) → Filed (text_calls t) k → IsRead t
  unfolding if_read
  filed_read = filed_given n l m

  pub text_emits : IsRead t → (k : ℕ) → k ≤ 64 → (old : List ℤ) → length (words m k) ≤ length old → Emitted (text_calls t) k
  unfolding if_read
  text_emits z = given_emits n l m z (accepted_formed t z)

  pub text_files : IsRead t → (k : ℕ) → k ≤ 64 → (old : List ℕ) → length (file m k) ≤ length old → Filed (text_calls t) k
  unfolding if_read
  text_files z = given_files n l m z (accepted_formed t z)

  pub text_filed : (k : ℕ) (f : Filed (text_calls t) k) (e : Emitted (text_calls t) k) → FiledBytes (text_calls t) k f e
  unfolding if_read
  text_filed = given_filed n l m

  pub text_words : (k : ℕ) (e : Emitted (text_calls t) k) → EmittedWords (text_calls t) k e
  unfolding if_read
  text_words = given_words n l m

  pub text_2 : (k : ℕ) (e : Emitted (text_calls t) k) → EmittedDemand2 (text_calls t) k e
  unfolding if_read
  text_2 = given_2 n l m

  pub text_3 : (j k : ℕ) (d : Emitted (text_calls t) j) (e : Emitted (text_calls t) k) → j ≤ k → EmittedDemand3 (text_calls t) j k d e
  unfolding if_read
  text_3 = given_3 n l m

  pub refuted_read : (k : ℕ) → RefutedList (text_refutes t) k → IsRead t
  unfolding if_read
  refuted_read = refuted_given n l m

  pub text_no_run : (k : ℕ) → RefutedList (text_refutes t) k → NoRun (text_calls t) k
  unfolding if_read
  text_no_run = given_no_run n l m

  pub text_shortest : (e : (k : ℕ) → k ≤ 64 → Emitted (text_calls t) k) → EmittedShortest (text_calls t) e
  unfolding if_read
  text_shortest = given_shortest n l m

-- ---- the number of a refused text is at most 8
fault_small : (f : Faults) → fault_number f ≤ 7
unfolding fault_number
fault_small f = go f.malformed f.crowded f.outside f.undeclared f.unordered
  where
    go : (a b c d e : Bool) → cond a 3 (cond b 7 (cond c 4 (cond d 5 (cond e 6 0)))) ≤ 7
    go true b c d e = omega arith
    go false true c d e = omega arith
    go false false true d e = omega arith
    go false false false true e = omega arith
    go false false false false true = omega arith
    go false false false false false = omega arith

line_small : (b : Bool) (f : Faults) → line_number b f ≤ 7
unfolding line_number
line_small true f = fault_small f
line_small false f = omega arith

abbrev Small : Progress → Type 0
Small p = p.number ≤ 7

read_small : (key : List ℕ) (faults : Model → List ℕ → Faults) (store : Model → List ℕ → Model) (p : Progress) → Small p
    → Small (read_line key faults store p)
unfolding read_line
read_small key faults store p s = go (eqb p.number 0)
  where
    v : List ℕ
    v = value_of key p.rest

    n : ℕ
    n = line_number (is_due key p.rest) (faults p.model v)

    one : (b : Bool) → Small (cond b (advanced (store p.model v) p) (refused n p))
    one true = omega arith
    one false = line_small (is_due key p.rest) (faults p.model v)

    go : (b : Bool) → Small (cond b (tried n (store p.model v) p) p)
    go true = one (eqb n 0)
    go false = s

turns_small : (f : ℕ → Progress → Progress) → ((i : ℕ) (p : Progress) → Small p → Small (f i p)) → (n : ℕ) (p : Progress) → Small p
    → Small (in_turn f n p)
unfolding in_turn
turns_small f keeps zero p s = s
turns_small f keeps (suc n) p s = keeps n (in_turn f n p) (turns_small f keeps n p s)

head_small : (t : List ℕ) → Small (read_head (unread t))
unfolding read_head locations_line init_line target_line clocks_line vars_line
head_small t =
    read_small _ _ _ _ (read_small _ _ _ _ (read_small _ _ _ _ (read_small _ _ _ _ (read_small _ _ _ (unread t) (omega arith)))))

edge_small : (e : ℕ) (p : Progress) → Small p → Small (read_edge e p)
unfolding read_edge from_line to_line label_line when_line set_line reset_line
edge_small e p s =
    read_small _ _ _ _ (read_small _ _ _ _ (read_small _ _ _ _ (read_small _ _ _ _ (read_small _ _ _ _ (read_small _ _ _ p s)))))

lines_small : (t : List ℕ) → Small (read_lines t)
unfolding read_lines read_counters read_invariants read_edges var_line inv_line edges_line
lines_small t =
    turns_small read_edge edge_small _ _
    (read_small _ _ _ _
    (turns_small inv_line (λ i p s. read_small _ _ _ p s) _ _
    (turns_small var_line (λ i p s. read_small _ _ _ p s) _ _ (head_small t))))

pub read_number : (t : List ℕ) → (read_report t).number ≤ 8
unfolding read_report read_ended
read_number t = go (ltb 8192 (length t)) (eqb (read_lines t).number 0) (ltb 0 (length (read_lines t).rest))
  where
    p : Progress
    p = read_lines t

    go : (a b c : Bool)
        → (cond a (read_refused 1 0) (cond b (cond c (read_refused 8 p.line) (read_accepted p.model)) (read_refused p.number p.line))).number ≤ 8
    go true b c = omega arith
    go false true true = omega arith
    go false true false = omega arith
    go false false c = omega (arith, lines_small t)

-- ---- 20
not_20 : {A : Type 0} (number : A → ℕ) (call : Model → A) (refuse : ℕ → ℕ → A) → ((m : Model) → T (well_formed m) → Not20 (number (call m)))
    → ((n l : ℕ) → number (refuse n l) ≡ n) → (t : List ℕ) → Not20 (number (if_read (read_report t) call refuse))
unfolding if_read
not_20 number call refuse formed-not told t =
    given_not_20 (read_report t).number (read_report t).line (read_report t).model number call refuse formed-not told (accepted_formed t)
    (λ h. omega (arith, h, read_number t))

-- the calls on a well-formed record
module _ (m : Model) (ok : T (well_formed m)) where
  w : well_formed m ≡ true
  w = (T_true (well_formed m)).0 ok

  pub emit_not : (k room : ℕ) → Not20 (emit_report m k room).number
  unfolding emit_report
  emit_not k room = rw w (go (ltb 64 k) (ltb room (length (words m k))))
    where
      needed : ℕ
      needed = length (words m k)

      go : (b l : Bool)
          → Not20 (cond b (emit_reported 21 0 0 0)
          (cond l (emit_reported 22 0 0 needed) (emit_reported 0 (variables m k) (length (clauses m k)) needed))).number
      go true l h = omega arith
      go false true h = omega arith
      go false false h = omega arith

  pub refute_not : (k : ℕ) (old : List ℤ) (hints : List ℕ) → Not20 (refute_report m k old hints).number
  unfolding refute_report
  refute_not k old hints = go (eqb e.number 0) (emit_not k (length old))
    where
      e : EmitReport
      e = emit_report m k (length old)

      r : Bool
      r = refutes (emit_left m k (length old) old) e.words hints

      go : (b : Bool) → Not20 e.number → Not20 (cond b (checked_report r e.words) (refute_reported e.number e.words 0)).number
      go true other h = omega arith
      go false other h = other h

  pub file_not : (k room : ℕ) → Not20 (file_report m k room).number
  unfolding file_report
  file_not k room = rw w (go (ltb 64 k) (ltb room (length (file m k))))
    where
      needed : ℕ
      needed = length (file m k)

      go : (b l : Bool) → Not20 (cond b (file_reported 21 0) (cond l (file_reported 32 needed) (file_reported 0 needed))).number
      go true l h = omega arith
      go false true h = omega arith
      go false false h = omega arith

  pub list_not : (k : ℕ) → Not20 (list_report m k).number
  unfolding list_report
  list_not k = rw w (go (ltb 64 k))
    where
      go : (b : Bool) → Not20 (cond b (list_reported 21 0 0 0) (list_reported 0 (variables m k) (length (clauses m k)) (length (words m k)))).number
      go true h = omega arith
      go false h = omega arith

  pub step_not : (s : State) (byte : ℕ) → Not20 (step_report m s byte).number
  unfolding step_report
  step_not s byte = rw w (go (state_formed m s) (leb (choices m) byte) (step m s byte))
    where
      go : (f c : Bool) (o : Option State)
          → Not20 (cond (not f) (step_reported 10 s) (cond c (step_reported 27 s) (maybe o (step_reported 28 s) (λ t. step_reported 0 t)))).number
      go false c o h = omega arith
      go true true o h = omega arith
      go true false None h = omega arith
      go true false (Some t) h = omega arith

  steps_not : (r : List ℕ) (t : ℕ) (s : State) → Not20 (walk_steps m t s r).number
  unfolding walk_steps
  steps_not [] t s = go (eqb s.location m.target)
    where
      go : (b : Bool) → Not20 (cond b accepted (refusal 30 0)).number
      go true h = omega arith
      go false h = omega arith
  steps_not (b ∷ r) t s = go (leb (choices m) b) (step m s b) (λ u. steps_not r (t + 1) u)
    where
      go : (x : Bool) (o : Option State) → ((u : State) → Not20 (walk_steps m (t + 1) u r).number)
          → Not20 (cond x (refusal 27 t) (maybe o (refusal 28 t) (λ u. walk_steps m (t + 1) u r))).number
      go true o f h = omega arith
      go false None f h = omega arith
      go false (Some u) f h = f u h

  pub walk_not : (r : List ℕ) → Not20 (walk_report m r).number
  unfolding walk_report
  walk_not r = rw w (go (ltb 64 (length r)) (start m))
    where
      go : (l : Bool) (o : Option State) → Not20 (cond l (refusal 21 0) (maybe o (refusal 29 0) (λ s. walk_steps m 1 s r))).number
      go true o h = omega arith
      go false None h = omega arith
      go false (Some s) h = steps_not r 1 s h

  pub decode_not : (k : ℕ) (a : List ℕ) (room : ℕ) → Not20 (decode_report m k a room).number
  unfolding decode_report
  decode_not k a room = rw w (go (ltb 64 k) (eqb (length a) (variables m k)) (first_wrong_byte 0 a) (ltb room k) (first_false a (clauses m k)))
    where
      report : Bool → Bool → Option ℕ → Bool → Option ℕ → Refusal
      report b l x s f =
          cond b (refusal 21 0)
          (cond (not l) (refusal 23 0)
          (maybe x (cond s (refusal 25 0) (maybe f accepted (λ i. refusal 26 i))) (λ i. refusal 24 i)))

      go : (b l : Bool) (x : Option ℕ) (s : Bool) (f : Option ℕ) → Not20 (report b l x s f).number
      go true l x s f h = omega arith
      go false false x s f h = omega arith
      go false true (Some i) s f h = omega arith
      go false true None true f h = omega arith
      go false true None false (Some i) h = omega arith
      go false true None false None h = omega arith

  pub encode_not : (r : List ℕ) (room : ℕ) → Not20 (encode_report m r room).number
  unfolding encode_report
  encode_not r room = go (is_accepted (walk_report m r)) (ltb room (variables m (length r)))
    where
      go : (a l : Bool) → Not20 (cond a (cond l (refusal 31 0) accepted) (walk_report m r)).number
      go true true h = omega arith
      go true false h = omega arith
      go false l h = walk_not r h

-- of the two texts' answers that are no refusals of a record
text_not : (t : List ℕ) → Not20 (read_report t).number
text_not t h = omega (arith, read_number t)

sizes_not : (t : List ℕ) (k room : ℕ) → Not20 (text_sizes (read_report t) k room).number
sizes_not t k room =
    not_20 (λ (s : SizeReport). s.number) (λ m. emitted_sizes (emit_report m k room)) refused_sizes (λ m ok. emit_not m ok k room) (λ n l. refl) t

-- a bound line's own number is 0 or 9
bound_number : (input : List ℕ) → (bound_report input).number ≤ 9
unfolding bound_report
bound_number input = go (is_due (ascii "bound=") input) (number_of (value_of (ascii "bound=") input)) (first_at 10 input + 1)
  where
    go : (d : Bool) (x : Option ℕ) (next : ℕ) → (cond d (bound_in x next) bound_refused).number ≤ 9
    go true None next = omega arith
    go true (Some n) next = omega arith
    go false x next = omega arith

size_not : (input : List ℕ) (room : ℕ) → Not20 (size_report input room).number
unfolding size_report
size_not input room = go (bound_report input) (bound_number input) (eqb (bound_report input).number 0)
  where
    go : (b : BoundReport) → b.number ≤ 9 → (is : Bool)
        → Not20 (cond is (text_sizes (read_report (drop b.next input)) b.bound room) (refused_sizes b.number 0)).number
    go b s true h = sizes_not (drop b.next input) b.bound room h
    go b s false h = omega arith

-- a call that answers a refusal
refusal_not : (call : Model → Refusal) → ((m : Model) → T (well_formed m) → Not20 (call m).number) → (t : List ℕ)
    → Not20 (if_read (read_report t) call refusal).number
refusal_not call f t = not_20 (λ (x : Refusal). x.number) call refusal f (λ n l. refl) t

-- and one that answers a state
state_not : (call : Model → StateAnswer) (s : State) → ((m : Model) → T (well_formed m) → Not20 (call m).number) → (t : List ℕ)
    → Not20 (if_read (read_report t) call (λ n l. state_answer n l s)).number
state_not call s f t = not_20 (λ (x : StateAnswer). x.number) call (λ n l. state_answer n l s) f (λ n l. refl) t

-- the refuting call
pub refutes_not : (t : List ℕ) (k : ℕ) (old : List ℤ) (hints : List ℕ)
    → Not20 (if_read (read_report t) (λ m. refute_reply (refute_report m k old hints)) refused_refute).number
refutes_not t k old hints =
    not_20 (λ (x : RefuteReply). x.number) (λ m. refute_reply (refute_report m k old hints)) refused_refute (λ m ok. refute_not m ok k old hints)
    (λ n l. refl) t

pub never_20 : Never20
never_20 = record {
  read = text_not;
  shape = λ t. not_20 (λ (x : Shape). x.number) shape_of refused_shape (λ m ok h. omega arith) (λ n l. refl) t;
  counts = λ t k.
      not_20 (λ (x : SizeReport). x.number) (λ m. counted_sizes (list_report m k)) refused_sizes (λ m ok. list_not m ok k) (λ n l. refl) t;
  emit = sizes_not;
  dimacs = λ t k room.
      not_20 (λ (x : FileReply). x.number) (λ m. file_reply (file_report m k room)) refused_file (λ m ok. file_not m ok k room) (λ n l. refl) t;
  size = size_not;
  initial = λ t. state_not (λ m. state_answer 0 0 (initial_state m)) zero_state (λ m ok h. omega arith) t;
  step = λ t s byte. state_not (λ m. step_answer (step_report m s byte)) s (λ m ok. step_not m ok s byte) t;
  walk = λ t r. refusal_not (λ m. walk_report m r) (λ m ok. walk_not m ok r) t;
  assignment_to_run = λ t k a room. refusal_not (λ m. decode_report m k a room) (λ m ok. decode_not m ok k a room) t;
  run_to_assignment = λ t r room. refusal_not (λ m. encode_report m r room) (λ m ok. encode_not m ok r room) t;
}

-- ---- the small models
pub row_texts : RowTexts
unfolding list_below all_below first_at starts_with is_due value_of number_of digits_of split_on is_hyphen items_of fault_number line_number any_of rises_from
    relation_at atom_of atom_faults atom_slots inv_items when_items sum_of set_to set_of times_set set_twice set_faults update_slots order_slots set_items
    source_of clock_set reset_of reset_faults reset_slots reset_items number_faults reference_faults counter_faults with_locations with_initial with_target
    with_clocks with_vars with_used with_counter with_invariant with_edge with_source with_edge_target with_label with_guard with_updates with_resets
    read_line locations_line init_line target_line clocks_line vars_line var_line inv_line edges_line from_line to_line label_line when_line set_line
    reset_line in_turn read_head read_counters read_invariants read_edge read_edges read_lines read_ended read_report blank_model clock_relations
    counter_relations counter_updates two_of_each raised_then_copied copied_then_raised two_orders reset_and_copied clocks_swapped
row_texts = record {
  clock_relations_lem = refl;
  counter_relations_lem = refl;
  counter_updates_lem = refl;
  two_of_each_lem = refl;
  raised_then_copied_lem = refl;
  copied_then_raised_lem = refl;
  two_orders_lem = refl;
  reset_and_copied_lem = refl;
  clocks_swapped_lem = refl;
}
