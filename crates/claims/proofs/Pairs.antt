-- The calls for C on two texts. Where both are read and compose a model they are the calls on that model, so the demands carry over. None answers 20: the
-- records read are well formed, and so is the composed one. The worked pairs, by evaluation.
use mathlib.Core.Path.{◌≡◌, refl, sym, subst, ◌∙◌}
use mathlib.Core.Bool.{Bool, true, false, not, cond}
use mathlib.Core.List.{List}
use Prim.Native.Nat.{ℕ, ◌≤◌}
use native.Mathlib.Omega.{arith}
use lib.Dec.{T, leb, eqb}
use lib.IntN.{ℤ}
use lib.ListN.{length}
use borrow.Author.Tests.{eq-eqb, eqb-true}
use Rattle.model.specs.declared.Model.{Model}
use Rattle.model.specs.declared.State.{State}
use Rattle.model.specs.Automaton.{initial_state, choices}
use Rattle.model.specs.Form.{well_formed}
use Rattle.model.specs.Refusal.{Refusal, refusal}
use Rattle.model.proofs.IndexedLaws.{T_true}
use Rattle.list.specs.Clauses.{words}
use Rattle.walk.specs.StepCall.{step_report}
use Rattle.walk.specs.Walker.{walk_report}
use Rattle.compose.specs.Composed.{fits, composed}
use Rattle.compose.specs.ComposeCall.{compose_report}
use Rattle.compose.specs.Parts.{parts_reported, first_step, second_step, stays, steps_report, parts_report}
use Rattle.product.proofs.Limits.{composes_exactly}
use Rattle.product.proofs.Product.{answer_formed}
use Rattle.encode.specs.EncodeCall.{encode_report}
use Rattle.decode.specs.DecodeCall.{decode_report}
use Rattle.counts.specs.CountsCall.{list_report}
use Rattle.emission.specs.EmitCall.{emit_report}
use Rattle.text.specs.Text.{read_report, if_read}
use Rattle.text.proofs.Laws.Accepted.{accepted_formed}
use Rattle.dimacs.specs.DimacsCall.{file_report}
use Rattle.dimacs.specs.File.{file}
use Rattle.sizing.specs.SizeCall.{SizeReport, refused_sizes, emitted_sizes}
use Rattle.refute.specs.RefuteCall.{refute_report}
use Rattle.wirdoku.specs.TextCall.{counted_sizes, shape_of, refused_shape, file_reply, refused_file, state_answer, zero_state, step_answer}
use Rattle.wirdoku.specs.TextCall.{refute_reply, refused_refute}
use Rattle.wirdoku.specs.PairCall.{PairReport, refused_pair, pair_composed, pair_report, if_pair, if_both, parts_answer, refused_parts}
use Rattle.wirdoku.specs.declared.FileReply.{FileReply}
use Rattle.wirdoku.specs.declared.RefuteReply.{RefuteReply}
use Rattle.wirdoku.specs.declared.Shape.{Shape}
use Rattle.wirdoku.specs.declared.StateAnswer.{StateAnswer}
use Rattle.wirdoku.specs.declared.pairs.PartSteps.{PartSteps}
use Rattle.claims.specs.Calls.{record_calls, Emitted, EmittedWords, EmittedDemand2, EmittedDemand3, EmittedShortest}
use Rattle.claims.specs.Files.{Filed, FiledBytes}
use Rattle.claims.specs.Refuted.{record_refutes, pair_refutes, RefutedList, RefutesNever20, NoRun}
use Rattle.claims.specs.Texts.{Not20}
use Rattle.claims.specs.Pairs.{pair_of, IsPair, pair_model, pair_calls, PairNever20}
use Rattle.claims.proofs.Given.{given_calls, emitted_given, filed_given, given_emits, given_files, given_filed, given_words, given_2, given_3}
use Rattle.claims.proofs.Given.{given_shortest, given_not_20, given_refutes, refuted_given, given_no_run}
use Rattle.claims.proofs.Texts.{read_number, emit_not, refute_not, refutes_not, file_not, list_not, step_not, walk_not, decode_not, encode_not}

-- ---- two texts, by whether each is read
module _ (t u : List ℕ) where
  abbrev first : Model
  first = (read_report t).model

  abbrev second : Model
  second = (read_report u).model

  -- what is so of the composed answer and of the refusal of either text is so of the pair
  by_text : {A : Type 0} (P : A → Type 0) (call : Model → Model → A) (refused : ℕ → ℕ → ℕ → A)
      → (T (well_formed first) → T (well_formed second) → P (call first second)) → ((text n l : ℕ) → (n ≡ 0 → ⊥) → n ≤ 8 → P (refused text n l))
      → P (if_both (read_report t) (read_report u) call refused)
  unfolding if_both if_read
  by_text {A} P call refused both one = go (eqb (read_report t).number 0) (eqb (read_report u).number 0) refl refl
    where
      apart : (n : ℕ) → eqb n 0 ≡ false → n ≡ 0 → ⊥
      apart n e z = subst T (sym (eq-eqb n 0 z) ∙ e) tt

      go : (x y : Bool) → eqb (read_report t).number 0 ≡ x → eqb (read_report u).number 0 ≡ y
          → P (cond x (cond y (call first second) (refused 2 (read_report u).number (read_report u).line))
          (refused 1 (read_report t).number (read_report t).line))
      go true true p q = both (accepted_formed t (eqb-true (read_report t).number 0 p)) (accepted_formed u (eqb-true (read_report u).number 0 q))
      go true false p q = one 2 (read_report u).number (read_report u).line (apart (read_report u).number q) (read_number u)
      go false y p q = one 1 (read_report t).number (read_report t).line (apart (read_report t).number p) (read_number t)

  -- the composed model is well formed
  pub pair_formed : IsPair t u → T (well_formed (pair_model t u))
  unfolding pair_report
  pair_formed = by_text (λ (p : PairReport). p.number ≡ 0 → T (well_formed p.model)) (λ a b. pair_composed (compose_report a b)) refused_pair
      (λ x y. answer_formed first second) (λ text n l no small z. absurd (no z))

  -- no refusal of a pair is 20
  pub pair_not : Not20 (pair_of t u).number
  unfolding pair_report
  pair_not = by_text (λ (p : PairReport). Not20 p.number) (λ a b. pair_composed (compose_report a b)) refused_pair
      (λ x y h. (composes_exactly first second).refuses_20.0 h (x, y)) (λ text n l no small h. omega (arith, h, small))

  -- ---- the demands
  abbrev n : ℕ
  n = (pair_of t u).number

  abbrev l : ℕ
  l = (pair_of t u).line

  abbrev m : Model
  m = (pair_of t u).model

  pub pair_calls_lem : IsPair t u → pair_calls t u ≡ record_calls m
  unfolding if_pair
  pair_calls_lem = given_calls n l m

  pub pair_refutes_lem : IsPair t u → pair_refutes t u ≡ record_refutes m
  unfolding if_pair
  pair_refutes_lem = given_refutes n l m

  pub emitted_pair : (k : ℕ) → Emitted (pair_calls t u) k → IsPair t u
  unfolding if_pair
  emitted_pair = emitted_given n l m

  pub filed_pair : (k : ℕ) → Filed (pair_calls t u) k → IsPair t u
  unfolding if_pair
  filed_pair = filed_given n l m

  pub pair_emits : IsPair t u → (k : ℕ) → k ≤ 64 → (old : List ℤ) → length (words m k) ≤ length old → Emitted (pair_calls t u) k
  unfolding if_pair
  pair_emits z = given_emits n l m z (pair_formed z)

  pub pair_files : IsPair t u → (k : ℕ) → k ≤ 64 → (old : List ℕ) → length (file m k) ≤ length old → Filed (pair_calls t u) k
  unfolding if_pair
  pair_files z = given_files n l m z (pair_formed z)

  pub pair_filed : (k : ℕ) (f : Filed (pair_calls t u) k) (e : Emitted (pair_calls t u) k) → FiledBytes (pair_calls t u) k f e
  unfolding if_pair
  pair_filed = given_filed n l m

  pub pair_words : (k : ℕ) (e : Emitted (pair_calls t u) k) → EmittedWords (pair_calls t u) k e
  unfolding if_pair
  pair_words = given_words n l m

  pub pair_2 : (k : ℕ) (e : Emitted (pair_calls t u) k) → EmittedDemand2 (pair_calls t u) k e
  unfolding if_pair
  pair_2 = given_2 n l m

  pub pair_3 : (j k : ℕ) (d : Emitted (pair_calls t u) j) (e : Emitted (pair_calls t u) k) → j ≤ k → EmittedDemand3 (pair_calls t u) j k d e
  unfolding if_pair
  pair_3 = given_3 n l m

  pub refuted_pair : (k : ℕ) → RefutedList (pair_refutes t u) k → IsPair t u
  unfolding if_pair
  refuted_pair = refuted_given n l m

  pub pair_no_run : (k : ℕ) → RefutedList (pair_refutes t u) k → NoRun (pair_calls t u) k
  unfolding if_pair
  pair_no_run = given_no_run n l m

  pub pair_shortest : (e : (k : ℕ) → k ≤ 64 → Emitted (pair_calls t u) k) → EmittedShortest (pair_calls t u) e
  unfolding if_pair
  pair_shortest = given_shortest n l m

-- ---- 20
not_20 : {A : Type 0} (number : A → ℕ) (call : Model → A) (refuse : ℕ → ℕ → A) → ((m : Model) → T (well_formed m) → Not20 (number (call m)))
    → ((n l : ℕ) → number (refuse n l) ≡ n) → (t u : List ℕ) → Not20 (number (if_pair (pair_of t u) call refuse))
unfolding if_pair
not_20 number call refuse formed-not told t u =
    given_not_20 (pair_of t u).number (pair_of t u).line (pair_of t u).model number call refuse formed-not told (pair_formed t u) (pair_not t u)

-- a call that answers a refusal, and one that answers a state
refusal_not : (call : Model → Refusal) → ((m : Model) → T (well_formed m) → Not20 (call m).number) → (t u : List ℕ)
    → Not20 (if_pair (pair_of t u) call refusal).number
refusal_not call f t u = not_20 (λ (x : Refusal). x.number) call refusal f (λ n l. refl) t u

state_not : (call : Model → StateAnswer) (s : State) → ((m : Model) → T (well_formed m) → Not20 (call m).number) → (t u : List ℕ)
    → Not20 (if_pair (pair_of t u) call (λ n l. state_answer n l s)).number
state_not call s f t u = not_20 (λ (x : StateAnswer). x.number) call (λ n l. state_answer n l s) f (λ n l. refl) t u

parts_not : (a b : Model) → T (well_formed a) → T (well_formed b) → (byte : ℕ) → Not20 (parts_report a b byte).number
unfolding parts_report steps_report
parts_not a b x y byte = rw ((T_true (well_formed a)).0 x, (T_true (well_formed b)).0 y) (go (fits a b) (leb (choices (composed a b)) byte))
  where
    go : (f c : Bool) → Not20 (cond (not f) (parts_reported 38 0 0)
        (cond c (parts_reported 27 0 0) (parts_reported 0 (stays (first_step a b byte)) (stays (second_step a b byte))))).number
    go false c h = omega arith
    go true true h = omega arith
    go true false h = omega arith

pub never_20 : PairNever20
never_20 = record {
  read = pair_not;
  shape = not_20 (λ (x : Shape). x.number) shape_of refused_shape (λ m ok h. omega arith) (λ n l. refl);
  counts = λ t u k.
      not_20 (λ (x : SizeReport). x.number) (λ m. counted_sizes (list_report m k)) refused_sizes (λ m ok. list_not m ok k) (λ n l. refl) t u;
  emit = λ t u k room.
      not_20 (λ (x : SizeReport). x.number) (λ m. emitted_sizes (emit_report m k room)) refused_sizes (λ m ok. emit_not m ok k room) (λ n l. refl) t u;
  dimacs = λ t u k room.
      not_20 (λ (x : FileReply). x.number) (λ m. file_reply (file_report m k room)) refused_file (λ m ok. file_not m ok k room) (λ n l. refl) t u;
  initial = state_not (λ m. state_answer 0 0 (initial_state m)) zero_state (λ m ok h. omega arith);
  step = λ t u s byte. state_not (λ m. step_answer (step_report m s byte)) s (λ m ok. step_not m ok s byte) t u;
  walk = λ t u r. refusal_not (λ m. walk_report m r) (λ m ok. walk_not m ok r) t u;
  assignment_to_run = λ t u k a room. refusal_not (λ m. decode_report m k a room) (λ m ok. decode_not m ok k a room) t u;
  run_to_assignment = λ t u r room. refusal_not (λ m. encode_report m r room) (λ m ok. encode_not m ok r room) t u;
  parts = λ t u byte.
      by_text t u (λ (p : PartSteps). Not20 p.number) (λ a b. parts_answer (parts_report a b byte)) (λ text. refused_parts)
      (λ x y. parts_not (read_report t).model (read_report u).model x y byte) (λ text n l no small h. omega (arith, h, small));
}

pub refutes_never_20 : RefutesNever20
refutes_never_20 = record {
  text = refutes_not;
  pair = λ t u k old hints.
      not_20 (λ (x : RefuteReply). x.number) (λ m. refute_reply (refute_report m k old hints)) refused_refute (λ m ok. refute_not m ok k old hints)
      (λ n l. refl) t u;
}
