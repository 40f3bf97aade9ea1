-- The calls for C on what is read or composed: a number, a line and a model. Where the number is 0 they are the calls on the model, so the demands carry
-- over; an accepted emission means that the number is 0. None answers 20, where the number is not 20 and the model is well formed if the number is 0.
use mathlib.Core.Path.{◌≡◌, refl, sym, ap, subst, ◌∙◌}
use mathlib.Core.Bool.{Bool, true, false, cond}
use mathlib.Core.List.{List}
use Prim.Native.Nat.{ℕ, ◌≤◌}
use native.Mathlib.Omega.{arith}
use lib.Dec.{T, eqb}
use lib.IntN.{ℤ}
use lib.ListN.{length}
use borrow.Author.Tests.{eq-eqb, eqb-true}
use Rattle.model.specs.declared.Model.{Model}
use Rattle.model.specs.Form.{well_formed}
use Rattle.model.specs.Refusal.{refusal}
use Rattle.list.specs.Clauses.{words}
use Rattle.walk.specs.Walker.{walk_report}
use Rattle.encode.specs.EncodeCall.{encode_report, encode_left}
use Rattle.decode.specs.DecodeCall.{decode_report, decode_left}
use Rattle.emission.specs.EmitCall.{emit_report, emit_left}
use Rattle.dimacs.specs.DimacsCall.{file_report, file_left}
use Rattle.dimacs.specs.File.{file}
use Rattle.sizing.specs.SizeCall.{refused_sizes, emitted_sizes}
use Rattle.refute.specs.RefuteCall.{refute_report}
use Rattle.wirdoku.specs.TextCall.{file_reply, refused_file, refute_reply, refused_refute}
use Rattle.claims.specs.Calls.{Calls, record_calls, Emitted, EmittedWords, EmittedDemand2, EmittedDemand3, EmittedShortest}
use Rattle.claims.specs.Files.{Filed, FiledBytes}
use Rattle.claims.specs.Texts.{counts_in, file_in, Not20}
use Rattle.claims.specs.Refuted.{Refuting, record_refutes, refutes_in, RefutedList, NoRun}
use Rattle.claims.proofs.Accepted.{emits}
use Rattle.claims.proofs.CallProofs.{words_are, demand_2, demand_3, shortest}
use Rattle.claims.proofs.Files.{files, filed_bytes}
use Rattle.claims.proofs.Refuted.{no_run}

-- the calls, by the test whether there is a model
abbrev calls_if : Bool → ℕ → ℕ → Model → Calls
calls_if b n l m = record {
  model = m;
  emits = λ k out. counts_in (cond b (emitted_sizes (emit_report m k (length out))) (refused_sizes n l));
  emitted = λ k out. cond b (emit_left m k (length out) out) out;
  files = λ k out. file_in (cond b (file_reply (file_report m k (length out))) (refused_file n l));
  filed = λ k out. cond b (file_left m k out) out;
  walks = λ r. cond b (walk_report m r) (refusal n l);
  decodes = λ k a run. cond b (decode_report m k a (length run)) (refusal n l);
  decoded = λ k a run. cond b (decode_left m k a run) run;
  encodes = λ r out. cond b (encode_report m r (length out)) (refusal n l);
  encoded = λ r out. cond b (encode_left m r out) out;
}

-- the refuting call, likewise
abbrev refutes_if : Bool → ℕ → ℕ → Model → Refuting
refutes_if b n l m = λ k old hints. refutes_in (cond b (refute_reply (refute_report m k old hints)) (refused_refute n l))

module _ (n l : ℕ) (m : Model) where
  abbrev pub calls : Calls
  calls = calls_if (eqb n 0) n l m

  pub given_calls : n ≡ 0 → calls ≡ record_calls m
  given_calls z = ap (λ (b : Bool). calls_if b n l m) (eq-eqb n 0 z)

  -- an accepted emission means that there is a model
  pub emitted_given : (k : ℕ) → Emitted calls k → n ≡ 0
  emitted_given k e = go (eqb n 0) refl e.accepts
    where
      go : (b : Bool) → eqb n 0 ≡ b → ((calls_if b n l m).emits k e.old).number ≡ 0 → n ≡ 0
      go true q h = eqb-true n 0 q
      go false q h = h

  -- and so does an accepted file
  pub filed_given : (k : ℕ) → Filed calls k → n ≡ 0
  filed_given k f = go (eqb n 0) refl f.accepts
    where
      go : (b : Bool) → eqb n 0 ≡ b → ((calls_if b n l m).files k f.old).number ≡ 0 → n ≡ 0
      go true q h = eqb-true n 0 q
      go false q h = h

  pub given_emits : n ≡ 0 → T (well_formed m) → (k : ℕ) → k ≤ 64 → (old : List ℤ) → length (words m k) ≤ length old → Emitted calls k
  given_emits z ok k h old r = subst (λ (c : Calls). Emitted c k) (sym (given_calls z)) (emits (λ n. n) m ok k h old r)

  pub given_files : n ≡ 0 → T (well_formed m) → (k : ℕ) → k ≤ 64 → (old : List ℕ) → length (file m k) ≤ length old → Filed calls k
  given_files z ok k h old r = subst (λ (c : Calls). Filed c k) (sym (given_calls z)) (files (λ n. n) m ok k h old r)

  pub given_filed : (k : ℕ) (f : Filed calls k) (e : Emitted calls k) → FiledBytes calls k f e
  given_filed k f e =
      subst (λ (c : Calls). (f : Filed c k) (e : Emitted c k) → FiledBytes c k f e) (sym (given_calls (filed_given k f))) (filed_bytes (λ n. n) m k) f e

  pub given_words : (k : ℕ) (e : Emitted calls k) → EmittedWords calls k e
  given_words k e = subst (λ (c : Calls). (e : Emitted c k) → EmittedWords c k e) (sym (given_calls (emitted_given k e))) (words_are (λ n. n) m k) e

  pub given_2 : (k : ℕ) (e : Emitted calls k) → EmittedDemand2 calls k e
  given_2 k e = subst (λ (c : Calls). (e : Emitted c k) → EmittedDemand2 c k e) (sym (given_calls (emitted_given k e))) (demand_2 (λ n. n) m k) e

  pub given_3 : (j k : ℕ) (d : Emitted calls j) (e : Emitted calls k) → j ≤ k → EmittedDemand3 calls j k d e
  given_3 j k d e r =
      subst (λ (c : Calls). (d : Emitted c j) (e : Emitted c k) → j ≤ k → EmittedDemand3 c j k d e) (sym (given_calls (emitted_given k e)))
      (demand_3 (λ n. n) m j k) d e r

  pub given_shortest : (e : (k : ℕ) → k ≤ 64 → Emitted calls k) → EmittedShortest calls e
  given_shortest e =
      subst (λ (c : Calls). (e : (k : ℕ) → k ≤ 64 → Emitted c k) → EmittedShortest c e) (sym (given_calls (emitted_given 0 (e 0 (omega arith)))))
      (shortest (λ n. n) m) e

  pub given_refutes : n ≡ 0 → refutes_if (eqb n 0) n l m ≡ record_refutes m
  given_refutes z = ap (λ (b : Bool). refutes_if b n l m) (eq-eqb n 0 z)

  -- a list that is refuted means that there is a model
  pub refuted_given : (k : ℕ) → RefutedList (refutes_if (eqb n 0) n l m) k → n ≡ 0
  refuted_given k x = go (eqb n 0) refl x.answers
    where
      go : (b : Bool) → eqb n 0 ≡ b → (refutes_if b n l m k x.old x.hints).outcome ≡ 1 → n ≡ 0
      go true q h = eqb-true n 0 q
      go false q h = absurd (omega arith)

  -- and that the list of its record is refuted
  refuted_record : (k : ℕ) → RefutedList (refutes_if (eqb n 0) n l m) k → RefutedList (record_refutes m) k
  refuted_record k x = record { old = x.old; hints = x.hints; answers = go (eqb n 0) x.answers }
    where
      go : (b : Bool) → (refutes_if b n l m k x.old x.hints).outcome ≡ 1 → (refute_report m k x.old x.hints).outcome ≡ 1
      go true h = h
      go false h = absurd (omega arith)

  pub given_no_run : (k : ℕ) → RefutedList (refutes_if (eqb n 0) n l m) k → NoRun calls k
  given_no_run k x = subst (λ (c : Calls). NoRun c k) (sym (given_calls (refuted_given k x))) (no_run (λ n. n) m k (refuted_record k x))

  -- 20, where the call on a well-formed record does not answer it
  pub given_not_20 : {A : Type 0} (number : A → ℕ) (call : Model → A) (refuse : ℕ → ℕ → A) → ((m : Model) → T (well_formed m) → Not20 (number (call m)))
      → ((n l : ℕ) → number (refuse n l) ≡ n) → (n ≡ 0 → T (well_formed m)) → Not20 n → Not20 (number (cond (eqb n 0) (call m) (refuse n l)))
  given_not_20 {A} number call refuse formed-not told ok other = go (eqb n 0) refl
    where
      go : (b : Bool) → eqb n 0 ≡ b → Not20 (number (cond b (call m) (refuse n l)))
      go true q h = formed-not m (ok (eqb-true n 0 q)) h
      go false q h = other (sym (told n l) ∙ h)
