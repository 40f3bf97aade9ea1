-- What an accepted emission tells and leaves; each report with the number 0 is that of an accepted call.
use mathlib.Core.Path.{◌≡◌, refl, sym, ap, ◌∙◌}
use mathlib.Core.Bool.{Bool, true, false, not, cond}
use mathlib.Core.List.{List, ◌++◌}
use Rattle.std.specs.Prelude.{Option, None, Some}
use Prim.Native.Nat.{ℕ, ◌≤◌}
use native.Mathlib.Omega.{arith}
use lib.Dec.{T, ltb, eqb}
use lib.IntN.{ℤ}
use lib.ListN.{length, take, drop}
use lib.Seq.{take-append_seam}
use borrow.Author.Tests.{ltb-false, le-ltb, eq-eqb}
use Rattle.model.specs.declared.Model.{Model}
use Rattle.model.specs.Indexed.{maybe}
use Rattle.model.specs.Automaton.{variables}
use Rattle.model.specs.Form.{well_formed}
use Rattle.model.specs.Refusal.{Refusal, refusal, accepted}
use Rattle.model.proofs.IndexedLaws.{T_true}
use Rattle.list.specs.Clauses.{clauses, words}
use Rattle.list.specs.Assignments.{first_false}
use Rattle.walk.specs.Walker.{walk_report}
use Rattle.walk.proofs.Accepts.{zero_accepted}
use Rattle.decode.specs.DecodeCall.{first_wrong_byte, decode_report}
use Rattle.emission.specs.EmitCall.{EmitReport, emit_reported, emit_report, emit_left}
use Rattle.claims.specs.Calls.{Calls, calls_with, Accepts, Emitted, variables_told, clauses_told, words_left}

pub accepts_accepted : {x : Refusal} → x ≡ accepted → Accepts x
accepts_accepted h = ap (λ (y : Refusal). y.number) h

pub walk_accepted : (m : Model) (r : List ℕ) → Accepts (walk_report m r) → walk_report m r ≡ accepted
walk_accepted m r h = zero_accepted m r (eq-eqb (walk_report m r).number 0 h)

pub decode_accepted : (m : Model) (k : ℕ) (a : List ℕ) (n : ℕ) → Accepts (decode_report m k a n) → decode_report m k a n ≡ accepted
unfolding decode_report
decode_accepted m k a n =
    go (well_formed m) (ltb 64 k) (eqb (length a) (variables m k)) (first_wrong_byte 0 a) (ltb n k) (first_false a (clauses m k))
  where
    report : Bool → Bool → Bool → Option ℕ → Bool → Option ℕ → Refusal
    report w b l x s f =
        cond (not w) (refusal 20 0)
        (cond b (refusal 21 0)
        (cond (not l) (refusal 23 0)
        (maybe x (cond s (refusal 25 0) (maybe f accepted (λ i. refusal 26 i))) (λ i. refusal 24 i))))

    go : (w b l : Bool) (x : Option ℕ) (s : Bool) (f : Option ℕ) → Accepts (report w b l x s f) → report w b l x s f ≡ accepted
    go false b l x s f h = absurd (omega arith)
    go true true l x s f h = absurd (omega arith)
    go true false false x s f h = absurd (omega arith)
    go true false true (Some i) s f h = absurd (omega arith)
    go true false true None true f h = absurd (omega arith)
    go true false true None false (Some i) h = absurd (omega arith)
    go true false true None false None h = refl

-- ---- emission's report
module _ (m : Model) (k room : ℕ) where
  -- the report of an accepted emission
  written : well_formed m ≡ true → ltb 64 k ≡ false → ltb room (length (words m k)) ≡ false
      → emit_report m k room ≡ emit_reported 0 (variables m k) (length (clauses m k)) (length (words m k))
  unfolding emit_report
  written p q r = rw (p, q, r)

  -- and what it leaves
  left : (old : List ℤ) → (emit_report m k room).number ≡ 0 → emit_left m k room old ≡ words m k ++ drop (length (words m k)) old
  unfolding emit_left
  left old h = rw (eq-eqb (emit_report m k room).number 0 h)

  -- a report with the number 0 is that of an accepted emission
  tests : (emit_report m k room).number ≡ 0 → (well_formed m ≡ true) × (ltb 64 k ≡ false) × (ltb room (length (words m k)) ≡ false)
  unfolding emit_report
  tests = go (well_formed m) (ltb 64 k) (ltb room (length (words m k)))
    where
      report : Bool → Bool → Bool → EmitReport
      report w b l =
          cond (not w) (emit_reported 20 0 0 0)
          (cond b (emit_reported 21 0 0 0)
          (cond l (emit_reported 22 0 0 (length (words m k)))
          (emit_reported 0 (variables m k) (length (clauses m k)) (length (words m k)))))

      go : (w b l : Bool) → (report w b l).number ≡ 0 → (w ≡ true) × (b ≡ false) × (l ≡ false)
      go false b l h = absurd (omega arith)
      go true true l h = absurd (omega arith)
      go true false true h = absurd (omega arith)
      go true false false h = (refl, refl, refl)

-- ---- accepted emissions on a record
module _ (room : ℕ → ℕ) (m : Model) (k : ℕ) where
  -- what one tells and leaves
  pub record Facts (e : Emitted (calls_with room m) k) : Type 0 where
    pub model_formed : T (well_formed m)
    pub bound : k ≤ 64
    pub variables_are_lem : variables_told e ≡ variables m k
    pub clauses_are : clauses_told e ≡ length (clauses m k)
    pub words_are : words_left e ≡ words m k
    pub words_told : ((calls_with room m).emits k e.old).words ≡ length (words m k)
    pub left_is : (calls_with room m).emitted k e.old ≡ words m k ++ drop (length (words m k)) e.old

  pub facts : (e : Emitted (calls_with room m) k) → Facts e
  facts e =
      let n : ℕ = room (length e.old) in
      let t = tests m k n e.accepts in
      let w = written m k n t.0 t.1 t.2 in
      record {
        model_formed = (T_true (well_formed m)).1 t.0;
        bound = ltb-false 64 k t.1;
        variables_are_lem = ap (λ (x : EmitReport). x.variables) w;
        clauses_are = ap (λ (x : EmitReport). x.clauses) w;
        words_are =
            ap (λ (x : EmitReport). take x.words (emit_left m k n e.old)) w ∙
            ap (take (length (words m k))) (left m k n e.old e.accepts) ∙
            take-append_seam (words m k) (drop (length (words m k)) e.old);
        words_told = ap (λ (x : EmitReport). x.words) w;
        left_is = left m k n e.old e.accepts;
      }

-- every well-formed model, bound up to 64 and buffer with room for the list's words gives one
pub emits : (room : ℕ → ℕ) (m : Model) → T (well_formed m) → (k : ℕ) → k ≤ 64 → (old : List ℤ) → length (words m k) ≤ room (length old)
    → Emitted (calls_with room m) k
emits room m wf k h old l =
    let n : ℕ = room (length old) in
    let w = written m k n ((T_true (well_formed m)).0 wf) (le-ltb 64 k h) (le-ltb n (length (words m k)) l) in
    record { old = old; accepts = ap (λ (x : EmitReport). x.number) w }

-- what emission's contract promises of an answer with the number 0, as an accepted emission
pub from_call : (c : Calls) (k : ℕ) (old new : List ℤ) (x : EmitReport) → x ≡ c.emits k old → new ≡ c.emitted k old → x.number ≡ 0
    → (e : Emitted c k) × (variables_told e ≡ x.variables) × (clauses_told e ≡ x.clauses) × (words_left e ≡ take x.words new)
from_call c k old new x told left h = (
  record { old = old; accepts = ap (λ (y : EmitReport). y.number) (sym told) ∙ h },
  ap (λ (y : EmitReport). y.variables) (sym told),
  ap (λ (y : EmitReport). y.clauses) (sym told),
  ap (λ (y : EmitReport). take y.words (c.emitted k old)) (sym told) ∙ ap (take x.words) (sym left),
)
