-- The report of the call and what it leaves in the run buffer, by the tests that decide them; which assignments it accepts.
use mathlib.Core.Path.{◌≡◌, refl, sym, ap, subst}
use mathlib.Core.Logic.{◌↔◌}
use mathlib.Core.Bool.{Bool, true, false, not, cond}
use mathlib.Core.List.{List, ◌++◌}
use Rattle.std.specs.Prelude.{Option, None, Some, Err}
use Prim.Native.Nat.{ℕ, ◌≤◌}
use native.Mathlib.Omega.{arith}
use lib.Dec.{T, ltb, eqb}
use lib.ListN.{length, drop}
use borrow.Author.Tests.{ltb-false, lt-ltb, le-ltb, eq-eqb}
use Rattle.model.specs.declared.Model.{Model}
use Rattle.model.specs.Indexed.{maybe}
use Rattle.model.specs.Automaton.{variables}
use Rattle.model.specs.Form.{well_formed}
use Rattle.model.specs.Refusal.{Refusal, refusal, accepted, is_accepted}
use Rattle.model.proofs.IndexedLaws.{T_true, eq_T}
use Rattle.form.specs.declared.ListRefusal.{ListRefusal}
use Rattle.form.specs.declared.ListRefusal.TheVariants.{NotWellFormed as MalformedRecord, BoundTooLarge as LargeBound}
use Rattle.form.specs.BoundCheck.{bound_checked}
use Rattle.form.proofs.BoundLaws.{bound_20, bound_21}
use Rattle.list.specs.Clauses.{clauses}
use Rattle.list.specs.Assignments.{first_false, run_of}
use Rattle.list.specs.Demands.{Satisfies}
use Rattle.list.proofs.Searching.{first_false_none}
use Rattle.decode.specs.DecodeCall.{first_wrong_byte, decode_report, decode_left, decode_refusal, list_refused}
use Rattle.decode.proofs.Bytes.{wrong_iff}

-- ---- rows of the table
module _ (m : Model) (k : ℕ) (a : List ℕ) (n : ℕ) where
  pub report_20 : well_formed m ≡ false → decode_report m k a n ≡ refusal 20 0
  unfolding decode_report
  report_20 w = rw w

  module _ (w : well_formed m ≡ true) where
    pub report_21 : ltb 64 k ≡ true → decode_report m k a n ≡ refusal 21 0
    unfolding decode_report
    report_21 b = rw (w, b)

  pub report_0 : well_formed m ≡ true → ltb 64 k ≡ false → eqb (length a) (variables m k) ≡ true → first_wrong_byte 0 a ≡ None → ltb n k ≡ false
      → first_false a (clauses m k) ≡ None → decode_report m k a n ≡ accepted
  unfolding decode_report
  report_0 w b l h s f = rw (w, b, l, h, s, f)

-- ---- the report, and what is left in the run buffer
module _ (m : Model) (k : ℕ) (a old : List ℕ) where
  -- a refused call leaves the buffer as it was
  left_refused : {x : Refusal} → decode_report m k a (length old) ≡ x → is_accepted x ≡ false → old ≡ decode_left m k a old
  unfolding decode_left
  left_refused h f = rw (h, f)

  refused :
      {x : Refusal} → decode_report m k a (length old) ≡ x → is_accepted x ≡ false → (x ≡ decode_report m k a (length old)) × (old ≡ decode_left m k a old)
  refused h f = (sym h, left_refused h f)

  -- the buffer of an accepted call
  pub left_accepted : decode_report m k a (length old) ≡ accepted → decode_left m k a old ≡ run_of m k a ++ drop k old
  unfolding decode_left
  left_accepted h = rw h

  -- a record or a bound that is refused
  pub refused_list : (r : ListRefusal) → Err r ≡ bound_checked m k → (decode_refusal (list_refused r) ≡ decode_report m k a (length old)) ×
      (old ≡ decode_left m k a old)
  refused_list MalformedRecord e = refused (report_20 m k a (length old) (bound_20 m k e)) refl
  refused_list LargeBound e = let w = bound_21 m k e in refused (report_21 m k a (length old) w.0 (lt-ltb 64 k w.1)) refl

-- ---- accepted: the model is well formed, the bound is at most 64, the run buffer has room for k bytes, and the assignment satisfies the list for k
abbrev numbered : Refusal → ℕ
numbered x = x.number

pub decode_accepts : (m : Model) (k : ℕ) (a : List ℕ) (n : ℕ) → (decode_report m k a n ≡ accepted) ↔ (T (well_formed m) × (k ≤ 64) × (k ≤ n) × Satisfies m k a)
decode_accepts m k a n = (to, of)
  where
    refuses : {x p : ℕ} → (x ≡ 0 → ⊥) → refusal x p ≡ accepted → ⊥
    refuses f e = f (ap numbered e)

    to : decode_report m k a n ≡ accepted → T (well_formed m) × (k ≤ 64) × (k ≤ n) × Satisfies m k a
    to h =
        unfold decode_report in go (well_formed m) (ltb 64 k) (eqb (length a) (variables m k)) (first_wrong_byte 0 a) (ltb n k) (first_false a (clauses m k))
        refl refl refl refl refl h
      where
        go : (w b l : Bool) (x : Option ℕ) (s : Bool) (f : Option ℕ) → ltb 64 k ≡ b → eqb (length a) (variables m k) ≡ l
            → first_wrong_byte 0 a ≡ x → ltb n k ≡ s
            → first_false a (clauses m k) ≡ f
            → cond (not w) (refusal 20 0) (cond b (refusal 21 0)
            (cond (not l) (refusal 23 0) (maybe x (cond s (refusal 25 0) (maybe f accepted (λ i. refusal 26 i))) (λ i. refusal 24 i)))) ≡ accepted
            → T w × (k ≤ 64) × (k ≤ n) × Satisfies m k a
        go false b l x s f p q r t u h = absurd (refuses (λ z. omega arith) h)
        go true true l x s f p q r t u h = absurd (refuses (λ z. omega arith) h)
        go true false false x s f p q r t u h = absurd (refuses (λ z. omega arith) h)
        go true false true (Some i) s f p q r t u h = absurd (refuses (λ z. omega arith) h)
        go true false true None true f p q r t u h = absurd (refuses (λ z. omega arith) h)
        go true false true None false (Some i) p q r t u h = absurd (refuses (λ z. omega arith) h)
        go true false true None false None p q r t u h = (
          tt,
          ltb-false 64 k p,
          ltb-false n k t,
          record {
            long = (eq_T (length a) (variables m k)).0 (subst T (sym q) tt);
            binary = (wrong_iff a 0).0 r;
            satisfies = (first_false_none a (clauses m k)).0 u;
          },
        )

    of : T (well_formed m) × (k ≤ 64) × (k ≤ n) × Satisfies m k a → decode_report m k a n ≡ accepted
    of h =
        report_0 m k a n ((T_true (well_formed m)).0 h.0) (le-ltb 64 k h.1) (eq-eqb (length a) (variables m k) h.3.long)
        ((wrong_iff a 0).1 h.3.binary) (le-ltb n k h.2) ((first_false_none a (clauses m k)).1 h.3.satisfies)
