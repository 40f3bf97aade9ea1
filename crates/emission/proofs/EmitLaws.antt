-- The report and the buffer of an emission, by its tests. `r` is the room that the code computes, `room` that of the definition.
use Rattle.std.proofs.Common.{ℕ, ◌≤◌, ◌<◌, ◌≡◌, List, ◌++◌, ℤ, true, false, ltb, Err, length, drop, arith, refl, ap, ◌∙◌}
use borrow.Author.Tests.{lt-ltb, le-ltb}
use Rattle.model.specs.declared.Model.{Model}
use Rattle.model.specs.Form.{well_formed}
use Rattle.list.specs.Clauses.{clauses, words, words_of}
use Rattle.form.specs.BoundCheck.{bound_checked}
use Rattle.form.specs.declared.ListRefusal.{ListRefusal}
use Rattle.form.specs.declared.ListRefusal.TheVariants.{NotWellFormed, BoundTooLarge}
use Rattle.form.proofs.BoundLaws.{bound_20, bound_21}
use Rattle.counts.specs.declared.ListCounts.{ListCounts}
use Rattle.counts.specs.KnownCounts.{KnownCounts}
use Rattle.emission.specs.Written.{RoomFor, WroteClauses}
use Rattle.emission.specs.EmitCall.{EmitReport, emit_reported, emit_report, emit_left, emit_refusal, emit_told}

-- the report and what is left in the buffer
pub record Emitted (m : Model) (k room : ℕ) (old new : List ℤ) (told : EmitReport) : Type 0 where
  pub report : told ≡ emit_report m k room
  pub left : new ≡ emit_left m k room old

-- the words of the list are as many as its clauses take
size_words : (m : Model) (k : ℕ) → length (words_of (clauses m k)) ≡ length (words m k)
unfolding words
size_words m k = refl

-- what is left where the list was written from the start
written : (m : Model) (k : ℕ) (old new : List ℤ) (end : ℕ) → WroteClauses (clauses m k) old new 0 end → new ≡ words m k ++ drop (length (words m k)) old
unfolding words
written m k old new end w =
    let q : end ≡ length (words m k) = w.words.ends ∙ omega (arith, size_words m k) in
    w.words.list ∙ ap (λ (n : ℕ). words m k ++ drop n old) q

module _ (m : Model) (k room : ℕ) (old : List ℤ) where
  -- what the tests refuse, the report refuses with the same number
  pub refused : (e : ListRefusal) → Err e ≡ bound_checked m k → Emitted m k room old old (emit_told (Err (emit_refusal e)))
  unfolding emit_left emit_report
  refused NotWellFormed q = let e = bound_20 m k q in record { report = rw e; left = rw e }
  refused BoundTooLarge q =
      let p = bound_21 m k q in
      record { report = rw (p.0, lt-ltb 64 k p.1); left = rw (p.0, lt-ltb 64 k p.1) }

  module _ (ok : (well_formed m ≡ true) × (k ≤ 64)) (n : ListCounts) (c : KnownCounts m k n) where
    pub refused_22 : room < n.words → Emitted m k room old old (emit_reported 22 0 0 n.words)
    unfolding emit_left emit_report
    refused_22 g =
        let h : ltb room (length (words m k)) ≡ true = lt-ltb room (length (words m k)) (omega (arith, c.words)) in
        record { report = rw (ok.0, le-ltb 64 k ok.1, h) (ap (emit_reported 22 0 0) c.words); left = rw (ok.0, le-ltb 64 k ok.1, h) }

    pub accepted : n.words ≤ room → (new : List ℤ) (end : ℕ) → WroteClauses (clauses m k) old new 0 end
        → Emitted m k room old new (emit_reported 0 n.variables n.clauses n.words)
    unfolding emit_left emit_report
    accepted g new end w =
        let h : ltb room (length (words m k)) ≡ false = le-ltb room (length (words m k)) (omega (arith, c.words)) in
        record {
          report = rw (ok.0, le-ltb 64 k ok.1, h) (λ i. emit_reported 0 (c.variables i) (c.clauses i) (c.words i));
          left = rw (ok.0, le-ltb 64 k ok.1, h) (written m k old new end w);
        }

    -- room for the list
    pub list_room : n.words ≤ length old → RoomFor (clauses m k) old 0
    list_room g = record { words = record { room = omega (arith, c.words, size_words m k) } }
