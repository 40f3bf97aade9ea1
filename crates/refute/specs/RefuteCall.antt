-- What a call that refutes the list for a bound answers. What it leaves in the lent words is what emission leaves: the list, and behind it what was there.
use Rattle.std.specs.Prelude.{ℕ, Bool, cond, List, eqb, ℤ, length, Result, Ok, Err}
use Rattle.model.specs.declared.Model.{Model}
use Rattle.emission.specs.EmitCall.{EmitReport, emit_report, emit_left, emit_told}
use Rattle.refutation.specs.Refutation.{refutes}
use Rattle.refute.specs.declared.Refutation.{Refutation}
use Rattle.emission.specs.declared.EmitRefusal.{EmitRefusal}

-- a number of the table of refusals, or 0; the words of the list, where the lemmas begin; the outcome: 1 refuted, 2 not refuted, 0 after a refusal
pub record RefuteReport : Type 0 where
  pub number : ℕ
  pub words : ℕ
  pub outcome : ℕ

abbrev pub refute_reported : ℕ → ℕ → ℕ → RefuteReport
refute_reported n w o = record { number = n; words = w; outcome = o }

-- the outcome, where the list has n words
abbrev pub checked_report : Bool → ℕ → RefuteReport
checked_report b n = refute_reported 0 n (cond b 1 2)

-- what follows emission: its refusal, or the outcome for the words that it leaves
abbrev pub after_emission : EmitReport → List ℤ → List ℕ → RefuteReport
after_emission e left hs = cond (eqb e.number 0) (checked_report (refutes left e.words hs) e.words) (refute_reported e.number e.words 0)

-- Emission's refusals 20, 21 and 22, the last with the words needed. Else the list is refuted or not by what lies behind it, as lemmas, and the hints.
unfoldable pub refute_report : Model → ℕ → List ℤ → List ℕ → RefuteReport
refute_report m k ws hs = after_emission (emit_report m k (length ws)) (emit_left m k (length ws) ws) hs

-- the numbers of the answer: a refusal is emission's
abbrev pub refute_told : Result Refutation EmitRefusal → RefuteReport
refute_told (Ok r) = checked_report r.refuted r.words
refute_told (Err e) = refute_reported (emit_told (Err e)).number (emit_told (Err e)).words 0
