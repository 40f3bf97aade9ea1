-- What a refutation of an emitted list says of runs: of a call that answered `refuted` for a bound k.
use Rattle.std.specs.Prelude.{◌≡◌, List, ℕ, ◌+◌, ◌≤◌, ◌<◌, T, ℤ, length}
use Rattle.model.specs.declared.Model.{Model}
use Rattle.model.specs.Run.{is_run}
use Rattle.text.specs.Text.{read_report, if_read}
use Rattle.refute.specs.RefuteCall.{RefuteReport, refute_reported, refute_report}
use Rattle.wirdoku.specs.TextCall.{refute_reply, refused_refute}
use Rattle.wirdoku.specs.PairCall.{if_pair}
use Rattle.wirdoku.specs.declared.RefuteReply.{RefuteReply}
use Rattle.claims.specs.Calls.{Calls, Accepts, Emitted, ListSolvable, WalkedRun}
use Rattle.claims.specs.Texts.{Not20}
use Rattle.claims.specs.Pairs.{pair_of}

-- ---- the call
-- What a refuting call answers, for one model: of a bound, of words that have room for the list in front of lemmas, and of hints. What is left in the words
-- is what emission leaves.
abbrev pub Refuting : Type 0
Refuting = ℕ → List ℤ → List ℕ → RefuteReport

-- The right-hand side of the contract of `refute`.
abbrev pub record_refutes : Model → Refuting
record_refutes m = λ k old hints. refute_report m k old hints

-- The refuting call's numbers in the four of its answer to C.
abbrev pub refutes_in : RefuteReply → RefuteReport
refutes_in r = refute_reported r.number r.words r.outcome

-- The right-hand sides of the contracts of wirdoku_refute and wirdoku_pair_refute.
abbrev pub text_refutes : List ℕ → Refuting
text_refutes t = λ k old hints. refutes_in (if_read (read_report t) (λ m. refute_reply (refute_report m k old hints)) refused_refute)

abbrev pub pair_refutes : List ℕ → List ℕ → Refuting
pair_refutes t u = λ k old hints. refutes_in (if_pair (pair_of t u) (λ m. refute_reply (refute_report m k old hints)) refused_refute)

-- ---- what is claimed
-- The call answered `refuted` for the bound k, where the lent words held `old`: lemmas behind the place of the list.
pub record RefutedList (refutes : Refuting) (k : ℕ) : Type 0 where
  pub old : List ℤ
  pub hints : List ℕ
  pub answers : (refutes k old hints).outcome ≡ 1

-- There is no run of k steps or fewer.
pub record NoRun (c : Calls) (k : ℕ) : Type 0 where
  -- every run of the model has more than k steps: for 64, more than 64
  pub longer : (r : List ℕ) → T (is_run c.model r) → k < length r
  -- the walker accepts no run of k steps or fewer; for 64 it accepts none
  pub walks_none : (r : List ℕ) → length r ≤ k → Accepts (c.walks r) → ⊥
  pub walks_none_at_64 : k ≡ 64 → (r : List ℕ) → Accepts (c.walks r) → ⊥
  -- no list that is emitted for a bound up to k can be satisfied
  pub none_solvable : (j : ℕ) → j ≤ k → (e : Emitted c j) → ListSolvable e → ⊥
  -- a run of k + 1 steps that the walker accepts is a shortest one
  pub shortest : (r s : List ℕ) → WalkedRun c (k + 1) r → T (is_run c.model s) → length r ≤ length s

-- No call for C that refutes answers 20, which no text can meet.
pub record RefutesNever20 : Type 0 where
  pub text : (t : List ℕ) (k : ℕ) (old : List ℤ) (hints : List ℕ)
      → Not20 (if_read (read_report t) (λ m. refute_reply (refute_report m k old hints)) refused_refute).number
  pub pair : (t u : List ℕ) (k : ℕ) (old : List ℤ) (hints : List ℕ)
      → Not20 (if_pair (pair_of t u) (λ m. refute_reply (refute_report m k old hints)) refused_refute).number
