-- The report of the call and what it leaves in the buffer, by the tests that decide them; which runs it accepts.
use mathlib.Core.Path.{◌≡◌, refl, sym, ap, ◌∙◌}
use mathlib.Core.Logic.{◌↔◌}
use mathlib.Core.Bool.{Bool, true, false, true≢false, cond}
use mathlib.Core.List.{List, ◌++◌}
use Prim.Native.Nat.{ℕ, ◌≤◌}
use native.Mathlib.Omega.{arith}
use lib.Dec.{T, ltb}
use lib.ListN.{length, drop}
use borrow.Author.Tests.{ltb-false, le-ltb}
use Rattle.model.specs.declared.Model.{Model}
use Rattle.model.specs.Automaton.{initial_state, variables}
use Rattle.model.specs.Run.{is_run}
use Rattle.model.specs.Form.{well_formed}
use Rattle.model.specs.Refusal.{Refusal, refusal, accepted, is_accepted}
use Rattle.model.proofs.FormLaws.{formed}
use Rattle.model.proofs.RunLaws.{run_iff}
use Rattle.walk.specs.declared.RunRefusal.{RunRefusal}
use Rattle.walk.specs.declared.RunRefusal.TheVariants.{NotWellFormed, TooLong, InitialInvariantFails, NoSuchChoice, NotAllowed, NotInTarget}
use Rattle.walk.specs.Walker.{walk_report, run_refusal}
use Rattle.walk.proofs.Accepts.{zero_accepted, accepts_iff}
use Rattle.list.specs.Assignments.{assignment_of}
use Rattle.list.proofs.OneHot.{assignment_is}
use Rattle.buffer.specs.Buffers.{Room, Wrote}
use Rattle.encode.specs.BlockBytes.{Walks}
use Rattle.encode.specs.EncodeCall.{encode_report, encode_left}

-- ---- what a refused and an accepted run are
pub run_refused : (e : RunRefusal) → is_accepted (run_refusal e) ≡ false
run_refused NotWellFormed = refl
run_refused TooLong = refl
run_refused InitialInvariantFails = refl
run_refused (NoSuchChoice step) = refl
run_refused (NotAllowed step) = refl
run_refused NotInTarget = refl

pub record AcceptedRun (m : Model) (r : List ℕ) : Type 0 where
  pub model_formed : T (well_formed m)
  pub short : length r ≤ 64
  pub is_run_lem : T (is_run m r)

pub accepted_run : (m : Model) (r : List ℕ) → accepted ≡ walk_report m r → AcceptedRun m r
accepted_run m r h = let x = (accepts_iff m r).0 (sym h) in record { model_formed = x.0; short = x.1; is_run_lem = x.2 }

pub walks : {m : Model} {r : List ℕ} → AcceptedRun m r → Walks m (initial_state m) r
walks {m} {r} a = let x = (run_iff m r).0 a.is_run_lem in record { end = x.0; ends = x.1.walks }

pub assignment_length : {m : Model} {r : List ℕ} → AcceptedRun m r → length (assignment_of m r) ≡ variables m (length r)
assignment_length {m} {r} a = (assignment_is m (formed m a.model_formed) r a.is_run_lem).1

pub room_for : {m : Model} {r : List ℕ} (old : List ℕ) → AcceptedRun m r → variables m (length r) ≤ length old → Room (assignment_of m r) old 0
room_for old a l = record { room = omega (arith, assignment_length a) }

-- ---- the call
module _ (m : Model) (r : List ℕ) where
  pub left_0 : (old : List ℕ) → encode_report m r (length old) ≡ accepted → encode_left m r old ≡ assignment_of m r ++ drop (variables m (length r)) old
  unfolding encode_left
  left_0 old h = rw h

  pub left_written : {old new : List ℕ} {e : ℕ} → accepted ≡ walk_report m r → encode_report m r (length old) ≡ accepted
      → Wrote (assignment_of m r) old new 0 e → new ≡ encode_left m r old
  left_written {old} {new} {e} h l w =
      let end : e ≡ variables m (length r) = omega (arith, w.ends, assignment_length (accepted_run m r h)) in
      w.list ∙ ap (λ (n : ℕ). assignment_of m r ++ drop n old) end ∙ sym (left_0 old l)

-- accepted: the walker accepts the run, and the buffer has room for N bytes
pub encode_accepts : (m : Model) (r : List ℕ) (n : ℕ) → (encode_report m r n ≡ accepted) ↔ ((walk_report m r ≡ accepted) × (variables m (length r) ≤ n))
unfolding encode_report
encode_accepts m r n =
    ((λ h. go (is_accepted (walk_report m r)) (ltb n (variables m (length r))) refl refl h), λ h. rw (h.0, le-ltb n (variables m (length r)) h.1) refl)
  where
    go : (a l : Bool) → is_accepted (walk_report m r) ≡ a → ltb n (variables m (length r)) ≡ l
        → cond a (cond l (refusal 31 0) accepted) (walk_report m r) ≡ accepted → (walk_report m r ≡ accepted) × (variables m (length r) ≤ n)
    go true true p q h = absurd (let z : 31 ≡ 0 = ap (λ (x : Refusal). x.number) h in omega arith)
    go true false p q h = (zero_accepted m r p, ltb-false n (variables m (length r)) q)
    go false l p q h = absurd (true≢false (sym (ap is_accepted h) ∙ p))
