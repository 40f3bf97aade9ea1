-- The two conversions meet demand 2: what the call from assignment to run accepts is a run that the walker accepts; and each conversion undoes the
-- other. Stated of the calls' own definitions: their reports and what they leave in the lent buffers.
use mathlib.Core.Path.{◌≡◌, refl, sym, ap, subst, ◌∙◌}
use mathlib.Core.List.{List}
use Prim.Native.Nat.{ℕ, ◌≤◌}
use lib.ListN.{length, take, drop}
use lib.Seq.{take_at}
use Rattle.model.specs.declared.Model.{Model}
use Rattle.model.specs.Automaton.{variables}
use Rattle.model.specs.Refusal.{accepted}
use Rattle.walk.specs.Walker.{walk_report}
use Rattle.walk.proofs.Accepts.{accepts_iff}
use Rattle.list.specs.Assignments.{run_of, assignment_of}
use Rattle.list.proofs.Claims.{demand_2}
use Rattle.encode.specs.EncodeCall.{encode_report, encode_left}
use Rattle.encode.proofs.Reports.{left_0, encode_accepts}
use Rattle.decode.specs.DecodeCall.{decode_report, decode_left}
use Rattle.decode.proofs.Reports.{left_accepted, decode_accepts}

-- ---- what an accepted call leaves
-- the first k bytes of the run buffer are the assignment's run
pub decoded : (m : Model) (k : ℕ) (a buffer : List ℕ) → decode_report m k a (length buffer) ≡ accepted → take k (decode_left m k a buffer) ≡ run_of m k a
decoded m k a buffer h =
    let x = (decode_accepts m k a (length buffer)).0 h in
    ap (take k) (left_accepted m k a buffer h) ∙ take_at (run_of m k a) (drop k buffer) k ((demand_2 m x.0 k).decodes a x.3).long

-- the first N bytes of the buffer are the run's assignment
pub encoded :
    (m : Model) (r buffer : List ℕ) → encode_report m r (length buffer) ≡ accepted → take (variables m (length r)) (encode_left m r buffer) ≡ assignment_of m r
encoded m r buffer h =
    let x = (encode_accepts m r (length buffer)).0 h in
    let y = (accepts_iff m r).0 x.0 in
    let s = ((demand_2 m y.0 (length r)).writes r (record { long = refl; ends = y.2 })).0 in
    ap (take (variables m (length r))) (left_0 m r buffer h)
    ∙ take_at (assignment_of m r) (drop (variables m (length r)) buffer) (variables m (length r)) s.long

-- ---- the claims
-- What the call from assignment to run accepts is a run that the walker accepts: the k bytes that it writes.
pub decodes_to_run :
    (m : Model) (k : ℕ) (a buffer : List ℕ) → decode_report m k a (length buffer) ≡ accepted → walk_report m (take k (decode_left m k a buffer)) ≡ accepted
decodes_to_run m k a buffer h =
    let x = (decode_accepts m k a (length buffer)).0 h in
    let r = (demand_2 m x.0 k).decodes a x.3 in
    subst (λ (l : List ℕ). walk_report m l ≡ accepted) (sym (decoded m k a buffer h))
    ((accepts_iff m (run_of m k a)).1 (x.0, subst (λ (n : ℕ). n ≤ 64) (sym r.long) x.1, r.ends))

-- From run to assignment and back: the N bytes that the first call writes are accepted by the second, which writes the run again.
pub run_and_back : (m : Model) (r buffer runBuffer : List ℕ) → encode_report m r (length buffer) ≡ accepted → length r ≤ length runBuffer
    → (decode_report m (length r) (take (variables m (length r)) (encode_left m r buffer)) (length runBuffer) ≡ accepted)
    × (take (length r) (decode_left m (length r) (take (variables m (length r)) (encode_left m r buffer)) runBuffer) ≡ r)
run_and_back m r buffer runBuffer h l =
    let x = (encode_accepts m r (length buffer)).0 h in
    let y = (accepts_iff m r).0 x.0 in
    let w = (demand_2 m y.0 (length r)).writes r (record { long = refl; ends = y.2 }) in
    let d = (decode_accepts m (length r) (assignment_of m r) (length runBuffer)).1 (y.0, y.1, l, w.0) in
    subst (λ (a : List ℕ). (decode_report m (length r) a (length runBuffer) ≡ accepted) × (take (length r) (decode_left m (length r) a runBuffer) ≡ r))
    (sym (encoded m r buffer h)) (d, decoded m (length r) (assignment_of m r) runBuffer d ∙ w.1)

-- From assignment to run and back: the k bytes that the first call writes are accepted by the second, which writes the assignment again.
pub assignment_and_back : (m : Model) (k : ℕ) (a runBuffer buffer : List ℕ) → decode_report m k a (length runBuffer) ≡ accepted → variables m k ≤ length buffer
    → (encode_report m (take k (decode_left m k a runBuffer)) (length buffer) ≡ accepted)
    × (take (variables m k) (encode_left m (take k (decode_left m k a runBuffer)) buffer) ≡ a)
assignment_and_back m k a runBuffer buffer h l =
    let x = (decode_accepts m k a (length runBuffer)).0 h in
    let r = (demand_2 m x.0 k).decodes a x.3 in
    let w : walk_report m (run_of m k a) ≡ accepted = (accepts_iff m (run_of m k a)).1 (x.0, subst (λ (n : ℕ). n ≤ 64) (sym r.long) x.1, r.ends) in
    let e = (encode_accepts m (run_of m k a) (length buffer)).1 (w, subst (λ (n : ℕ). variables m n ≤ length buffer) (sym r.long) l) in
    subst (λ (s : List ℕ). (encode_report m s (length buffer) ≡ accepted) × (take (variables m k) (encode_left m s buffer) ≡ a))
    (sym (decoded m k a runBuffer h)) (
      e,
      ap (λ (n : ℕ). take (variables m n) (encode_left m (run_of m k a) buffer)) (sym r.long) ∙ encoded m (run_of m k a) buffer e
          ∙ sym ((demand_2 m x.0 k).only a (run_of m k a) x.3 refl),
    )
