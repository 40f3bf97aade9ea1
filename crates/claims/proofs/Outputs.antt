-- What a solver's output says of an emitted list, from demand 2 for the list and from the text that writes an assignment.
use mathlib.Core.Path.{◌≡◌, refl, sym, ap, subst, ◌∙◌}
use mathlib.Core.List.{List, [], ◌∷◌}
use mathlib.Core.Bool.{true}
use Prim.Native.Nat.{ℕ}
use borrow.Author.Tests.{lt-ltb}
use Rattle.list.specs.Assignments.{Binary}
use Rattle.output.specs.OutputCall.{output_left}
use Rattle.output.specs.Written.{are_bits}
use Rattle.output.proofs.ReadBack.{reads_back}
use Rattle.claims.specs.Calls.{Calls, Accepts, Emitted, variables_told, run_left, assignment_left, EmittedDemand2}
use Rattle.claims.specs.Outputs.{EmittedOutput}

bits_are : (a : List ℕ) → Binary a → are_bits a ≡ true
unfolding are_bits
bits_are [] h = refl
bits_are (b ∷ a) h = rw (lt-ltb b 2 h.0) (bits_are a h.1)

pub emitted_output : (c : Calls) (k : ℕ) (e : Emitted c k) → EmittedDemand2 c k e → EmittedOutput c k e
emitted_output c k e d = record {
  gives_run = λ t old run long says room ok.
      let a = output_left t old in
      let r = d.decodes a run ((d.accepts a run room).1 ok) room in
      (r, (d.walks (run_left c k a run) r.long).0 r.walked);
  accepts = λ t old run long says room. d.accepts (output_left t old) run room;
  every_run = λ r out old run w wide long room.
      let a = assignment_left c (variables_told e) r out in
      let x = d.writes r out run w wide room in
      let same = long ∙ sym x.1.long in
      let back = reads_back a old (bits_are a x.1.binary) same in
      let ok = (d.accepts a run room).0 x.1 in
      (back.0, subst (λ (b : List ℕ). Accepts (c.decodes k b run)) (sym back.1) ok, ap (λ (b : List ℕ). run_left c k b run) back.1 ∙ x.2);
}
