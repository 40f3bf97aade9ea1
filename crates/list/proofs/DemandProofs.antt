-- Demands 2 and 3 for every well-formed record.
use mathlib.Core.Path.{◌≡◌, refl, sym, ap, subst, ◌∙◌}
use mathlib.Core.Logic.{◌↔◌, ⊎_elim}
use mathlib.Core.List.{List, ◌++◌}
use Prim.Native.Nat.{ℕ, ◌+◌, ◌-◌, ◌≤◌, ◌<◌}
use native.Mathlib.Nat.{mul-le-mul_right}
use native.Mathlib.Omega.{arith}
use lib.Dec.{T}
use lib.ListN.{length, take, drop, take-append-drop}
use lib.Seq.{length-take-le}
use Rattle.model.specs.declared.Model.{Model}
use Rattle.model.specs.Automaton.{state_size, choices, variables}
use Rattle.model.specs.Form.{well_formed}
use Rattle.model.proofs.IndexedLaws.{lt_or_le}
use Rattle.model.proofs.FormLaws.{WellFormed, formed, variables_is}
use Rattle.list.specs.Assignments.{Binary, run_of, assignment_of, cut_after, GoesOn, stands_in_target}
use Rattle.list.specs.Demands.{Satisfies, RunOfSteps, Satisfiable, HasRun, Demand2, Demand3, Shortest}
use Rattle.list.proofs.ListLaws.{all_app}
use Rattle.list.proofs.OneHot.{satisfying→run, run→satisfied, assignment_is, words_begin, longer, shorter}

module _ (m : Model) (wf : T (well_formed m)) where
  ok : WellFormed m
  ok = formed m wf

  -- ---- demand 2
  pub satisfying_run : (k : ℕ) (a : List ℕ) → Satisfies m k a → RunOfSteps m k (run_of m k a)
  satisfying_run k a s = let x = satisfying→run m ok k a s.binary s.long s.satisfies in record { long = x.0; ends = x.1 }

  pub run_satisfying : (k : ℕ) (r : List ℕ) → RunOfSteps m k r → Satisfies m k (assignment_of m r) × (run_of m k (assignment_of m r) ≡ r)
  run_satisfying k r x =
      let e = assignment_is m ok r x.ends in
      subst (λ (i : ℕ). Satisfies m i (assignment_of m r) × (run_of m i (assignment_of m r) ≡ r)) x.long
      (record { long = e.1; binary = e.0; satisfies = run→satisfied m ok r x.ends }, e.2)

  pub one_assignment : (k : ℕ) (a r : List ℕ) → Satisfies m k a → run_of m k a ≡ r → a ≡ assignment_of m r
  one_assignment k a r s e = (satisfying→run m ok k a s.binary s.long s.satisfies).2 ∙ ap (assignment_of m) e

  pub satisfiable_iff : (k : ℕ) → Satisfiable m k ↔ HasRun m k
  satisfiable_iff k = (λ x. (run_of m k x.0, satisfying_run k x.0 x.1), λ x. (assignment_of m x.0, (run_satisfying k x.0 x.1).0))

  pub demand_2 : (k : ℕ) → Demand2 m k
  demand_2 k = record { exactly = satisfiable_iff k; decodes = satisfying_run k; writes = run_satisfying k; only = one_assignment k }

  -- ---- demand 3
  variables_grow : (j p : ℕ) → variables m j ≤ variables m (j + p)
  variables_grow j p = let x : j ≤ j + p = omega arith in omega (arith, variables_is m j, variables_is m (j + p), mul-le-mul_right (state_size m + choices m) x)

  assignment_goes_on : (j p : ℕ) (a : List ℕ) → Satisfies m j a → (b : List ℕ) × Satisfies m (j + p) b × GoesOn a b
  assignment_goes_on j p a s =
      let x = longer m ok j p a s.binary s.long s.satisfies in
      let b : List ℕ = x.0 in (
        b,
        record { long = x.2; binary = x.1; satisfies = x.4 },
        (
          drop (variables m j) b,
          ap (λ (l : List ℕ). l ++ drop (variables m j) b)
              (sym x.3) ∙ take-append-drop (variables m j) b,
        ),
      )

  cut_satisfies : (j p : ℕ) (a : List ℕ) → Satisfies m (j + p) a → Satisfies m j (cut_after m j a) ↔ T (stands_in_target m j (run_of m (j + p) a))
  cut_satisfies j p a s =
      let h = shorter m ok j p a s.binary s.long s.satisfies in (
        (λ x. h.0 x.satisfies),
        λ x. record {
          long = length-take-le (variables m j) a (omega (arith, variables_grow j p, s.long));
          binary = ((all_app (λ i. i < 2) (take (variables m j) a) (drop (variables m j) a)).0
              (subst Binary (sym (take-append-drop (variables m j) a)) s.binary)).0;
          satisfies = h.1 x;
        },
      )

  pub demand_3 : (j k : ℕ) → j ≤ k → Demand3 m j k
  demand_3 j k l =
      let p : ℕ = k - j in
      let e : j + (k - j) ≡ k = omega arith in
      subst (Demand3 m j) e (record { begins = words_begin m j p; goes_on = assignment_goes_on j p; cut = cut_satisfies j p })

  -- ---- the shortest run
  pub shortest : Shortest m
  shortest = record {
    smallest = λ k x n. (
      (satisfiable_iff k).0 x,
      λ r t. ⊎_elim (λ l. absurd
          (n (length r) l ((satisfiable_iff (length r)).1 (r, record { long = refl; ends = t })))) (λ g. g) (lt_or_le (length r) k),
    );
    none_up_to_64 = λ n r t. ⊎_elim (λ l. l) (λ g. absurd (n (length r) g ((satisfiable_iff (length r)).1 (r, record { long = refl; ends = t }))))
        (lt_or_le 64 (length r));
  }
