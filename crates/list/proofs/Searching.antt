-- The search for the first false clause: it finds none exactly if the assignment satisfies the list, and what it finds is the first.
use mathlib.Core.Path.{◌≡◌, refl, sym, subst}
use mathlib.Core.Logic.{◌↔◌}
use mathlib.Core.Bool.{Bool, true, false, ◌&&◌, cond}
use mathlib.Core.List.{List, [], ◌∷◌}
use Rattle.std.specs.Prelude.{None, Some}
use Prim.Native.Nat.{ℕ, suc, ◌+◌, ◌≤◌, ◌<◌}
use native.Mathlib.Numerals.{add-one}
use native.Mathlib.Omega.{arith}
use lib.Dec.{T, ltb, ltb→lt, lt→ltb}
use lib.ListN.{length, get_or, take}
use Rattle.model.specs.Indexed.{only_if}
use Rattle.model.proofs.IndexedLaws.{some_none, only_if_lem}
use Rattle.list.specs.Lists.{all_of}
use Rattle.list.specs.Clauses.{Clause}
use Rattle.list.specs.Assignments.{clause_true, satisfied, true_before, first_false}

module _ (a : List ℕ) where
  pub true_before_le : (cs : List Clause) → true_before a cs ≤ length cs
  unfolding true_before
  true_before_le [] = omega arith
  true_before_le (c ∷ cs) = go (clause_true a c) (true_before_le cs)
    where
      go : (b : Bool) → true_before a cs ≤ length cs → cond b (true_before a cs + 1) 0 ≤ suc (length cs)
      go true h = omega arith
      go false h = omega arith

  -- no clause is false exactly if the list is satisfied
  pub all_true : (cs : List Clause) → (true_before a cs ≡ length cs) ↔ T (satisfied a cs)
  unfolding true_before satisfied
  all_true [] = (λ h. tt, λ h. refl)
  all_true (c ∷ cs) = go (clause_true a c) (all_true cs)
    where
      go : (b : Bool) → (true_before a cs ≡ length cs) ↔ T (all_of (clause_true a) cs) → (cond b (true_before a cs + 1) 0 ≡ suc (length cs))
          ↔ T (b && all_of (clause_true a) cs)
      go true ih = (λ h. ih.0 (omega arith), λ h. let e = ih.1 h in omega arith)
      go false ih = (λ h. omega arith, λ h. absurd h)

  pub first_false_none : (cs : List Clause) → (first_false a cs ≡ None) ↔ T (satisfied a cs)
  unfolding first_false
  first_false_none cs = go (ltb (true_before a cs) (length cs)) refl
    where
      go : (b : Bool) → ltb (true_before a cs) (length cs) ≡ b → (only_if b (true_before a cs) ≡ None) ↔ T (satisfied a cs)
      go true e = (
        (λ h. absurd (some_none (sym h))),
        λ h. let l = ltb→lt (true_before a cs) (length cs)
            (subst T (sym e) tt) in let f = (all_true cs).1 h in absurd (omega arith),
      )
      go false e = ((λ h. (all_true cs).0 (full (λ l. subst T e (lt→ltb (true_before a cs) (length cs) l)))), λ h. refl)
        where
          full : (true_before a cs < length cs → ⊥) → true_before a cs ≡ length cs
          full f = omega (arith, true_before_le cs)

  -- the clause after the true ones is false, and those before it are all true
  first_at_lem : (cs : List Clause) → true_before a cs < length cs
      → T (satisfied a (take (true_before a cs) cs)) × (T (clause_true a (get_or cs (true_before a cs) [])) → ⊥)
  unfolding true_before satisfied
  first_at_lem [] l = absurd (omega arith)
  first_at_lem (c ∷ cs) l = go (clause_true a c) refl (first_at_lem cs) l
    where
      go : (b : Bool) → clause_true a c ≡ b
          → (true_before a cs < length cs → T (all_of (clause_true a) (take (true_before a cs) cs)) × (T (clause_true a (get_or cs (true_before a cs) [])) → ⊥))
          → cond b (true_before a cs + 1) 0 < suc (length cs)
          → T (all_of (clause_true a) (take (cond b (true_before a cs + 1) 0) (c ∷ cs))) × (T
          (clause_true a (get_or (c ∷ cs) (cond b (true_before a cs + 1) 0) [])) → ⊥)
      go true e ih l = let x = ih (omega arith) in rw (add-one (true_before a cs)) (rw e x.0, x.1)
      go false e ih l = (tt, λ t. subst T e t)

  pub first_false_some : (cs : List Clause) (i : ℕ) → first_false a cs ≡ Some i
      → (i < length cs) × T (satisfied a (take i cs)) × (T (clause_true a (get_or cs i [])) → ⊥)
  unfolding first_false
  first_false_some cs i h =
      let g = (only_if_lem (ltb (true_before a cs) (length cs)) (true_before a cs) i).0 h in
      let l = ltb→lt (true_before a cs) (length cs) g.0 in
      subst (λ (n : ℕ). (n < length cs) × T (satisfied a (take n cs)) × (T (clause_true a (get_or cs n [])) → ⊥))
      g.1 (l, (first_at_lem cs l).0, (first_at_lem cs l).1)
