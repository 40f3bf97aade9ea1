-- The parts of an edge by number.
use mathlib.Core.Path.{◌≡◌, refl, sym, subst}
use mathlib.Core.Logic.{⊎_elim}
use Prim.Native.Nat.{ℕ, ◌+◌, ◌-◌, ◌<◌}
use native.Mathlib.Omega.{arith}
use borrow.Author.Tests.{lt-ltb, le-ltb, ne_eqb}
use Rattle.model.specs.declared.Edge.{Edge}
use Rattle.model.specs.Record.{atom_at, update_at, reset_at}
use Rattle.model.proofs.IndexedLaws.{lt_or_le}
use Rattle.parts.specs.declared.Rule.TheVariants.{Set}
use Rattle.parts.specs.declared.Part.{Part}
use Rattle.parts.specs.declared.GroupTable.{GroupTable}
use Rattle.parts.specs.StateBlock.{size_at}
use Rattle.parts.specs.PartsOf.{next_at, atom_part, set_part, update_part, reset_part, edge_part}

module _ (b : GroupTable) (e : Edge) (o : ℕ) where
  pub source_part : edge_part b e o 0 ≡ set_part o (size_at b 0) (Set e.source)
  unfolding edge_part
  source_part = refl

  pub target_part : edge_part b e o 1 ≡ set_part (next_at b o) (size_at b 0) (Set e.target)
  unfolding edge_part
  target_part = refl

  pub guard_part : (k : ℕ) → k < 4 → edge_part b e o (2 + k) ≡ atom_part b o (atom_at e.guard k)
  unfolding edge_part
  guard_part k l =
      let z : 2 + k - 2 ≡ k = omega arith in
      rw (ne_eqb (2 + k) 0 (λ q. omega arith), ne_eqb (2 + k) 1 (λ q. omega arith), lt-ltb (2 + k) 6 (omega arith), z)

  pub counter_part : (i : ℕ) → i < b.vars → edge_part b e o (6 + i) ≡ update_part b o e.order i (update_at e i)
  unfolding edge_part
  counter_part i l =
      let z : 6 + i - 6 ≡ i = omega arith in
      rw (ne_eqb (6 + i) 0 (λ q. omega arith), ne_eqb (6 + i) 1 (λ q. omega arith), le-ltb (6 + i) 6 (omega arith), z, lt-ltb i b.vars l)

  pub clock_part : (i : ℕ) → edge_part b e o (6 + b.vars + i) ≡ reset_part b o i (reset_at e i)
  unfolding edge_part
  clock_part i =
      let z : 6 + b.vars + i - 6 ≡ b.vars + i = omega arith in
      let y : b.vars + i - b.vars ≡ i = omega arith in
      rw (
        ne_eqb (6 + b.vars + i) 0 (λ q. omega arith),
        ne_eqb (6 + b.vars + i) 1 (λ q. omega arith),
        le-ltb (6 + b.vars + i) 6 (omega arith),
        z,
        le-ltb (b.vars + i) b.vars (omega arith),
        y,
      )

  -- every part of an edge is one of these
  pub edge_cases : (C : Part → Type 0) (clocks : ℕ) → C (set_part o (size_at b 0) (Set e.source)) → C (set_part (next_at b o) (size_at b 0) (Set e.target))
      → ((k : ℕ) → k < 4 → C (atom_part b o (atom_at e.guard k))) → ((i : ℕ) → i < b.vars → C (update_part b o e.order i (update_at e i)))
      → ((i : ℕ) → i < clocks → C (reset_part b o i (reset_at e i))) → (j : ℕ) → j < 6 + b.vars + clocks → C (edge_part b e o j)
  edge_cases C clocks s t g u r j l = ⊎_elim
      (λ p. below_six j p)
      (λ p. ⊎_elim
      (λ q. let z : j ≡ 6 + (j - 6) = omega arith in let d : j - 6 < b.vars = omega arith in
      subst (λ (n : ℕ). C (edge_part b e o n)) (sym z) (subst C (sym (counter_part (j - 6) d)) (u (j - 6) d)))
      (λ q. let z : j ≡ 6 + b.vars + (j - 6 - b.vars) = omega arith in let d : j - 6 - b.vars < clocks = omega arith in
      subst (λ (n : ℕ). C (edge_part b e o n)) (sym z) (subst C (sym (clock_part (j - 6 - b.vars))) (r (j - 6 - b.vars) d)))
      (lt_or_le j (6 + b.vars)))
      (lt_or_le j 6)
    where
      below_six : (j : ℕ) → j < 6 → C (edge_part b e o j)
      below_six j p = ⊎_elim
          (λ q. let z : j ≡ 0 = omega arith in subst (λ (n : ℕ). C (edge_part b e o n)) (sym z) (subst C (sym source_part) s))
          (λ q. ⊎_elim
          (λ r. let z : j ≡ 1 = omega arith in subst (λ (n : ℕ). C (edge_part b e o n)) (sym z) (subst C (sym target_part) t))
          (λ r. let z : j ≡ 2 + (j - 2) = omega arith in let d : j - 2 < 4 = omega arith in
          subst (λ (n : ℕ). C (edge_part b e o n)) (sym z) (subst C (sym (guard_part (j - 2) d)) (g (j - 2) d)))
          (lt_or_le j 2))
          (lt_or_le j 1)
