-- The pieces of an edge by kind: source, target, guard atoms, counters, clocks.
use mathlib.Core.Path.{◌≡◌, ap, ap₂, ◌∙◌}
use mathlib.Core.List.{List, [], ◌∷◌, ◌++◌}
use Prim.Native.Nat.{ℕ, ◌+◌, ◌-◌, ◌≤◌}
use native.Mathlib.Omega.{arith}
use Rattle.model.specs.declared.Edge.{Edge}
use Rattle.model.specs.Indexed.{each}
use Rattle.model.specs.Record.{update_at, reset_at}
use Rattle.model.proofs.IndexedLaws.{each_zero, each_suc}
use Rattle.list.specs.Clauses.{Clause, bare, negated, one}
use Rattle.list.proofs.ListLaws.{each_add, each_cong}
use Rattle.parts.specs.declared.Rule.TheVariants.{Set}
use Rattle.parts.specs.Rules.{part_clauses}
use Rattle.parts.specs.declared.GroupTable.{GroupTable}
use Rattle.parts.specs.PartsOf.{next_at, update_part, reset_part}
use Rattle.parts.specs.Pieces.{atom_piece, edge_piece}
use Rattle.parts.proofs.EdgeParts.{source_part, target_part, guard_part, counter_part, clock_part}
use Rattle.parts.proofs.PartPieces.{set_is}

-- the first two, four more, one for each counter, the rest
by_kind : (F : ℕ → List Clause) (vars groups : ℕ) → 1 + vars ≤ groups
    → each (groups + 5) F ≡ F 0 ++ F 1 ++ each 4 (λ k. F (2 + k)) ++ each vars (λ i. F (6 + i)) ++ each (groups - (1 + vars)) (λ i. F (6 + vars + i))
by_kind F vars groups h =
    let n : groups + 5 ≡ 6 + vars + (groups - (1 + vars)) = omega arith in
    let a : each 2 F ≡ F 0 ++ F 1 =
    each_suc 1 F ∙ ap (λ (l : List Clause). l ++ F 1) (each_suc 0 F ∙ ap (λ (l : List Clause). l ++ F 0) (each_zero F)) in
    let b : each 6 F ≡ F 0 ++ F 1 ++ each 4 (λ k. F (2 + k)) = each_add 2 4 F ∙ ap (λ (l : List Clause). l ++ each 4 (λ k. F (2 + k))) a in
    let d : each (6 + vars) F ≡ F 0 ++ F 1 ++ each 4 (λ k. F (2 + k)) ++ each vars (λ i. F (6 + i)) =
    each_add 6 vars F ∙ ap (λ (l : List Clause). l ++ each vars (λ i. F (6 + i))) b in
    ap (λ (k : ℕ). each k F) n ∙ each_add (6 + vars) (groups - (1 + vars)) F ∙
    ap (λ (l : List Clause). l ++ each (groups - (1 + vars)) (λ i. F (6 + vars + i))) d

-- Counter i of an edge, and clock i.
abbrev pub update_piece : GroupTable → ℕ → ℕ → Edge → ℕ → List Clause
update_piece b x o e i = part_clauses x (update_part b o e.order i (update_at e i))

abbrev pub reset_piece : GroupTable → ℕ → ℕ → Edge → ℕ → List Clause
reset_piece b x o e i = part_clauses x (reset_part b o i (reset_at e i))

pub edge_kinds : (b : GroupTable) (x o : ℕ) (e : Edge) → 1 + b.vars ≤ b.groups
    → each (b.groups + 5) (edge_piece x b e o)
    ≡ one (negated x ∷ bare (o + e.source) ∷ []) ++ one (negated x ∷ bare (next_at b o + e.target) ∷ []) ++ each 4 (atom_piece b o x e.guard)
    ++ each b.vars (update_piece b x o e) ++ each (b.groups - (1 + b.vars)) (reset_piece b x o e)
edge_kinds b x o e h =
    let F : ℕ → List Clause = edge_piece x b e o in
    let n : ℕ = b.groups - (1 + b.vars) in
    by_kind F b.vars b.groups h ∙ ap₂ (λ (l r : List Clause). l ++ r) (ap₂ (λ (l r : List Clause). l ++ r) (ap₂ (λ (l r : List Clause). l ++ r)
    (ap₂ (λ (l r : List Clause). l ++ r)
    (ap (part_clauses x) (source_part b e o) ∙ set_is x o _ (Set e.source))
    (ap (part_clauses x) (target_part b e o) ∙ set_is x (next_at b o) _ (Set e.target)))
    (each_cong 4 (λ k. F (2 + k)) (atom_piece b o x e.guard) (λ k l. ap (part_clauses x) (guard_part b e o k l))))
    (each_cong b.vars (λ i. F (6 + i)) (update_piece b x o e) (λ i l. ap (part_clauses x) (counter_part b e o i l))))
    (each_cong n (λ i. F (6 + b.vars + i)) (reset_piece b x o e) (λ i l. ap (part_clauses x) (clock_part b e o i)))
