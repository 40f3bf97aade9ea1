-- What is known where a record may hold the composed model, and its edges.
use mathlib.Core.Path.{◌≡◌, refl, sym, ap, ◌∙◌}
use mathlib.Core.Bool.{◌&&◌}
use Prim.Native.Nat.{ℕ, ◌+◌, ◌*◌, ◌≤◌, ◌<◌}
use native.Mathlib.Nat.{suc-mul, mul-le-mul_right}
use native.Mathlib.Omega.{arith}
use borrow.Author.Tests.{lt-ltb, le-ltb}
use lib.Dec.{T, leb, leb→le}
use lib.ListN.{length, get_or}
use Rattle.model.specs.declared.Edge.{Edge}
use Rattle.model.specs.declared.Model.{Model}
use Rattle.model.specs.Record.{blank_edge}
use Rattle.model.proofs.IndexedLaws.{and_T}
use Rattle.compose.specs.declared.moves.Move.{Move}
use Rattle.compose.specs.declared.moves.Moves.{Moves}
use Rattle.compose.specs.Joined.{standing}
use Rattle.compose.specs.Moves.{moves, move_at, edge_of, added, no_moves}
use Rattle.compose.specs.Composed.{invariants_fit, guards_fit, fits, composed_edge, composed}
use Rattle.compose.proofs.PlacedLaws.{count_is, slot_is}

-- ---- 38
pub record Held (a b : Model) : Type 0 where
  pub locations_le : a.locations * b.locations ≤ 16
  pub clocks_le : a.clocks + b.clocks ≤ 4
  pub vars_le : a.vars + b.vars ≤ 4
  pub moves_le : length (moves a b) ≤ 32
  pub invariants_fit_lem : T (invariants_fit a b)
  pub guards_fit_lem : T (guards_fit a b)

pub held : (a b : Model) → T (fits a b) → Held a b
unfolding fits
held a b t =
    let p = leb (a.locations * b.locations) 16 in
    let q = leb (a.clocks + b.clocks) 4 in
    let r = leb (a.vars + b.vars) 4 in
    let s = leb (length (moves a b)) 32 in
    let guards = (and_T (p && q && r && s && invariants_fit a b) (guards_fit a b)).0 t in
    let invariants = (and_T (p && q && r && s) (invariants_fit a b)).0 guards.0 in
    let edges = (and_T (p && q && r) s).0 invariants.0 in
    let vars = (and_T (p && q) r).0 edges.0 in
    let clocks = (and_T p q).0 vars.0 in
    record {
      locations_le = leb→le (a.locations * b.locations) 16 clocks.0;
      clocks_le = leb→le (a.clocks + b.clocks) 4 clocks.1;
      vars_le = leb→le (a.vars + b.vars) 4 vars.1;
      moves_le = leb→le (length (moves a b)) 32 edges.1;
      invariants_fit_lem = invariants.1;
      guards_fit_lem = guards.1;
    }

-- row i of n rows, each c long
pub row_fits : (i n c : ℕ) {most : ℕ} → i < n → n * c ≤ most → i * c + c ≤ most
row_fits i n c l h = omega (arith, h, mul-le-mul_right c l, suc-mul i c)

-- ---- the moves that are given
module _ (a b : Model) {h : Moves} (given : h ≡ added no_moves (moves a b)) where
  pub count_in : h.count ≡ length (moves a b)
  count_in = ap (λ (x : Moves). x.count) given ∙ count_is (moves a b)

  pub move_in : (d : Move) (n : ℕ) → n < 32 → get_or h.slots n d ≡ move_at a b n
  move_in d n l = ap (λ (x : Moves). get_or x.slots n d) given ∙ slot_is d (moves a b) n l

-- ---- the edges
module _ (a b : Model) where
  pub edge_here : (n : ℕ) {m : Move} {x : Edge} → n < length (moves a b) → m ≡ move_at a b n → x ≡ edge_of a b m → x ≡ composed_edge a b n
  edge_here n l p q = q ∙ ap (edge_of a b) p ∙ sym (rw (lt-ltb n (length (moves a b)) l))

  pub edge_none : (n : ℕ) → length (moves a b) ≤ n → blank_edge ≡ composed_edge a b n
  edge_none n l = sym (rw (le-ltb n (length (moves a b)) l))

  pub used-is : (composed a b).used ≡ length (moves a b)
  unfolding composed
  used-is = refl

-- standing in location 0 is what the slots after the last move hold
pub standing_blank : standing 0 ≡ blank_edge
unfolding standing
standing_blank = refl
