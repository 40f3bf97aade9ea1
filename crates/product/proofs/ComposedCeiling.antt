-- The ceiling of the composed model is the greater of the two ceilings: each clock constant of it stands in a part, and each of a part stands in it.
use mathlib.Core.Path.{◌≡◌, refl, sym, ap, subst, ◌∙◌}
use mathlib.Core.Logic.{⊎_elim}
use mathlib.Core.Bool.{Bool, not}
use mathlib.Core.List.{List}
use Prim.Native.Nat.{ℕ, ◌+◌, ◌-◌, ◌*◌, ◌≤◌, ◌<◌, max}
use native.Mathlib.Omega.{arith}
use lib.Dec.{T, eqb, T_not}
use lib.ListN.{length, replicate}
use Rattle.model.specs.declared.Atom.{Atom}
use Rattle.model.specs.declared.Atom.TheVariants.{Blank, OnClock, OnCounter}
use Rattle.model.specs.declared.Edge.{Edge}
use Rattle.model.specs.declared.Model.{Model}
use Rattle.model.specs.Indexed.{all_below, first_below}
use Rattle.model.specs.Record.{blank_atom, atom_at, invariant_at, edge_at}
use Rattle.model.specs.Automaton.{clock_constant, greatest_constant, ceiling}
use Rattle.model.specs.Form.{filled_from_first, well_formed}
use Rattle.model.proofs.IndexedLaws.{and_T, eq_T, split, lt_or_le, all_below_lem, max_below_lem, max_at, first_law}
use Rattle.model.proofs.FormLaws.{formed, ceiling_ge, edge_parts, and₃}
use Rattle.model.proofs.BlankSlots.{NoAtom, unused_invariant, unused_edge}
use Rattle.compose.specs.declared.moves.Move.{Move}
use Rattle.compose.specs.declared.moves.Move.TheVariants.{FirstAlone, SecondAlone, Together}
use Rattle.compose.specs.Joined.{shifted_atom, atom_count, joined_atoms, standing, joined_edge}
use Rattle.compose.specs.Moves.{label_at, bears, shared, paired, moves, move_at, edge_of, MoveOf}
use Rattle.compose.specs.Composed.{fits, composed}
use Rattle.compose.proofs.MoveLaws.{move_of, first_move, second_move, pair_move}
use Rattle.product.proofs.JoinedForm.{joined_guard, atom_first, atom_second, joined_each, filled_atoms, count_le, blank_above}
use Rattle.compose.proofs.Rows.{pair_lt}
use Rattle.product.proofs.JoinedForm.{blank_atom_at, standing_guard, standing_count}
use Rattle.product.proofs.ComposedForm.{Fits, fits_of, pair_of, invariant_at_lem, invariant_rest, edge_of_move, edge_rest}
use Rattle.compose.proofs.JoinedLaws.{invariant_formed_at, edge_formed_at}

-- ---- the greatest constant of joined atoms
pub constants_most : (atoms : List Atom) (t : ℕ) → ((k : ℕ) → k < 4 → clock_constant (atom_at atoms k) ≤ t) → greatest_constant atoms ≤ t
unfolding greatest_constant
constants_most atoms t h = max_below_lem (λ k. clock_constant (atom_at atoms k)) 4 t h

constant_at : (atoms : List Atom) (k : ℕ) → k < 4 → clock_constant (atom_at atoms k) ≤ greatest_constant atoms
unfolding greatest_constant
constant_at atoms k l = max_at (λ k. clock_constant (atom_at atoms k)) 4 k l

pub no_atom_constant : (atoms : List Atom) → NoAtom atoms → greatest_constant atoms ≡ 0
no_atom_constant atoms h =
    let z : greatest_constant atoms ≤ 0 = constants_most atoms 0 (λ k l. subst (λ (x : Atom). clock_constant x ≤ 0) (sym (h k l)) (omega arith)) in omega arith

pub shifted_constant : (c v : ℕ) (x : Atom) → clock_constant (shifted_atom c v x) ≡ clock_constant x
shifted_constant c v Blank = refl
shifted_constant c v (OnClock x r k) = refl
shifted_constant c v (OnCounter x r k) = refl

module _ (c v : ℕ) (p q : List Atom) where
  abbrev both : List Atom
  both = joined_atoms c v p q

  -- each constant of both is one of the two
  joined_constant_le : greatest_constant both ≤ max (greatest_constant p) (greatest_constant q)
  joined_constant_le =
      let most = max (greatest_constant p) (greatest_constant q) in
      constants_most both most (joined_each (λ x. clock_constant x ≤ most) c v p q (λ k l. omega (arith, constant_at p k l))
      (λ k l. omega (arith, shifted_constant c v (atom_at q k), constant_at q k l)))

  -- each of the first is there
  first_constant_le : T (filled_from_first p) → greatest_constant p ≤ greatest_constant both
  first_constant_le f = constants_most p (greatest_constant both) (λ k l. ⊎_elim
      (λ m. omega (arith, ap clock_constant (atom_first c v p q k l m), constant_at both k l))
      (λ m. omega (arith, ap clock_constant (blank_above p f k m l)))
      (lt_or_le k (atom_count p)))

  -- each of the second is there, if there is room
  second_constant_le : T (filled_from_first q) → atom_count p + atom_count q ≤ 4 → greatest_constant q ≤ greatest_constant both
  second_constant_le f room = constants_most q (greatest_constant both) (λ k l. ⊎_elim
      (λ m. let here : atom_count p + k < 4 = omega arith in
      omega (arith, ap clock_constant (atom_second c v p q k here), shifted_constant c v (atom_at q k), constant_at both (atom_count p + k) here))
      (λ m. omega (arith, ap clock_constant (blank_above q f k m l)))
      (lt_or_le k (atom_count q)))

-- ---- the ceiling
module _ (m : Model) where
  pub invariant_below : (l : ℕ) → l < 16 → greatest_constant (invariant_at m l) < ceiling m
  unfolding ceiling
  invariant_below l p = omega (arith, max_at (λ l. greatest_constant (invariant_at m l)) 16 l p)

  pub guard_below : (e : ℕ) → e < 32 → greatest_constant (edge_at m e).guard < ceiling m
  unfolding ceiling
  guard_below e p = omega (arith, max_at (λ e. greatest_constant (edge_at m e).guard) 32 e p)

  -- above all constants there is no smaller one
  pub ceiling_most : (t : ℕ) → ((l : ℕ) → l < 16 → greatest_constant (invariant_at m l) < t) → ((e : ℕ) → e < 32 → greatest_constant (edge_at m e).guard < t)
      → ceiling m ≤ t
  unfolding ceiling
  ceiling_most t f g =
      let some : 0 < t = omega (arith, f 0 (omega arith)) in
      omega (
        arith,
        max_below_lem (λ l. greatest_constant (invariant_at m l)) 16 (t - 1) (λ l p. omega (arith, f l p)),
        max_below_lem (λ e. greatest_constant (edge_at m e).guard) 32 (t - 1) (λ e p. omega (arith, g e p)),
      )

-- ---- labels
some_below : (p : ℕ → Bool) (n : ℕ) → T (not (all_below (λ e. not (p e)) n)) → (e : ℕ) × (e < n) × T (p e)
some_below p n h =
    let first = first_law p n in
    ⊎_elim (λ l. (first_below p n, l, first.holds l))
    (λ l. absurd (T_not (all_below (λ e. not (p e)) n) h
    ((all_below_lem (λ e. not (p e)) n).1 (λ i q. subst (λ (b : Bool). T (not b)) (sym (first.least i (omega arith))) tt))))
    (lt_or_le (first_below p n) n)

-- an edge that bears the label
pub bearer : (m : Model) (l : ℕ) → T (bears m l) → (e : ℕ) × (e < m.used) × (label_at m e ≡ l)
unfolding bears
bearer m l h = let g = some_below (λ e. eqb (label_at m e) l) m.used h in (g.0, g.1, (eq_T (label_at m g.0) l).0 g.2)

module _ (a b : Model) where
  -- an edge whose label is shared has a partner
  pub second_partner : (e : ℕ) → T (shared a b (label_at a e)) → (f : ℕ) × (f < b.used) × T (paired a b e f)
  unfolding paired shared
  second_partner e h =
      let l = label_at a e in
      let g = and₃ (not (eqb l 0)) (bears a l) (bears b l) h in
      let f = bearer b l g.2 in
      (f.0, f.1, (and_T (shared a b l) (eqb l (label_at b f.0))).1 (h, (eq_T l (label_at b f.0)).1 (sym f.2)))

  pub first_partner : (f : ℕ) → T (shared a b (label_at b f)) → (e : ℕ) × (e < a.used) × T (paired a b e f)
  unfolding paired shared
  first_partner f h =
      let l = label_at b f in
      let g = and₃ (not (eqb l 0)) (bears a l) (bears b l) h in
      let e = bearer a l g.1 in (
        e.0,
        e.1,
        (and_T (shared a b (label_at a e.0)) (eqb (label_at a e.0) l)).1
            (subst (λ (k : ℕ). T (shared a b k)) (sym e.2) h, (eq_T (label_at a e.0) l).1 e.2),
      )

-- ---- the ceiling of the composed model
standing_constant : (l : ℕ) → greatest_constant (standing l).guard ≡ 0
standing_constant l = ap greatest_constant (standing_guard l) ∙ no_atom_constant (replicate 4 blank_atom) blank_atom_at

module _ (a b : Model) (a-ok : T (well_formed a)) (b-ok : T (well_formed b)) (fit : T (fits a b)) where
  abbrev few : Fits a b
  few = fits_of a b fit

  abbrev whole : Model
  whole = composed a b

  abbrev top : ℕ
  top = max (ceiling a) (ceiling b)

  -- ---- each constant of the composed model stands in a part
  joined_guard_below : (label : ℕ) (e f : Edge) → greatest_constant e.guard < top → greatest_constant f.guard < top
      → greatest_constant (joined_edge a.clocks a.vars b.locations label e f).guard < top
  joined_guard_below label e f p q =
      omega (
        arith,
        ap greatest_constant (joined_guard a.clocks a.vars b.locations label e f),
        joined_constant_le a.clocks a.vars e.guard f.guard,
      )

  first_guard : (e : ℕ) → e < a.used → greatest_constant (edge_at a e).guard < top
  first_guard e l = omega (arith, guard_below a e (omega (arith, (formed a a-ok).used_le)))

  second_guard : (f : ℕ) → f < b.used → greatest_constant (edge_at b f).guard < top
  second_guard f l = omega (arith, guard_below b f (omega (arith, (formed b b-ok).used_le)))

  standing_below : (l : ℕ) → greatest_constant (standing l).guard < top
  standing_below l = omega (arith, standing_constant l, ceiling_ge a)

  move_below : (w : Move) → MoveOf a b w → greatest_constant (edge_of a b w).guard < top
  move_below (FirstAlone e j) h = joined_guard_below (label_at a e) (edge_at a e) (standing j) (first_guard e h.0) (standing_below j)
  move_below (SecondAlone f i) h = joined_guard_below (label_at b f) (standing i) (edge_at b f) (standing_below i) (second_guard f h.0)
  move_below (Together e f) h = joined_guard_below (label_at a e) (edge_at a e) (edge_at b f) (first_guard e h.0) (second_guard f h.1)

  whole_guard : (n : ℕ) → n < 32 → greatest_constant (edge_at whole n).guard < top
  whole_guard n l = ⊎_elim
      (λ p. subst (λ (e : Edge). greatest_constant e.guard < top) (sym (edge_of_move a b n p l)) (move_below (move_at a b n) (move_of a b n p)))
      (λ p. subst (λ (e : Edge). greatest_constant e.guard < top) (sym (edge_rest a b n p l)) blank)
      (lt_or_le n (length (moves a b)))
    where
      blank : greatest_constant (replicate 4 blank_atom) < top
      blank = omega (arith, no_atom_constant (replicate 4 blank_atom) blank_atom_at, ceiling_ge a)

  whole_invariant : (l : ℕ) → l < 16 → greatest_constant (invariant_at whole l) < top
  whole_invariant l q = ⊎_elim
      (λ p. let h = pair_of a.locations b.locations l p in
      omega (
        arith,
        ap greatest_constant (ap (invariant_at whole) h.4 ∙ invariant_at_lem a b h.0 h.1 h.2 h.3 few.locations_fit),
        joined_constant_le a.clocks a.vars (invariant_at a h.0) (invariant_at b h.1),
        invariant_below a h.0 (omega (arith, h.2, (formed a a-ok).locations_le)),
        invariant_below b h.1 (omega (arith, h.3, (formed b b-ok).locations_le)),
      ))
      (λ p. omega (arith, ap greatest_constant (invariant_rest a b l p q), no_atom_constant (replicate 4 blank_atom) blank_atom_at, ceiling_ge a))
      (lt_or_le l (a.locations * b.locations))

  -- ---- each constant of a part stands in the composed model
  move_guard : (n : ℕ) → n < length (moves a b) → greatest_constant (edge_of a b (move_at a b n)).guard < ceiling whole
  move_guard n l =
      let le : n < 32 = omega (arith, few.moves_fit) in
      subst (λ (e : Edge). greatest_constant e.guard < ceiling whole) (edge_of_move a b n l le) (guard_below whole n le)

  pair_invariant : (i j : ℕ) → i < a.locations → j < b.locations
      → greatest_constant (joined_atoms a.clocks a.vars (invariant_at a i) (invariant_at b j)) < ceiling whole
  pair_invariant i j p q =
      subst (λ (x : List Atom). greatest_constant x < ceiling whole) (invariant_at_lem a b i j p q few.locations_fit)
      (invariant_below whole (i * b.locations + j) (omega (arith, few.locations_fit, pair_lt a.locations b.locations i j p q)))

  -- the first's guards
  first_in : (label : ℕ) (e f : Edge) → T (filled_from_first e.guard)
      → greatest_constant e.guard ≤ greatest_constant (joined_edge a.clocks a.vars b.locations label e f).guard
  first_in label e f h =
      omega (
        arith,
        ap greatest_constant (joined_guard a.clocks a.vars b.locations label e f),
        first_constant_le a.clocks a.vars e.guard f.guard h,
      )

  second_in : (label : ℕ) (e f : Edge) → T (filled_from_first f.guard) → atom_count e.guard + atom_count f.guard ≤ 4
      → greatest_constant f.guard ≤ greatest_constant (joined_edge a.clocks a.vars b.locations label e f).guard
  second_in label e f h room =
      omega (
        arith,
        ap greatest_constant (joined_guard a.clocks a.vars b.locations label e f),
        second_constant_le a.clocks a.vars e.guard f.guard h room,
      )

  filled_guard_a : (e : ℕ) → e < a.used → T (filled_from_first (edge_at a e).guard)
  filled_guard_a e l = filled_atoms a.clocks a.vars (edge_at a e).guard
      (edge_parts a.locations a.clocks a.vars (edge_at a e) (edge_formed_at a a-ok e l)).3

  filled_guard_b : (f : ℕ) → f < b.used → T (filled_from_first (edge_at b f).guard)
  filled_guard_b f l = filled_atoms b.clocks b.vars (edge_at b f).guard
      (edge_parts b.locations b.clocks b.vars (edge_at b f) (edge_formed_at b b-ok f l)).3

  guard_of_a : (e : ℕ) → e < a.used → greatest_constant (edge_at a e).guard < ceiling whole
  guard_of_a e l = ⊎_elim
      (λ t. let f = second_partner a b e t in
      let n = pair_move a b e f.0 f.2 l f.1 in
      omega (
        arith,
        first_in (label_at a e) (edge_at a e) (edge_at b f.0) (filled_guard_a e l),
        subst (λ (w : Move). greatest_constant (edge_of a b w).guard < ceiling whole) n.2 (move_guard n.0 n.1),
      ))
      (λ t. let n = first_move a b e 0 l t (omega (arith, (formed b b-ok).initial_ok)) in
      omega (
        arith,
        first_in (label_at a e) (edge_at a e) (standing 0) (filled_guard_a e l),
        subst (λ (w : Move). greatest_constant (edge_of a b w).guard < ceiling whole) n.2 (move_guard n.0 n.1),
      ))
      (split (shared a b (label_at a e)))

  guard_of_b : (f : ℕ) → f < b.used → greatest_constant (edge_at b f).guard < ceiling whole
  guard_of_b f l = ⊎_elim
      (λ t. let e = first_partner a b f t in
      let n = pair_move a b e.0 f e.2 e.1 l in
      omega (
        arith,
        second_in (label_at a e.0) (edge_at a e.0) (edge_at b f) (filled_guard_b f l) (few.guards_fit_lem e.0 f e.1 l e.2),
        subst (λ (w : Move). greatest_constant (edge_of a b w).guard < ceiling whole) n.2 (move_guard n.0 n.1),
      ))
      (λ t. let n = second_move a b f 0 l t (omega (arith, (formed a a-ok).initial_ok)) in
      omega (
        arith,
        second_in (label_at b f) (standing 0) (edge_at b f) (filled_guard_b f l)
            (omega (arith, standing_count 0, count_le (edge_at b f).guard (filled_guard_b f l))),
        subst (λ (w : Move). greatest_constant (edge_of a b w).guard < ceiling whole) n.2 (move_guard n.0 n.1),
      ))
      (split (shared a b (label_at b f)))

  invariant_of_a : (i : ℕ) → i < a.locations → greatest_constant (invariant_at a i) < ceiling whole
  invariant_of_a i l =
      let some : 0 < b.locations = omega (arith, (formed b b-ok).initial_ok) in
      omega (
        arith,
        first_constant_le a.clocks a.vars (invariant_at a i) (invariant_at b 0)
            (filled_atoms a.clocks 0 (invariant_at a i) (invariant_formed_at a a-ok i l)),
        pair_invariant i 0 l some,
      )

  invariant_of_b : (j : ℕ) → j < b.locations → greatest_constant (invariant_at b j) < ceiling whole
  invariant_of_b j l =
      let some : 0 < a.locations = omega (arith, (formed a a-ok).initial_ok) in
      omega (
        arith,
        second_constant_le a.clocks a.vars (invariant_at a 0) (invariant_at b j)
            (filled_atoms b.clocks 0 (invariant_at b j) (invariant_formed_at b b-ok j l)) (few.invariants_fit_lem 0 j some l),
        pair_invariant 0 j some l,
      )

  -- a part whose declared invariants and used guards are below is below
  part_below : (m : Model) → T (well_formed m) → ((l : ℕ) → l < m.locations → greatest_constant (invariant_at m l) < ceiling whole)
      → ((e : ℕ) → e < m.used → greatest_constant (edge_at m e).guard < ceiling whole) → ceiling m ≤ ceiling whole
  part_below m ok f g = ceiling_most m (ceiling whole)
      (λ l p. ⊎_elim (f l) (λ q. omega (arith, no_atom_constant (invariant_at m l) (unused_invariant m ok l q p), ceiling_ge whole)) (lt_or_le l m.locations))
      (λ e p. ⊎_elim (g e) (λ q. omega (arith, no_atom_constant (edge_at m e).guard (unused_edge m ok e q p).no_atom, ceiling_ge whole))
      (lt_or_le e m.used))

  -- the ceiling of the composed model is the greater of the two
  pub composed_ceiling : ceiling (composed a b) ≡ max (ceiling a) (ceiling b)
  composed_ceiling =
      omega (
        arith,
        ceiling_most whole top whole_invariant whole_guard,
        part_below a a-ok invariant_of_a guard_of_a,
        part_below b b-ok invariant_of_b guard_of_b,
      )
