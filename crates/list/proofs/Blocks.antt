-- A state block: its groups show a state, and its other items say that the invariant holds.
use mathlib.Core.Path.{◌≡◌, refl, ap}
use mathlib.Core.Logic.{◌↔◌}
use mathlib.Core.Bool.{Bool, true, false, cond}
use mathlib.Core.List.{List, [], ◌∷◌, ◌++◌}
use Rattle.std.specs.Prelude.{None}
use Prim.Native.Nat.{ℕ, zero, suc, ◌+◌, ◌<◌}
use native.Mathlib.Nat.{not-suc-le-zero}
use native.Mathlib.Omega.{arith}
use lib.Dec.{T}
use lib.ListN.{length, get_or}
use Rattle.model.specs.declared.Relation.{Relation}
use Rattle.model.specs.declared.Atom.{Atom}
use Rattle.model.specs.declared.Atom.TheVariants.{Blank, OnClock, OnCounter}
use Rattle.model.specs.declared.Model.{Model}
use Rattle.model.specs.declared.State.{State}
use Rattle.model.specs.Indexed.{each}
use Rattle.model.specs.Record.{atom_at, invariant_at}
use Rattle.model.specs.Automaton.{Component, loc, counter, clock, value, Declared, group_size, meets, atom_holds, invariant_holds}
use Rattle.model.proofs.FormLaws.{DeclaredAtom, WellFormed}
use Rattle.model.proofs.StepLaws.{Shaped, state_ext, state_from, invariant_iff}
use Rattle.list.specs.Lists.{All}
use Rattle.list.specs.Items.{Member, Item, group, rule, over_components, offset, state_member, exclude_values, exclude_failing, exclude_all_failing}
use Rattle.list.specs.Items.{group_items, invariant_of, invariant_items, state_items}
use Rattle.list.proofs.ListLaws.{all_app, all_app₃, all_each}
use Rattle.list.proofs.Meaning.{Shows, Holds, shows_unique}

cons_at : (P : ℕ → ℕ → Type 0) (x : ℕ) (l : List ℕ) (n : ℕ) → P 0 x → ((i : ℕ) → i < n → P (suc i) (get_or l i 0))
    → (i : ℕ) → i < suc n → P i (get_or (x ∷ l) i 0)
cons_at P x l n p h zero q = p
cons_at P x l n p h (suc i) q = h i (omega arith)

-- values that are there one by one are there as a list
choose : (n : ℕ) (P : ℕ → ℕ → Type 0) → ((i : ℕ) → i < n → (d : ℕ) × P i d) → (l : List ℕ) × (length l ≡ n) × ((i : ℕ) → i < n → P i (get_or l i 0))
choose zero P f = ([], refl, λ i p. absurd (not-suc-le-zero p))
choose (suc n) P f =
    let x = f 0 (omega arith) in
    let g : (i : ℕ) → i < n → (d : ℕ) × P (suc i) d = λ i p. f (suc i) (omega arith) in
    let r = choose n (λ i d. P (suc i) d) g in
    (x.0 ∷ r.0, ap suc r.1, cons_at P x.0 r.0 n x.1 r.2)

-- what holds of a piece for each component holds of each piece
module _ {A : Type 0} (m : Model) (P : A → Type 0) (f : Component → List A) where
  pub over_components_lem : All P (over_components m f) ↔ ((x : Component) → Declared m x → All P (f x))
  over_components_lem = (to, λ h. of h)
    where
      parts : All P (over_components m f) ↔ (All P (f loc) × All P (each m.vars (λ i. f (counter i))) × All P (each m.clocks (λ i. f (clock i))))
      parts = all_app₃ P (f loc) (each m.vars (λ i. f (counter i))) (each m.clocks (λ i. f (clock i)))

      to : All P (over_components m f) → (x : Component) → Declared m x → All P (f x)
      to h loc p = (parts.0 h).0
      to h (counter i) p = (all_each P m.vars (λ i. f (counter i))).0 (parts.0 h).1 i p
      to h (clock i) p = (all_each P m.clocks (λ i. f (clock i))).0 (parts.0 h).2 i p

      of : ((x : Component) → Declared m x → All P (f x)) → All P (over_components m f)
      of h = parts.1 (
        h loc tt,
        (all_each P m.vars (λ i. f (counter i))).1 (λ i. h (counter i)),
        (all_each P m.clocks (λ i. f (clock i))).1
            (λ i. h (clock i)),
      )

module _ (width : ℕ → ℕ) (m : Model) (truth : Member → Bool) where
  -- the state block at o shows the state s
  pub record ShowsState (o : ℕ) (s : State) : Type 0 where
    pub shape : Shaped m s
    pub shown : (x : Component) → Declared m x → Shows truth (o + offset width m x) (group_size m x) (value s x)

  -- the state that a block shows is the only one
  pub state_unique : {o : ℕ} {s t : State} → ShowsState o s → ShowsState o t → s ≡ t
  state_unique p q = state_ext m p.shape q.shape (λ x h. shows_unique truth (p.shown x h) (q.shown x h))

  -- the values that fail an atom are excluded together with ms exactly if ms entail the atom
  module _ {o : ℕ} {s : State} (q : ShowsState o s) (ms : List Member) where
    values_to : (x : Component) → Declared m x → (rel : Relation) (b : ℕ) → All (Holds truth) (exclude_values width m o ms x rel b)
        → All (λ y. T (truth y)) ms → T (meets rel (value s x) b)
    values_to x h rel b k n = go (meets rel (value s x) b) ((all_each (Holds truth) (group_size m x) _).0 k (value s x) (q.shown x h).below)
      where
        go : (t : Bool) → All (Holds truth) (cond t [] (rule (ms ++ (state_member width m o x (value s x) ∷ [])) None ∷ [])) → T t
        go true t = tt
        go false t = absurd (t.0 ((all_app (λ y. T (truth y)) ms _).1 (n, ((q.shown x h).is_true, tt))))

    values_of : (x : Component) → Declared m x → (rel : Relation) (b : ℕ) → (All (λ y. T (truth y)) ms → T (meets rel (value s x) b))
        → All (Holds truth) (exclude_values width m o ms x rel b)
    values_of x h rel b k = (all_each (Holds truth) (group_size m x) _).1 (λ v l. go v (meets rel v b) (λ n t. let e = (q.shown x h).only v l t in rw e (k n)))
      where
        go : (v : ℕ) (t : Bool) → (All (λ y. T (truth y)) ms → T (truth (state_member width m o x v)) → T t)
            → All (Holds truth) (cond t [] (rule (ms ++ (state_member width m o x v ∷ [])) None ∷ []))
        go v true f = tt
        go v false f = (λ t. let g = (all_app (λ y. T (truth y)) ms (state_member width m o x v ∷ [])).0 t in f g.0 g.1.0, tt)

    atom_to : (t : Atom) → DeclaredAtom m t → All (Holds truth) (exclude_failing width m o ms t) → All (λ y. T (truth y)) ms → T (atom_holds s t)
    atom_to Blank h k n = tt
    atom_to (OnClock x rel b) h k n = values_to (clock x) h rel b k n
    atom_to (OnCounter x rel b) h k n = values_to (counter x) h rel b k n

    atom_of_lem : (t : Atom) → DeclaredAtom m t → (All (λ y. T (truth y)) ms → T (atom_holds s t)) → All (Holds truth) (exclude_failing width m o ms t)
    atom_of_lem Blank h k = tt
    atom_of_lem (OnClock x rel b) h k = values_of (clock x) h rel b k
    atom_of_lem (OnCounter x rel b) h k = values_of (counter x) h rel b k

    pub atoms_to : (atoms : List Atom) → ((k : ℕ) → k < 4 → DeclaredAtom m (atom_at atoms k))
        → All (Holds truth) (exclude_all_failing width m o ms atoms) → All (λ y. T (truth y)) ms
        → (k : ℕ) → k < 4 → T (atom_holds s (atom_at atoms k))
    atoms_to atoms h g n k l = atom_to (atom_at atoms k) (h k l) ((all_each (Holds truth) 4 _).0 g k l) n

    pub atoms_of_lem : (atoms : List Atom) → ((k : ℕ) → k < 4 → DeclaredAtom m (atom_at atoms k))
        → (All (λ y. T (truth y)) ms → (k : ℕ) → k < 4 → T (atom_holds s (atom_at atoms k)))
        → All (Holds truth) (exclude_all_failing width m o ms atoms)
    atoms_of_lem atoms h g = (all_each (Holds truth) 4 _).1 (λ k l. atom_of_lem (atom_at atoms k) (h k l) (λ n. g n k l))

  -- the state items of a block
  module _ (ok : WellFormed m) (o : ℕ) where
    state_parts : All (Holds truth) (state_items width m o)
        ↔ (((x : Component) → Declared m x → All (Holds truth) (group (o + offset width m x)
        (group_size m x) ∷ [])) × ((l : ℕ) → l < m.locations → All (Holds truth)
        (invariant_of width m o l)))
    unfolding state_items group_items invariant_items
    state_parts =
        let G : Component → List Item = λ x. group (o + offset width m x) (group_size m x) ∷ [] in
        let I : ℕ → List Item = invariant_of width m o in
        let a = all_app (Holds truth) (over_components m G) (each m.locations I) in
        let e = all_each (Holds truth) m.locations I in
        (λ h. ((over_components_lem m (Holds truth) G).0 (a.0 h).0, e.0 (a.0 h).1), λ h. a.1 ((over_components_lem m (Holds truth) G).1 h.0, e.1 h.1))

    -- they hold where the block shows a state that meets its invariant
    pub state_of : (s : State) → ShowsState o s → T (invariant_holds m s) → All (Holds truth) (state_items width m o)
    state_of s q h = state_parts.1 (
      (λ x p. ((value s x, q.shown x p), tt)),
      λ l p. atoms_of_lem q (state_member width m o loc l ∷ []) (invariant_at m l) (ok.invariant_ok l p)
          (λ t. rw ((q.shown loc tt).only l p t.0) ((invariant_iff m s).0 h)),
    )

    groups_to : ((x : Component) → Declared m x → (d : ℕ) × Shows truth (o + offset width m x) (group_size m x) d) → (s : State) × ShowsState o s
    groups_to g =
        let vs = choose m.vars (λ i d. Shows truth (o + offset width m (counter i)) (group_size m (counter i)) d) (λ i p. g (counter i) p) in
        let cs = choose m.clocks (λ i d. Shows truth (o + offset width m (clock i)) (group_size m (clock i)) d) (λ i p. g (clock i) p) in
        let x = state_from m ok (g loc tt).0 vs.0 cs.0 vs.1 cs.1 in (
          x.0,
          record {
            shape = x.1;
            shown = elim [
              | loc ↦ λ p. rw x.2 (g loc tt).1
              | counter i ↦ λ p. rw (x.3 i p)
                  (vs.2 i p)
              | clock i ↦ λ p. rw (x.4 i p) (cs.2 i p)
            ];
          },
        )

    -- and where they hold, the block shows such a state
    pub state_to : All (Holds truth) (state_items width m o) → (s : State) × ShowsState o s × T (invariant_holds m s)
    state_to h =
        let g = state_parts.0 h in
        let x = groups_to (λ y p. (g.0 y p).0) in
        let l : ℕ = x.0.location in
        let d = x.1.shown loc tt in (
          x.0,
          x.1,
          (invariant_iff m x.0).1 (atoms_to x.1 (state_member width m o loc l ∷ []) (invariant_at m l) (ok.invariant_ok l d.below)
              (g.1 l d.below) (d.is_true, tt)),
        )
