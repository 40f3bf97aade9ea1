-- The slots of an inv or when value without faults are well formed.
use Prim.Native.Nat.{ℕ, zero, suc, ◌+◌, ◌-◌}
use mathlib.Core.Path.{◌≡◌, refl, sym}
use mathlib.Core.List.{List, [], ◌∷◌, ◌++◌, map}
use mathlib.Core.Bool.{Bool, true, false, cond, not, false≢true}
use native.Mathlib.Numerals.{add-one}
use lib.Dec.{T, eqb}
use lib.ListN.{length, get_or, drop, replicate}
use borrow.Author.Tests.{lt-ltb, le-leb, leb-false, ltb-false}
use Rattle.std.specs.Prelude.{Option, Some, None}
use Rattle.text.specs.bytes.Bytes.{number_of, leading, items_of}
use Rattle.text.specs.bytes.Faulty.{fault_number, any_of}
use Rattle.text.proofs.bytes.Flags.{any_head, any_tail, passed}
use Rattle.model.specs.declared.Relation.{Relation}
use Rattle.model.specs.declared.Relation.TheVariants.{Less, LessEqual, Equal, GreaterEqual, Greater, NotEqual}
use Rattle.model.specs.declared.Atom.{Atom}
use Rattle.model.specs.Record.{blank_atom, atom_at}
use Rattle.model.specs.Form.{is_not_equal, atom_formed, is_blank, no_gap, each_formed, filled_from_first, atoms_formed}
use Rattle.model.proofs.IndexedLaws.{and_T, all_below_lem}
use Rattle.text.specs.declared.atoms.RelationRead.{RelationRead}
use Rattle.text.specs.declared.atoms.AtomRead.{AtomRead}
use Rattle.text.specs.declared.atoms.AtomRead.TheVariants.{ClockAtom, CounterAtom}
use Rattle.text.specs.atoms.Atoms.{clock_atom, named_atom, related_atom, valued_atom, made_atom, relation_of, width, after_name, atom_of, on_clocks, item_of}
use Rattle.text.specs.atoms.Atoms.{is_malformed, is_outside, is_undeclared, atom_faults, atom_in, slot_of, atom_slots, inv_items, when_items}

-- ---- no clock is compared by !=
abbrev proper : Option AtomRead → Bool
proper None = true
proper (Some (ClockAtom x r c)) = not (is_not_equal r)
proper (Some (CounterAtom v r c)) = true

clock_proper : (x : ℕ) (r : Relation) (c : ℕ) → T (proper (clock_atom x r c))
clock_proper x Less c = tt
clock_proper x LessEqual c = tt
clock_proper x Equal c = tt
clock_proper x GreaterEqual c = tt
clock_proper x Greater c = tt
clock_proper x NotEqual c = tt

named_proper : (name i : ℕ) (r : Relation) (c : ℕ) → T (proper (named_atom name i r c))
named_proper name i r c = go (eqb name 120) (eqb name 118)
  where
    go : (a b : Bool) → T (proper (cond a (clock_atom i r c) (cond b (Some (CounterAtom i r c)) None)))
    go true b = clock_proper i r c
    go false true = tt
    go false false = tt

related_proper : (name i : ℕ) (r : Option RelationRead) (c : ℕ) → T (proper (related_atom name i r c))
related_proper name i None c = tt
related_proper name i (Some r) c = named_proper name i r.relation c

valued_proper : (name i : ℕ) (r : Option RelationRead) (c : Option ℕ) → T (proper (valued_atom name i r c))
valued_proper name i r None = tt
valued_proper name i r (Some c) = related_proper name i r c

made_proper : (name : ℕ) (i : Option ℕ) (r : Option RelationRead) (c : Option ℕ) → T (proper (made_atom name i r c))
made_proper name None r c = tt
made_proper name (Some i) r c = valued_proper name i r c

atom_proper : (l : List ℕ) → T (proper (atom_of l))
unfolding atom_of
atom_proper l =
    made_proper (get_or l 0 0) (leading (drop 1 l)) (relation_of (after_name l))
    (number_of (drop (width (relation_of (after_name l))) (after_name l)))

-- ---- an atom without faults is formed; one of an inv line also where no counter is declared
atom_formed_lem : (clocks vars : ℕ) (a : Option AtomRead) → T (proper a) → is_outside a ≡ false → is_undeclared clocks vars a ≡ false
    → T (atom_formed clocks vars (atom_in a))
atom_formed_lem clocks vars None p o u = tt
atom_formed_lem clocks vars (Some (ClockAtom x r c)) p o u = rw (lt-ltb x clocks (leb-false clocks x u), le-leb c 30 (ltb-false 30 c o)) p
atom_formed_lem clocks vars (Some (CounterAtom v r c)) p o u = rw (lt-ltb v vars (leb-false vars v u), le-leb c 31 (ltb-false 31 c o)) tt

clock_formed : (clocks vars : ℕ) (a : Option AtomRead) → T (atom_formed clocks vars (atom_in (on_clocks a))) → T (atom_formed clocks 0 (atom_in (on_clocks a)))
clock_formed clocks vars None h = tt
clock_formed clocks vars (Some (ClockAtom x r c)) h = h
clock_formed clocks vars (Some (CounterAtom v r c)) h = tt

on_clocks_proper : (a : Option AtomRead) → T (proper a) → T (proper (on_clocks a))
on_clocks_proper None h = tt
on_clocks_proper (Some (ClockAtom x r c)) h = h
on_clocks_proper (Some (CounterAtom v r c)) h = tt

filled_in : (a : Option AtomRead) → is_malformed a ≡ false → is_blank (atom_in a) ≡ false
filled_in None h = absurd (false≢true (sym h))
filled_in (Some (ClockAtom x r c)) h = refl
filled_in (Some (CounterAtom v r c)) h = refl

blank_at : (n k : ℕ) → atom_at (replicate n blank_atom) k ≡ atom_at [] k
blank_at zero k = refl
blank_at (suc n) zero = refl
blank_at (suc n) (suc k) = blank_at n k

-- ---- the slots of a list of items
abbrev filled_to : ℕ → List (Option AtomRead) → List Atom
filled_to n l = map slot_of l ++ replicate n blank_atom

no_gap_lem : (l : List (Option AtomRead)) (n k : ℕ) → any_of is_malformed l ≡ false → T (no_gap (atom_at (filled_to n l) k) (atom_at (filled_to n l) (suc k)))
no_gap_lem [] n k m = rw (blank_at n k, blank_at n (suc k)) tt
no_gap_lem (a ∷ l) n zero m = rw (filled_in a (any_head is_malformed a l m)) tt
no_gap_lem (a ∷ l) n (suc k) m = no_gap_lem l n k (any_tail is_malformed a l m)

module _ (clocks vars declared : ℕ) (item : List ℕ → Option AtomRead)
    (formed : (l : List ℕ) → is_outside (item l) ≡ false → is_undeclared clocks vars (item l) ≡ false
    → T (atom_formed clocks declared (atom_in (item l)))) where
  each_formed_lem : (l : List (List ℕ)) (n k : ℕ) → any_of is_outside (map item l) ≡ false → any_of (is_undeclared clocks vars) (map item l) ≡ false
      → T (atom_formed clocks declared (atom_at (filled_to n (map item l)) k))
  each_formed_lem [] n k o u = rw (blank_at n k) tt
  each_formed_lem (p ∷ l) n zero o u = formed p (any_head is_outside (item p) (map item l) o) (any_head (is_undeclared clocks vars) (item p) (map item l) u)
  each_formed_lem (p ∷ l) n (suc k) o u =
      each_formed_lem l n k (any_tail is_outside (item p) (map item l) o) (any_tail (is_undeclared clocks vars) (item p) (map item l) u)

  slots_formed : (l : List (List ℕ)) → fault_number (atom_faults clocks vars (map item l)) ≡ 0 → T (atoms_formed clocks declared (atom_slots (map item l)))
  unfolding atom_faults atom_slots atoms_formed each_formed filled_from_first
  slots_formed l h =
      let g = passed (atom_faults clocks vars (map item l)) h in
      let n = 4 - length (map item l) in
      let slots = filled_to n (map item l) in
      let each = (all_below_lem (λ k. atom_formed clocks declared (atom_at slots k)) 4).1 (λ k p. each_formed_lem l n k g.inside g.declared) in
      let gapless = (all_below_lem (λ k. no_gap (atom_at slots k) (atom_at slots (k + 1))) 3).1
      (λ k p. rw (add-one k) (no_gap_lem (map item l) n k g.well_formed_lem)) in
      (and_T (each_formed clocks declared slots) (filled_from_first slots)).1 (each, gapless)

pub when_formed :
    (clocks vars : ℕ) (v : List ℕ) → fault_number (atom_faults clocks vars (when_items v)) ≡ 0 → T (atoms_formed clocks vars (atom_slots (when_items v)))
unfolding when_items
when_formed clocks vars v = slots_formed clocks vars vars (item_of true) (λ l. atom_formed_lem clocks vars (atom_of l) (atom_proper l)) (items_of v)

pub inv_formed : (clocks vars : ℕ) (v : List ℕ) → fault_number (atom_faults clocks vars (inv_items v)) ≡ 0
    → T (atoms_formed clocks 0 (atom_slots (inv_items v)))
unfolding inv_items
inv_formed clocks vars v =
    slots_formed clocks vars 0 (item_of false)
    (λ l o u. clock_formed clocks vars (atom_of l) (atom_formed_lem clocks vars (on_clocks (atom_of l)) (on_clocks_proper (atom_of l) (atom_proper l)) o u))
    (items_of v)
