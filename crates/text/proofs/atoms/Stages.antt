-- One pass over the items comes to the tests over all items, and to the slots where none fails.
use Prim.Native.Nat.{ℕ, suc, ◌+◌, ◌-◌, ◌≤◌, ◌<◌}
use mathlib.Core.Path.{◌≡◌, refl, sym, ap, ◌∙◌}
use mathlib.Core.List.{List, [], ◌∷◌, ◌++◌, map, foldl, append_assoc, append-nil}
use mathlib.Core.Bool.{Bool, true, false, ◌||◌, or-false, or-true}
use native.Mathlib.Omega.{arith}
use native.Mathlib.Nat.{zero-add}
use lib.ListN.{length, replicate, length-append}
use lib.Seq.{set_at}
use lib.Dec.{ltb, leb}
use borrow.Author.Tests.{lt-ltb, le-ltb, leb-true, leb-false, ltb-false}
use Rattle.std.specs.Prelude.{Option, Some, None}
use Rattle.text.specs.bytes.Faulty.{fault_number, any_of, Checked}
use Rattle.std.specs.Prelude.{Ok, Err}
use Rattle.text.specs.declared.bytes.LineFault.{LineFault}
use Rattle.text.proofs.bytes.Flags.{flag, unflagged, any_head, any_tail, same_faults, passed}
use Rattle.model.specs.declared.Atom.{Atom}
use Rattle.model.specs.Record.{blank_atom}
use Rattle.text.specs.declared.atoms.AtomRead.{AtomRead}
use Rattle.text.specs.declared.atoms.AtomRead.TheVariants.{ClockAtom, CounterAtom}
use Rattle.text.specs.declared.atoms.AtomsRead.{AtomsRead}
use Rattle.text.specs.atoms.Atoms.{is_malformed, is_outside, is_undeclared, atom_faults, atom_in, slot_of, atom_slots, AtomsOf}
use Rattle.text.specs.atoms.OnePass.{stored_atom, pushed, absorbed, no_atoms}

-- ---- the flags
module _ (clocks vars : ℕ) where
  abbrev step : AtomsRead → Option AtomRead → AtomsRead
  step = absorbed clocks vars

  abbrev Crowded : List (Option AtomRead) → AtomsRead → Type 0
  Crowded l s = (foldl step s l).faults.crowded ≡ (s.faults.crowded || ltb 4 (s.count + length l))

  crowded : (l : List (Option AtomRead)) (s : AtomsRead) → s.count ≤ 4 → Crowded l s
  unfolding absorbed
  crowded [] s h = rw (le-ltb 4 (s.count + 0) (omega arith)) (sym (or-false s.faults.crowded))
  crowded (a ∷ l) s h = go (leb 4 s.count) refl (crowded l (step s a))
    where
      go : (b : Bool) → leb 4 s.count ≡ b → ((step s a).count ≤ 4 → Crowded l (step s a)) → Crowded (a ∷ l) s
      go true e f =
          let full : 4 ≤ s.count = leb-true 4 s.count e in
          f (rw (le-ltb s.count 4 full) h)
          ∙ rw (e, or-true s.faults.crowded, lt-ltb 4 (s.count + suc (length l)) (omega arith), or-true s.faults.crowded)
      go false e f =
          let room : s.count < 4 = leb-false 4 s.count e in
          let n : s.count + 1 + length l ≡ s.count + suc (length l) = omega arith in
          f (rw (lt-ltb s.count 4 room) (omega arith))
          ∙ rw (e, lt-ltb s.count 4 room, or-false s.faults.crowded, n)

  faults_are : (items : List (Option AtomRead)) → (foldl (absorbed clocks vars) no_atoms items).faults ≡ atom_faults clocks vars items
  unfolding atom_faults no_atoms absorbed
  faults_are items =
      same_faults (foldl step no_atoms items).faults
      (flag step (λ s. s.faults.malformed) is_malformed (λ s a. refl) items no_atoms)
      (crowded items no_atoms (omega arith) ∙ ap (ltb 4) (zero-add (length items)))
      (flag step (λ s. s.faults.outside) is_outside (λ s a. refl) items no_atoms)
      (flag step (λ s. s.faults.undeclared) (is_undeclared clocks vars) (λ s a. refl) items no_atoms)
      (unflagged step (λ s. s.faults.unordered) (λ s a. refl) items no_atoms)

-- ---- the slots
module _ (clocks vars : ℕ) (p : clocks < 256) (q : vars < 256) where
  stored_is : (a : Option AtomRead) → is_outside a ≡ false → is_undeclared clocks vars a ≡ false → stored_atom a ≡ atom_in a
  stored_is None o u = refl
  stored_is (Some (ClockAtom x r c)) o u = rw (lt-ltb x 256 (omega (arith, leb-false clocks x u)), lt-ltb c 256 (omega (arith, ltb-false 30 c o)))
  stored_is (Some (CounterAtom v r c)) o u = rw (lt-ltb v 256 (omega (arith, leb-false vars v u)), lt-ltb c 256 (omega (arith, ltb-false 31 c o)))

  slots_are : (l : List (Option AtomRead)) (s : AtomsRead) (front : List Atom) → length front ≡ s.count → s.count + length l ≤ 4
      → s.atoms ≡ front ++ replicate (4 - s.count) blank_atom
      → any_of is_outside l ≡ false → any_of (is_undeclared clocks vars) l ≡ false
      → (foldl (absorbed clocks vars) s l).atoms ≡ (front ++ map slot_of l) ++ replicate (4 - (s.count + length l)) blank_atom
  unfolding absorbed pushed
  slots_are [] s front n few e o u = let z : s.count + 0 ≡ s.count = omega arith in rw (append-nil front, z) e
  slots_are (a ∷ l) s front n few e o u =
      let small : s.count < 4 = omega arith in
      let room : 4 - s.count ≡ suc (4 - (s.count + 1)) = omega arith in
      let next : s.count + 1 + length l ≡ s.count + suc (length l) = omega arith in
      slots_are l (absorbed clocks vars s a) (front ++ (slot_of a ∷ []))
      (length-append front (slot_of a ∷ []) ∙ rw (lt-ltb s.count 4 small, n))
      (rw (lt-ltb s.count 4 small) (omega arith))
      (rw (
        lt-ltb s.count 4 small,
        e,
        room,
        stored_is a (any_head is_outside a l o) (any_head (is_undeclared clocks vars) a l u),
        set_at front blank_atom (replicate (4 - (s.count + 1)) blank_atom) (slot_of a) s.count n,
      )
      (sym (append_assoc front (slot_of a ∷ []) (replicate (4 - (s.count + 1)) blank_atom))))
      (any_tail is_outside a l o)
      (any_tail (is_undeclared clocks vars) a l u)
      ∙ rw (lt-ltb s.count 4 small, next, append_assoc front (slot_of a ∷ []) (map slot_of l))

  filled : (items : List (Option AtomRead)) → fault_number (atom_faults clocks vars items) ≡ 0 → (foldl (absorbed clocks vars) no_atoms items).atoms
      ≡ atom_slots items
  unfolding atom_faults atom_slots no_atoms
  filled items h =
      let g = passed (atom_faults clocks vars items) h in
      slots_are items no_atoms [] refl (omega (arith, ltb-false 4 (length items) g.few)) refl g.inside g.declared
      ∙ rw (zero-add (length items))

  -- s is what one pass collects
  module _ (items : List (Option AtomRead)) (s : AtomsRead) (e : s ≡ foldl (absorbed clocks vars) no_atoms items) where
    same_faults_as : s.faults ≡ atom_faults clocks vars items
    same_faults_as = ap (λ (x : AtomsRead). x.faults) e ∙ faults_are clocks vars items

    pub by_stages : Checked {A = Unit {0}} s.faults tt (Ok tt) → AtomsOf clocks vars items (Ok s.atoms)
    by_stages h =
        let clean : fault_number (atom_faults clocks vars items) ≡ 0 = ap fault_number (sym same_faults_as) ∙ h.0 in
        (clean, ap (λ (x : AtomsRead). x.atoms) e ∙ filled items clean)

    pub by_fault : (fault : LineFault) → Checked {A = Unit {0}} s.faults tt (Err fault) → AtomsOf clocks vars items (Err fault)
    by_fault fault h = ap fault_number (sym same_faults_as) ∙ h
