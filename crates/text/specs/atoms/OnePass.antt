-- What one pass over the items of an inv or when value collects. Reading does not rest on it: it is proved equal to the tests of specs/Atoms.
use Rattle.std.specs.Prelude.{ℕ, List, cond, ◌||◌, set, replicate, ltb, leb, Option, Some, None}
use Rattle.text.specs.bytes.Bytes.{narrowed, counted}
use Rattle.text.specs.bytes.Faulty.{no_faults}
use Rattle.model.specs.declared.Atom.{Atom}
use Rattle.model.specs.declared.Atom.TheVariants.{Blank, OnClock, OnCounter}
use Rattle.model.specs.Record.{blank_atom}
use Rattle.text.specs.declared.atoms.AtomRead.{AtomRead}
use Rattle.text.specs.declared.atoms.AtomRead.TheVariants.{ClockAtom, CounterAtom}
use Rattle.text.specs.declared.atoms.AtomsRead.{AtomsRead}
use Rattle.text.specs.atoms.Atoms.{is_malformed, is_outside, is_undeclared}

-- the atom of an item, its numbers narrowed to bytes
abbrev pub stored_atom : Option AtomRead → Atom
stored_atom None = Blank
stored_atom (Some (ClockAtom x r c)) = OnClock (narrowed x) r (narrowed c)
stored_atom (Some (CounterAtom v r c)) = OnCounter (narrowed v) r (narrowed c)

-- one more atom, in slot k
unfoldable pub pushed : List Atom → ℕ → Atom → List Atom
pushed atoms k a = cond (ltb k 4) (set atoms k a) atoms

-- before the first item
unfoldable pub no_atoms : AtomsRead
no_atoms = record { faults = no_faults; count = 0; atoms = replicate 4 blank_atom }

-- one more item
unfoldable pub absorbed : ℕ → ℕ → AtomsRead → Option AtomRead → AtomsRead
absorbed clocks vars s a = record {
  faults = record {
    malformed = s.faults.malformed || is_malformed a;
    crowded = s.faults.crowded || leb 4 s.count;
    outside = s.faults.outside || is_outside a;
    undeclared = s.faults.undeclared || is_undeclared clocks vars a;
    unordered = s.faults.unordered;
  };
  count = counted 4 s.count;
  atoms = pushed s.atoms s.count (stored_atom a);
}
