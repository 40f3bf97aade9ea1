-- An edge by its parts. A blank edge slot is formed in any model, so a slot counts as read before its parts are put in.
use Prim.Native.Nat.{ℕ, ◌≤◌, ◌<◌, zero-le}
use mathlib.Core.List.{List}
use mathlib.Core.Bool.{Bool, true, false, cond, not, ◌&&◌}
use native.Mathlib.Omega.{arith}
use lib.Dec.{T, ltb, leb, lt→ltb, ltb→lt}
use lib.ListN.{get_or}
use borrow.Author.Tests.{le-ltb}
use Rattle.model.specs.declared.Atom.{Atom}
use Rattle.model.specs.declared.Atom.TheVariants.{Blank, OnClock, OnCounter}
use Rattle.model.specs.declared.Update.{Update}
use Rattle.model.specs.declared.Update.TheVariants.{Keep, Constant, Sum}
use Rattle.model.specs.declared.ClockUpdate.{ClockUpdate}
use Rattle.model.specs.declared.ClockUpdate.TheVariants.{Unchanged, Reset, Copy}
use Rattle.model.specs.declared.Edge.{Edge}
use Rattle.model.specs.Indexed.{all_below}
use Rattle.model.specs.Record.{blank_update, blank_reset, atom_at}
use Rattle.model.specs.Automaton.{is_keep}
use Rattle.model.specs.Form.{is_not_equal, atom_formed, update_formed, clock_update_formed, is_unchanged, reset_slot_formed, each_formed, filled_from_first}
use Rattle.model.specs.Form.{atoms_formed}
use Rattle.model.specs.Form.{update_slot_formed, updates_formed, order_formed, resets_formed, edge_formed}
use Rattle.model.proofs.IndexedLaws.{and_T, all_below_lem}

pub record EdgeParts (locations clocks vars : ℕ) (e : Edge) : Type 0 where
  pub source_ok : T (ltb e.source locations)
  pub target_ok : T (ltb e.target locations)
  pub label_ok : T (leb e.label 15)
  pub guard_ok : T (atoms_formed clocks vars e.guard)
  pub updates_ok : T (updates_formed vars e.updates)
  pub order_ok : T (order_formed e)
  pub resets_ok : T (resets_formed clocks e.resets)

module _ (locations clocks vars : ℕ) (e : Edge) where
  abbrev located : Bool
  located = ltb e.source locations && ltb e.target locations

  abbrev labelled : Bool
  labelled = located && leb e.label 15

  abbrev guarded : Bool
  guarded = labelled && atoms_formed clocks vars e.guard

  abbrev updated : Bool
  updated = guarded && updates_formed vars e.updates

  abbrev ordered : Bool
  ordered = updated && order_formed e

  pub open_edge : T (edge_formed locations clocks vars e) → EdgeParts locations clocks vars e
  unfolding edge_formed
  open_edge h =
      let x = (and_T ordered (resets_formed clocks e.resets)).0 h in
      let o = (and_T updated (order_formed e)).0 x.0 in
      let y = (and_T guarded (updates_formed vars e.updates)).0 o.0 in
      let z = (and_T labelled (atoms_formed clocks vars e.guard)).0 y.0 in
      let l = (and_T located (leb e.label 15)).0 z.0 in
      let w = (and_T (ltb e.source locations) (ltb e.target locations)).0 l.0 in
      record { source_ok = w.0; target_ok = w.1; label_ok = l.1; guard_ok = z.1; updates_ok = y.1; order_ok = o.1; resets_ok = x.1 }

  pub shut_edge : EdgeParts locations clocks vars e → T (edge_formed locations clocks vars e)
  unfolding edge_formed
  shut_edge p =
      let z = (and_T (ltb e.source locations) (ltb e.target locations)).1 (p.source_ok, p.target_ok) in
      let l = (and_T located (leb e.label 15)).1 (z, p.label_ok) in
      let y = (and_T labelled (atoms_formed clocks vars e.guard)).1 (l, p.guard_ok) in
      let x = (and_T guarded (updates_formed vars e.updates)).1 (y, p.updates_ok) in
      let o = (and_T updated (order_formed e)).1 (x, p.order_ok) in
      (and_T ordered (resets_formed clocks e.resets)).1 (o, p.resets_ok)

-- ---- what is formed where nothing is declared is formed anywhere
all_weaken : (p q : ℕ → Bool) (n : ℕ) → ((i : ℕ) → T (p i) → T (q i)) → T (all_below p n) → T (all_below q n)
all_weaken p q n f h = (all_below_lem q n).1 (λ i l. f i ((all_below_lem p n).0 h i l))

none_below : {A : Type 0} (x : ℕ) → T (ltb x 0) → A
none_below x h = let l : x < 0 = ltb→lt x 0 h in absurd (omega arith)

weaken_atom : (clocks vars : ℕ) (a : Atom) → T (atom_formed 0 0 a) → T (atom_formed clocks vars a)
weaken_atom clocks vars Blank h = tt
weaken_atom clocks vars (OnClock x r c) h =
    let g = (and_T (ltb x 0 && leb c 30) (not (is_not_equal r))).0 h in
    none_below x ((and_T (ltb x 0) (leb c 30)).0 g.0).0
weaken_atom clocks vars (OnCounter v r c) h = none_below v ((and_T (ltb v 0) (leb c 31)).0 h).0

weaken_atoms : (clocks vars : ℕ) (atoms : List Atom) → T (atoms_formed 0 0 atoms) → T (atoms_formed clocks vars atoms)
unfolding atoms_formed each_formed
weaken_atoms clocks vars atoms h =
    let g = (and_T (each_formed 0 0 atoms) (filled_from_first atoms)).0 h in
    let each = all_weaken (λ k. atom_formed 0 0 (atom_at atoms k)) (λ k. atom_formed clocks vars (atom_at atoms k)) 4
    (λ k. weaken_atom clocks vars (atom_at atoms k)) g.0 in
    (and_T (each_formed clocks vars atoms) (filled_from_first atoms)).1 (each, g.1)

keep_formed : (vars : ℕ) (u : Update) (b : Bool) → T (is_keep u) → T (cond b (update_formed vars u) (is_keep u))
keep_formed vars Keep true h = tt
keep_formed vars Keep false h = tt
keep_formed vars (Constant c) b h = absurd h
keep_formed vars (Sum w z) b h = absurd h

weaken_updates : (vars : ℕ) (slots : List Update) → T (updates_formed 0 slots) → T (updates_formed vars slots)
unfolding updates_formed
weaken_updates vars slots =
    let at : ℕ → ℕ → Bool = λ n i. update_slot_formed n (get_or slots i blank_update) i in
    all_weaken (at 0) (at vars) 4 (λ i h. keep_formed vars (get_or slots i blank_update) (ltb i vars) (rw (le-ltb i 0 zero-le) at h))

unchanged_formed : (clocks : ℕ) (u : ClockUpdate) (b : Bool) → T (is_unchanged u) → T (cond b (clock_update_formed clocks u) (is_unchanged u))
unchanged_formed clocks Unchanged true h = tt
unchanged_formed clocks Unchanged false h = tt
unchanged_formed clocks Reset b h = absurd h
unchanged_formed clocks (Copy w) b h = absurd h

weaken_resets : (clocks : ℕ) (slots : List ClockUpdate) → T (resets_formed 0 slots) → T (resets_formed clocks slots)
unfolding resets_formed
weaken_resets clocks slots =
    let at : ℕ → ℕ → Bool = λ n i. reset_slot_formed n (get_or slots i blank_reset) i in
    all_weaken (at 0) (at clocks) 4 (λ i h. unchanged_formed clocks (get_or slots i blank_reset) (ltb i clocks) (rw (le-ltb i 0 zero-le) at h))

pub weaken : (locations clocks vars : ℕ) (e : Edge) → 1 ≤ locations → T (edge_formed 1 0 0 e) → T (edge_formed locations clocks vars e)
weaken locations clocks vars e l h =
    let p = open_edge 1 0 0 e h in
    shut_edge locations clocks vars e (record {
      source_ok = lt→ltb e.source locations (omega (arith, ltb→lt e.source 1 p.source_ok));
      target_ok = lt→ltb e.target locations (omega (arith, ltb→lt e.target 1 p.target_ok));
      label_ok = p.label_ok;
      guard_ok = weaken_atoms clocks vars e.guard p.guard_ok;
      updates_ok = weaken_updates vars e.updates p.updates_ok;
      order_ok = p.order_ok;
      resets_ok = weaken_resets clocks e.resets p.resets_ok;
    })
