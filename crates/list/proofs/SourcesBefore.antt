-- An edge in which no source is set earlier than the counter that reads it lists as if all updates read the values from before the edge: then the items
-- do not depend on the order.
use mathlib.Core.Path.{◌≡◌, refl, ap}
use mathlib.Core.Bool.{Bool, false, cond}
use mathlib.Core.List.{List, ◌++◌}
use Rattle.std.specs.Prelude.{Some}
use Prim.Native.Nat.{ℕ}
use lib.IntN.{ℤ}
use Rattle.model.specs.declared.Update.{Update}
use Rattle.model.specs.declared.Update.TheVariants.{Keep, Constant, Sum}
use Rattle.model.specs.declared.Edge.{Edge}
use Rattle.model.specs.declared.Model.{Model}
use Rattle.model.specs.Indexed.{each}
use Rattle.model.specs.Record.{update_at, counter_at}
use Rattle.model.specs.Automaton.{counter, in_range, shifted, set_earlier}
use Rattle.model.proofs.StepLaws.{NoneEarlier}
use Rattle.list.specs.Items.{Item, next_block, leads, sets_to, source_items, target_items, guard_items, update_items, updates_items, resets_items, edge_items}
use Rattle.list.proofs.ListLaws.{each_cong}

module _ (width : ℕ → ℕ) (m : Model) (o c : ℕ) where
  -- An update that reads the values from before the edge: for w plus offset, each value of w: not edge, not value before, result after.
  abbrev pub items_from_before : ℕ → Update → List Item
  items_from_before i Keep = leads width m o o c (counter i) (counter i) Some
  items_from_before i (Constant n) = sets_to width m o c (counter i) (in_range (counter_at m i).greatest n)
  items_from_before i (Sum w z) = leads width m o o c (counter w) (counter i) (shifted z (counter_at m i).greatest)

  update_from_before : (order : List ℕ) (i : ℕ) (u : Update) → ((w : ℕ) (z : ℤ) → u ≡ Sum w z → set_earlier order w i ≡ false)
      → update_items width m o c order i u ≡ items_from_before i u
  update_from_before order i Keep h = refl
  update_from_before order i (Constant n) h = refl
  update_from_before order i (Sum w z) h =
      ap (λ (after : Bool). leads width m (cond after (next_block width m o) o) o c (counter w) (counter i) (shifted z (counter_at m i).greatest)) (h w z refl)

  pub no_earlier_lists : (e : Edge) → NoneEarlier m e
      → edge_items width m o c e
      ≡ source_items width m o c e ++ target_items width m o c e ++ guard_items width m o c e ++ each m.vars (λ i. items_from_before i (update_at e i))
      ++ resets_items width m o c e
  unfolding edge_items updates_items
  no_earlier_lists e h =
      ap (λ (updates : List Item). source_items width m o c e ++ target_items width m o c e
      ++ guard_items width m o c e ++ updates ++ resets_items width m o c e)
      (each_cong m.vars (λ i. update_items width m o c e.order i (update_at e i)) (λ i. items_from_before i (update_at e i))
      (λ i p. update_from_before e.order i (update_at e i) (λ w z q. h i w z p q)))
