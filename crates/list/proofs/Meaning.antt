-- What the items say of numbers: each group shows the place of its one true member.
use mathlib.Core.Path.{◌≡◌, refl, ap, ◌∙◌}
use mathlib.Core.Bool.{Bool}
use mathlib.Core.List.{[], ◌∷◌}
use Rattle.std.specs.Prelude.{Option, None, Some, option_map}
use Prim.Native.Nat.{ℕ, ◌<◌}
use lib.Dec.{T}
use Rattle.model.specs.Indexed.{each}
use Rattle.list.specs.Lists.{All}
use Rattle.list.specs.Items.{Member, member, Item, group, rule}
use Rattle.list.proofs.ListLaws.{all_each}

module _ (truth : Member → Bool) where
  -- the group of n members at b shows d: member d is true, and no other
  pub record Shows (b n d : ℕ) : Type 0 where
    pub below : d < n
    pub is_true : T (truth (member b n d))
    pub only : (v : ℕ) → v < n → T (truth (member b n v)) → v ≡ d

  abbrev pub Then : Option Member → Type 0
  Then None = ⊥
  Then (Some x) = T (truth x)

  -- the item holds
  abbrev pub Holds : Item → Type 0
  Holds (group b n) = (d : ℕ) × Shows b n d
  Holds (rule ms x) = All (λ y. T (truth y)) ms → Then x

  pub shows_unique : {b n d e : ℕ} → Shows b n d → Shows b n e → d ≡ e
  shows_unique {b} {n} {d} {e} p q = q.only d p.below p.is_true

  pub shows_true : {b n d v : ℕ} → Shows b n d → v ≡ d → T (truth (member b n v))
  shows_true {b} {n} {d} {v} p e = rw e p.is_true

  -- one choice leads each value of a group to a value of a group, or excludes it
  module _ {bc nc k b n d b' n' d' : ℕ} (c : ℕ) (pc : Shows bc nc k) (p : Shows b n d) (p' : Shows b' n' d') (f : ℕ → Option ℕ) (hc : c < nc) where
    pub leads_to : ((v u : ℕ) → v < n → f v ≡ Some u → u < n')
        → All Holds (each n (λ v. rule (member bc nc c ∷ member b n v ∷ []) (option_map (member b' n') (f v)) ∷ [])) → c ≡ k → f d ≡ Some d'
    leads_to ok h e = go (f d) refl (((all_each Holds n _).0 h d p.below).0 (shows_true pc e, (p.is_true, tt)))
      where
        go : (x : Option ℕ) → f d ≡ x → Then (option_map (member b' n') x) → f d ≡ Some d'
        go None e t = absurd t
        go (Some u) e t = e ∙ ap Some (p'.only u (ok d u p.below e) t)

    pub leads_of : (c ≡ k → f d ≡ Some d') → All Holds (each n (λ v. rule (member bc nc c ∷ member b n v ∷ []) (option_map (member b' n') (f v)) ∷ []))
    leads_of h = (all_each Holds n _).1 (λ v q. (λ t. rw (p.only v q t.1.0, h (pc.only c hc t.0)) p'.is_true, tt))

  -- one choice sets a group to a value, or is excluded
  module _ {bc nc k b' n' d' : ℕ} (c : ℕ) (pc : Shows bc nc k) (p' : Shows b' n' d') (y : Option ℕ) (hc : c < nc) where
    pub sets_to_lem : ((u : ℕ) → y ≡ Some u → u < n') → Holds (rule (member bc nc c ∷ []) (option_map (member b' n') y)) → c ≡ k → y ≡ Some d'
    sets_to_lem ok h e = go y refl (h (shows_true pc e, tt))
      where
        go : (x : Option ℕ) → y ≡ x → Then (option_map (member b' n') x) → y ≡ Some d'
        go None e t = absurd t
        go (Some u) e t = e ∙ ap Some (p'.only u (ok u e) t)

    pub sets_of : (c ≡ k → y ≡ Some d') → Holds (rule (member bc nc c ∷ []) (option_map (member b' n') y))
    sets_of h t = rw (h (pc.only c hc t.0)) p'.is_true
