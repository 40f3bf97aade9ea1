-- An array that `array::from_fn` made, by a closure of which something is known only below the array's length.
use Rattle.std.specs.Prelude.{ℕ, zero, suc, ◌+◌, ◌<◌, ◌≤◌, List, get_or, ◌≡◌}
use Rattle.std.specs.Array.{IsFromFnResult, IsFromFnResultFrom}
use Rattle.std.specs.Fn.{Called}
use Rattle.std.proofs.Common.{arith, sym, subst, ◌∙◌}
use Rattle.std.proofs.lemmas.List.{ext_get_or}
use denote.Param.Members.{Mut}
use mathlib.Core.Logic.{⊎_elim}
use Rattle.model.specs.Indexed.{list_below}
use Rattle.model.proofs.IndexedLaws.{lt_or_le, length_list, get_d_list}

module _ {A F : Type 0} (g : Mut F (ℕ × Unit {0}) A) (f : F) (h : ℕ → A) (d : A) (m : ℕ)
    (act : (k : ℕ) (y : A) (q : F) → k < m → Called g f (k, tt) y q → (q ≡ f) × (y ≡ h k)) where
  made_from : (xs : List A) (i n : ℕ) → i + n ≡ m → IsFromFnResultFrom g f xs i n → (k : ℕ) → i ≤ k → k < i + n → get_or xs k d ≡ h k
  made_from xs i zero e r k p l = absurd (omega arith)
  made_from xs i (suc n) e r k p l =
      let made = act i r.1 r.0 (omega arith) r.3 in
      let rest : IsFromFnResultFrom g f xs (i + 1) n = subst (λ (q : F). IsFromFnResultFrom g q xs (i + 1) n) made.0 r.4 in
      ⊎_elim (λ q. made_from xs (i + 1) n (omega arith) rest k (omega (arith, q)) (omega arith))
      (λ q. let s : k ≡ i = omega (arith, q) in rw s (r.2.1 d ∙ made.1)) (lt_or_le i k)

  pub made_below : (xs : List A) → IsFromFnResult g f xs m → xs ≡ list_below h m
  made_below xs r =
      ext_get_or d xs (list_below h m) (r.long ∙ sym (length_list h m))
      (λ i l. let q : i < m = omega (arith, l, r.long) in made_from xs 0 m (omega arith) r.each i (omega arith) (omega arith) ∙ sym (get_d_list d h m i q))
