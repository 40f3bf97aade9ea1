-- The order that one pass stores: its slots have the first four of the counters that it has seen, and 0 after them.
use Prim.Native.Nat.{ℕ, ◌+◌, ◌≤◌, ◌<◌, min}
use mathlib.Core.Path.{◌≡◌, refl, sym, ◌∙◌}
use mathlib.Core.Logic.{⊎_elim}
use mathlib.Core.List.{List, [], ◌∷◌, ◌++◌}
use native.Mathlib.Omega.{arith}
use lib.ListN.{length, get_or, replicate, length-set, length-append, get_or-replicate, get_or-append, get_or-eq_default}
use lib.Seq.{get_or-set_same, get_or-set_other, get_or_at, ext_get_or}
use borrow.Author.Tests.{lt-ltb, le-ltb}
use Rattle.model.specs.Indexed.{list_below}
use Rattle.model.proofs.IndexedLaws.{lt_or_le, length_list, get_d_list}
use Rattle.text.specs.bytes.Bytes.{counted}
use Rattle.text.specs.updates.OnePass.{listed_at}
use Rattle.text.proofs.Laws.Slots.{three_ways}

-- the order has the counters `seen`, and n of its slots are filled
pub record Lists (seen : List ℕ) (n : ℕ) (order : List ℕ) : Type 0 where
  pub long : length order ≡ 4
  pub filled : n ≡ min 4 (length seen)
  pub slot : (i : ℕ) → i < 4 → get_or order i 0 ≡ get_or seen i 0

pub lists_none : Lists [] 0 (replicate 4 0)
lists_none = record { long = refl; filled = refl; slot = λ i l. get_or-replicate 4 i 0 0 l }

pub lists_more : {seen order : List ℕ} {n : ℕ} → Lists seen n order → (c : ℕ) → Lists (seen ++ (c ∷ [])) (counted 4 n) (listed_at order n c)
unfolding listed_at
lists_more {seen} {order} {n} p c = ⊎_elim room full (lt_or_le n 4)
  where
    longer : length (seen ++ (c ∷ [])) ≡ length seen + 1
    longer = length-append seen (c ∷ [])

    room : n < 4 → Lists (seen ++ (c ∷ [])) (counted 4 n) (listed_at order n c)
    room h =
        let m : length seen ≡ n = omega (arith, p.filled, h) in
        rw (lt-ltb n 4 h)
        (record {
          long = length-set order n c ∙ p.long;
          filled = omega (arith, longer, m, h);
          slot = λ i l.
              three_ways i n
              (λ s. get_or-set_other order n i c 0 (λ e. omega (arith, s, e)) ∙ p.slot i l ∙ sym (get_or-append seen (c ∷ []) 0 i (omega (arith, s, m))))
              (λ e. rw e (get_or-set_same order n c 0 (omega (arith, p.long, h)) ∙ sym (get_or_at seen c [] 0 n m)))
              (λ s. get_or-set_other order n i c 0 (λ e. omega (arith, s, e)) ∙ p.slot i l ∙ get_or-eq_default seen 0 (omega (arith, s, m))
              ∙ sym (get_or-eq_default (seen ++ (c ∷ [])) 0 (omega (arith, s, m, longer))));
        })

    full : 4 ≤ n → Lists (seen ++ (c ∷ [])) (counted 4 n) (listed_at order n c)
    full h =
        let m : 4 ≤ length seen = omega (arith, p.filled, h) in
        rw (le-ltb n 4 h)
        (record {
          long = p.long;
          filled = omega (arith, p.filled, longer, m);
          slot = λ i l. p.slot i l ∙ sym (get_or-append seen (c ∷ []) 0 i (omega (arith, l, m)));
        })

-- all of them
pub lists_all : {seen order : List ℕ} {n : ℕ} → Lists seen n order → order ≡ list_below (λ k. get_or seen k 0) 4
lists_all {seen} {order} p =
    let f : ℕ → ℕ = λ k. get_or seen k 0 in
    ext_get_or 0 order (list_below f 4) (p.long ∙ sym (length_list f 4))
    (λ i l. let b : i < 4 = omega (arith, l, p.long) in p.slot i b ∙ sym (get_d_list 0 f 4 i b))
