-- The first layout: the clauses of an item are true exactly if the item holds.
use mathlib.Core.Path.{◌≡◌}
use mathlib.Core.Logic.{◌↔◌, ⊎_elim}
use mathlib.Core.Bool.{Bool, true, false, ◌||◌, not}
use mathlib.Core.List.{List, [], ◌∷◌, ◌++◌, map, flat_map}
use Rattle.std.specs.Prelude.{Option, None, Some}
use Prim.Native.Nat.{ℕ, ◌+◌, ◌-◌, ◌<◌}
use native.Mathlib.Omega.{arith}
use lib.Dec.{T}
use Rattle.model.proofs.IndexedLaws.{lt_or_le}
use Rattle.list.specs.Lists.{All, any_of, to_list}
use Rattle.list.specs.Items.{Member, Item, group, rule}
use Rattle.list.specs.Clauses.{bare, negated, Clause, one, variable_of, members, pairs, group_clauses, rule_clause, expand}
use Rattle.list.specs.Assignments.{bit, literal_true, clause_true, satisfied}
use Rattle.list.proofs.ListLaws.{all_app, all_flat, all_each, all_imp, all_T, any_each}
use Rattle.list.proofs.Meaning.{Holds, Then}

-- a member is true if its variable is
abbrev pub member_true : List ℕ → Member → Bool
member_true a x = bit a (variable_of x)

abbrev pub AllTrue : List ℕ → List Clause → Type 0
AllTrue a cs = All (λ c. T (clause_true a c)) cs

module _ (a : List ℕ) where
  -- a clause that begins with negated members
  negated_iff : (ms : List Member) (rest : Clause) → T (any_of (literal_true a) (map (λ x. negated (variable_of x)) ms ++ rest))
      ↔ (All (λ x. T (member_true a x)) ms → T (any_of (literal_true a) rest))
  negated_iff [] rest = (λ h t. h, λ h. h tt)
  negated_iff (x ∷ ms) rest = go (member_true a x) (negated_iff ms rest)
    where
      go : (b : Bool) → (T (any_of (literal_true a) (map (λ x. negated (variable_of x)) ms ++ rest)) ↔ (All (λ x. T (member_true a x)) ms → T
          (any_of (literal_true a) rest)))
          → T (not b || any_of (literal_true a) (map (λ x. negated (variable_of x)) ms ++ rest))
          ↔ ((T b × All (λ x. T (member_true a x)) ms) → T (any_of (literal_true a) rest))
      go true ih = (λ h t. ih.0 h t.1, λ h. ih.1 (λ t. h (tt, t)))
      go false ih = (λ h t. absurd t.0, λ h. tt)

  or-false : (b : Bool) → T (b || false) ↔ T b
  or-false true = (λ h. h, λ h. h)
  or-false false = (λ h. h, λ h. h)

  conclusion_iff : (x : Option Member) → T (any_of (literal_true a) (map (λ x. bare (variable_of x)) (to_list x))) ↔ Then (member_true a) x
  conclusion_iff None = (λ h. h, λ h. h)
  conclusion_iff (Some x) = or-false (member_true a x)

  one_iff : (c : Clause) → AllTrue a (one c) ↔ T (clause_true a c)
  unfolding one
  one_iff c = (λ h. h.0, λ h. (h, tt))

  rule_iff : (ms : List Member) (x : Option Member) → AllTrue a (expand (rule ms x)) ↔ Holds (member_true a) (rule ms x)
  rule_iff ms x =
      let rest : Clause = map (λ x. bare (variable_of x)) (to_list x) in (
        λ h t. (conclusion_iff x).0 ((negated_iff ms rest).0 ((one_iff (rule_clause ms (to_list x))).0 h) t),
        λ h. (one_iff (rule_clause ms (to_list x))).1
            ((negated_iff ms rest).1 (λ t. (conclusion_iff x).1 (h t))),
      )

  -- two negated members
  not_both : (x y : Bool) → T (not x || (not y || false)) ↔ (T x → T y → ⊥)
  not_both true true = (λ h p q. h, λ h. h tt tt)
  not_both true false = (λ h p q. q, λ h. tt)
  not_both false y = (λ h p q. p, λ h. tt)

  pairs_iff : (b n : ℕ) → AllTrue a (pairs b n) ↔ ((i j : ℕ) → i < j → j < n → T (bit a (b + i)) → T (bit a (b + j)) → ⊥)
  unfolding pairs
  pairs_iff b n = (
    λ h i j p q. go i (j - (i + 1)) j (omega arith) ((one_iff _).0 ((all_each _ (n - (i + 1)) _).0 ((all_each _ n _).0 h i (omega arith)) (j - (i + 1))
        (omega arith))),
    λ h. (all_each _ n _).1 (λ i p. (all_each _ (n - (i + 1)) _).1 (λ j q. (one_iff _).1 (of i j (h i (i + 1 + j) (omega arith) (omega arith))))),
  )
    where
      go : (i d j : ℕ) → b + i + 1 + d ≡ b + j → T (not (bit a (b + i)) || (not (bit a (b + i + 1 + d)) || false)) → T (bit a (b + i)) → T (bit a (b + j)) → ⊥
      go i d j e t = rw (← e) ((not_both (bit a (b + i)) (bit a (b + i + 1 + d))).0 t)

      of : (i j : ℕ) → (T (bit a (b + i)) → T (bit a (b + (i + 1 + j))) → ⊥) → T (not (bit a (b + i)) || (not (bit a (b + i + 1 + j)) || false))
      of i j h = let e : b + i + 1 + j ≡ b + (i + 1 + j) = omega arith in (not_both (bit a (b + i)) (bit a (b + i + 1 + j))).1 (rw e h)

  members_iff : (b n : ℕ) → T (clause_true a (members b n)) ↔ ((v : ℕ) × (v < n) × T (bit a (b + v)))
  unfolding members
  members_iff b n =
      let x = any_each (literal_true a) n (λ v. bare (b + v) ∷ []) in
      (λ h. let y = x.0 h in (y.0, y.1, (or-false (bit a (b + y.0))).0 y.2), λ h. x.1 (h.0, h.1, (or-false (bit a (b + h.0))).1 h.2))

  group_parts : (b n : ℕ) → AllTrue a (group_clauses b n) ↔ (T (clause_true a (members b n)) × AllTrue a (pairs b n))
  unfolding group_clauses
  group_parts b n =
      let x = all_app (λ c. T (clause_true a c)) (one (members b n)) (pairs b n) in
      (λ h. let g = x.0 h in ((one_iff (members b n)).0 g.0, g.1), λ h. x.1 ((one_iff (members b n)).1 h.0, h.1))

  group_iff : (b n : ℕ) → AllTrue a (expand (group b n)) ↔ Holds (member_true a) (group b n)
  group_iff b n = (to, of)
    where
      only : (v u : ℕ) → v < n → u < n → T (bit a (b + v)) → T (bit a (b + u)) → AllTrue a (pairs b n) → u ≡ v
      only v u p q s t h = ⊎_elim (λ l. absurd ((pairs_iff b n).0 h u v l p t s))
          (λ g. ⊎_elim (λ l. absurd ((pairs_iff b n).0 h v u l q s t)) (λ k. omega arith) (lt_or_le v u)) (lt_or_le u v)

      to : AllTrue a (group_clauses b n) → Holds (member_true a) (group b n)
      to h =
          let g = (group_parts b n).0 h in
          let x = (members_iff b n).0 g.0 in
          (x.0, record { below = x.1; is_true = x.2; only = λ u p s. only x.0 u x.1 p x.2 s g.1 })

      of : Holds (member_true a) (group b n) → AllTrue a (group_clauses b n)
      of (d, p) = (group_parts b n).1 (
        (members_iff b n).1 (d, p.below, p.is_true),
        (pairs_iff b n).1
            (λ i j l k s t. let e = p.only i (omega arith) s in let f = p.only j k t in omega arith),
      )

  pub item_iff : (i : Item) → AllTrue a (expand i) ↔ Holds (member_true a) i
  item_iff (group b n) = group_iff b n
  item_iff (rule ms x) = rule_iff ms x

  -- an assignment satisfies the clauses of a piece exactly if it makes its items hold
  pub satisfied_iff : (l : List Item) → T (satisfied a (flat_map expand l)) ↔ All (Holds (member_true a)) l
  unfolding satisfied
  satisfied_iff l = (
    (λ h. all_imp l (λ i. (item_iff i).0) ((all_flat _ expand l).0 ((all_T (clause_true a) (flat_map expand l)).0 h))),
    λ h. (all_T (clause_true a) (flat_map expand l)).1 ((all_flat _ expand l).1 (all_imp l (λ i. (item_iff i).1) h)),
  )
