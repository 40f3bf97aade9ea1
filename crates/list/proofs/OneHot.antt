-- The first layout meets what a layout must, and demands 2 and 3 for it.
use mathlib.Core.Path.{◌≡◌, refl, sym, ap, ◌∙◌}
use mathlib.Core.Logic.{◌↔◌, ◌≢◌}
use mathlib.Core.Bool.{Bool, true, false, cond}
use mathlib.Core.List.{List, [], ◌∷◌, ◌++◌, flat_map, drop_last, IsPrefix, append_assoc}
use Prim.Native.Nat.{ℕ, zero, suc, ◌+◌, ◌*◌, ◌≤◌, ◌<◌}
use native.Mathlib.Nat.{not-suc-le-zero, add-zero, zero-add}
use native.Mathlib.Numerals.{add-one}
use native.Mathlib.Omega.{arith}
use lib.Dec.{T, eqb}
use lib.ListN.{length, get_or, take, drop, length-drop}
use lib.Seq.{ext_get_or, get_or-take, get_or-drop, length-take-le}
use lib.IntN.{ℤ}
use Rattle.model.specs.declared.Model.{Model}
use Rattle.model.specs.Indexed.{list_below}
use Rattle.model.specs.Automaton.{choices, state_size, variables}
use Rattle.model.specs.Run.{is_run}
use Rattle.model.proofs.IndexedLaws.{eq_T, T_true, length_list, get_d_list, list_none}
use Rattle.model.proofs.FormLaws.{WellFormed, variables_is, state_size_is}
use Rattle.model.proofs.RunLaws.{run_iff}
use Rattle.list.specs.Items.{state_width, next_block, block_at, body_items, end_items}
use Rattle.list.specs.Clauses.{Clause, one, words_of, one_hot_width, expand, clauses, words}
use Rattle.list.specs.Assignments.{Binary, bit, satisfied, place_of_true, run_of, one_hot, assignment_of}
use Rattle.list.proofs.ListLaws.{all_list, list_cong, list_cons, drop_last_lem}
use Rattle.list.proofs.Meaning.{Shows}
use Rattle.list.proofs.Expansion.{member_true, satisfied_iff}
use Rattle.list.proofs.Layouts.{Layout, At}
use Rattle.list.proofs.AnyLayout.{list_for, width_for, encoded, decoded, decoded_from, satisfying_decodes, run_satisfies, decoded_encoded, encoded_length}
use Rattle.list.proofs.AnyLayout.{encoded_binary, body_for, list_is, body_longer, goes_on, cut}

-- ---- bytes
pub binary_at : (a : List ℕ) (i : ℕ) → Binary a → get_or a i 0 < 2
binary_at [] i p = omega arith
binary_at (x ∷ a) zero p = p.0
binary_at (x ∷ a) (suc i) p = binary_at a i p.1

pub not_true_is : {b : Bool} → (T b → ⊥) → b ≡ false
not_true_is {b = true} f = absurd (f tt)
not_true_is {b = false} f = refl

-- a byte of 0 or 1 is told by its test
pub byte_is : (x : ℕ) (b : Bool) → x < 2 → (T (eqb x 1) ↔ T b) → x ≡ cond b 1 0
byte_is x true p h = (eq_T x 1).0 (h.1 tt)
byte_is x false p h = let f : x ≢ 1 = λ k. h.0 ((eq_T x 1).1 k) in omega arith

-- ---- the bytes of a group that shows d
one_hot_at : (n d v : ℕ) → v < n → get_or (one_hot n d) v 0 ≡ cond (eqb v d) 1 0
one_hot_at n d v p = get_d_list {A = ℕ} 0 (λ v. cond (eqb v d) 1 0) n v p

bit_of : (b : Bool) → T (eqb (cond b 1 0) 1) ↔ T b
bit_of true = (λ h. tt, λ h. tt)
bit_of false = (λ h. h, λ h. h)

pub one_hot_length : (n d : ℕ) → length (one_hot n d) ≡ n
one_hot_length n d = length_list {A = ℕ} (λ v. cond (eqb v d) 1 0) n

pub one_hot_binary : (n d : ℕ) → Binary (one_hot n d)
one_hot_binary n d = all_list {A = ℕ} (λ x. x < 2) (λ v. cond (eqb v d) 1 0) n (λ v p. go (eqb v d))
  where
    go : (b : Bool) → cond {A = ℕ} b 1 0 < 2
    go true = omega arith
    go false = omega arith

module _ (a : List ℕ) (b n d : ℕ) where
  pub one_hot_shows_at : Binary a → b + n ≤ length a → Shows (member_true a) b n d → At a b (one_hot n d)
  one_hot_shows_at p l h = ext_get_or 0 _ (one_hot n d) len (λ i q.
      let r : i < n = rw (len, one_hot_length n d) at q in
      get_or-take (length (one_hot n d)) (drop b a) i 0 (rw (one_hot_length n d) r) ∙ get_or-drop b a i 0 ∙
      byte_is (get_or a (b + i) 0) (eqb i d) (binary_at a (b + i) p) (λ t. (eq_T i d).1 (h.only i r t), λ t. rw ((eq_T i d).0 t) h.is_true) ∙ sym
      (one_hot_at n d i r))
    where
      len : length (take (length (one_hot n d)) (drop b a)) ≡ length (one_hot n d)
      len = length-take-le (length (one_hot n d)) (drop b a) (rw (length-drop, one_hot_length n d) (omega arith))

  bit_at : (v : ℕ) → v < n → At a b (one_hot n d) → get_or a (b + v) 0 ≡ cond (eqb v d) 1 0
  bit_at v q h = sym (get_or-take (length (one_hot n d)) (drop b a) v 0 (rw (one_hot_length n d) q) ∙ get_or-drop b a v 0) ∙ ap
      (λ (x : List ℕ). get_or x v 0) h ∙ one_hot_at n d v q

  pub one_hot_at_shows : d < n → At a b (one_hot n d) → Shows (member_true a) b n d
  one_hot_at_shows p h = record { below = p; is_true = (on d p).1 ((eq_T d d).1 refl); only = λ v q t. (eq_T v d).0 ((on v q).0 t) }
    where
      on : (v : ℕ) → v < n → T (bit a (b + v)) ↔ T (eqb v d)
      on v q = rw (bit_at v q h) (bit_of (eqb v d))

-- the place of the first true member
pub place_at : (a : List ℕ) (n d b : ℕ) → d < n → T (bit a (b + d)) → ((v : ℕ) → v < d → T (bit a (b + v)) → ⊥) → place_of_true a b n ≡ d
unfolding place_of_true
place_at a zero d b p t f = absurd (not-suc-le-zero p)
place_at a (suc n) zero b p t f = rw ((T_true (bit a b)).0 (rw add-zero at t))
place_at a (suc n) (suc d) b p t f =
    rw (not_true_is {b = bit a b} (rw add-zero at (f 0 (omega arith)))) (
    ap (λ (x : ℕ). x + 1) (place_at a n d (b + 1) (omega arith) (rw (up d) at t) (λ v q. rw (up v) at (f (suc v) (omega arith)))) ∙ add-one d
    )
  where
    up : (v : ℕ) → b + suc v ≡ b + 1 + v
    up v = omega arith

unfoldable pub OneHot : Layout
OneHot = record {
  width = one_hot_width;
  bytes = one_hot;
  truth = member_true;
  place = place_of_true;
  expand = expand;
  bytes_length = one_hot_length;
  bytes_binary = one_hot_binary;
  shows_at = one_hot_shows_at;
  at_shows = one_hot_at_shows;
  place_is = λ a b n d h. place_at a n d b h.below h.is_true (λ v q t. let e = h.only v (omega (arith, h.below)) t in omega arith);
  satisfied_iff = satisfied_iff;
}

-- ---- the numbering: the layout's widths are S and N
pub state_width_is : (m : Model) → state_width one_hot_width m ≡ state_size m
state_width_is m = sym (state_size_is m)

pub block_is : (m : Model) (t : ℕ) → block_at one_hot_width m t ≡ t * (state_size m + choices m)
block_is m t = ap (λ (x : ℕ). t * (x + choices m)) (state_width_is m)

pub next_block_is : (m : Model) (o : ℕ) → next_block one_hot_width m o ≡ o + state_size m + choices m
next_block_is m o = ap (λ (x : ℕ). o + x + choices m) (state_width_is m)

pub variables_are_lem : (m : Model) (k : ℕ) → variables m k ≡ state_width one_hot_width m + block_at one_hot_width m k
variables_are_lem m k = variables_is m k ∙ ap (λ (x : ℕ). x + k * (x + choices m)) (state_size_is m)

-- ---- the list, N, the assignment of a run and the run of an assignment are the layout's
pub width_is : (m : Model) (k : ℕ) → variables m k ≡ width_for OneHot m k
unfolding OneHot
width_is m k = variables_are_lem m k

pub list_for_is : (m : Model) (k : ℕ) → clauses m k ≡ list_for OneHot m k
unfolding clauses OneHot
list_for_is m k = refl

pub encoded_is : (m : Model) (r : List ℕ) → assignment_of m r ≡ encoded OneHot m r
unfolding assignment_of OneHot
encoded_is m r = refl

places_are : (m : Model) (a : List ℕ) (k o : ℕ)
    → list_below (λ t. place_of_true a (o + block_at one_hot_width m t + state_width one_hot_width m) (choices m)) k ≡ decoded_from OneHot m a o k
unfolding decoded_from OneHot
places_are m a zero o = list_none _
places_are m a (suc k) o =
    list_cons f k ∙ ap (λ (l : List ℕ). f 0 ∷ l) (list_cong (λ t. f (suc t)) g k (λ t p. ap place (later t)) ∙ places_are m a k (next_block one_hot_width m o))
    ∙ ap (λ (x : ℕ). x ∷ decoded_from OneHot m a (next_block one_hot_width m o) k) (ap place first)
  where
    S : ℕ
    S = state_width one_hot_width m

    place : ℕ → ℕ
    place b = place_of_true a b (choices m)

    f : ℕ → ℕ
    f t = place (o + block_at one_hot_width m t + S)

    g : ℕ → ℕ
    g t = place (next_block one_hot_width m o + block_at one_hot_width m t + S)

    first : o + block_at one_hot_width m 0 + S ≡ o + S
    first = omega arith

    later : (t : ℕ) → o + block_at one_hot_width m (suc t) + S ≡ next_block one_hot_width m o + block_at one_hot_width m t + S
    later t = omega arith

pub run_is : (m : Model) (k : ℕ) (a : List ℕ) → run_of m k a ≡ decoded OneHot m k a
unfolding run_of
run_is m k a = list_cong _ _ k (λ t p. rw zero-add refl) ∙ places_are m a k 0

-- ---- words
pub words_app : (x y : List Clause) → words_of (x ++ y) ≡ words_of x ++ words_of y
unfolding words_of
words_app [] y = refl
words_app (c ∷ x) y = rw (words_app x y, append_assoc)

-- The theorems in document 01's words.
module _ (m : Model) (ok : WellFormed m) where
  -- each satisfying assignment decodes to a run of k steps that ends in the target, and is that run's assignment
  pub satisfying→run : (k : ℕ) (a : List ℕ) → Binary a → length a ≡ variables m k → T (satisfied a (clauses m k))
      → (length (run_of m k a) ≡ k) × T (is_run m (run_of m k a)) × (a ≡ assignment_of m (run_of m k a))
  unfolding clauses assignment_of OneHot
  satisfying→run k a p l h = rw (run_is m k a) (satisfying_decodes OneHot m ok k a p (l ∙ width_is m k) h)

  -- the assignment of a run satisfies the list
  pub run→satisfied : (r : List ℕ) → T (is_run m r) → T (satisfied (assignment_of m r) (clauses m (length r)))
  unfolding clauses assignment_of OneHot
  run→satisfied r h = run_satisfies OneHot m ok r h

  -- it has N bytes of 0 or 1, and its run is that run
  pub assignment_is : (r : List ℕ) → T (is_run m r)
      → Binary (assignment_of m r) × (length (assignment_of m r) ≡ variables m (length r)) × (run_of m (length r) (assignment_of m r) ≡ r)
  unfolding assignment_of OneHot
  assignment_is r h =
      let x = (run_iff m r).0 h in (
        encoded_binary OneHot m r,
        encoded_length OneHot m r x.0 x.1.walks ∙ sym (width_is m (length r)),
        run_is m (length r) (assignment_of m r) ∙ decoded_encoded OneHot m ok r x.0 x.1.walks,
      )

-- the list for k is the start and the steps, and then the clause of the end
pub clauses_are : (m : Model) (k : ℕ) → (c : Clause) × (clauses m k ≡ flat_map expand (body_items one_hot_width m k) ++ (c ∷ []))
unfolding clauses OneHot end_items flat_map one
clauses_are m k = (_, list_is OneHot m k)

-- the words for j + p begin with the words for j less the last clause
pub words_begin : (m : Model) (j p : ℕ) → IsPrefix (words_of (drop_last (clauses m j))) (words m (j + p))
words_begin m j p =
    let x = clauses_are m j in
    let y = longer m j p in
    (y.0, ap (λ (l : List Clause). words_of l ++ y.0) (ap drop_last x.1 ∙ drop_last_lem (flat_map expand (body_items one_hot_width m j)) x.0) ∙ y.1)
  where
    longer : (m : Model) (j p : ℕ) → (l : List ℤ) × (words_of (flat_map expand (body_items one_hot_width m j)) ++ l ≡ words m (j + p))
    longer m j p = unfold words OneHot in
        let x = clauses_are m (j + p) in
        let y = body_longer OneHot m j p in (
          words_of (y.0 ++ (x.0 ∷ [])),
          sym (ap words_of (x.1 ∙ ap (λ (l : List Clause). l ++ (x.0 ∷ [])) y.1 ∙ append_assoc (body_for OneHot m j)
              y.0 (x.0 ∷ [])) ∙ words_app (body_for OneHot m j) (y.0 ++ (x.0 ∷ []))),
        )

module _ (m : Model) (ok : WellFormed m) where
  -- a satisfying assignment for j goes on to one for j + p
  pub longer : (j p : ℕ) (a : List ℕ) → Binary a → length a ≡ variables m j → T (satisfied a (clauses m j))
      → (b : List ℕ) × Binary b × (length b ≡ variables m (j + p)) × (take (variables m j) b ≡ a) × T (satisfied b (clauses m (j + p)))
  unfolding clauses OneHot
  longer j p a c l h =
      let x = goes_on OneHot m ok j p a c (l ∙ width_is m j) h in
      (x.0, x.1, x.2 ∙ sym (width_is m (j + p)), ap (λ (n : ℕ). take n x.0) (width_is m j) ∙ x.3, x.4)

  -- one for j + p, cut after step j's state, satisfies the list for j exactly if its run stands in the target after j steps
  pub shorter : (j p : ℕ) (a : List ℕ) → Binary a → length a ≡ variables m (j + p) → T (satisfied a (clauses m (j + p)))
      → T (satisfied (take (variables m j) a) (clauses m j)) ↔ T (is_run m (take j (run_of m (j + p) a)))
  unfolding clauses OneHot
  shorter j p a c l h = rw (width_is m j, run_is m (j + p) a) (cut OneHot m ok j p a c (l ∙ width_is m (j + p)) h)
