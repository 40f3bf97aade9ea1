-- Which moves there are: edges that are used, with a declared location in which a part stays, or a pair that is formed; and all of these.
use mathlib.Core.Path.{◌≡◌, refl, sym, subst}
use mathlib.Core.Bool.{Bool, true, false, not, cond}
use mathlib.Core.List.{List, [], ◌∷◌, ◌++◌}
use Prim.Native.Nat.{ℕ, zero, suc, ◌<◌}
use native.Mathlib.Nat.{not-suc-le-zero}
use native.Mathlib.Omega.{arith}
use lib.Dec.{T}
use lib.ListN.{length}
use Rattle.model.specs.declared.Model.{Model}
use Rattle.model.specs.Indexed.{each, list_below}
use Rattle.model.proofs.IndexedLaws.{cond_T, cond_F}
use Rattle.compose.specs.declared.moves.Move.{Move}
use Rattle.compose.specs.declared.moves.Move.TheVariants.{FirstAlone, SecondAlone, Together}
use Rattle.compose.specs.Moves.{label_at, shared, paired, first_alone, second_alone, pair_of, pairs_of, moves, no_move, move_at, MoveOf}
use Rattle.compose.proofs.Members.{Every, Among, every_app, every_each, every_list, among_left, among_right, among_each, among_list}

-- ---- lists that are there only if a test holds
every_unless : (P : Move → Type 0) (b : Bool) (l : List Move) → Every no_move P l → Every no_move P (cond b [] l)
every_unless P true l h n p = absurd (not-suc-le-zero p)
every_unless P false l h n p = h n p

every_one : (P : Move → Type 0) (b : Bool) (x : Move) → (T b → P x) → Every no_move P (cond b (x ∷ []) [])
every_one P true x h zero p = h tt
every_one P true x h (suc n) p = absurd (omega arith)
every_one P false x h n p = absurd (not-suc-le-zero p)

among_unless : (b : Bool) (l : List Move) (x : Move) → T (not b) → Among no_move l x → Among no_move (cond b [] l) x
among_unless b l x t h = subst (λ (m : List Move). Among no_move m x) (sym (cond_F b [] l t)) h

among_one : (b : Bool) (x : Move) → T b → Among no_move (cond b (x ∷ []) []) x
among_one b x t = subst (λ (m : List Move). Among no_move m x) (sym (cond_T b (x ∷ []) [] t)) (0, omega arith, refl)

module _ (a b : Model) where
  -- ---- what holds of each move
  first_of : (e : ℕ) → e < a.used → Every no_move (MoveOf a b) (first_alone a b e)
  unfolding first_alone
  first_of e l =
      every_unless (MoveOf a b) (shared a b (label_at a e)) (list_below (λ j. FirstAlone e j) b.locations)
      (every_list no_move (MoveOf a b) b.locations (λ j. FirstAlone e j) (λ j q. (l, q)))

  second_of : (f : ℕ) → f < b.used → Every no_move (MoveOf a b) (second_alone a b f)
  unfolding second_alone
  second_of f l =
      every_unless (MoveOf a b) (shared a b (label_at b f)) (list_below (λ i. SecondAlone f i) a.locations)
      (every_list no_move (MoveOf a b) a.locations (λ i. SecondAlone f i) (λ i q. (l, q)))

  pairs_of_lem : (e : ℕ) → e < a.used → Every no_move (MoveOf a b) (pairs_of a b e)
  unfolding pairs_of
  pairs_of_lem e l = every_each no_move (MoveOf a b) b.used (pair_of a b e) (λ f q. every_one (MoveOf a b) (paired a b e f) (Together e f) (λ t. (l, q, t)))

  -- every move is one of edges that are used
  pub move_of : (n : ℕ) → n < length (moves a b) → MoveOf a b (move_at a b n)
  unfolding moves
  move_of = every_app no_move (MoveOf a b) (each a.used (first_alone a b) ++ each b.used (second_alone a b)) (each a.used (pairs_of a b))
      (every_app no_move (MoveOf a b) (each a.used (first_alone a b)) (each b.used (second_alone a b))
      (every_each no_move (MoveOf a b) a.used (first_alone a b) first_of) (every_each no_move (MoveOf a b) b.used (second_alone a b) second_of))
      (every_each no_move (MoveOf a b) a.used (pairs_of a b) pairs_of_lem)

  -- ---- each such move is there
  -- a lone edge of the first model, in every location of the second
  pub first_move : (e j : ℕ) → e < a.used → T (not (shared a b (label_at a e))) → j < b.locations
      → (n : ℕ) × (n < length (moves a b)) × (move_at a b n ≡ FirstAlone e j)
  unfolding moves first_alone
  first_move e j l t p =
      among_left no_move (each a.used (first_alone a b) ++ each b.used (second_alone a b)) (each a.used (pairs_of a b)) (FirstAlone e j)
      (among_left no_move (each a.used (first_alone a b)) (each b.used (second_alone a b)) (FirstAlone e j)
      (among_each no_move a.used (first_alone a b) e (FirstAlone e j) l
      (among_unless (shared a b (label_at a e)) (list_below (λ j. FirstAlone e j) b.locations) (FirstAlone e j) t
      (among_list no_move b.locations (λ j. FirstAlone e j) j p))))

  -- a lone edge of the second model, in every location of the first
  pub second_move : (f i : ℕ) → f < b.used → T (not (shared a b (label_at b f))) → i < a.locations
      → (n : ℕ) × (n < length (moves a b)) × (move_at a b n ≡ SecondAlone f i)
  unfolding moves second_alone
  second_move f i l t p =
      among_left no_move (each a.used (first_alone a b) ++ each b.used (second_alone a b)) (each a.used (pairs_of a b)) (SecondAlone f i)
      (among_right no_move (each a.used (first_alone a b)) (each b.used (second_alone a b)) (SecondAlone f i)
      (among_each no_move b.used (second_alone a b) f (SecondAlone f i) l
      (among_unless (shared a b (label_at b f)) (list_below (λ i. SecondAlone f i) a.locations) (SecondAlone f i) t
      (among_list no_move a.locations (λ i. SecondAlone f i) i p))))

  -- the pair of two edges that move in one
  pub pair_move : (e f : ℕ) → T (paired a b e f) → e < a.used → f < b.used
      → (n : ℕ) × (n < length (moves a b)) × (move_at a b n ≡ Together e f)
  unfolding moves pairs_of
  pair_move e f t l q =
      among_right no_move (each a.used (first_alone a b) ++ each b.used (second_alone a b)) (each a.used (pairs_of a b)) (Together e f)
      (among_each no_move a.used (pairs_of a b) e (Together e f) l
      (among_each no_move b.used (pair_of a b e) f (Together e f) q (among_one (paired a b e f) (Together e f) t)))
