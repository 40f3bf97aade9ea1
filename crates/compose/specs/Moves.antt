-- Which edges of two models move alone and which in pairs, and in which order.
use Rattle.std.specs.Prelude.{ℕ, ◌+◌, ◌<◌, Bool, not, ◌&&◌, cond, List, [], ◌∷◌, ◌++◌, T, eqb, length, get_or, set, replicate}
use Rattle.model.specs.declared.Edge.{Edge}
use Rattle.model.specs.declared.Model.{Model}
use Rattle.model.specs.Indexed.{each, list_below, all_below}
use Rattle.model.specs.Record.{edge_at}
use Rattle.compose.specs.declared.moves.Move.{Move}
use Rattle.compose.specs.declared.moves.Move.TheVariants.{FirstAlone, SecondAlone, Together}
use Rattle.compose.specs.declared.moves.Moves.{Moves}
use Rattle.compose.specs.Joined.{standing, joined_edge}

-- ---- labels
-- the label of edge e
abbrev pub label_at : Model → ℕ → ℕ
label_at m e = (edge_at m e).label

-- an edge of the model bears the label
unfoldable pub bears : Model → ℕ → Bool
bears m l = not (all_below (λ e. not (eqb (label_at m e) l)) m.used)

-- a label other than 0 borne by edges of both models is shared
unfoldable pub shared : Model → Model → ℕ → Bool
shared a b l = not (eqb l 0) && bears a l && bears b l

-- edge e of the first model and edge f of the second bear the same shared label, so they move in a pair
unfoldable pub paired : Model → Model → ℕ → ℕ → Bool
paired a b e f = shared a b (label_at a e) && eqb (label_at a e) (label_at b f)

-- ---- moves
-- edge e of the first model alone, once for each location j of the second, rising; no such move where its label is shared
unfoldable pub first_alone : Model → Model → ℕ → List Move
first_alone a b e = cond (shared a b (label_at a e)) [] (list_below (λ j. FirstAlone e j) b.locations)

-- edge f of the second model alone, once for each location i of the first, rising
unfoldable pub second_alone : Model → Model → ℕ → List Move
second_alone a b f = cond (shared a b (label_at b f)) [] (list_below (λ i. SecondAlone f i) a.locations)

-- the pair of e and f, if they move in one
abbrev pub pair_of : Model → Model → ℕ → ℕ → List Move
pair_of a b e f = cond (paired a b e f) (Together e f ∷ []) []

-- the pairs of edge e, over rising f
unfoldable pub pairs_of : Model → Model → ℕ → List Move
pairs_of a b e = each b.used (pair_of a b e)

-- the first model's lone edges; the second's; then pairs in lexicographic order
unfoldable pub moves : Model → Model → List Move
moves a b = each a.used (first_alone a b) ++ each b.used (second_alone a b) ++ each a.used (pairs_of a b)

-- what is read past the last move
abbrev pub no_move : Move
no_move = FirstAlone 0 0

-- move n
abbrev pub move_at : Model → Model → ℕ → Move
move_at a b n = get_or (moves a b) n no_move

-- ---- the edge of a move: an edge that moves alone moves with the other model standing still; labels stay
abbrev pub edge_of : Model → Model → Move → Edge
edge_of a b (FirstAlone e j) = joined_edge a.clocks a.vars b.locations (label_at a e) (edge_at a e) (standing j)
edge_of a b (SecondAlone f i) = joined_edge a.clocks a.vars b.locations (label_at b f) (standing i) (edge_at b f)
edge_of a b (Together e f) = joined_edge a.clocks a.vars b.locations (label_at a e) (edge_at a e) (edge_at b f)

-- ---- storing one after the other
module _ {A : Type 0} where
  -- the elements of a list stored from place n on; what goes past the last slot is not stored
  unfoldable pub placed : List A → ℕ → List A → List A
  placed slots n [] = slots
  placed slots n (x ∷ l) = placed (set slots n x) (n + 1) l

-- the moves of a list after those that are there: all are counted, as many as there are slots are stored
unfoldable pub added : Moves → List Move → Moves
added h l = record { count = h.count + length l; slots = placed h.slots h.count l }

-- nothing is there yet
abbrev pub no_moves : Moves
no_moves = record { count = 0; slots = replicate 32 no_move }

-- what holds of each move: its edges and the location in which a part stays are declared, and a pair is one that is formed
abbrev pub MoveOf : Model → Model → Move → Type 0
MoveOf a b (FirstAlone e j) = (e < a.used) × (j < b.locations)
MoveOf a b (SecondAlone f i) = (f < b.used) × (i < a.locations)
MoveOf a b (Together e f) = (e < a.used) × (f < b.used) × T (paired a b e f)
