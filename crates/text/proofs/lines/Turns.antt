-- Steps of a reading, one after the other, and the turns of a loop over such steps. A refusal stays: the steps after it leave it as it is.
use Prim.Native.Nat.{ℕ, zero, suc, ◌+◌, ◌-◌, ◌≤◌, ◌<◌}
use mathlib.Core.Path.{◌≡◌, refl, sym, ap, subst, ◌∙◌}
use mathlib.Core.List.{List}
use mathlib.Core.Bool.{false}
use native.Mathlib.Numerals.{add-one}
use native.Mathlib.Omega.{arith}
use lib.Dec.{eqb}
use Rattle.std.specs.Prelude.{Ok, Err}
use Rattle.model.specs.declared.Model.{Model}
use Rattle.text.specs.declared.ReadRefusal.{ReadRefusal}
use Rattle.text.specs.declared.ReadRefusal.TheVariants.{TooLong, NotDue, NotOfItsForm, TooManyItems, OutOfRange, NotDeclared, SetTwiceOrNotRising, BytesLeft}
use Rattle.text.specs.declared.bytes.Faults.{Faults}
use Rattle.text.specs.declared.lines.Reading.{Reading}
use Rattle.text.specs.Text.{outcome_number}
use Rattle.text.specs.lines.Progress.{Progress, read_line}
use Rattle.text.specs.lines.Lines.{init_line, target_line, clocks_line, vars_line, var_line, inv_line, edges_line}
use Rattle.text.specs.lines.Lines.{from_line, to_line, label_line, when_line, set_line, reset_line}
use Rattle.text.specs.lines.Readings.{Placed, progress, Stopped, Reads}
use Rattle.text.specs.lines.Sequence.{in_turn, read_counters, read_invariants, read_edge, read_edges}

-- the number of a refusal is not 0
pub refusal_told : (e : ReadRefusal) → eqb (outcome_number e) 0 ≡ false
refusal_told TooLong = refl
refusal_told (NotDue line) = refl
refusal_told (NotOfItsForm line) = refl
refusal_told (TooManyItems line) = refl
refusal_told (OutOfRange line) = refl
refusal_told (NotDeclared line) = refl
refusal_told (SetTwiceOrNotRising line) = refl
refusal_told (BytesLeft line) = refl

-- ---- steps that leave a refusal
abbrev pub Stays : (Progress → Progress) → Type 0
Stays f = (p : Progress) → eqb p.number 0 ≡ false → f p ≡ p

line_stays : (key : List ℕ) (faults : Model → List ℕ → Faults) (put : Model → List ℕ → Model) → Stays (read_line key faults put)
unfolding read_line
line_stays key faults put p h = rw h

-- one step, then another
both_stay : {f g : Progress → Progress} → Stays f → Stays g → Stays (λ p. g (f p))
both_stay {f} {g} sf sg p h = let e : f p ≡ p = sf p h in ap g e ∙ sg p h

turns_stay : {f : ℕ → Progress → Progress} → ((i : ℕ) → Stays (f i)) → (n : ℕ) → Stays (in_turn f n)
unfolding in_turn
turns_stay s zero p h = refl
turns_stay {f} s (suc n) p h = ap (f n) (turns_stay s n p h) ∙ s n p h

pub var_stays : (i : ℕ) → Stays (var_line i)
unfolding var_line
var_stays i = line_stays _ _ _

pub inv_stays : (l : ℕ) → Stays (inv_line l)
unfolding inv_line
inv_stays l = line_stays _ _ _

pub edges_line_stays : Stays edges_line
unfolding edges_line
edges_line_stays = line_stays _ _ _

pub vars_stays : Stays vars_line
unfolding vars_line
vars_stays = line_stays _ _ _

pub after_target : Stays (λ p. vars_line (clocks_line p))
unfolding clocks_line
after_target = both_stay (line_stays _ _ _) vars_stays

pub after_init : Stays (λ p. vars_line (clocks_line (target_line p)))
unfolding target_line
after_init = both_stay (line_stays _ _ _) after_target

pub after_locations : Stays (λ p. vars_line (clocks_line (target_line (init_line p))))
unfolding init_line
after_locations = both_stay (line_stays _ _ _) after_init

pub counters_stay : Stays read_counters
unfolding read_counters
counters_stay p h = turns_stay var_stays p.model.vars p h

pub invariants_stay : Stays read_invariants
unfolding read_invariants
invariants_stay p h = turns_stay inv_stays p.model.locations p h

pub after_counters : Stays (λ p. edges_line (read_invariants p))
after_counters = both_stay invariants_stay edges_line_stays

pub after_head : Stays (λ p. edges_line (read_invariants (read_counters p)))
after_head = both_stay counters_stay after_counters

pub reset_stays : (e : ℕ) → Stays (reset_line e)
unfolding reset_line
reset_stays e = line_stays _ _ _

pub after_when : (e : ℕ) → Stays (λ p. reset_line e (set_line e p))
unfolding set_line
after_when e = both_stay (line_stays _ _ _) (reset_stays e)

pub after_label : (e : ℕ) → Stays (λ p. reset_line e (set_line e (when_line e p)))
unfolding when_line
after_label e = both_stay (line_stays _ _ _) (after_when e)

pub after_to : (e : ℕ) → Stays (λ p. reset_line e (set_line e (when_line e (label_line e p))))
unfolding label_line
after_to e = both_stay (line_stays _ _ _) (after_label e)

pub after_from : (e : ℕ) → Stays (λ p. reset_line e (set_line e (when_line e (label_line e (to_line e p)))))
unfolding to_line
after_from e = both_stay (line_stays _ _ _) (after_to e)

pub edge_stays : (e : ℕ) → Stays (read_edge e)
unfolding read_edge from_line
edge_stays e = both_stay (line_stays _ _ _) (after_from e)

pub all_edges_stay : Stays read_edges
unfolding read_edges
all_edges_stay p h = turns_stay edge_stays p.model.used p h

-- ---- one step after another
module _ (f g : Progress → Progress) (t : List ℕ) (r : Reading) where
  pub stop : (e : ReadRefusal) → Reads f t r (Err e) → Stays g → Reads (λ p. g (f p)) t r (Err e)
  stop e p s =
      let n : eqb (f (progress t r)).number 0 ≡ false = ap (λ (x : ℕ). eqb x 0) (sym p.number_is) ∙ refusal_told e in
      let k : g (f (progress t r)) ≡ f (progress t r) = s (f (progress t r)) n in
      subst (λ (x : Progress). Stopped x e) (sym k) p

-- q is r after i of n turns, as many as r's progress tells
pub record Turning (f : ℕ → Progress → Progress) (count : Progress → ℕ) (t : List ℕ) (n : ℕ) (r q : Reading) (i : ℕ) : Type 0 where
  pub most : i ≤ n
  pub counted : n ≡ count (progress t r)
  pub turned : Reads (in_turn f i) t r (Ok q)

pub turn_none : {f : ℕ → Progress → Progress} {count : Progress → ℕ} {t : List ℕ} {n : ℕ} {r : Reading}
    → Placed t r → n ≡ count (progress t r) → Turning f count t n r r 0
unfolding in_turn
turn_none p e = record { most = omega arith; counted = e; turned = record { is = refl; placed = p } }

module _ {f : ℕ → Progress → Progress} {count : Progress → ℕ} {t : List ℕ} {n : ℕ} {r q : Reading} {i : ℕ} (h : Turning f count t n r q i) where
  again : in_turn f (i + 1) (progress t r) ≡ f i (in_turn f i (progress t r))
  unfolding in_turn
  again = rw (add-one i)

  pub turn_more : {s : Reading} → i < n → Reads (f i) t q (Ok s) → Turning f count t n r s (i + 1)
  turn_more l p =
      record { most = omega arith; counted = h.counted; turned = record { is = p.is ∙ ap (f i) h.turned.is ∙ sym again; placed = p.placed } }

  pub turn_all : n ≤ i → Reads (λ p. in_turn f (count p) p) t r (Ok q)
  turn_all l =
      let e : i ≡ count (progress t r) = omega (arith, h.most, h.counted) in
      record { is = h.turned.is ∙ ap (λ (k : ℕ). in_turn f k (progress t r)) e; placed = h.turned.placed }

  -- a turn that is refused
  more_stay : ((k : ℕ) → Stays (f k)) → (e : ReadRefusal) → Reads (f i) t q (Err e) → (k : ℕ) → Stopped (in_turn f (k + (i + 1)) (progress t r)) e
  unfolding in_turn
  more_stay s e p zero =
      let z : 0 + (i + 1) ≡ i + 1 = omega arith in
      rw z (subst (λ (x : Progress). Stopped x e) (ap (f i) h.turned.is ∙ sym again) p)
  more_stay s e p (suc k) =
      let before = more_stay s e p k in
      let x : Progress = in_turn f (k + (i + 1)) (progress t r) in
      let number : eqb x.number 0 ≡ false = ap (λ (n : ℕ). eqb n 0) (sym before.number_is) ∙ refusal_told e in
      let z : suc k + (i + 1) ≡ suc (k + (i + 1)) = omega arith in
      rw z (subst (λ (x : Progress). Stopped x e) (sym (s (k + (i + 1)) x number)) before)

  pub turn_stops : ((k : ℕ) → Stays (f k)) → i < n → (e : ReadRefusal) → Reads (f i) t q (Err e) → Reads (λ p. in_turn f (count p) p) t r (Err e)
  turn_stops s l e p =
      let z : n - (i + 1) + (i + 1) ≡ count (progress t r) = omega (arith, h.counted) in
      subst (λ (k : ℕ). Stopped (in_turn f k (progress t r)) e) z (more_stay s e p (n - (i + 1)))
