-- Checks of pieces of the list: what has been passed, where a check stopped, and checks one after the other, by hand or in a loop.
use mathlib.Core.Path.{◌≡◌, refl, sym, ap, subst, ◌∙◌}
use mathlib.Core.List.{List, [], ◌∷◌, ◌++◌}
use mathlib.Core.Bool.{Bool, true, false, true≢false, ◌||◌, cond}
use Prim.Native.Nat.{ℕ, zero, suc, ◌+◌, ◌*◌, ◌≤◌, ◌<◌}
use native.Mathlib.Decide.{le_ind}
use native.Mathlib.Nat.{suc-mul}
use native.Mathlib.Omega.{arith}
use borrow.Author.Tests.{lt-ltb, le-ltb, ltb-true, ltb-false}
use lib.ListN.{length, length-append, length-drop, take, drop, get_or}
use lib.Seq.{take-suc, get_or-drop}
use Rattle.model.specs.Indexed.{each}
use Rattle.model.proofs.IndexedLaws.{each_zero, each_suc}
use Rattle.list.specs.Clauses.{Literal, bare, Clause, one, members}
use Rattle.list.specs.Assignments.{literal_true, clause_true, true_before}
use Rattle.list.proofs.ListLaws.{each_more}
use Rattle.list.proofs.Searching.{true_before_le}
use Rattle.std.specs.Prelude.{Result, Ok, Err}
use Rattle.std.specs.Result.{is_ok, IsErrAnd}
use Rattle.std.proofs.lemmas.Result.{err_from_is_err_and}
use Rattle.std.specs.List.{list_any}
use lib.Dec.{ltb, eqb}
use Rattle.search.specs.Checking.{check_from, counted, stopped_at, Checked}

-- Every clause of cs is true, and a count goes from i to j over them.
pub record Passed (a : List ℕ) (cs : List Clause) (i j : ℕ) : Type 0 where
  pub count : j ≡ i + length cs
  pub all : true_before a cs ≡ length cs

-- Some clause of cs is false, and a count that goes from i stands at j at the first one.
pub record Failed (a : List ℕ) (cs : List Clause) (i j : ℕ) : Type 0 where
  pub count : j ≡ i + true_before a cs
  pub some : true_before a cs < length cs

-- ---- the definition, over `++`
before_on : (a : List ℕ) (cs ds : List Clause) → true_before a cs ≡ length cs → true_before a (cs ++ ds) ≡ length cs + true_before a ds
unfolding true_before
before_on a [] ds h = omega arith
before_on a (c ∷ cs) ds h = by (clause_true a c) (before_on a cs ds) h
  where
    by : (b : Bool) → (true_before a cs ≡ length cs → true_before a (cs ++ ds) ≡ length cs + true_before a ds)
        → cond b (true_before a cs + 1) 0 ≡ suc (length cs)
        → cond b (true_before a (cs ++ ds) + 1) 0 ≡ suc (length cs) + true_before a ds
    by true ih e = omega (arith, ih (omega (arith, e)))
    by false ih e = omega (arith, e)

before_stop : (a : List ℕ) (cs ds : List Clause) → true_before a cs < length cs → true_before a (cs ++ ds) ≡ true_before a cs
unfolding true_before
before_stop a [] ds h = omega arith
before_stop a (c ∷ cs) ds h = by (clause_true a c) (before_stop a cs ds) h
  where
    by : (b : Bool) → (true_before a cs < length cs → true_before a (cs ++ ds) ≡ true_before a cs) → cond b (true_before a cs + 1) 0 < suc (length cs)
        → cond b (true_before a (cs ++ ds) + 1) 0 ≡ cond b (true_before a cs + 1) 0
    by true ih e = omega (arith, ih (omega (arith, e)))
    by false ih e = refl

-- ---- piece after piece
pub passed_none : (a : List ℕ) (i : ℕ) → Passed a [] i i
unfolding true_before
passed_none a i = record { count = omega arith; all = refl }

pub passed_then : {a : List ℕ} {cs ds : List Clause} {i j k : ℕ} → Passed a cs i j → Passed a ds j k → Passed a (cs ++ ds) i k
passed_then {a} {cs} {ds} p q =
    record { count = omega (arith, p.count, q.count, length-append cs ds); all = omega (arith, before_on a cs ds p.all, q.all, length-append cs ds) }

pub failed_then : {a : List ℕ} {cs ds : List Clause} {i j k : ℕ} → Passed a cs i j → Failed a ds j k → Failed a (cs ++ ds) i k
failed_then {a} {cs} {ds} p q =
    record {
      count = omega (arith, p.count, q.count, before_on a cs ds p.all);
      some = omega (arith, before_on a cs ds p.all, q.some, length-append cs ds);
    }

pub failed_more : {a : List ℕ} {cs : List Clause} (ds : List Clause) {i j : ℕ} → Failed a cs i j → Failed a (cs ++ ds) i j
failed_more {a} {cs} ds p =
    record {
      count = omega (arith, p.count, before_stop a cs ds p.some);
      some = omega (arith, p.some, before_stop a cs ds p.some, length-append cs ds);
    }

-- ---- a clause
pub clause_passed : (a : List ℕ) (c : Clause) (i : ℕ) → clause_true a c ≡ true → Passed a (one c) i (i + 1)
unfolding true_before one
clause_passed a c i h = record { count = refl; all = rw h }

pub clause_failed : (a : List ℕ) (c : Clause) (i : ℕ) → clause_true a c ≡ false → Failed a (one c) i i
unfolding true_before one
clause_failed a c i h = record { count = rw h (omega arith); some = rw h (omega arith) }

-- ---- pieces by number
pub passed_each_none : (a : List ℕ) (f : ℕ → List Clause) (i : ℕ) → Passed a (each 0 f) i i
passed_each_none a f i = rw (each_zero f) (passed_none a i)

passed_each : (f : ℕ → List Clause) (n : ℕ) {a : List ℕ} {i j k : ℕ} → Passed a (each n f) i j → Passed a (f n) j k → Passed a (each (n + 1) f) i k
passed_each f n p q = rw (each_more n f) (passed_then p q)

failed_each : (f : ℕ → List Clause) (t n : ℕ) {a : List ℕ} {i j k : ℕ} → t < n → Passed a (each t f) i j → Failed a (f t) j k → Failed a (each n f) i k
failed_each f t n {a} {i} {j} {k} h p q =
    le_ind (λ (m : ℕ). Failed a (each m f) i k) (rw (each_suc t f) (failed_then p q)) (λ m _ ih. rw (each_suc m f) (failed_more (f m) ih)) n h

-- ---- the answer of a check
pub passed_check : {a : List ℕ} {cs : List Clause} {i n j : ℕ} → Checked a cs i n (Ok j) → Passed a cs i j
unfolding check_from
passed_check {a} {cs} {i} {n} {j} k = by (ltb (true_before a cs) (length cs)) refl k.is
  where
    by : (b : Bool) → ltb (true_before a cs) (length cs) ≡ b
        → ◌≡◌ {A = Result ℕ ℕ} (Ok j) (cond b (Err (i + true_before a cs)) (Ok (i + true_before a cs))) → Passed a cs i j
    by true t e = absurd (true≢false (ap is_ok e))
    by false t e =
        let all : true_before a cs ≡ length cs = omega (arith, ltb-false (true_before a cs) (length cs) t, true_before_le a cs) in
        record { count = omega (arith, ap stopped_at e, all); all = all }

pub failed_check : {a : List ℕ} {cs : List Clause} {i n j : ℕ} → Checked a cs i n (Err j) → Failed a cs i j
unfolding check_from
failed_check {a} {cs} {i} {n} {j} k = by (ltb (true_before a cs) (length cs)) refl k.is
  where
    by : (b : Bool) → ltb (true_before a cs) (length cs) ≡ b
        → ◌≡◌ {A = Result ℕ ℕ} (Err j) (cond b (Err (i + true_before a cs)) (Ok (i + true_before a cs))) → Failed a cs i j
    by true t e = record { count = ap stopped_at e; some = ltb-true (true_before a cs) (length cs) t }
    by false t e = absurd (true≢false (sym (ap is_ok e)))

pub checked_passed : {a : List ℕ} {cs : List Clause} {i j n : ℕ} → Passed a cs i j → j ≤ i + n → Checked a cs i n (Ok j)
unfolding check_from
checked_passed {a} {cs} {i} {j} p l =
    let e : j ≡ i + true_before a cs = omega (arith, p.count, p.all) in
    record { is = rw (le-ltb (true_before a cs) (length cs) (omega (arith, p.all)), e); most = l }

pub checked_failed : {a : List ℕ} {cs : List Clause} {i j n : ℕ} → Failed a cs i j → j ≤ i + n → Checked a cs i n (Err j)
unfolding check_from
checked_failed {a} {cs} p l = record { is = rw (lt-ltb (true_before a cs) (length cs) p.some, p.count); most = l }

-- what a `?` hands on is the answer of the check that stopped
pub stopped : {a : List ℕ} {cs : List Clause} {i n j : ℕ} {r : Result ℕ ℕ} → IsErrAnd r (λ y. y ≡ j) → Checked a cs i n (Err j) → Checked a cs i n r
stopped {r} h k = let p = err_from_is_err_and r h in rw (p.1, p.2) k

-- ---- two checks one after the other
-- the first check fails
pub checked_stop : {a : List ℕ} {cs : List Clause} (ds : List Clause) {i n j : ℕ} (more : ℕ)
    → Checked a cs i n (Err j) → n ≤ more → Checked a (cs ++ ds) i more (Err j)
checked_stop ds more k l = checked_failed (failed_more ds (failed_check k)) (omega (arith, k.most))

-- the first check passes, and the second one answers
pub checked_then : {a : List ℕ} {cs ds : List Clause} {i j n : ℕ} (more : ℕ) {r : Result ℕ ℕ}
    → Passed a cs i j → Checked a ds j n r → j + n ≤ i + more → Checked a (cs ++ ds) i more r
checked_then more {r = Ok x} p k l = checked_passed (passed_then p (passed_check k)) (omega (arith, k.most))
checked_then more {r = Err x} p k l = checked_failed (failed_then p (failed_check k)) (omega (arith, k.most))

-- ---- a loop that checks a piece a turn
-- The first n of N pieces are passed, each of `most` clauses at most.
pub record Upto (a : List ℕ) (f : ℕ → List Clause) (most i n N j : ℕ) : Type 0 where
  pub le : n ≤ N
  pub few : j ≤ i + n * most
  pub passed : Passed a (each n f) i j

pub upto_none : {a : List ℕ} {f : ℕ → List Clause} {most i N : ℕ} → Upto a f most i 0 N i
upto_none {a} {f} {most} {i} = record { le = omega arith; few = omega arith; passed = passed_each_none a f i }

module _ {a : List ℕ} {f : ℕ → List Clause} {most i n N j : ℕ} (u : Upto a f most i n N j) where
  -- the next piece is passed
  pub upto_over : {k : ℕ} → n < N → Passed a (f n) j k → k ≤ j + most → Upto a f most i (n + 1) N k
  upto_over l p h = record { le = omega arith; few = omega (arith, u.few, suc-mul n most); passed = passed_each f n u.passed p }

  pub upto_next : {k : ℕ} → n < N → Checked a (f n) j most (Ok k) → Upto a f most i (n + 1) N k
  upto_next l k = upto_over l (passed_check k) k.most

  -- the next piece has a false clause
  pub upto_failed : {k : ℕ} (more : ℕ) → n < N → Checked a (f n) j most (Err k) → (n + 1) * most ≤ more → Checked a (each N f) i more (Err k)
  upto_failed more l k s = checked_failed (failed_each f n N l u.passed (failed_check k)) (omega (arith, u.few, k.most, suc-mul n most))

  -- all are passed
  pub upto_all : N ≤ n → Passed a (each N f) i j
  upto_all l =
      let e : n ≡ N = omega (arith, u.le) in
      rw e at u.passed

  pub upto_done : (more : ℕ) → N ≤ n → n * most ≤ more → Checked a (each N f) i more (Ok j)
  upto_done more l s = checked_passed (upto_all l) (omega (arith, u.few))

-- ---- the truth of a clause
or-false : (b : Bool) → (b || false) ≡ b
or-false true = refl
or-false false = refl

or_assoc : (x y z : Bool) → (x || (y || z)) ≡ ((x || y) || z)
or_assoc true y z = refl
or_assoc false y z = refl

pub one_true : (a : List ℕ) (x : Literal) {p : Bool} → p ≡ literal_true a x → p ≡ clause_true a (x ∷ [])
one_true a x e = e ∙ sym (or-false (literal_true a x))

clause_append : (a : List ℕ) (c d : Clause) → clause_true a (c ++ d) ≡ (clause_true a c || clause_true a d)
clause_append a [] d = refl
clause_append a (l ∷ c) d = ap (λ (b : Bool). literal_true a l || b) (clause_append a c d) ∙ or_assoc (literal_true a l) (clause_true a c) (clause_true a d)

more_true : (a : List ℕ) (c : Clause) (x : Literal) {p q : Bool} → p ≡ clause_true a c → q ≡ literal_true a x → (p || q) ≡ clause_true a (c ++ (x ∷ []))
more_true a c x {p} {q} ep eq =
    ap (λ (b : Bool). b || q) ep ∙ ap (λ (b : Bool). clause_true a c || b) (one_true a x eq) ∙ sym (clause_append a c (x ∷ []))

any_more : (f : ℕ → Bool) (xs : List ℕ) (x : ℕ) → list_any f (xs ++ (x ∷ [])) ≡ (list_any f xs || f x)
any_more f [] x = or-false (f x)
any_more f (y ∷ xs) x = ap (λ (b : Bool). f y || b) (any_more f xs x) ∙ or_assoc (f y) (list_any f xs) (f x)

-- a group's clause is true where one of its bytes is 1
pub members_is : (a : List ℕ) (b n : ℕ) → b + n ≤ length a → list_any (λ x. eqb x 1) (take n (drop b a)) ≡ clause_true a (members b n)
unfolding members
members_is a b zero h = ap (clause_true a) (sym (each_zero (λ v. bare (b + v) ∷ [])))
members_is a b (suc n) h =
    let here : n < length (drop b a) = rw (length-drop b a) (omega arith) in
    ap (list_any (λ x. eqb x 1)) (take-suc (drop b a) n 0 here) ∙ any_more (λ x. eqb x 1) (take n (drop b a)) (get_or (drop b a) n 0)
    ∙ more_true a (members b n) (bare (b + n)) (members_is a b n (omega arith)) (ap (λ (x : ℕ). eqb x 1) (get_or-drop b a n 0))
    ∙ ap (clause_true a) (sym (each_suc n (λ v. bare (b + v) ∷ [])))

-- ---- a check of one clause
pub checked_one : (a : List ℕ) (c : Clause) (i : ℕ) {p : Bool} {r : Result ℕ ℕ} → r ≡ counted p i → p ≡ clause_true a c → Checked a (one c) i 1 r
checked_one a c i {p = true} e h = rw e (checked_passed (clause_passed a c i (sym h)) (omega arith))
checked_one a c i {p = false} e h = rw e (checked_failed (clause_failed a c i (sym h)) (omega arith))

-- a clause that is left out, or asked for
pub checked_out : (a : List ℕ) (c : Clause) (i : ℕ) {b : Bool} → b ≡ true → Checked a (cond b [] (one c)) i 1 (Ok i)
checked_out a c i e = rw e (checked_passed (passed_none a i) (omega arith))

pub checked_in : (a : List ℕ) (c : Clause) (i : ℕ) {b : Bool} {r : Result ℕ ℕ} → b ≡ false → Checked a (one c) i 1 r → Checked a (cond b [] (one c)) i 1 r
checked_in a c i e h = rw e h

-- ---- the same clauses, said otherwise
pub checked_as : {a : List ℕ} {cs ds : List Clause} {i n : ℕ} {r : Result ℕ ℕ} → cs ≡ ds → Checked a cs i n r → Checked a ds i n r
checked_as {a} {cs} {ds} {i} {n} {r} e p = subst (λ (x : List Clause). Checked a x i n r) e p
