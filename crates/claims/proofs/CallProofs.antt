-- Demands 2 and 3 of the calls on a record, from those of the list: the emitted words are the list's, so that what solves them satisfies it.
use mathlib.Core.Path.{◌≡◌, refl, sym, ap, subst, ◌∙◌}
use mathlib.Core.Logic.{◌↔◌}
use mathlib.Core.List.{List, map, drop_last, IsPrefix}
use Prim.Native.Nat.{ℕ, ◌≤◌}
use native.Mathlib.Omega.{arith}
use lib.Dec.{T}
use lib.ListN.{length, take, length-map}
use lib.Seq.{take_at, length-take-le}
use Rattle.model.specs.declared.Model.{Model}
use Rattle.model.specs.Automaton.{variables}
use Rattle.model.specs.Form.{well_formed}
use Rattle.model.specs.Refusal.{accepted}
use Rattle.model.specs.Run.{is_run}
use Rattle.list.specs.Clauses.{word, words_of, clauses, words}
use Rattle.list.specs.Assignments.{satisfied, run_of}
use Rattle.list.specs.Demands.{Satisfies, RunOfSteps, Demand2, Demand3, Shortest}
use Rattle.list.proofs.Claims as ListClaims
use Rattle.walk.specs.Walker.{walk_report}
use Rattle.walk.proofs.Accepts.{accepts_iff}
use Rattle.encode.specs.EncodeCall.{encode_left}
use Rattle.encode.proofs.Reports.{encode_accepts}
use Rattle.decode.specs.DecodeCall.{decode_report, decode_left}
use Rattle.decode.proofs.Reports.{decode_accepts}
use Rattle.decode.proofs.Claims.{decoded, decodes_to_run, run_and_back, assignment_and_back}
use Rattle.claims.specs.Words.{clauses_in, joined, read_back, less_last_clause, words_true}
use Rattle.claims.specs.Calls.{Calls, calls_with, Accepts, Emitted, variables_told, words_left, SolvesList, ListSolvable, WalkedRun, run_left}
use Rattle.claims.specs.Calls.{assignment_left, EmittedWords, EmittedDemand2, EmittedDemand3, EmittedShortest}
use Rattle.claims.proofs.ReadBack.{read_list, list_back, true_list, less_last, closed_list}
use Rattle.claims.proofs.Within.{words_within}
use Rattle.claims.proofs.Accepted.{accepts_accepted, walk_accepted, decode_accepted, Facts, facts}

-- ---- the words of the list for k
pub words_true_lem : (m : Model) (k : ℕ) (a : List ℕ) → words_true a (words m k) ≡ satisfied a (clauses m k)
unfolding words
words_true_lem m k a = true_list a (clauses m k)

words_read : (m : Model) (k : ℕ) → clauses_in (words m k) ≡ map (map word) (clauses m k)
unfolding words
words_read m k = read_list (clauses m k)

pub words_back : (m : Model) (k : ℕ) → read_back (words m k) ≡ clauses m k
unfolding words
words_back m k = list_back (clauses m k)

words_closed : (m : Model) (k : ℕ) → joined (clauses_in (words m k)) ≡ words m k
unfolding words
words_closed m k = closed_list (clauses m k)

words_less_last : (m : Model) (k : ℕ) → less_last_clause (words m k) ≡ words_of (drop_last (clauses m k))
unfolding words
words_less_last m k = less_last (clauses m k)

-- ---- one accepted emission on a record
module _ (room : ℕ → ℕ) (m : Model) (k : ℕ) (e : Emitted (calls_with room m) k) where
  abbrev c : Calls
  c = calls_with room m

  known : Facts room m k e
  known = facts room m k e

  -- what solves the emitted words satisfies the list, and the other way round
  pub solves_satisfies : (a : List ℕ) → SolvesList e a → Satisfies m k a
  solves_satisfies a h =
      let f = known in
      record {
        long = h.long ∙ f.variables_are_lem;
        binary = h.binary;
        satisfies = subst T (ap (words_true a) f.words_are ∙ words_true_lem m k a) h.makes_true;
      }

  satisfies_solves : (a : List ℕ) → Satisfies m k a → SolvesList e a
  satisfies_solves a h =
      let f = known in
      record {
        long = h.long ∙ sym f.variables_are_lem;
        binary = h.binary;
        makes_true = subst T (sym (ap (words_true a) f.words_are ∙ words_true_lem m k a)) h.satisfies;
      }

  -- the walker's runs are the automaton's
  walked_run : (r : List ℕ) → RunOfSteps m k r → WalkedRun c k r
  walked_run r h =
      let f = known in
      let short : length r ≤ 64 = subst (λ (n : ℕ). n ≤ 64) (sym h.long) f.bound in
      record { long = h.long; walked = accepts_accepted ((accepts_iff m r).1 (f.model_formed, short, h.ends)) }

  run_walked : (r : List ℕ) → WalkedRun c k r → RunOfSteps m k r
  run_walked r h = record { long = h.long; ends = ((accepts_iff m r).0 (walk_accepted m r h.walked)).2 }

  -- the call from assignment to run accepts a solver's assignment, and no other
  solved_accepted : (a run : List ℕ) → SolvesList e a → k ≤ length run → decode_report m k a (length run) ≡ accepted
  solved_accepted a run h l = let f = known in (decode_accepts m k a (length run)).1 (f.model_formed, f.bound, l, solves_satisfies a h)

  accepted_solved : (a run : List ℕ) → Accepts (c.decodes k a run) → SolvesList e a
  accepted_solved a run h = satisfies_solves a ((decode_accepts m k a (length run)).0 (decode_accepted m k a (length run) h)).3

  -- ---- the words
  pub words_are : EmittedWords c k e
  words_are =
      let f = known in
      record {
        clauses_are = rw f.words_are (words_back m k);
        closed = rw f.words_are (words_closed m k);
        counted = rw (f.words_are, words_read m k) (length-map (clauses m k) (map word) ∙ sym f.clauses_are);
        within = rw (f.words_are, f.variables_are_lem) (words_within m f.model_formed k);
      }

  -- ---- demand 2
  list_2 : Demand2 m k
  list_2 = ListClaims.demand_2 m known.model_formed k

  calls_exactly : ListSolvable e ↔ ((r : List ℕ) × WalkedRun c k r)
  calls_exactly = (
    (λ x. let y = list_2.exactly.0 (x.0, solves_satisfies x.0 x.1) in (y.0, walked_run y.0 y.1)),
    λ x. let y = list_2.exactly.1 (x.0, run_walked x.0 x.1) in (y.0, satisfies_solves y.0 y.1),
  )

  calls_accepts_some : (run : List ℕ) → k ≤ length run → ((a : List ℕ) × Accepts (c.decodes k a run)) ↔ ((r : List ℕ) × WalkedRun c k r)
  calls_accepts_some run l = (
    (λ x. calls_exactly.0 (x.0, accepted_solved x.0 run x.1)),
    λ x. let y = calls_exactly.1 x in (y.0, accepts_accepted (solved_accepted y.0 run y.1 l)),
  )

  calls_decodes : (a run : List ℕ) → SolvesList e a → k ≤ length run → WalkedRun c k (run_left c k a run)
  calls_decodes a run h l =
      let d = solved_accepted a run h l in
      record {
        long = ap length (decoded m k a run d) ∙ (list_2.decodes a (solves_satisfies a h)).long;
        walked = accepts_accepted (decodes_to_run m k a run d);
      }

  calls_writes : (r out run : List ℕ) → WalkedRun c k r → variables_told e ≤ length out → k ≤ length run
      → Accepts (c.encodes r out)
      × SolvesList e (assignment_left c (variables_told e) r out)
      × (run_left c k (assignment_left c (variables_told e) r out) run ≡ r)
  calls_writes r out run h l n = (accepts_accepted w, accepted_solved assigned run (accepts_accepted back.0), back.1)
    where
      N : variables m (length r) ≡ variables_told e
      N = ap (variables m) h.long ∙ sym known.variables_are_lem

      assigned : List ℕ
      assigned = assignment_left c (variables_told e) r out

      w : c.encodes r out ≡ accepted
      w = (encode_accepts m r (length out)).1 (walk_accepted m r h.walked, omega (arith, N))

      back : (decode_report m k assigned (length run) ≡ accepted) × (take k (decode_left m k assigned run) ≡ r)
      back = rw (N, h.long) at (run_and_back m r out run w (omega (arith, h.long)))

  calls_only : (a r out run : List ℕ) → SolvesList e a → variables_told e ≤ length out → k ≤ length run → run_left c k a run ≡ r
      → a ≡ assignment_left c (variables_told e) r out
  calls_only a r out run h l n q =
      let f = known in
      let b = assignment_and_back m k a run out (solved_accepted a run h n) (omega (arith, f.variables_are_lem)) in
      sym b.1 ∙
      ap (λ (i : ℕ). take i (encode_left m (run_left c k a run) out)) (sym f.variables_are_lem) ∙
      ap (λ (s : List ℕ). assignment_left c (variables_told e) s out) q

  pub demand_2 : EmittedDemand2 c k e
  demand_2 = record {
    accepts = λ a run l. (λ h. accepts_accepted (solved_accepted a run h l), λ h. accepted_solved a run h);
    walks = λ r l. (
      (λ h. ((accepts_iff m r).0 (walk_accepted m r h)).2),
      λ h. (walked_run r (record { long = l; ends = h })).walked,
    );
    exactly = calls_exactly;
    accepts_some = calls_accepts_some;
    decodes = calls_decodes;
    writes = calls_writes;
    only = calls_only;
    accepted_decodes = λ a run out h p q.
        let s = accepted_solved a run h in
        let r = calls_decodes a run s p in
        (r, (calls_writes (run_left c k a run) out run r q p).0, sym (calls_only a (run_left c k a run) out run s q p refl));
    accepted_writes = λ r out run h q p.
        let x = calls_writes r out run h q p in
        (x.0, accepts_accepted (solved_accepted (assignment_left c (variables_told e) r out) run x.1 p), x.2);
  }

-- ---- demand 3
module _ (room : ℕ → ℕ) (m : Model) (j k : ℕ) (d : Emitted (calls_with room m) j) (e : Emitted (calls_with room m) k) (l : j ≤ k) where
  list_3 : Demand3 m j k
  list_3 = ListClaims.demand_3 m (facts room m j d).model_formed j k l

  calls_begins : IsPrefix (less_last_clause (words_left d)) (words_left e)
  calls_begins = rw ((facts room m j d).words_are, (facts room m k e).words_are, words_less_last m j) list_3.begins

  calls_goes_on : (a : List ℕ) → SolvesList d a → (b : List ℕ) × SolvesList e b × (take (variables_told d) b ≡ a)
  calls_goes_on a h =
      let x = list_3.goes_on a (solves_satisfies room m j d a h) in (
        x.0,
        satisfies_solves room m k e x.0 x.1,
        ap (take (variables_told d)) (sym x.2.1) ∙ take_at a x.2.0 (variables_told d) h.long,
      )

  calls_cut : (a run : List ℕ) → SolvesList e a → k ≤ length run
      → SolvesList d (take (variables_told d) a) ↔ Accepts (walk_report m (take j (take k (decode_left m k a run))))
  calls_cut a run h n = rw (decoded m k a run (solved_accepted room m k e a run h n)) (to, of)
    where
      r : List ℕ
      r = take j (run_of m k a)

      steps : length r ≡ j
      steps = length-take-le j (run_of m k a) (omega (arith, ((list_2 room m k e).decodes a (solves_satisfies room m k e a h)).long))

      list_cut : Satisfies m j (take (variables m j) a) ↔ T (is_run m r)
      list_cut = list_3.cut a (solves_satisfies room m k e a h)

      to : SolvesList d (take (variables_told d) a) → Accepts (walk_report m r)
      to x =
          let s = solves_satisfies room m j d (take (variables_told d) a) x in
          let i = subst (λ (i : ℕ). Satisfies m j (take i a)) (facts room m j d).variables_are_lem s in
          (walked_run room m j d r (record { long = steps; ends = list_cut.0 i })).walked

      of : Accepts (walk_report m r) → SolvesList d (take (variables_told d) a)
      of x =
          let s = list_cut.1 (run_walked room m j d r (record { long = steps; walked = x })).ends in
          satisfies_solves room m j d (take (variables_told d) a) (subst (λ (i : ℕ). Satisfies m j (take i a)) (sym (facts room m j d).variables_are_lem) s)

  pub demand_3 : EmittedDemand3 (calls_with room m) j k d e
  demand_3 = record {
    begins = calls_begins;
    goes_on = calls_goes_on;
    cut = calls_cut;
    accepted_goes_on = λ a short run h p q.
        let x = calls_goes_on a (accepted_solved room m j d a short h) in
        (x.0, accepts_accepted (solved_accepted room m k e x.0 run x.1 q), x.2);
    accepted_cut = λ a short run h p q.
        let x = calls_cut a run (accepted_solved room m k e a run h) q in (
          (λ y. x.0 (accepted_solved room m j d (take (variables_told d) a) short y)),
          λ y. accepts_accepted (solved_accepted room m j d (take (variables_told d) a) short (x.1 y) p),
        );
  }

-- ---- the shortest run
pub shortest : (room : ℕ → ℕ) (m : Model) (e : (k : ℕ) → k ≤ 64 → Emitted (calls_with room m) k) → EmittedShortest (calls_with room m) e
shortest room m e = record {
  smallest = λ k h x n.
      let y = s.smallest k (x.0, solves_satisfies room m k (e k h) x.0 x.1)
      (λ j l z. n j (omega arith) l (z.0, satisfies_solves room m j (e j (omega arith)) z.0 z.1)) in
      ((y.0.0, walked_run room m k (e k h) y.0.0 y.0.1), y.1, λ r w. y.1 r (runs r w).2);
  none_up_to_64 = λ n.
      let longer = s.none_up_to_64 (λ k h z. n k h (z.0, satisfies_solves room m k (e k h) z.0 z.1)) in
      (longer, λ r w. let short = (runs r w).1 in let long = longer r (runs r w).2 in omega arith);
}
  where
    s : Shortest m
    s = ListClaims.shortest_run m (facts room m 0 (e 0 (omega arith))).model_formed

    runs : (r : List ℕ) → Accepts (walk_report m r) → T (well_formed m) × (length r ≤ 64) × T (is_run m r)
    runs r w = (accepts_iff m r).0 (walk_accepted m r w)
