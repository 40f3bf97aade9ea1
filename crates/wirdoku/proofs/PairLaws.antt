-- A call on two texts: both read, and one refused. A call on the composed model: there is one, and there is none.
use Rattle.std.proofs.Common.{ℕ, ◌≡◌, Bool, true, false, cond, eqb, refl, sym, ap, ◌∙◌, Ok, Err}
use Rattle.std.specs.Prelude.{Result}
use Rattle.model.specs.declared.Model.{Model}
use Rattle.text.specs.Text.{ReadReport, if_read, outcome_number}
use Rattle.text.specs.declared.ReadRefusal.{ReadRefusal}
use Rattle.text.specs.declared.ReadRefusal.TheVariants.{TooLong, NotDue, NotOfItsForm, TooManyItems, OutOfRange, NotDeclared, SetTwiceOrNotRising, BytesLeft}
use Rattle.compose.specs.declared.ComposeRefusal.TheVariants as compose
use Rattle.wirdoku.specs.PairCall.{PairReport, if_both, both_read, text_refused, if_pair, refused_pair, pair_refusal, pair_told}
use Rattle.wirdoku.specs.declared.pairs.PairRefusal.{PairRefusal}
use Rattle.wirdoku.specs.declared.pairs.PairRefusal.TheVariants.{First, Second, NotComposed}

-- ---- two texts, of which r and s are told
module _ {A : Type 0} (call : Model → Model → A) (refused : ℕ → ℕ → ℕ → A) (r s : ReadReport) where
  pub both_ok : {m n : Model} → ◌≡◌ {A = Result (Model × Model) (ℕ × ℕ × ℕ)} (Ok (m, n)) (if_both r s both_read text_refused) → call m n ≡ if_both r
      s call refused
  unfolding if_both if_read
  both_ok {m} {n} e = go (eqb r.number 0) (eqb s.number 0) e
    where
      go : (a b : Bool) → ◌≡◌ {A = Result (Model × Model) (ℕ × ℕ × ℕ)} (Ok (m, n))
          (cond a (cond b (Ok (r.model, s.model)) (Err (2, s.number, s.line))) (Err (1, r.number, r.line)))
          → call m n ≡ cond a (cond b (call r.model s.model) (refused 2 s.number s.line)) (refused 1 r.number r.line)
      go true true e = let p : ◌≡◌ {A = Model × Model} (m, n) (r.model, s.model) = cc in ap (λ (x : Model × Model). call x.0 x.1) p
      go true false e = cc
      go false b e = cc

  pub both_err : {t n l : ℕ} → ◌≡◌ {A = Result (Model × Model) (ℕ × ℕ × ℕ)} (Err (t, n, l)) (if_both r s both_read text_refused) → refused t n l ≡
      if_both r s call refused
  unfolding if_both if_read
  both_err {t} {n} {l} e = go (eqb r.number 0) (eqb s.number 0) e
    where
      go : (a b : Bool) → ◌≡◌ {A = Result (Model × Model) (ℕ × ℕ × ℕ)} (Err (t, n, l))
          (cond a (cond b (Ok (r.model, s.model)) (Err (2, s.number, s.line))) (Err (1, r.number, r.line)))
          → refused t n l ≡ cond a (cond b (call r.model s.model) (refused 2 s.number s.line)) (refused 1 r.number r.line)
      go true true e = cc
      go true false e = let p : ◌≡◌ {A = ℕ × ℕ × ℕ} (t, n, l) (2, s.number, s.line) = cc in ap (λ (x : ℕ × ℕ × ℕ). refused x.0 x.1 x.2) p
      go false b e = let p : ◌≡◌ {A = ℕ × ℕ × ℕ} (t, n, l) (1, r.number, r.line) = cc in ap (λ (x : ℕ × ℕ × ℕ). refused x.0 x.1 x.2) p

-- ---- the composed model, of which p is told
text_not_0 : (e : ReadRefusal) → eqb (outcome_number e) 0 ≡ false
text_not_0 TooLong = refl
text_not_0 (NotDue l) = refl
text_not_0 (NotOfItsForm l) = refl
text_not_0 (TooManyItems l) = refl
text_not_0 (OutOfRange l) = refl
text_not_0 (NotDeclared l) = refl
text_not_0 (SetTwiceOrNotRising l) = refl
text_not_0 (BytesLeft l) = refl

not_0 : (e : PairRefusal) → eqb (pair_refusal e).number 0 ≡ false
not_0 (First e) = text_not_0 e
not_0 (Second e) = text_not_0 e
not_0 (NotComposed compose.NotWellFormed) = refl
not_0 (NotComposed compose.TooLarge) = refl

-- what is told of a refusal
pub told_is : (e : PairRefusal) → refused_pair (pair_refusal e).text (pair_refusal e).number (pair_refusal e).line ≡ pair_refusal e
told_is (First e) = refl
told_is (Second e) = refl
told_is (NotComposed e) = refl

module _ {A : Type 0} (call : Model → A) (refused : ℕ → ℕ → A) (x : Result Model PairRefusal) (p : PairReport) (is : pair_told x ≡ p) where
  pub pair_ok : {m : Model} → x ≡ Ok m → call m ≡ if_pair p call refused
  unfolding if_pair
  pair_ok {m} q = ap (λ (y : PairReport). if_pair y call refused) (ap pair_told (sym q) ∙ is)

  pub pair_err : {e : PairRefusal} → x ≡ Err e → {n l : ℕ} → n ≡ (pair_refusal e).number → l ≡ (pair_refusal e).line → refused n l ≡ if_pair p call refused
  unfolding if_pair
  pair_err {e} q {n} {l} number line =
      (λ i. refused (number i) (line i)) ∙ rw (not_0 e) refl ∙ ap (λ (y : PairReport). if_pair y call refused) (ap pair_told (sym q) ∙ is)
