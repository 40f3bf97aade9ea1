-- The tokens of a text, line by line: what they are from a place of the text on, a state that takes them one after the other, and the line
-- that a reading has come to.
use Rattle.std.specs.Prelude.{Option, Some, None}
use Prim.Native.Nat.{ℕ, ◌+◌, ◌≤◌}
use mathlib.Core.Path.{◌≡◌, refl, sym, ap, ◌∙◌}
use mathlib.Core.List.{List, [], ◌∷◌, ◌++◌, map, foldl, foldl-append}
use mathlib.Core.Bool.{Bool, true, false, ◌||◌}
use native.Mathlib.Omega.{arith}
use lib.ListN.{length, drop}
use lib.Dec.{ltb, leb, eqb}
use borrow.Author.Tests.{le-leb}
use Rattle.std.specs.List.{fold}
use Rattle.text.specs.bytes.Bytes.{split_on}
use Rattle.output.specs.Lines.{in_place, form_of, words_of}
use Rattle.output.specs.Tokens.{Token, formed, literal, literals_by, line_tokens, last_tokens, part_tokens}
use Rattle.output.specs.OutputCall.{is_no_fault}
use Rattle.output.specs.Counting.{count_line, count_literal, count}
use Rattle.output.specs.Placing.{Marking, placed}
use Rattle.output.specs.declared.lines.LineForm.{LineForm}
use Rattle.output.specs.declared.lines.LineForm.TheVariants.{Comment, Satisfiable, Unsatisfiable, Values}
use Rattle.output.specs.declared.literals.Literal.{Literal}
use Rattle.output.specs.declared.reading.Reading.{Reading}
use Rattle.output.proofs.Parts.{part_any}

-- ---- a line of the form f, which makes the state s into u before its literals come
line_tokens_lem : (read : List ℕ → Literal) (l : List ℕ) {f : Option LineForm} → f ≡ form_of l → line_tokens read l ≡ formed f ∷ literals_by read f l
unfolding line_tokens
line_tokens_lem read l e = rw e

other_words : (read : List ℕ → Literal) (l : List ℕ) (f : Option LineForm) → (f ≡ Some Values → ⊥) → literals_by read f l ≡ []
other_words read l None other = refl
other_words read l (Some Comment) other = refl
other_words read l (Some Satisfiable) other = refl
other_words read l (Some Unsatisfiable) other = refl
other_words read l (Some Values) other = absurd (other refl)

module _ {S : Type 0} (take-token : S → Token → S) (read : List ℕ → Literal) (l : List ℕ) {f : Option LineForm} (e : f ≡ form_of l) {s u : S}
    (a : u ≡ take-token s (formed f)) where
  by_form : {v : S} → v ≡ foldl take-token u (literals_by read f l) → v ≡ foldl take-token s (line_tokens read l)
  by_form h = h ∙ ap (λ x. foldl take-token x (literals_by read f l)) a ∙ ap (foldl take-token s) (sym (line_tokens_lem read l e))

  -- it has no literals
  pub line_alone : literals_by read f l ≡ [] → u ≡ foldl take-token s (line_tokens read l)
  line_alone h = by_form (ap (foldl take-token u) (sym h))

  -- it has the literals of its words
  pub line_words : f ≡ Some Values → {v : S} → v ≡ foldl take-token u (map (λ w. literal (read w)) (split_on 32 (drop 2 l)))
      → v ≡ foldl take-token s (line_tokens read l)
  unfolding words_of
  line_words w {v} h =
      let tokens : literals_by read f l ≡ map (λ w. literal (read w)) (split_on 32 (drop 2 l)) = rw w in
      by_form (h ∙ ap (foldl take-token u) (sym tokens))

-- a fold over literals is a fold over their tokens
pub fold_words : (most limit : ℕ) (read : List ℕ → Literal) (ws : List (List ℕ)) (r : Reading)
    → fold (λ a l. count_literal most limit l a) r (map read ws) ≡ foldl (count most limit) r (map (λ w. literal (read w)) ws)
fold_words most limit read [] r = refl
fold_words most limit read (w ∷ ws) r = fold_words most limit read ws (count_literal most limit (read w) r)

-- ---- the items of a text's parts: those of each line, and those of what follows the last LF
pub record ByLine {A : Type 0} (items : List (List ℕ) → List A) (line last : List ℕ → List A) : Type 0 where
  pub one : (l : List ℕ) → items (l ∷ []) ≡ last l
  pub more : (l m : List ℕ) (ps : List (List ℕ)) → items (l ∷ m ∷ ps) ≡ line l ++ items (m ∷ ps)

pub tokens_by_line : (read : List ℕ → Literal) → ByLine (part_tokens read) (line_tokens read) last_tokens
unfolding part_tokens
tokens_by_line read = record { one = λ l. refl; more = λ l m ps. refl }

-- the text t, whose first line is l
items_more : {A : Type 0} {items : List (List ℕ) → List A} {line last : List ℕ → List A} (by : ByLine items line last) (t l after : List ℕ)
    → split_on 10 t ≡ l ∷ split_on 10 after → items (split_on 10 t) ≡ line l ++ items (split_on 10 after)
items_more by t l after q = let parts = part_any 10 after in rw (q, parts.2) (by.more _ _ _)

-- ---- the loop over the lines of a text: a state s that has taken the items before what is left of t
pub record Passing {S A : Type 0} (f : S → A → S) (items : List (List ℕ) → List A) (start : S) (t : List ℕ) (s : S) (rest : List ℕ) : Type 0 where
  pub left : foldl f s (items (split_on 10 rest)) ≡ foldl f start (items (split_on 10 t))

pub pass_none : {S A : Type 0} {f : S → A → S} {items : List (List ℕ) → List A} {start : S} {t : List ℕ} → Passing f items start t start t
pass_none = record { left = refl }

-- a state that every item leaves as it is
fold_stays : {S A : Type 0} (f : S → A → S) (s : S) → ((k : A) → f s k ≡ s) → (ks : List A) → foldl f s ks ≡ s
fold_stays f s h [] = refl
fold_stays f s h (k ∷ ks) = ap (λ x. foldl f x ks) (h k) ∙ fold_stays f s h ks

module _ {S A : Type 0} {f : S → A → S} {items : List (List ℕ) → List A} {start : S} {t : List ℕ} {s : S} {rest : List ℕ}
    (a : Passing f items start t s rest) where
  pub pass_stays : ((k : A) → f s k ≡ s) → s ≡ foldl f start (items (split_on 10 t))
  pass_stays h = sym (fold_stays f s h (items (split_on 10 rest))) ∙ a.left

  module _ {line last : List ℕ → List A} (by : ByLine items line last) where
    -- after the last LF
    pub pass_last : split_on 10 rest ≡ rest ∷ [] → foldl f s (last rest) ≡ foldl f start (items (split_on 10 t))
    pass_last q = ap (foldl f s) (sym (ap items q ∙ by.one rest)) ∙ a.left

    -- it takes the items of the line l, which make it u
    pub pass_more : {l after : List ℕ} → split_on 10 rest ≡ l ∷ split_on 10 after → {u : S} → u ≡ foldl f s (line l)
        → Passing f items start t u after
    pass_more {l} {after} q {u} r =
        let others = items (split_on 10 after) in
        let h : foldl f u others ≡ foldl f s (line l ++ others) = ap (λ x. foldl f x others) r ∙ sym (foldl-append f s (line l) others) in
        record { left = h ∙ ap (foldl f s) (sym (items_more by rest l after q)) ∙ a.left }

-- ---- after the last LF: nothing, or a line that is not ended
pub last_none : (l : List ℕ) → length l ≡ 0 → last_tokens l ≡ []
last_none [] h = refl
last_none (b ∷ l) h = absurd (omega arith)

pub last_some : (l : List ℕ) → (length l ≡ 0 → ⊥) → last_tokens l ≡ formed None ∷ []
last_some [] h = absurd (h refl)
last_some (b ∷ l) h = refl

-- ---- nothing is placed after the bound
pub bound_stays : (low : ℕ) (m : Marking) → m.bound ≤ m.seen → (l : Literal) → placed low m l ≡ m
unfolding placed
bound_stays low m h l = rw (le-leb m.bound m.seen h)

-- ---- a reading with a fault
pub fault_stays : (n limit : ℕ) (r : Reading) → is_no_fault r.fault ≡ false → (k : Token) → count n limit r k ≡ r
unfolding count_line count_literal
fault_stays n limit r h (formed f) = rw h
fault_stays n limit r h (literal l) = rw h

-- ---- the line of a reading
by_test : {P : Type 0} (b : Bool) → (b ≡ true → P) → (b ≡ false → P) → P
by_test true p q = p refl
by_test false p q = q refl

pub line_grows : (f : Option LineForm) (r : Reading) → (count_line f r).line ≤ r.line + 1
unfolding count_line
line_grows f r =
    by_test (is_no_fault r.fault)
    (λ h. by_test (in_place r.stage f) (λ k. rw (h, k) (omega arith)) (λ k. rw (h, k) (omega arith)))
    (λ h. rw h (omega arith))

module _ (n limit : ℕ) where
  literal_keeps : (l : Literal) (r : Reading) → (count_literal n limit l r).line ≡ r.line
  unfolding count_literal
  literal_keeps l r =
      by_test (is_no_fault r.fault)
      (λ h. by_test (eqb l.variable 0)
      (λ z. by_test (eqb r.named n) (λ k. rw (h, z, k)) (λ k. rw (h, z, k)))
      (λ z. by_test (ltb n l.variable || leb limit r.named) (λ k. rw (h, z, k)) (λ k. rw (h, z, k))))
      (λ h. rw h)

  words_keep : (read : List ℕ → Literal) (ws : List (List ℕ)) (r : Reading) → (foldl (count n limit) r (map (λ w. literal (read w)) ws)).line ≡ r.line
  words_keep read [] r = refl
  words_keep read (w ∷ ws) r = words_keep read ws (count_literal n limit (read w) r) ∙ literal_keeps (read w) r

  literals_keep : (read : List ℕ → Literal) (f : Option LineForm) (l : List ℕ) (r : Reading) → (foldl (count n limit) r (literals_by read f l)).line ≡ r.line
  literals_keep read None l r = refl
  literals_keep read (Some Comment) l r = refl
  literals_keep read (Some Satisfiable) l r = refl
  literals_keep read (Some Unsatisfiable) l r = refl
  literals_keep read (Some Values) l r = words_keep read (words_of l) r

  pub one_line : (read : List ℕ → Literal) (l : List ℕ) (r : Reading) → (foldl (count n limit) r (line_tokens read l)).line ≤ r.line + 1
  unfolding line_tokens
  one_line read l r = omega (arith, literals_keep read (form_of l) l (count_line (form_of l) r), line_grows (form_of l) r)
