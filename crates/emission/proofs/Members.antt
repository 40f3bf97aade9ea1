-- The words of the clause of all members.
use mathlib.Core.Path.{◌≡◌, refl, sym, ap, ◌∙◌}
use mathlib.Core.List.{List, [], ◌∷◌, ◌++◌, map, map-append}
use Prim.Native.Nat.{ℕ, zero, suc, ◌+◌, ◌≤◌}
use native.Mathlib.Omega.{arith}
use lib.IntN.{ℤ, pos}
use lib.ListN.{length, length-append}
use Rattle.model.specs.Indexed.{each, list_below}
use Rattle.model.proofs.IndexedLaws.{length_list}
use Rattle.list.specs.Clauses.{bare, word, words_of, one, members}
use Rattle.emission.specs.Written.{RoomFor}
use Rattle.emission.proofs.ClauseLaws.{one_words}

-- member v's word
abbrev pub member_word : ℕ → ℕ → ℤ
member_word b v = pos (b + v + 1)

-- member after member
pub members_words : (b n : ℕ) → list_below (member_word b) n ≡ map word (members b n)
unfolding members each list_below
members_words b zero = refl
members_words b (suc n) =
    ap (λ (l : List ℤ). l ++ (member_word b n ∷ [])) (members_words b n)
    ∙ sym (map-append word (each n (λ v. bare (b + v) ∷ [])) (bare (b + n) ∷ []))

pub size_members : (b n : ℕ) → length (words_of (one (members b n))) ≡ n + 1
size_members b n =
    ap length (one_words (members b n) ∙ ap (λ (l : List ℤ). l ++ (pos 0 ∷ [])) (sym (members_words b n)))
    ∙ length-append (list_below (member_word b) n) (pos 0 ∷ []) ∙ omega (arith, length_list (member_word b) n)

pub members_room : (b n : ℕ) {l : List ℤ} {at : ℕ} → RoomFor (one (members b n)) l at → at + (n + 1) ≤ length l
members_room b n h = omega (arith, h.words.room, size_members b n)
