-- The lists of the small models for the bound 1, word for word, as the separate program writes them (scripts/row-cases compares). A word is a number,
-- its negative, and 0 where a clause ends.
use Rattle.std.specs.Prelude.{List, [], ◌∷◌, ℕ, ℤ, pos, neg_ℤ}

abbrev pub neg : ℕ → ℤ
neg n = neg_ℤ (pos n)

abbrev pub end : ℤ
end = pos 0

unfoldable pub clock_relations_words : List ℤ
clock_relations_words =
    pos 1 ∷ pos 2 ∷ end ∷ neg 1 ∷ neg 2 ∷ end ∷ pos 3 ∷ pos 4 ∷ pos 5 ∷ end ∷ neg 3 ∷ neg 4 ∷ end ∷ neg 3 ∷ neg 5 ∷ end ∷ neg 4 ∷ neg 5 ∷ end ∷
    neg 1 ∷ neg 4 ∷ end ∷ neg 1 ∷ neg 5 ∷ end ∷ neg 1 ∷ neg 5 ∷ end ∷ neg 1 ∷ neg 3 ∷ end ∷ neg 1 ∷ neg 5 ∷ end ∷ neg 1 ∷ neg 3 ∷ end ∷
    neg 2 ∷ neg 3 ∷ end ∷ neg 2 ∷ neg 4 ∷ end ∷ pos 1 ∷ end ∷ pos 3 ∷ end ∷ pos 6 ∷ pos 7 ∷ pos 8 ∷ pos 9 ∷ pos 10 ∷ end ∷ neg 6 ∷ neg 7 ∷ end ∷
    neg 6 ∷ neg 8 ∷ end ∷ neg 6 ∷ neg 9 ∷ end ∷ neg 6 ∷ neg 10 ∷ end ∷ neg 7 ∷ neg 8 ∷ end ∷ neg 7 ∷ neg 9 ∷ end ∷ neg 7 ∷ neg 10 ∷ end ∷
    neg 8 ∷ neg 9 ∷ end ∷ neg 8 ∷ neg 10 ∷ end ∷ neg 9 ∷ neg 10 ∷ end ∷ neg 6 ∷ neg 1 ∷ pos 11 ∷ end ∷ neg 6 ∷ neg 2 ∷ pos 12 ∷ end ∷
    neg 6 ∷ neg 3 ∷ pos 13 ∷ end ∷ neg 6 ∷ neg 4 ∷ pos 14 ∷ end ∷ neg 6 ∷ neg 5 ∷ pos 15 ∷ end ∷ neg 7 ∷ neg 1 ∷ pos 11 ∷ end ∷
    neg 7 ∷ neg 2 ∷ pos 12 ∷ end ∷ neg 7 ∷ neg 3 ∷ pos 14 ∷ end ∷ neg 7 ∷ neg 4 ∷ pos 15 ∷ end ∷ neg 7 ∷ neg 5 ∷ pos 15 ∷ end ∷
    neg 8 ∷ neg 1 ∷ pos 11 ∷ end ∷ neg 8 ∷ neg 2 ∷ pos 12 ∷ end ∷ neg 8 ∷ neg 3 ∷ pos 15 ∷ end ∷ neg 8 ∷ neg 4 ∷ pos 15 ∷ end ∷
    neg 8 ∷ neg 5 ∷ pos 15 ∷ end ∷ neg 9 ∷ pos 1 ∷ end ∷ neg 9 ∷ pos 12 ∷ end ∷ neg 9 ∷ neg 4 ∷ end ∷ neg 9 ∷ neg 5 ∷ end ∷ neg 9 ∷ neg 5 ∷ end ∷
    neg 9 ∷ neg 3 ∷ end ∷ neg 9 ∷ neg 5 ∷ end ∷ neg 9 ∷ neg 3 ∷ end ∷ neg 9 ∷ pos 13 ∷ end ∷ neg 10 ∷ pos 2 ∷ end ∷ neg 10 ∷ pos 11 ∷ end ∷
    neg 10 ∷ neg 3 ∷ end ∷ neg 10 ∷ neg 4 ∷ end ∷ neg 10 ∷ neg 3 ∷ pos 13 ∷ end ∷ neg 10 ∷ neg 4 ∷ pos 14 ∷ end ∷ neg 10 ∷ neg 5 ∷ pos 15 ∷ end ∷
    pos 11 ∷ pos 12 ∷ end ∷ neg 11 ∷ neg 12 ∷ end ∷ pos 13 ∷ pos 14 ∷ pos 15 ∷ end ∷ neg 13 ∷ neg 14 ∷ end ∷ neg 13 ∷ neg 15 ∷ end ∷
    neg 14 ∷ neg 15 ∷ end ∷ neg 11 ∷ neg 14 ∷ end ∷ neg 11 ∷ neg 15 ∷ end ∷ neg 11 ∷ neg 15 ∷ end ∷ neg 11 ∷ neg 13 ∷ end ∷ neg 11 ∷ neg 15 ∷ end ∷
    neg 11 ∷ neg 13 ∷ end ∷ neg 12 ∷ neg 13 ∷ end ∷ neg 12 ∷ neg 14 ∷ end ∷ pos 12 ∷ end ∷ []

unfoldable pub counter_relations_words : List ℤ
counter_relations_words =
    pos 1 ∷ end ∷ pos 2 ∷ pos 3 ∷ pos 4 ∷ end ∷ neg 2 ∷ neg 3 ∷ end ∷ neg 2 ∷ neg 4 ∷ end ∷ neg 3 ∷ neg 4 ∷ end ∷ pos 1 ∷ end ∷ pos 3 ∷ end ∷
    pos 5 ∷ pos 6 ∷ pos 7 ∷ pos 8 ∷ end ∷ neg 5 ∷ neg 6 ∷ end ∷ neg 5 ∷ neg 7 ∷ end ∷ neg 5 ∷ neg 8 ∷ end ∷ neg 6 ∷ neg 7 ∷ end ∷
    neg 6 ∷ neg 8 ∷ end ∷ neg 7 ∷ neg 8 ∷ end ∷ neg 5 ∷ neg 1 ∷ pos 9 ∷ end ∷ neg 5 ∷ neg 2 ∷ pos 10 ∷ end ∷ neg 5 ∷ neg 3 ∷ pos 11 ∷ end ∷
    neg 5 ∷ neg 4 ∷ pos 12 ∷ end ∷ neg 6 ∷ neg 1 ∷ pos 9 ∷ end ∷ neg 6 ∷ neg 2 ∷ pos 10 ∷ end ∷ neg 6 ∷ neg 3 ∷ pos 11 ∷ end ∷
    neg 6 ∷ neg 4 ∷ pos 12 ∷ end ∷ neg 7 ∷ pos 1 ∷ end ∷ neg 7 ∷ pos 9 ∷ end ∷ neg 7 ∷ neg 3 ∷ end ∷ neg 7 ∷ neg 4 ∷ end ∷ neg 7 ∷ neg 4 ∷ end ∷
    neg 7 ∷ neg 2 ∷ end ∷ neg 7 ∷ neg 4 ∷ end ∷ neg 7 ∷ neg 2 ∷ end ∷ neg 7 ∷ pos 12 ∷ end ∷ neg 8 ∷ pos 1 ∷ end ∷ neg 8 ∷ pos 9 ∷ end ∷
    neg 8 ∷ neg 2 ∷ end ∷ neg 8 ∷ neg 3 ∷ end ∷ neg 8 ∷ neg 3 ∷ end ∷ neg 8 ∷ end ∷ pos 9 ∷ end ∷ pos 10 ∷ pos 11 ∷ pos 12 ∷ end ∷
    neg 10 ∷ neg 11 ∷ end ∷ neg 10 ∷ neg 12 ∷ end ∷ neg 11 ∷ neg 12 ∷ end ∷ pos 9 ∷ end ∷ []

unfoldable pub counter_updates_words : List ℤ
counter_updates_words =
    pos 1 ∷ end ∷ pos 2 ∷ pos 3 ∷ end ∷ neg 2 ∷ neg 3 ∷ end ∷ pos 4 ∷ pos 5 ∷ pos 6 ∷ end ∷ neg 4 ∷ neg 5 ∷ end ∷ neg 4 ∷ neg 6 ∷ end ∷
    neg 5 ∷ neg 6 ∷ end ∷ pos 1 ∷ end ∷ pos 3 ∷ end ∷ pos 4 ∷ end ∷ pos 7 ∷ pos 8 ∷ pos 9 ∷ pos 10 ∷ end ∷ neg 7 ∷ neg 8 ∷ end ∷ neg 7 ∷ neg 9 ∷ end ∷
    neg 7 ∷ neg 10 ∷ end ∷ neg 8 ∷ neg 9 ∷ end ∷ neg 8 ∷ neg 10 ∷ end ∷ neg 9 ∷ neg 10 ∷ end ∷ neg 7 ∷ neg 1 ∷ pos 11 ∷ end ∷
    neg 7 ∷ neg 2 ∷ pos 12 ∷ end ∷ neg 7 ∷ neg 3 ∷ pos 13 ∷ end ∷ neg 7 ∷ neg 4 ∷ pos 14 ∷ end ∷ neg 7 ∷ neg 5 ∷ pos 15 ∷ end ∷
    neg 7 ∷ neg 6 ∷ pos 16 ∷ end ∷ neg 8 ∷ neg 1 ∷ pos 11 ∷ end ∷ neg 8 ∷ neg 2 ∷ pos 12 ∷ end ∷ neg 8 ∷ neg 3 ∷ pos 13 ∷ end ∷
    neg 8 ∷ neg 4 ∷ pos 14 ∷ end ∷ neg 8 ∷ neg 5 ∷ pos 15 ∷ end ∷ neg 8 ∷ neg 6 ∷ pos 16 ∷ end ∷ neg 9 ∷ pos 1 ∷ end ∷ neg 9 ∷ pos 11 ∷ end ∷
    neg 9 ∷ neg 2 ∷ pos 12 ∷ end ∷ neg 9 ∷ neg 3 ∷ pos 13 ∷ end ∷ neg 9 ∷ neg 2 ∷ pos 15 ∷ end ∷ neg 9 ∷ neg 3 ∷ pos 16 ∷ end ∷ neg 10 ∷ pos 1 ∷ end ∷
    neg 10 ∷ pos 11 ∷ end ∷ neg 10 ∷ neg 4 ∷ end ∷ neg 10 ∷ neg 5 ∷ pos 12 ∷ end ∷ neg 10 ∷ neg 6 ∷ pos 13 ∷ end ∷ neg 10 ∷ neg 4 ∷ pos 16 ∷ end ∷
    neg 10 ∷ neg 5 ∷ end ∷ neg 10 ∷ neg 6 ∷ end ∷ pos 11 ∷ end ∷ pos 12 ∷ pos 13 ∷ end ∷ neg 12 ∷ neg 13 ∷ end ∷ pos 14 ∷ pos 15 ∷ pos 16 ∷ end ∷
    neg 14 ∷ neg 15 ∷ end ∷ neg 14 ∷ neg 16 ∷ end ∷ neg 15 ∷ neg 16 ∷ end ∷ pos 11 ∷ end ∷ []

unfoldable pub two_of_each_words : List ℤ
two_of_each_words =
    pos 1 ∷ pos 2 ∷ end ∷ neg 1 ∷ neg 2 ∷ end ∷ pos 3 ∷ pos 4 ∷ end ∷ neg 3 ∷ neg 4 ∷ end ∷ pos 5 ∷ pos 6 ∷ pos 7 ∷ end ∷ neg 5 ∷ neg 6 ∷ end ∷
    neg 5 ∷ neg 7 ∷ end ∷ neg 6 ∷ neg 7 ∷ end ∷ pos 8 ∷ pos 9 ∷ pos 10 ∷ end ∷ neg 8 ∷ neg 9 ∷ end ∷ neg 8 ∷ neg 10 ∷ end ∷ neg 9 ∷ neg 10 ∷ end ∷
    pos 11 ∷ pos 12 ∷ pos 13 ∷ end ∷ neg 11 ∷ neg 12 ∷ end ∷ neg 11 ∷ neg 13 ∷ end ∷ neg 12 ∷ neg 13 ∷ end ∷ neg 1 ∷ neg 13 ∷ end ∷ pos 2 ∷ end ∷
    pos 4 ∷ end ∷ pos 5 ∷ end ∷ pos 8 ∷ end ∷ pos 11 ∷ end ∷ pos 14 ∷ pos 15 ∷ pos 16 ∷ pos 17 ∷ end ∷ neg 14 ∷ neg 15 ∷ end ∷ neg 14 ∷ neg 16 ∷ end ∷
    neg 14 ∷ neg 17 ∷ end ∷ neg 15 ∷ neg 16 ∷ end ∷ neg 15 ∷ neg 17 ∷ end ∷ neg 16 ∷ neg 17 ∷ end ∷ neg 14 ∷ neg 1 ∷ pos 18 ∷ end ∷
    neg 14 ∷ neg 2 ∷ pos 19 ∷ end ∷ neg 14 ∷ neg 3 ∷ pos 20 ∷ end ∷ neg 14 ∷ neg 4 ∷ pos 21 ∷ end ∷ neg 14 ∷ neg 5 ∷ pos 22 ∷ end ∷
    neg 14 ∷ neg 6 ∷ pos 23 ∷ end ∷ neg 14 ∷ neg 7 ∷ pos 24 ∷ end ∷ neg 14 ∷ neg 8 ∷ pos 25 ∷ end ∷ neg 14 ∷ neg 9 ∷ pos 26 ∷ end ∷
    neg 14 ∷ neg 10 ∷ pos 27 ∷ end ∷ neg 14 ∷ neg 11 ∷ pos 28 ∷ end ∷ neg 14 ∷ neg 12 ∷ pos 29 ∷ end ∷ neg 14 ∷ neg 13 ∷ pos 30 ∷ end ∷
    neg 15 ∷ neg 1 ∷ pos 18 ∷ end ∷ neg 15 ∷ neg 2 ∷ pos 19 ∷ end ∷ neg 15 ∷ neg 3 ∷ pos 20 ∷ end ∷ neg 15 ∷ neg 4 ∷ pos 21 ∷ end ∷
    neg 15 ∷ neg 5 ∷ pos 22 ∷ end ∷ neg 15 ∷ neg 6 ∷ pos 23 ∷ end ∷ neg 15 ∷ neg 7 ∷ pos 24 ∷ end ∷ neg 15 ∷ neg 8 ∷ pos 26 ∷ end ∷
    neg 15 ∷ neg 9 ∷ pos 27 ∷ end ∷ neg 15 ∷ neg 10 ∷ pos 27 ∷ end ∷ neg 15 ∷ neg 11 ∷ pos 29 ∷ end ∷ neg 15 ∷ neg 12 ∷ pos 30 ∷ end ∷
    neg 15 ∷ neg 13 ∷ pos 30 ∷ end ∷ neg 16 ∷ neg 1 ∷ pos 18 ∷ end ∷ neg 16 ∷ neg 2 ∷ pos 19 ∷ end ∷ neg 16 ∷ neg 3 ∷ pos 20 ∷ end ∷
    neg 16 ∷ neg 4 ∷ pos 21 ∷ end ∷ neg 16 ∷ neg 5 ∷ pos 22 ∷ end ∷ neg 16 ∷ neg 6 ∷ pos 23 ∷ end ∷ neg 16 ∷ neg 7 ∷ pos 24 ∷ end ∷
    neg 16 ∷ neg 8 ∷ pos 27 ∷ end ∷ neg 16 ∷ neg 9 ∷ pos 27 ∷ end ∷ neg 16 ∷ neg 10 ∷ pos 27 ∷ end ∷ neg 16 ∷ neg 11 ∷ pos 30 ∷ end ∷
    neg 16 ∷ neg 12 ∷ pos 30 ∷ end ∷ neg 16 ∷ neg 13 ∷ pos 30 ∷ end ∷ neg 17 ∷ pos 2 ∷ end ∷ neg 17 ∷ pos 18 ∷ end ∷ neg 17 ∷ neg 11 ∷ end ∷
    neg 17 ∷ neg 7 ∷ end ∷ neg 17 ∷ neg 5 ∷ pos 20 ∷ end ∷ neg 17 ∷ neg 6 ∷ pos 21 ∷ end ∷ neg 17 ∷ neg 7 ∷ end ∷ neg 17 ∷ neg 5 ∷ pos 22 ∷ end ∷
    neg 17 ∷ neg 6 ∷ pos 23 ∷ end ∷ neg 17 ∷ neg 7 ∷ pos 24 ∷ end ∷ neg 17 ∷ neg 8 ∷ pos 25 ∷ end ∷ neg 17 ∷ neg 9 ∷ pos 26 ∷ end ∷
    neg 17 ∷ neg 10 ∷ pos 27 ∷ end ∷ neg 17 ∷ pos 28 ∷ end ∷ pos 18 ∷ pos 19 ∷ end ∷ neg 18 ∷ neg 19 ∷ end ∷ pos 20 ∷ pos 21 ∷ end ∷
    neg 20 ∷ neg 21 ∷ end ∷ pos 22 ∷ pos 23 ∷ pos 24 ∷ end ∷ neg 22 ∷ neg 23 ∷ end ∷ neg 22 ∷ neg 24 ∷ end ∷ neg 23 ∷ neg 24 ∷ end ∷
    pos 25 ∷ pos 26 ∷ pos 27 ∷ end ∷ neg 25 ∷ neg 26 ∷ end ∷ neg 25 ∷ neg 27 ∷ end ∷ neg 26 ∷ neg 27 ∷ end ∷ pos 28 ∷ pos 29 ∷ pos 30 ∷ end ∷
    neg 28 ∷ neg 29 ∷ end ∷ neg 28 ∷ neg 30 ∷ end ∷ neg 29 ∷ neg 30 ∷ end ∷ neg 18 ∷ neg 30 ∷ end ∷ pos 18 ∷ end ∷ []

unfoldable pub raised_then_copied_words : List ℤ
raised_then_copied_words =
    pos 1 ∷ pos 2 ∷ end ∷ neg 1 ∷ neg 2 ∷ end ∷ pos 3 ∷ pos 4 ∷ end ∷ neg 3 ∷ neg 4 ∷ end ∷ pos 5 ∷ pos 6 ∷ end ∷ neg 5 ∷ neg 6 ∷ end ∷ pos 1 ∷ end ∷
    pos 3 ∷ end ∷ pos 5 ∷ end ∷ pos 7 ∷ pos 8 ∷ pos 9 ∷ end ∷ neg 7 ∷ neg 8 ∷ end ∷ neg 7 ∷ neg 9 ∷ end ∷ neg 8 ∷ neg 9 ∷ end ∷
    neg 7 ∷ neg 1 ∷ pos 10 ∷ end ∷ neg 7 ∷ neg 2 ∷ pos 11 ∷ end ∷ neg 7 ∷ neg 3 ∷ pos 12 ∷ end ∷ neg 7 ∷ neg 4 ∷ pos 13 ∷ end ∷
    neg 7 ∷ neg 5 ∷ pos 14 ∷ end ∷ neg 7 ∷ neg 6 ∷ pos 15 ∷ end ∷ neg 8 ∷ neg 1 ∷ pos 10 ∷ end ∷ neg 8 ∷ neg 2 ∷ pos 11 ∷ end ∷
    neg 8 ∷ neg 3 ∷ pos 12 ∷ end ∷ neg 8 ∷ neg 4 ∷ pos 13 ∷ end ∷ neg 8 ∷ neg 5 ∷ pos 14 ∷ end ∷ neg 8 ∷ neg 6 ∷ pos 15 ∷ end ∷ neg 9 ∷ pos 1 ∷ end ∷
    neg 9 ∷ pos 11 ∷ end ∷ neg 9 ∷ neg 3 ∷ pos 13 ∷ end ∷ neg 9 ∷ neg 4 ∷ end ∷ neg 9 ∷ neg 12 ∷ pos 14 ∷ end ∷ neg 9 ∷ neg 13 ∷ pos 15 ∷ end ∷
    pos 10 ∷ pos 11 ∷ end ∷ neg 10 ∷ neg 11 ∷ end ∷ pos 12 ∷ pos 13 ∷ end ∷ neg 12 ∷ neg 13 ∷ end ∷ pos 14 ∷ pos 15 ∷ end ∷ neg 14 ∷ neg 15 ∷ end ∷
    pos 11 ∷ end ∷ []

unfoldable pub copied_then_raised_words : List ℤ
copied_then_raised_words =
    pos 1 ∷ pos 2 ∷ end ∷ neg 1 ∷ neg 2 ∷ end ∷ pos 3 ∷ pos 4 ∷ end ∷ neg 3 ∷ neg 4 ∷ end ∷ pos 5 ∷ pos 6 ∷ end ∷ neg 5 ∷ neg 6 ∷ end ∷ pos 1 ∷ end ∷
    pos 3 ∷ end ∷ pos 5 ∷ end ∷ pos 7 ∷ pos 8 ∷ pos 9 ∷ end ∷ neg 7 ∷ neg 8 ∷ end ∷ neg 7 ∷ neg 9 ∷ end ∷ neg 8 ∷ neg 9 ∷ end ∷
    neg 7 ∷ neg 1 ∷ pos 10 ∷ end ∷ neg 7 ∷ neg 2 ∷ pos 11 ∷ end ∷ neg 7 ∷ neg 3 ∷ pos 12 ∷ end ∷ neg 7 ∷ neg 4 ∷ pos 13 ∷ end ∷
    neg 7 ∷ neg 5 ∷ pos 14 ∷ end ∷ neg 7 ∷ neg 6 ∷ pos 15 ∷ end ∷ neg 8 ∷ neg 1 ∷ pos 10 ∷ end ∷ neg 8 ∷ neg 2 ∷ pos 11 ∷ end ∷
    neg 8 ∷ neg 3 ∷ pos 12 ∷ end ∷ neg 8 ∷ neg 4 ∷ pos 13 ∷ end ∷ neg 8 ∷ neg 5 ∷ pos 14 ∷ end ∷ neg 8 ∷ neg 6 ∷ pos 15 ∷ end ∷ neg 9 ∷ pos 1 ∷ end ∷
    neg 9 ∷ pos 11 ∷ end ∷ neg 9 ∷ neg 3 ∷ pos 13 ∷ end ∷ neg 9 ∷ neg 4 ∷ end ∷ neg 9 ∷ neg 3 ∷ pos 14 ∷ end ∷ neg 9 ∷ neg 4 ∷ pos 15 ∷ end ∷
    pos 10 ∷ pos 11 ∷ end ∷ neg 10 ∷ neg 11 ∷ end ∷ pos 12 ∷ pos 13 ∷ end ∷ neg 12 ∷ neg 13 ∷ end ∷ pos 14 ∷ pos 15 ∷ end ∷ neg 14 ∷ neg 15 ∷ end ∷
    pos 11 ∷ end ∷ []

unfoldable pub two_orders_words : List ℤ
two_orders_words =
    pos 1 ∷ end ∷ pos 2 ∷ pos 3 ∷ end ∷ neg 2 ∷ neg 3 ∷ end ∷ pos 4 ∷ pos 5 ∷ end ∷ neg 4 ∷ neg 5 ∷ end ∷ pos 1 ∷ end ∷ pos 2 ∷ end ∷ pos 5 ∷ end ∷
    pos 6 ∷ pos 7 ∷ pos 8 ∷ pos 9 ∷ end ∷ neg 6 ∷ neg 7 ∷ end ∷ neg 6 ∷ neg 8 ∷ end ∷ neg 6 ∷ neg 9 ∷ end ∷ neg 7 ∷ neg 8 ∷ end ∷ neg 7 ∷ neg 9 ∷ end ∷
    neg 8 ∷ neg 9 ∷ end ∷ neg 6 ∷ neg 1 ∷ pos 10 ∷ end ∷ neg 6 ∷ neg 2 ∷ pos 11 ∷ end ∷ neg 6 ∷ neg 3 ∷ pos 12 ∷ end ∷ neg 6 ∷ neg 4 ∷ pos 13 ∷ end ∷
    neg 6 ∷ neg 5 ∷ pos 14 ∷ end ∷ neg 7 ∷ neg 1 ∷ pos 10 ∷ end ∷ neg 7 ∷ neg 2 ∷ pos 11 ∷ end ∷ neg 7 ∷ neg 3 ∷ pos 12 ∷ end ∷
    neg 7 ∷ neg 4 ∷ pos 13 ∷ end ∷ neg 7 ∷ neg 5 ∷ pos 14 ∷ end ∷ neg 8 ∷ pos 1 ∷ end ∷ neg 8 ∷ pos 10 ∷ end ∷ neg 8 ∷ neg 4 ∷ pos 11 ∷ end ∷
    neg 8 ∷ neg 5 ∷ pos 12 ∷ end ∷ neg 8 ∷ neg 11 ∷ pos 13 ∷ end ∷ neg 8 ∷ neg 12 ∷ pos 14 ∷ end ∷ neg 9 ∷ pos 1 ∷ end ∷ neg 9 ∷ pos 10 ∷ end ∷
    neg 9 ∷ neg 2 ∷ pos 12 ∷ end ∷ neg 9 ∷ neg 3 ∷ end ∷ neg 9 ∷ neg 11 ∷ pos 13 ∷ end ∷ neg 9 ∷ neg 12 ∷ pos 14 ∷ end ∷ pos 10 ∷ end ∷
    pos 11 ∷ pos 12 ∷ end ∷ neg 11 ∷ neg 12 ∷ end ∷ pos 13 ∷ pos 14 ∷ end ∷ neg 13 ∷ neg 14 ∷ end ∷ pos 10 ∷ end ∷ []

unfoldable pub reset_and_copied_words : List ℤ
reset_and_copied_words =
    pos 1 ∷ pos 2 ∷ end ∷ neg 1 ∷ neg 2 ∷ end ∷ pos 3 ∷ pos 4 ∷ pos 5 ∷ end ∷ neg 3 ∷ neg 4 ∷ end ∷ neg 3 ∷ neg 5 ∷ end ∷ neg 4 ∷ neg 5 ∷ end ∷
    pos 6 ∷ pos 7 ∷ pos 8 ∷ end ∷ neg 6 ∷ neg 7 ∷ end ∷ neg 6 ∷ neg 8 ∷ end ∷ neg 7 ∷ neg 8 ∷ end ∷ pos 1 ∷ end ∷ pos 3 ∷ end ∷ pos 6 ∷ end ∷
    pos 9 ∷ pos 10 ∷ pos 11 ∷ pos 12 ∷ end ∷ neg 9 ∷ neg 10 ∷ end ∷ neg 9 ∷ neg 11 ∷ end ∷ neg 9 ∷ neg 12 ∷ end ∷ neg 10 ∷ neg 11 ∷ end ∷
    neg 10 ∷ neg 12 ∷ end ∷ neg 11 ∷ neg 12 ∷ end ∷ neg 9 ∷ neg 1 ∷ pos 13 ∷ end ∷ neg 9 ∷ neg 2 ∷ pos 14 ∷ end ∷ neg 9 ∷ neg 3 ∷ pos 15 ∷ end ∷
    neg 9 ∷ neg 4 ∷ pos 16 ∷ end ∷ neg 9 ∷ neg 5 ∷ pos 17 ∷ end ∷ neg 9 ∷ neg 6 ∷ pos 18 ∷ end ∷ neg 9 ∷ neg 7 ∷ pos 19 ∷ end ∷ neg 9 ∷ neg 8 ∷ pos 20 ∷ end ∷
    neg 10 ∷ neg 1 ∷ pos 13 ∷ end ∷ neg 10 ∷ neg 2 ∷ pos 14 ∷ end ∷ neg 10 ∷ neg 3 ∷ pos 16 ∷ end ∷ neg 10 ∷ neg 4 ∷ pos 17 ∷ end ∷
    neg 10 ∷ neg 5 ∷ pos 17 ∷ end ∷ neg 10 ∷ neg 6 ∷ pos 19 ∷ end ∷ neg 10 ∷ neg 7 ∷ pos 20 ∷ end ∷ neg 10 ∷ neg 8 ∷ pos 20 ∷ end ∷
    neg 11 ∷ neg 1 ∷ pos 13 ∷ end ∷ neg 11 ∷ neg 2 ∷ pos 14 ∷ end ∷ neg 11 ∷ neg 3 ∷ pos 17 ∷ end ∷ neg 11 ∷ neg 4 ∷ pos 17 ∷ end ∷
    neg 11 ∷ neg 5 ∷ pos 17 ∷ end ∷ neg 11 ∷ neg 6 ∷ pos 20 ∷ end ∷ neg 11 ∷ neg 7 ∷ pos 20 ∷ end ∷ neg 11 ∷ neg 8 ∷ pos 20 ∷ end ∷ neg 12 ∷ pos 1 ∷ end ∷
    neg 12 ∷ pos 14 ∷ end ∷ neg 12 ∷ neg 3 ∷ end ∷ neg 12 ∷ pos 15 ∷ end ∷ neg 12 ∷ neg 3 ∷ pos 18 ∷ end ∷ neg 12 ∷ neg 4 ∷ pos 19 ∷ end ∷
    neg 12 ∷ neg 5 ∷ pos 20 ∷ end ∷ pos 13 ∷ pos 14 ∷ end ∷ neg 13 ∷ neg 14 ∷ end ∷ pos 15 ∷ pos 16 ∷ pos 17 ∷ end ∷ neg 15 ∷ neg 16 ∷ end ∷
    neg 15 ∷ neg 17 ∷ end ∷ neg 16 ∷ neg 17 ∷ end ∷ pos 18 ∷ pos 19 ∷ pos 20 ∷ end ∷ neg 18 ∷ neg 19 ∷ end ∷ neg 18 ∷ neg 20 ∷ end ∷ neg 19 ∷ neg 20 ∷ end ∷
    pos 14 ∷ end ∷ []

unfoldable pub clocks_swapped_words : List ℤ
clocks_swapped_words =
    pos 1 ∷ pos 2 ∷ end ∷ neg 1 ∷ neg 2 ∷ end ∷ pos 3 ∷ pos 4 ∷ end ∷ neg 3 ∷ neg 4 ∷ end ∷ pos 5 ∷ pos 6 ∷ end ∷ neg 5 ∷ neg 6 ∷ end ∷ pos 1 ∷ end ∷
    pos 3 ∷ end ∷ pos 5 ∷ end ∷ pos 7 ∷ pos 8 ∷ pos 9 ∷ end ∷ neg 7 ∷ neg 8 ∷ end ∷ neg 7 ∷ neg 9 ∷ end ∷ neg 8 ∷ neg 9 ∷ end ∷ neg 7 ∷ neg 1 ∷ pos 10 ∷ end ∷
    neg 7 ∷ neg 2 ∷ pos 11 ∷ end ∷ neg 7 ∷ neg 3 ∷ pos 12 ∷ end ∷ neg 7 ∷ neg 4 ∷ pos 13 ∷ end ∷ neg 7 ∷ neg 5 ∷ pos 14 ∷ end ∷ neg 7 ∷ neg 6 ∷ pos 15 ∷ end ∷
    neg 8 ∷ neg 1 ∷ pos 10 ∷ end ∷ neg 8 ∷ neg 2 ∷ pos 11 ∷ end ∷ neg 8 ∷ neg 3 ∷ pos 13 ∷ end ∷ neg 8 ∷ neg 4 ∷ pos 13 ∷ end ∷ neg 8 ∷ neg 5 ∷ pos 15 ∷ end ∷
    neg 8 ∷ neg 6 ∷ pos 15 ∷ end ∷ neg 9 ∷ pos 1 ∷ end ∷ neg 9 ∷ pos 11 ∷ end ∷ neg 9 ∷ neg 5 ∷ pos 12 ∷ end ∷ neg 9 ∷ neg 6 ∷ pos 13 ∷ end ∷
    neg 9 ∷ neg 3 ∷ pos 14 ∷ end ∷ neg 9 ∷ neg 4 ∷ pos 15 ∷ end ∷ pos 10 ∷ pos 11 ∷ end ∷ neg 10 ∷ neg 11 ∷ end ∷ pos 12 ∷ pos 13 ∷ end ∷
    neg 12 ∷ neg 13 ∷ end ∷ pos 14 ∷ pos 15 ∷ end ∷ neg 14 ∷ neg 15 ∷ end ∷ pos 11 ∷ end ∷ []
