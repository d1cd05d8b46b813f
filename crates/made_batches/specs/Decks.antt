-- The decks of made jobs.
use Rattle.std.specs.Prelude.{ℕ, ◌%◌, ◌==◌, List, [], ◌∷◌, ◌++◌, codes, decimal, if◌then◌else◌}
use Rattle.std.specs.List.{flat_map, slice_index_or}
use Rattle.made_batches.specs.declared.decks.Deck.{Deck}
use Rattle.made_batches.specs.declared.decks.Deck.TheVariants.{Loop, ByName, Array, ZeroDivisor, Undeclared, Recursion}

-- the decks by their numbers from 0
abbrev pub decks : List Deck
decks = Loop ∷ ByName ∷ Array ∷ ZeroDivisor ∷ Undeclared ∷ Recursion ∷ []

-- the deck that is drawn
abbrev pub deck_by : ℕ → Deck
deck_by draw = slice_index_or decks (draw % 6) Loop

-- the cards of a deck, with `#` where the number is to stand
abbrev pub cards_of : Deck → List (List ℕ)
cards_of Loop = codes "BEGIN INTEGER I, S; I := S := 0;"
    ∷ codes "WHILE I < # DO BEGIN I := I + 1; S := S + I END;"
    ∷ codes "WRITE(S) END."
    ∷ []
cards_of ByName = codes "BEGIN INTEGER K;"
    ∷ codes "INTEGER PROCEDURE SUM (INTEGER I, X);"
    ∷ codes "BEGIN INTEGER S; S := 0; I := 1;"
    ∷ codes "WHILE I <= # DO BEGIN S := S + X; I := I + 1 END; S END;"
    ∷ codes "WRITE(SUM(K, K * K)) END."
    ∷ []
cards_of Array = codes "BEGIN INTEGER ARRAY A (0::#); A(0) := 1;"
    ∷ codes "FOR I := 1 UNTIL # DO A(I) := A(I - 1) + I;"
    ∷ codes "WRITE(A(#)) END."
    ∷ []
cards_of ZeroDivisor = codes "BEGIN INTEGER Z; Z := # - #; WRITE(# DIV Z) END."
    ∷ []
cards_of Undeclared = codes "BEGIN WRITE(UNKNOWN + #) END."
    ∷ []
cards_of Recursion = codes "BEGIN INTEGER PROCEDURE F (INTEGER VALUE K);"
    ∷ codes "IF K = 0 THEN 0 ELSE K + F(K - 1);"
    ∷ codes "WRITE(F(#)) END."
    ∷ []

-- a text with a number in place of each `#`
abbrev pub filled : ℕ → List ℕ → List ℕ
filled number text = flat_map (λ byte. if byte == 35 then decimal number else byte ∷ []) text

abbrev pub in_line : List ℕ → List ℕ
in_line card = card ++ 10 ∷ []

-- each card with a line feed behind it
abbrev pub in_lines : List (List ℕ) → List ℕ
in_lines cards = flat_map in_line cards
