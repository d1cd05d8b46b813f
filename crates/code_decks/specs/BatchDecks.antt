-- The decks of some batches, each with what its code gives.
use Rattle.std.specs.Prelude.{ℕ, zero, suc, List, [], ◌∷◌, ◌++◌, codes, decimal}
use Rattle.algolw_meaning.specs.RunRows.{Row, plain, fed, printing, ended, stopped, spaced}
use Rattle.code_decks.specs.CodeRows.{AllRun, AllSeen}

-- decks of a few steps
abbrev pub short_decks : List Row
short_decks =
    (plain (codes "BEGIN END." ∷ []), ended 1 [])
    ∷ (plain (codes "BEGIN" ∷ codes "WRITE(\"A\");" ∷ codes "WRITE(\"B\")" ∷ codes "END." ∷ []), ended 3 (codes "A" ∷ codes "B" ∷ []))
    ∷ (plain (codes "BEGIN" ∷ codes "WRITE(1)" ∷ codes "END." ∷ []), ended 2 (spaced 13 (codes "1") ∷ []))
    ∷ (printing 1 (codes "BEGIN WRITE(3) END." ∷ []), ended 2 (spaced 13 (codes "3") ∷ []))
    ∷ (plain (codes "BEGIN WRITE(#F SHL 32, #FF AND #0F) END." ∷ []), ended 2 (spaced 6 (codes "00000000        0000000F") ∷ []))
    ∷ (fed (codes "7" ∷ []) (codes "BEGIN INTEGER I; READON(I); WRITE(I) END." ∷ []), ended 3 (spaced 13 (codes "7") ∷ []))
    ∷ []

-- a thousand turns
abbrev pub long_decks : List Row
long_decks = (
  printing 1 (codes "BEGIN INTEGER I; I := 0;" ∷ codes "WHILE I < 1000 DO I := I + 1;" ∷ codes "WRITE(I) END." ∷ []),
  ended 2004 (spaced 10 (codes "1000") ∷ []),
)
    ∷ []

-- a record more than there may be
abbrev pub record_decks : List Row
record_decks = (
  fed (codes "1 2 3" ∷ []) (codes "BEGIN RECORD C (INTEGER V); REFERENCE(C) R; INTEGER I;" ∷ codes "READ(I);" ∷ codes "WHILE TRUE DO R := C(1) END." ∷ []),
  stopped (codes "LIMIT 5 AT 3,15: RECORDS") 8197 [] (spaced 2 (codes "BLOCK 1,1") ∷ spaced 4 (codes "R = C.4096") ∷ spaced 4 (codes "I = 1") ∷ []),
)
    ∷ []

-- calls with these values and a name formal, so many of them
abbrev pub calls_from : ℕ → ℕ → List (List ℕ)
calls_from n zero = []
calls_from n (suc k) = spaced 2 (codes "CALL P FROM 2,15") ∷ spaced 4 (codes "N = " ++ decimal n) ∷ spaced 4 (codes "X NAME") ∷ calls_from (suc n) k

-- with as many calls under way as there may be, an actual that is no variable is told before the depth
abbrev pub full_depth_decks : List Row
full_depth_decks = (
  plain (codes "BEGIN PROCEDURE P (INTEGER VALUE N; INTEGER X);" ∷ codes "IF N > 1 THEN P(N - 1, 1) ELSE X := 2; P(2000, 1) END." ∷ []),
  stopped (codes "FAULT 9 AT 2,32: ASSIGNMENT TO NO VARIABLE") 6003 [] (calls_from 1 13 ++ spaced 2 (codes "CALL P FROM 2,15") ∷ []),
)
    ∷ []

pub record CodeOfBatchDecks : Type 0 where
  pub short : AllRun short_decks
  pub long : AllRun long_decks
  pub records : AllSeen record_decks
  pub full_depth : AllSeen full_depth_decks
