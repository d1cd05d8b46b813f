-- The decks of the manual's chapter on what a program does, each with what stands there of it.
use Rattle.std.specs.Prelude.{List, [], ◌∷◌, codes}
use Rattle.algolw_meaning.specs.RunRows.{Row, AllGive, plain, fed, stepping, ended, stopped, spaced}

-- steps, the order of evaluation, and values that are missing
abbrev pub order_decks : List Row
order_decks = (
  plain (codes "BEGIN INTEGER N; N := 1;"
      ∷ codes "WHILE N < 4 DO N := N + N;"
      ∷ codes "IF N = 4 THEN WRITE(N) END."
      ∷ []),
  ended 9 (spaced 13 (codes "4") ∷ []),
)
    ∷ (
      plain (codes "BEGIN INTEGER N;"
          ∷ codes "INTEGER PROCEDURE NEXT; BEGIN N := N + 1; N END;"
          ∷ codes "N := 1; WRITE(N + NEXT * 10, NEXT - N) END."
          ∷ []),
      ended 7 (spaced 12 (codes "21               0") ∷ []),
    )
    ∷ (
      plain (codes "BEGIN INTEGER N; N := 0;"
          ∷ codes "WRITE(N ~= 0 AND 10 DIV N > 1, N = 0 OR 10 DIV N > 1) END."
          ∷ []),
      ended 3 (spaced 1 (codes "FALSE    TRUE") ∷ []),
    )
    ∷ (
      plain (codes "BEGIN INTEGER M, N; N := 3;"
          ∷ codes "WRITE(N, M) END."
          ∷ []),
      stopped (codes "FAULT 6 AT 2,1: VALUE UNDEFINED") 3
          (spaced 13 (codes "3") ∷ [])
          (spaced 2 (codes "BLOCK 1,1") ∷ spaced 4 (codes "M = ?") ∷ spaced 4 (codes "N = 3") ∷ []),
    )
    ∷ []

-- assignments, IF, CASE, blocks and jumps
abbrev pub statements_decks : List Row
statements_decks = (
  plain (codes "BEGIN INTEGER I; INTEGER ARRAY A (1::3);"
      ∷ codes "I := 1; A(I) := I := 3;"
      ∷ codes "WRITE(I, A(1)) END."
      ∷ []),
  ended 4 (spaced 13 (codes "3               3") ∷ []),
)
    ∷ (
      plain (codes "BEGIN INTEGER N; N := 7;"
          ∷ codes "IF N < 5 THEN WRITE(\"SMALL\") ELSE WRITE(\"LARGE\");"
          ∷ codes "WRITE(IF N = 7 THEN \"A\" ELSE \"FOUR\", \"!\") END."
          ∷ []),
      ended 5 (codes "LARGE" ∷ codes "A   !" ∷ []),
    )
    ∷ (
      plain (codes "BEGIN FOR I := 1 UNTIL 3 DO"
          ∷ codes "CASE I OF BEGIN WRITE(\"ONE\"); WRITE(\"TWO\"); END;"
          ∷ codes "WRITE(CASE 4 OF (10, 20, 30)) END."
          ∷ []),
      stopped (codes "FAULT 5 AT 3,1: CASE OUTSIDE RANGE") 11
          (codes "ONE" ∷ codes "TWO" ∷ [])
          (spaced 2 (codes "BLOCK 1,1") ∷ []),
    )
    ∷ (
      plain (codes "BEGIN INTEGER N; N := 1;"
          ∷ codes "BEGIN INTEGER N; N := 2; WRITE(N) END;"
          ∷ codes "WRITE(N);"
          ∷ codes "WRITE(BEGIN INTEGER S; S := N + 2; S * S END) END."
          ∷ []),
      ended 8 (spaced 13 (codes "2") ∷ spaced 13 (codes "1") ∷ spaced 13 (codes "9") ∷ []),
    )
    ∷ (
      plain (codes "BEGIN INTEGER N; N := 1;"
          ∷ codes "MORE: N := N + N;"
          ∷ codes "FOR I := 1 UNTIL 9 DO"
          ∷ codes "BEGIN WRITEON(I); IF N < 5 THEN GOTO MORE; IF I = 3 THEN GOTO OUT END;"
          ∷ codes "OUT: WRITE(N) END."
          ∷ []),
      ended 35 (spaced 13 (codes "1               1               1               2               3") ∷ spaced 13 (codes "8") ∷ []),
    )
    ∷ []

-- FOR and ASSERT
abbrev pub loops_decks : List Row
loops_decks = (
  plain (codes "BEGIN INTEGER N; N := 3;"
      ∷ codes "FOR I := 1 STEP N UNTIL N * 3 DO"
      ∷ codes "BEGIN N := 100; WRITEON(I) END;"
      ∷ codes "WRITE(N) END."
      ∷ []),
  ended 16 (spaced 13 (codes "1               4               7") ∷ spaced 11 (codes "100") ∷ []),
)
    ∷ (
      plain (codes "BEGIN"
          ∷ codes "FOR I := MAXINTEGER - 1 UNTIL MAXINTEGER DO WRITE(I);"
          ∷ codes "FOR I := 2 UNTIL 1 DO WRITE(I);"
          ∷ codes "FOR I := 2 STEP -1 UNTIL 1 DO WRITE(I);"
          ∷ codes "FOR I := 1 STEP 0 UNTIL 0 DO WRITE(I)"
          ∷ codes "END."
          ∷ []),
      stopped (codes "FAULT 14 AT 5,1: STEP ZERO") 13
          (spaced 4 (codes "2147483646") ∷ spaced 4 (codes "2147483647") ∷ spaced 13 (codes "2") ∷ spaced 13 (codes "1") ∷ [])
          (spaced 2 (codes "BLOCK 1,1") ∷ []),
    )
    ∷ (
      plain (codes "BEGIN INTEGER N; N := 1;"
          ∷ codes "FOR I := N, N + 10, N DO"
          ∷ codes "BEGIN WRITEON(I); N := 5 END END."
          ∷ []),
      ended 15 (spaced 13 (codes "1              15               5") ∷ []),
    )
    ∷ (
      plain (codes "BEGIN INTEGER N; N := 8;"
          ∷ codes "FOR I := 1 UNTIL 3 DO"
          ∷ codes "BEGIN ASSERT N REM I = 0; N := N + 1 END END."
          ∷ []),
      stopped (codes "FAULT 13 AT 3,7: ASSERTION FALSE") 10
          []
          (spaced 2 (codes "BLOCK 3,1") ∷ spaced 2 (codes "FOR 2,1") ∷ spaced 4 (codes "I = 2") ∷ spaced 2 (codes "BLOCK 1,1") ∷ spaced 4 (codes "N = 9") ∷ []),
    )
    ∷ []

-- arrays, strings, bits, records, printing and reading
abbrev pub values_decks : List Row
values_decks = (
  plain (codes "BEGIN INTEGER N; N := 2;"
      ∷ codes "BEGIN INTEGER ARRAY A (1::N, 0::N); INTEGER N;"
      ∷ codes "N := 1; A(N, 0) := 5; WRITE(A(1, 0));"
      ∷ codes "A(0, N) := 1 DIV 0 END END."
      ∷ []),
  stopped (codes "FAULT 3 AT 4,1: SUBSCRIPT OUTSIDE BOUNDS") 7
      (spaced 13 (codes "5") ∷ [])
      (spaced 2 (codes "BLOCK 2,1") ∷ spaced 4 (codes "A ARRAY (1::2,0::2)") ∷ spaced 4 (codes "N = 1") ∷ spaced 2 (codes "BLOCK 1,1") ∷ spaced 4 (codes "N = 2") ∷ []),
)
    ∷ (
      plain (codes "BEGIN STRING(5) S, T; S := \"AB\";"
          ∷ codes "WRITE(S, \"!\", S = \"AB\", S(1|3), \"!\");"
          ∷ codes "T(1|2) := \"X\"; S(3|2) := T(1|1); WRITE(S, \"!\", T, \"!\");"
          ∷ codes "S(4|2) := \"YZ\" END."
          ∷ []),
      stopped (codes "FAULT 4 AT 4,1: PLACE OUTSIDE STRING") 7
          (codes "AB   !  TRUE  B  !" ∷ codes "AB X ! X   !" ∷ [])
          (spaced 2 (codes "BLOCK 1,1") ∷ spaced 4 (codes "S = \"AB X \"") ∷ spaced 4 (codes "T = \" X   \"") ∷ []),
    )
    ∷ (
      plain (codes "BEGIN BITS B; B := #F0F;"
          ∷ codes "WRITE(B AND #FF, B OR #F0, ~B, B SHL 4, B SHR 8);"
          ∷ codes "WRITE(ODD(3), NUMBER(#FF), BITSTRING(-1), CODE(65), DECODE(\"A\"));"
          ∷ codes "WRITE(B SHL (-1)) END."
          ∷ []),
      stopped (codes "FAULT 15 AT 4,1: SHIFT NEGATIVE") 5
          (spaced 6 (codes "0000000F        00000FFF        FFFFF0F0        0000F0F0        0000000F") ∷ spaced 2 (codes "TRUE             255        FFFFFFFF  A            65") ∷ [])
          (spaced 2 (codes "BLOCK 1,1") ∷ spaced 4 (codes "B = #00000F0F") ∷ []),
    )
    ∷ (
      plain (codes "BEGIN RECORD NODE (INTEGER KEY; REFERENCE(NODE) NEXT);"
          ∷ codes "REFERENCE(NODE) LIST, P; LIST := NULL;"
          ∷ codes "FOR I := 1 UNTIL 3 DO LIST := NODE(I, LIST);"
          ∷ codes "P := LIST;"
          ∷ codes "WHILE P ~= NULL DO"
          ∷ codes "BEGIN WRITEON(KEY(P)); P := NEXT(P) END END."
          ∷ []),
      ended 23 (spaced 13 (codes "3               2               1") ∷ []),
    )
    ∷ (
      plain (codes "BEGIN RECORD POINT (INTEGER X, Y); REFERENCE(POINT) P, Q;"
          ∷ codes "P := Q := POINT; X(P) := 3; WRITE(X(Q), P IS POINT, P = Q);"
          ∷ codes "P := NULL; WRITE(P IS POINT, X(P)) END."
          ∷ []),
      stopped (codes "FAULT 7 AT 3,12: REFERENCE NULL") 6
          (spaced 13 (codes "3    TRUE    TRUE") ∷ spaced 1 (codes "FALSE") ∷ [])
          (spaced 2 (codes "BLOCK 1,1") ∷ spaced 4 (codes "P = NULL") ∷ spaced 4 (codes "Q = POINT.1") ∷ []),
    )
    ∷ (
      plain (codes "BEGIN RECORD CAT (INTEGER LIVES); RECORD DOG (INTEGER AGE);"
          ∷ codes "REFERENCE(CAT, DOG) P, Q; REFERENCE(CAT) C;"
          ∷ codes "Q := DOG(7); C := P := Q END."
          ∷ []),
      stopped (codes "FAULT 8 AT 3,14: WRONG RECORD CLASS") 3
          []
          (spaced 2 (codes "BLOCK 1,1") ∷ spaced 4 (codes "P = DOG.1") ∷ spaced 4 (codes "Q = DOG.1") ∷ spaced 4 (codes "C = ?") ∷ []),
    )
    ∷ (
      plain (codes "BEGIN WRITE(\"A\", 1); WRITEON(2); IOCONTROL(2);"
          ∷ codes "WRITEON(\"B\"); WRITE(\"C\") END."
          ∷ []),
      ended 6 (codes "A             1               2" ∷ codes "B" ∷ codes "C" ∷ []),
    )
    ∷ (
      plain (codes "BEGIN INTEGER N; N := 7;"
          ∷ codes "WRITE(I_W := 3, S_W := 0, N, 12345, I_W);"
          ∷ codes "I_W := 5; WRITE(N, TRUE, \"A\"); WRITE(N, S_W) END."
          ∷ []),
      ended 6 (spaced 2 (codes "712345 14") ∷ spaced 4 (codes "7    TRUE  A") ∷ spaced 4 (codes "7      2") ∷ []),
    )
    ∷ (
      plain (codes "BEGIN INTEGER PROCEDURE F (INTEGER VALUE X);"
          ∷ codes "BEGIN I_W := X; X END;"
          ∷ codes "WRITE(1, F(3), 7); WRITE(I_W := 4, F(9), 7);"
          ∷ codes "WRITE(\"A\", F(0)) END."
          ∷ []),
      stopped (codes "FAULT 17 AT 4,1: WIDTH OUT OF RANGE") 10
          (spaced 13 (codes "1    3    7") ∷ spaced 3 (codes "9     7") ∷ codes "A" ∷ [])
          (spaced 2 (codes "BLOCK 1,1") ∷ []),
    )
    ∷ (
      fed (codes "7 \"AB\" -3 99" ∷ codes "HELLO 12" ∷ []) (codes "BEGIN INTEGER I, J; STRING(4) S;"
          ∷ codes "READ(I, S); READON(J); WRITE(I, S, J);"
          ∷ codes "BEGIN STRING(80) C; READCARD(C); WRITE(C(0|5)) END;"
          ∷ codes "READON(I) END."
          ∷ []),
      stopped (codes "FAULT 11 AT 4,1: NO DATA LEFT") 8
          (spaced 13 (codes "7  AB              -3") ∷ codes "HELLO" ∷ [])
          (spaced 2 (codes "BLOCK 1,1") ∷ spaced 4 (codes "I = 7") ∷ spaced 4 (codes "J = -3") ∷ spaced 4 (codes "S = \"AB  \"") ∷ []),
    )
    ∷ []

-- the kinds of formals, and the order of a call
abbrev pub parameters_decks : List Row
parameters_decks = (
  plain (codes "BEGIN INTEGER N;"
      ∷ codes "PROCEDURE SHOW; WRITE(N);"
      ∷ codes "N := 1; SHOW;"
      ∷ codes "BEGIN INTEGER N; N := 2; SHOW END END."
      ∷ []),
  ended 10 (spaced 13 (codes "1") ∷ spaced 13 (codes "1") ∷ []),
)
    ∷ (
      plain (codes "BEGIN INTEGER N, M;"
          ∷ codes "PROCEDURE HALVE (INTEGER VALUE X; INTEGER RESULT Y);"
          ∷ codes "BEGIN X := X DIV 2; Y := X; WRITE(X, M) END;"
          ∷ codes "N := 9; M := 0; HALVE(N, M); WRITE(N, M) END."
          ∷ []),
      ended 10 (spaced 13 (codes "4               0") ∷ spaced 13 (codes "9               4") ∷ []),
    )
    ∷ (
      plain (codes "BEGIN INTEGER I; INTEGER ARRAY A (1::2);"
          ∷ codes "PROCEDURE P (INTEGER VALUE RESULT X, Y);"
          ∷ codes "BEGIN X := X + 1; Y := Y + 10 END;"
          ∷ codes "I := 1; A(1) := 5; A(2) := 7; P(I, A(I));"
          ∷ codes "WRITE(I, A(1), A(2)) END."
          ∷ []),
      ended 10 (spaced 13 (codes "2               5              15") ∷ []),
    )
    ∷ (
      plain (codes "BEGIN INTEGER ARRAY A (1::2, 1::3);"
          ∷ codes "PROCEDURE FILL (INTEGER ARRAY R (*); INTEGER VALUE N);"
          ∷ codes "FOR I := 1 UNTIL 2 DO R(I) := N * I;"
          ∷ codes "FILL(A(1,*), 1); FILL(A(2,*), 10); FILL(A(*,3), 100);"
          ∷ codes "WRITE(A(1,1), A(1,2), A(1,3)); WRITE(A(2,1), A(2,2), A(2,3)) END."
          ∷ []),
      ended 24 (spaced 13 (codes "1               2             100") ∷ spaced 12 (codes "10              20             200") ∷ []),
    )
    ∷ (
      plain (codes "BEGIN INTEGER ARRAY A (1::2);"
          ∷ codes "PROCEDURE P (INTEGER VALUE X; INTEGER RESULT Y); Y := X;"
          ∷ codes "P(1, A(3)) END."
          ∷ []),
      stopped (codes "FAULT 3 AT 3,1: SUBSCRIPT OUTSIDE BOUNDS") 4
          []
          (spaced 2 (codes "CALL P FROM 3,1") ∷ spaced 4 (codes "X = 1") ∷ spaced 4 (codes "Y = 1") ∷ spaced 2 (codes "BLOCK 1,1") ∷ spaced 4 (codes "A ARRAY (1::2)") ∷ []),
    )
    ∷ []

-- name formals
abbrev pub names_decks : List Row
names_decks = (
  plain (codes "BEGIN INTEGER I; INTEGER ARRAY A (1::2);"
      ∷ codes "PROCEDURE P (INTEGER X, Y);"
      ∷ codes "BEGIN X := X + 1; Y := Y + 10 END;"
      ∷ codes "I := 1; A(1) := 5; A(2) := 7; P(I, A(I));"
      ∷ codes "WRITE(I, A(1), A(2)) END."
      ∷ []),
  ended 14 (spaced 13 (codes "2               5              17") ∷ []),
)
    ∷ (
      plain (codes "BEGIN INTEGER K;"
          ∷ codes "INTEGER PROCEDURE SUM (INTEGER I; INTEGER VALUE N; INTEGER X);"
          ∷ codes "BEGIN INTEGER S; S := 0; I := 1;"
          ∷ codes "WHILE I <= N DO BEGIN S := S + X; I := I + 1 END;"
          ∷ codes "S END;"
          ∷ codes "WRITE(SUM(K, 3, K * K)) END."
          ∷ []),
      ended 32 (spaced 12 (codes "14") ∷ []),
    )
    ∷ (
      plain (codes "BEGIN PROCEDURE BUMP (INTEGER X);"
          ∷ codes "X := X + 1;"
          ∷ codes "BUMP(2 + 2) END."
          ∷ []),
      stopped (codes "FAULT 9 AT 2,1: ASSIGNMENT TO NO VARIABLE") 5
          []
          (spaced 2 (codes "CALL BUMP FROM 3,1") ∷ spaced 4 (codes "X NAME") ∷ spaced 2 (codes "BLOCK 1,1") ∷ []),
    )
    ∷ (
      plain (codes "BEGIN INTEGER Z;"
          ∷ codes "INTEGER PROCEDURE TWICE (INTEGER X);"
          ∷ codes "X + X;"
          ∷ codes "Z := 0; WRITE(TWICE(10 DIV Z)) END."
          ∷ []),
      stopped (codes "FAULT 2 AT 4,9: DIVISION BY ZERO") 5
          []
          (spaced 2 (codes "ACTUAL 4,21") ∷ spaced 2 (codes "CALL TWICE FROM 4,15") ∷ spaced 4 (codes "X NAME") ∷ spaced 2 (codes "BLOCK 1,1") ∷ spaced 4 (codes "Z = 0") ∷ []),
    )
    ∷ []

-- procedure formals and functions
abbrev pub procedures_decks : List Row
procedures_decks = (
  plain (codes "BEGIN"
      ∷ codes "PROCEDURE TWICE (PROCEDURE P); BEGIN P; P END;"
      ∷ codes "PROCEDURE STAR; WRITEON(\"*\");"
      ∷ codes "TWICE(STAR); TWICE(WRITEON(\"+\")) END."
      ∷ []),
  ended 19 (codes "**++" ∷ []),
)
    ∷ (
      plain (codes "BEGIN INTEGER N;"
          ∷ codes "PROCEDURE TABLE (INTEGER PROCEDURE F, G);"
          ∷ codes "FOR I := 1 UNTIL 3 DO BEGIN N := I; WRITE(F(I), G) END;"
          ∷ codes "INTEGER PROCEDURE SQUARE (INTEGER VALUE N); N * N;"
          ∷ codes "TABLE(SQUARE, N * 100) END."
          ∷ []),
      ended 22 (spaced 13 (codes "1             100") ∷ spaced 13 (codes "4             200") ∷ spaced 13 (codes "9             300") ∷ []),
    )
    ∷ (
      plain (codes "BEGIN PROCEDURE P (PROCEDURE Q);"
          ∷ codes "Q(1);"
          ∷ codes "PROCEDURE R; ;"
          ∷ codes "P(R) END."
          ∷ []),
      stopped (codes "FAULT 10 AT 2,1: ACTUALS DO NOT FIT") 4
          []
          (spaced 2 (codes "CALL P FROM 4,1") ∷ spaced 4 (codes "Q PROCEDURE") ∷ spaced 2 (codes "BLOCK 1,1") ∷ []),
    )
    ∷ (
      plain (codes "BEGIN"
          ∷ codes "INTEGER PROCEDURE FAC (INTEGER VALUE N);"
          ∷ codes "IF N = 0 THEN 1 ELSE N * FAC(N - 1);"
          ∷ codes "WRITE(FAC(5)) END."
          ∷ []),
      ended 8 (spaced 11 (codes "120") ∷ []),
    )
    ∷ (
      plain (codes "BEGIN INTEGER N;"
          ∷ codes "INTEGER PROCEDURE NEXT (INTEGER VALUE RESULT X);"
          ∷ codes "BEGIN X := X + 1; N END;"
          ∷ codes "N := 1; WRITE(NEXT(N), N) END."
          ∷ []),
      ended 5 (spaced 13 (codes "1               2") ∷ []),
    )
    ∷ []

-- jumps out of calls, and limits
abbrev pub limits_decks : List Row
limits_decks = (
  plain (codes "BEGIN INTEGER N;"
      ∷ codes "PROCEDURE P (INTEGER VALUE RESULT X; PROCEDURE Q);"
      ∷ codes "BEGIN X := 9; Q; X := 10 END;"
      ∷ codes "N := 1; P(N, GOTO OUT); WRITE(\"NOT HERE\");"
      ∷ codes "OUT: WRITE(N) END."
      ∷ []),
  ended 10 (spaced 13 (codes "1") ∷ []),
)
    ∷ (
      plain (codes "BEGIN"
          ∷ codes "PROCEDURE P (INTEGER VALUE N; PROCEDURE Q);"
          ∷ codes "BEGIN"
          ∷ codes "IF N = 3 THEN Q;"
          ∷ codes "IF N = 1 THEN P(2, GOTO L) ELSE IF N = 2 THEN P(3, Q);"
          ∷ codes "L: WRITE(N) END;"
          ∷ codes "P(1, WRITE(0)) END."
          ∷ []),
      ended 20 (spaced 13 (codes "1") ∷ []),
    )
    ∷ (
      stepping 5 (codes "BEGIN INTEGER N; N := 1;"
          ∷ codes "WHILE N < 4 DO N := N + N;"
          ∷ codes "IF N = 4 THEN WRITE(N) END."
          ∷ []),
      stopped (codes "LIMIT 1 AT 2,1: STEPS") 5
          []
          (spaced 2 (codes "BLOCK 1,1") ∷ spaced 4 (codes "N = 2") ∷ []),
    )
    ∷ (
      plain (codes "BEGIN INTEGER I; INTEGER ARRAY A (1::32766);"
          ∷ codes "I := 1 END."
          ∷ []),
      stopped (codes "LIMIT 3 AT 2,1: STORAGE") 2
          []
          (spaced 2 (codes "BLOCK 1,1") ∷ spaced 4 (codes "I = ?") ∷ spaced 4 (codes "A ARRAY (1::32766)") ∷ []),
    )
    ∷ []

pub record ManualDecksGive : Type 0 where
  pub order : AllGive order_decks
  pub statements : AllGive statements_decks
  pub loops : AllGive loops_decks
  pub values : AllGive values_decks
  pub parameters : AllGive parameters_decks
  pub names : AllGive names_decks
  pub procedures : AllGive procedures_decks
  pub limits : AllGive limits_decks
