-- Decks, each with what its program gives when it is run: procedures, their formals, limits and dumps.
use Rattle.std.specs.Prelude.{List, [], ◌∷◌, codes}
use Rattle.algolw_meaning.specs.RunRows.{Row, AllGive, plain, fed, printing, stepping, fed_stepping, ended, stopped, spaced, times}

-- VALUE, RESULT and VALUE RESULT formals
abbrev pub modes_decks : List Row
modes_decks =
    -- a name formal against VALUE RESULT: what is assigned back goes to the place that the actual then names
    (
      plain (codes "BEGIN INTEGER I; INTEGER ARRAY A (1::2);" ∷ codes "PROCEDURE N (INTEGER X, Y); BEGIN X := X + 1; Y := Y + 10 END;" ∷ codes "PROCEDURE V (INTEGER VALUE RESULT X, Y);" ∷ codes "BEGIN X := X + 1; Y := Y + 10 END;" ∷ codes "I := 1; A(1) := 5; A(2) := 7; N(I, A(I)); WRITE(I, A(1), A(2));" ∷ codes "I := 1; A(1) := 5; A(2) := 7; V(I, A(I)); WRITE(I, A(1), A(2))" ∷ codes "END." ∷ []),
      ended 23 (spaced 13 (codes "2               5              17") ∷ spaced 13 (codes "2               5              15") ∷ []),
    )
    -- a VALUE formal is a variable of its own
    ∷ (
      plain (codes "BEGIN INTEGER I; PROCEDURE P (INTEGER VALUE X); BEGIN X := X + 1; WRITE(X) END;" ∷ codes "I := 1; P(I); WRITE(I) END." ∷ []),
      ended 8 (spaced 13 (codes "2") ∷ spaced 13 (codes "1") ∷ []),
    )
    -- a RESULT formal has no value at first
    ∷ (
      plain (codes "BEGIN INTEGER I; PROCEDURE P (INTEGER RESULT X); WRITE(X);" ∷ codes "I := 1; P(I) END." ∷ []),
      stopped (codes "FAULT 6 AT 1,50: VALUE UNDEFINED") 5 [] (spaced 2 (codes "CALL P FROM 2,9") ∷ spaced 4 (codes "X = ?") ∷ spaced 2 (codes "BLOCK 1,1") ∷ spaced 4 (codes "I = 1") ∷ []),
    )
    -- a RESULT formal that was never set can't be assigned back: the fault is the call's, which is still under way
    ∷ (
      plain (codes "BEGIN INTEGER I; PROCEDURE P (INTEGER RESULT X);; I := 1; P(I) END." ∷ []),
      stopped (codes "FAULT 6 AT 1,59: VALUE UNDEFINED") 4 [] (spaced 2 (codes "CALL P FROM 1,59") ∷ spaced 4 (codes "X = ?") ∷ spaced 2 (codes "BLOCK 1,1") ∷ spaced 4 (codes "I = 1") ∷ []),
    )
    -- the actual's place is found before the formal is read, and not before the body
    ∷ (
      plain (codes "BEGIN INTEGER ARRAY A (1::2); PROCEDURE P (INTEGER RESULT X); WRITE(1);" ∷ codes "P(A(3)) END." ∷ []),
      stopped (codes "FAULT 3 AT 2,1: SUBSCRIPT OUTSIDE BOUNDS") 4 (spaced 13 (codes "1") ∷ []) (spaced 2 (codes "CALL P FROM 2,1") ∷ spaced 4 (codes "X = ?") ∷ spaced 2 (codes "BLOCK 1,1") ∷ spaced 4 (codes "A ARRAY (1::2)") ∷ []),
    )
    ∷ []

-- assigning back: which place, in what order, and into which type
abbrev pub assigning_back_decks : List Row
assigning_back_decks =
    -- assigning back to a formal that stands for no variable: the use is counted first
    (
      plain (codes "BEGIN PROCEDURE Q (INTEGER RESULT Y); Y := 3;" ∷ codes "PROCEDURE P (INTEGER X); Q(X);" ∷ codes "P(1 + 1) END." ∷ []),
      stopped (codes "FAULT 9 AT 2,26: ASSIGNMENT TO NO VARIABLE") 7 [] (spaced 2 (codes "CALL Q FROM 2,26") ∷ spaced 4 (codes "Y = 3") ∷ spaced 2 (codes "CALL P FROM 3,1") ∷ spaced 4 (codes "X NAME") ∷ spaced 2 (codes "BLOCK 1,1") ∷ []),
    )
    -- the same with a value, which is one use more
    ∷ (
      plain (codes "BEGIN PROCEDURE Q (INTEGER VALUE RESULT Y); Y := Y + 1;" ∷ codes "PROCEDURE P (INTEGER X); Q(X);" ∷ codes "P(1 + 1) END." ∷ []),
      stopped (codes "FAULT 9 AT 2,26: ASSIGNMENT TO NO VARIABLE") 8 [] (spaced 2 (codes "CALL Q FROM 2,26") ∷ spaced 4 (codes "Y = 3") ∷ spaced 2 (codes "CALL P FROM 3,1") ∷ spaced 4 (codes "X NAME") ∷ spaced 2 (codes "BLOCK 1,1") ∷ []),
    )
    -- a function's value is worked out before anything is assigned back
    ∷ (
      plain (codes "BEGIN INTEGER I;" ∷ codes "INTEGER PROCEDURE F (INTEGER RESULT X); BEGIN X := 5; I + 1 END;" ∷ codes "I := 1; WRITE(F(I), I) END." ∷ []),
      ended 5 (spaced 13 (codes "2               5") ∷ []),
    )
    -- and is made into its type before: this fault is that of the statement round the declaration
    ∷ (
      plain (codes "BEGIN RECORD C (INTEGER V); RECORD D (INTEGER W); REFERENCE(C, D) U; INTEGER I;" ∷ codes "REFERENCE(C) PROCEDURE F (INTEGER RESULT X); U;" ∷ codes "U := D(1); U := F(I) END." ∷ []),
      stopped (codes "FAULT 8 AT 1,1: WRONG RECORD CLASS") 4 [] (spaced 2 (codes "CALL F FROM 3,17") ∷ spaced 4 (codes "X = ?") ∷ spaced 2 (codes "BLOCK 1,1") ∷ spaced 4 (codes "U = D.1") ∷ spaced 4 (codes "I = ?") ∷ []),
    )
    -- values are made into the type that they are given to, both ways
    ∷ (
      plain (codes "BEGIN STRING(5) S; PROCEDURE P (STRING(2) RESULT X; STRING(5) VALUE Y);" ∷ codes "BEGIN X := \"Z\"; WRITE(Y, \"!\") END;" ∷ codes "P(S, \"AB\"); WRITE(S, \"!\") END." ∷ []),
      ended 7 (codes "AB   !" ∷ codes "Z    !" ∷ []),
    )
    -- a record of another class for a VALUE formal: before the call is counted, and no call is shown
    ∷ (
      plain (codes "BEGIN RECORD C (INTEGER V); RECORD D (INTEGER W); REFERENCE(C, D) U;" ∷ codes "PROCEDURE P (REFERENCE(C) VALUE X);; U := D(1); P(U) END." ∷ []),
      stopped (codes "FAULT 8 AT 2,49: WRONG RECORD CLASS") 3 [] (spaced 2 (codes "BLOCK 1,1") ∷ spaced 4 (codes "U = D.1") ∷ []),
    )
    ∷ []

-- name formals: the actual is copied, and evaluated at each use
abbrev pub names_decks : List Row
names_decks =
    -- the sum of the squares of 1 to 10
    (
      plain (codes "BEGIN" ∷ codes "INTEGER PROCEDURE SUM (INTEGER I; INTEGER VALUE N; INTEGER X);" ∷ codes "BEGIN INTEGER S; S := 0; I := 1;" ∷ codes "WHILE I <= N DO BEGIN S := S + X; I := I + 1 END;" ∷ codes "S END;" ∷ codes "INTEGER K;" ∷ codes "WRITE(SUM(K, 10, K * K))" ∷ codes "END." ∷ []),
      ended 88 (spaced 11 (codes "385") ∷ []),
    )
    -- names in an actual keep the meaning that they have at the call
    ∷ (
      plain (codes "BEGIN INTEGER X;" ∷ codes "PROCEDURE P (INTEGER Y); BEGIN INTEGER X; X := 5; Y := X + Y END;" ∷ codes "X := 1; P(X); WRITE(X) END." ∷ []),
      ended 10 (spaced 13 (codes "6") ∷ []),
    )
    -- the value is made into the formal's type
    ∷ (
      plain (codes "BEGIN PROCEDURE P (STRING(4) X); WRITE(X, \"!\"); P(\"AB\") END." ∷ []),
      ended 5 (codes "AB  !" ∷ []),
    )
    -- a part of a string as an actual that is assigned
    ∷ (
      plain (codes "BEGIN STRING(3) S; PROCEDURE P (STRING(2) X); X := \"Z\"; S := \"ABC\"; " ∷ codes "P(S(0|2)); WRITE(S) END." ∷ []),
      ended 7 (codes "Z C" ∷ []),
    )
    -- a record of another class: the fault is the use's, and the actual is left
    ∷ (
      plain (codes "BEGIN RECORD C (INTEGER V); RECORD D (INTEGER W); REFERENCE(C, D) U;" ∷ codes "PROCEDURE P (REFERENCE(C) X); WRITE(X = NULL);" ∷ codes "U := D(1); P(U) END." ∷ []),
      stopped (codes "FAULT 8 AT 2,31: WRONG RECORD CLASS") 6 [] (spaced 2 (codes "CALL P FROM 3,12") ∷ spaced 4 (codes "X NAME") ∷ spaced 2 (codes "BLOCK 1,1") ∷ spaced 4 (codes "U = D.1") ∷ []),
    )
    -- a procedure formal is no variable, though its actual is one
    ∷ (
      plain (codes "BEGIN INTEGER I; PROCEDURE P (INTEGER X); X := 1;" ∷ codes "PROCEDURE Q (INTEGER PROCEDURE F); P(F); Q(I) END." ∷ []),
      stopped (codes "FAULT 9 AT 1,43: ASSIGNMENT TO NO VARIABLE") 7 [] (spaced 2 (codes "CALL P FROM 2,36") ∷ spaced 4 (codes "X NAME") ∷ spaced 2 (codes "CALL Q FROM 2,42") ∷ spaced 4 (codes "F PROCEDURE") ∷ spaced 2 (codes "BLOCK 1,1") ∷ spaced 4 (codes "I = ?") ∷ []),
    )
    -- a name in a name: each use of X uses all before it
    ∷ (
      plain (codes "BEGIN INTEGER PROCEDURE G (INTEGER X; INTEGER VALUE N);" ∷ codes "IF N = 0 THEN X ELSE G(X + 1, N - 1);" ∷ codes "WRITE(G(1, 3)) END." ∷ []),
      ended 10 (spaced 13 (codes "4") ∷ []),
    )
    -- a procedure formal as the actual of a name formal is the phrase that calls it: that its actuals don't fit
    -- is found where it is used
    ∷ (
      plain (codes "BEGIN PROCEDURE P (INTEGER X); WRITE(X);" ∷ codes "PROCEDURE Q (INTEGER PROCEDURE F); P(F);" ∷ codes "INTEGER PROCEDURE G (INTEGER VALUE N); N;" ∷ codes "Q(G) END." ∷ []),
      stopped (codes "FAULT 10 AT 2,36: ACTUALS DO NOT FIT") 7 [] (spaced 2 (codes "ACTUAL 2,38") ∷ spaced 2 (codes "CALL P FROM 2,36") ∷ spaced 4 (codes "X NAME") ∷ spaced 2 (codes "CALL Q FROM 4,1") ∷ spaced 4 (codes "F PROCEDURE") ∷ spaced 2 (codes "BLOCK 1,1") ∷ []),
    )
    ∷ []

-- procedure formals: a procedure, a statement or an expression as the actual
abbrev pub procedure_formals_decks : List Row
procedure_formals_decks =
    -- a statement
    (
      plain (codes "BEGIN INTEGER I; PROCEDURE TWICE (PROCEDURE S); BEGIN S; S END;" ∷ codes "I := 0; TWICE(I := I + 1); WRITE(I) END." ∷ []),
      ended 12 (spaced 13 (codes "2") ∷ []),
    )
    -- an expression
    ∷ (
      plain (codes "BEGIN INTEGER I; PROCEDURE P (INTEGER PROCEDURE F); WRITE(F + F);" ∷ codes "I := 2; P(I + 1) END." ∷ []),
      ended 7 (spaced 13 (codes "6") ∷ []),
    )
    -- a procedure: a use is a call of it, and no copied actual
    ∷ (
      plain (codes "BEGIN PROCEDURE P (INTEGER PROCEDURE F); WRITE(F(3) + F(4));" ∷ codes "INTEGER PROCEDURE SQ (INTEGER VALUE N); N * N;" ∷ codes "P(SQ) END." ∷ []),
      ended 6 (spaced 12 (codes "25") ∷ []),
    )
    -- what is assigned back through a procedure formal
    ∷ (
      plain (codes "BEGIN INTEGER I; PROCEDURE P (PROCEDURE Q); Q(I);" ∷ codes "PROCEDURE R (INTEGER VALUE RESULT X); X := X * 2; I := 3; P(R); WRITE(I) END." ∷ []),
      ended 8 (spaced 13 (codes "6") ∷ []),
    )
    -- a procedure stands for itself where its block was entered: each call of A has a K and a B of its own
    ∷ (
      plain (codes "BEGIN" ∷ codes "INTEGER PROCEDURE A (INTEGER VALUE K; INTEGER PROCEDURE X1, X2, X3, X4, X5);" ∷ codes "BEGIN INTEGER PROCEDURE B;" ∷ codes "BEGIN K := K - 1; A(K, B, X1, X2, X3, X4) END;" ∷ codes "IF K <= 0 THEN X4 + X5 ELSE B END;" ∷ codes "WRITE(A(7, 1, -1, -1, 1, 0))" ∷ codes "END." ∷ []),
      ended 269 (spaced 12 (codes "-1") ∷ []),
    )
    ∷ []

-- a call through a procedure formal compares its actuals with the formals first
abbrev pub fitting_decks : List Row
fitting_decks =
    -- a number of actuals that doesn't fit
    (
      plain (codes "BEGIN PROCEDURE P (PROCEDURE Q); Q(1); PROCEDURE R;; P(R) END." ∷ []),
      stopped (codes "FAULT 10 AT 1,34: ACTUALS DO NOT FIT") 4 [] (spaced 2 (codes "CALL P FROM 1,54") ∷ spaced 4 (codes "Q PROCEDURE") ∷ spaced 2 (codes "BLOCK 1,1") ∷ []),
    )
    -- a statement has no formals: this is found before a step is counted for its use
    ∷ (
      plain (codes "BEGIN PROCEDURE P (PROCEDURE Q); Q(1); P(WRITE(1)) END." ∷ []),
      stopped (codes "FAULT 10 AT 1,34: ACTUALS DO NOT FIT") 4 [] (spaced 2 (codes "CALL P FROM 1,40") ∷ spaced 4 (codes "Q PROCEDURE") ∷ spaced 2 (codes "BLOCK 1,1") ∷ []),
    )
    -- a type that doesn't fit: found before the actuals are evaluated
    ∷ (
      plain (codes "BEGIN PROCEDURE P (PROCEDURE Q); Q(1 DIV 0 = 1);" ∷ codes "PROCEDURE R (INTEGER VALUE N);; P(R) END." ∷ []),
      stopped (codes "FAULT 10 AT 1,34: ACTUALS DO NOT FIT") 4 [] (spaced 2 (codes "CALL P FROM 2,33") ∷ spaced 4 (codes "Q PROCEDURE") ∷ spaced 2 (codes "BLOCK 1,1") ∷ []),
    )
    -- no variable for what is assigned back
    ∷ (
      plain (codes "BEGIN PROCEDURE P (PROCEDURE Q); Q(1 + 1);" ∷ codes "PROCEDURE R (INTEGER RESULT N); N := 1; P(R) END." ∷ []),
      stopped (codes "FAULT 10 AT 1,34: ACTUALS DO NOT FIT") 4 [] (spaced 2 (codes "CALL P FROM 2,41") ∷ spaced 4 (codes "Q PROCEDURE") ∷ spaced 2 (codes "BLOCK 1,1") ∷ []),
    )
    -- an array of as many dimensions fits, and one of another number doesn't
    ∷ (
      plain (codes "BEGIN INTEGER ARRAY A (1::2); INTEGER ARRAY B (1::2,1::2);" ∷ codes "PROCEDURE P (PROCEDURE Q); BEGIN Q(A); Q(B(1,*)); Q(B) END;" ∷ codes "PROCEDURE R (INTEGER ARRAY X (*)); X(1) := 1; P(R) END." ∷ []),
      stopped (codes "FAULT 10 AT 2,51: ACTUALS DO NOT FIT") 11 [] (spaced 2 (codes "BLOCK 2,28") ∷ spaced 2 (codes "CALL P FROM 3,47") ∷ spaced 4 (codes "Q PROCEDURE") ∷ spaced 2 (codes "BLOCK 1,1") ∷ spaced 4 (codes "A ARRAY (1::2)") ∷ spaced 4 (codes "B ARRAY (1::2,1::2)") ∷ []),
    )
    -- a function's name is a procedure only for a procedure formal; for any other it is the phrase that calls it, and no variable
    ∷ (
      plain (codes "BEGIN PROCEDURE P (PROCEDURE Q); Q(G); INTEGER PROCEDURE G; 2;" ∷ codes "PROCEDURE S (INTEGER VALUE X); WRITE(X);" ∷ codes "PROCEDURE R (INTEGER X); BEGIN WRITE(X); X := 1 END;" ∷ codes "P(S); P(R) END." ∷ []),
      stopped (codes "FAULT 9 AT 3,42: ASSIGNMENT TO NO VARIABLE") 17 (spaced 13 (codes "2") ∷ spaced 13 (codes "2") ∷ []) (spaced 2 (codes "BLOCK 3,26") ∷ spaced 2 (codes "CALL R FROM 1,34") ∷ spaced 4 (codes "X NAME") ∷ spaced 2 (codes "CALL P FROM 4,7") ∷ spaced 4 (codes "Q PROCEDURE") ∷ spaced 2 (codes "BLOCK 1,1") ∷ []),
    )
    -- a procedure formal that is handed on stands for its own actual, and hands it on as it is: an expression whose type
    -- fits, and is made into the first formal's type alone; a procedure, whose type must be the same
    ∷ (
      plain (codes "BEGIN PROCEDURE R (STRING(5) PROCEDURE G); WRITE(G, \"!\");" ∷ codes "PROCEDURE P (PROCEDURE Q; STRING(4) PROCEDURE F); Q(F);" ∷ codes "STRING(4) PROCEDURE H; \"AB\";" ∷ codes "P(R, \"AB\"); P(R, H) END." ∷ []),
      stopped (codes "FAULT 10 AT 2,51: ACTUALS DO NOT FIT") 10 (codes "AB  !" ∷ []) (spaced 2 (codes "CALL P FROM 4,13") ∷ spaced 4 (codes "Q PROCEDURE") ∷ spaced 4 (codes "F PROCEDURE") ∷ spaced 2 (codes "BLOCK 1,1") ∷ []),
    )
    ∷ []

-- procedures that call themselves and each other
abbrev pub recursion_decks : List Row
recursion_decks = (
  plain (codes "BEGIN INTEGER PROCEDURE F (INTEGER VALUE N); IF N = 0 THEN 1 ELSE N * F(N - 1);" ∷ codes "WRITE(F(5)) END." ∷ []),
  ended 8 (spaced 11 (codes "120") ∷ []),
)
    -- names may be used before their declaration
    ∷ (
      plain (codes "BEGIN LOGICAL PROCEDURE EVEN (INTEGER VALUE N);" ∷ codes "IF N = 0 THEN TRUE ELSE UNEVEN(N - 1);" ∷ codes "LOGICAL PROCEDURE UNEVEN (INTEGER VALUE N);" ∷ codes "IF N = 0 THEN FALSE ELSE EVEN(N - 1);" ∷ codes "WRITE(EVEN(4)) END." ∷ []),
      ended 7 (spaced 2 (codes "TRUE") ∷ []),
    )
    -- each call has variables of its own
    ∷ (
      plain (codes "BEGIN PROCEDURE P (INTEGER VALUE N);" ∷ codes "BEGIN INTEGER X; X := N; IF N > 0 THEN P(N - 1); WRITEON(X) END;" ∷ codes "P(2) END." ∷ []),
      ended 19 (spaced 13 (codes "0               1               2") ∷ []),
    )
    -- a procedure within a procedure means the variables of its own call
    ∷ (
      plain (codes "BEGIN PROCEDURE P (INTEGER VALUE N; PROCEDURE Q);" ∷ codes "BEGIN INTEGER X; PROCEDURE R; WRITEON(X); X := N;" ∷ codes "IF N = 1 THEN BEGIN Q; R END ELSE P(N - 1, R) END;" ∷ codes "P(2, WRITE(0)) END." ∷ []),
      ended 18 (spaced 13 (codes "2               1") ∷ []),
    )
    ∷ []

-- the limit of steps
abbrev pub step_limits_decks : List Row
step_limits_decks =
    -- just enough steps
    (
      stepping 50 (codes "BEGIN INTEGER I; I := 0;" ∷ codes "WHILE I < 23 DO I := I + 1;" ∷ codes "WRITE(I) END." ∷ []),
      ended 50 (spaced 12 (codes "23") ∷ []),
    )
    -- one too few: what would be the next step isn't done
    ∷ (
      stepping 49 (codes "BEGIN INTEGER I; I := 0;" ∷ codes "WHILE I < 23 DO I := I + 1;" ∷ codes "WRITE(I) END." ∷ []),
      stopped (codes "LIMIT 1 AT 3,1: STEPS") 49 [] (spaced 2 (codes "BLOCK 1,1") ∷ spaced 4 (codes "I = 23") ∷ []),
    )
    -- a turn is its loop's step, and the turn before has ended
    ∷ (
      stepping 4 (codes "BEGIN FOR I := 1 UNTIL 9 DO WRITEON(I) END." ∷ []),
      stopped (codes "LIMIT 1 AT 1,7: STEPS") 4 (spaced 13 (codes "1") ∷ []) (spaced 2 (codes "BLOCK 1,1") ∷ []),
    )
    -- a use of an actual is a step of the statement that uses it
    ∷ (
      stepping 4 (codes "BEGIN PROCEDURE P (INTEGER X); WRITE(X); P(1) END." ∷ []),
      stopped (codes "LIMIT 1 AT 1,32: STEPS") 4 [] (spaced 2 (codes "CALL P FROM 1,42") ∷ spaced 4 (codes "X NAME") ∷ spaced 2 (codes "BLOCK 1,1") ∷ []),
    )
    -- records without end
    ∷ (
      fed_stepping (codes "1 2 3" ∷ []) 20 (codes "BEGIN RECORD C (INTEGER V); REFERENCE(C) R; INTEGER I;" ∷ codes "READ(I);" ∷ codes "WHILE TRUE DO R := C(1) END." ∷ []),
      stopped (codes "LIMIT 1 AT 3,15: STEPS") 20 [] (spaced 2 (codes "BLOCK 1,1") ∷ spaced 4 (codes "R = C.8") ∷ spaced 4 (codes "I = 1") ∷ []),
    )
    -- a loop without end
    ∷ (
      plain (codes "BEGIN WHILE TRUE DO END." ∷ []),
      stopped (codes "LIMIT 1 AT 1,7: STEPS") 10000 [] (spaced 2 (codes "BLOCK 1,1") ∷ []),
    )
    ∷ []

-- limits of lines and of records
abbrev pub other_limits_decks : List Row
other_limits_decks =
    -- a string may begin two lines; the integer has no room behind it, and would begin a third
    (
      printing 2 (codes "BEGIN STRING(256) S; S := \"A\"; S(255|1) := \"Z\"; WRITEON(S); WRITEON(7) END." ∷ []),
      stopped (codes "LIMIT 2 AT 1,61: LINES") 5 (codes "A" ∷ spaced 123 (codes "Z") ∷ []) (spaced 2 (codes "BLOCK 1,1") ∷ spaced 4 (codes "S = \"A") ∷ []),
    )
    -- each line counts when it is begun
    ∷ (
      printing 2 (codes "BEGIN WRITE(1); WRITE(2); WRITE(3) END." ∷ []),
      stopped (codes "LIMIT 2 AT 1,27: LINES") 4 (spaced 13 (codes "1") ∷ spaced 13 (codes "2") ∷ []) (spaced 2 (codes "BLOCK 1,1") ∷ []),
    )
    ∷ (
      printing 3 (codes "BEGIN WRITE(1); WRITE(2); WRITE(3) END." ∷ []),
      ended 4 (spaced 13 (codes "1") ∷ spaced 13 (codes "2") ∷ spaced 13 (codes "3") ∷ []),
    )
    -- a hundred and twenty-eight records of as many fields: there is room for no other field
    ∷ (
      plain (codes "BEGIN RECORD C (INTEGER A0, A1, A2, A3, A4, A5, A6, A7, A8, A9, A10, A11, A12," ∷ codes "A13, A14, A15, A16, A17, A18, A19, A20, A21, A22, A23, A24, A25, A26, A27, A28," ∷ codes "A29, A30, A31, A32, A33, A34, A35, A36, A37, A38, A39, A40, A41, A42, A43, A44," ∷ codes "A45, A46, A47, A48, A49, A50, A51, A52, A53, A54, A55, A56, A57, A58, A59, A60," ∷ codes "A61, A62, A63, A64, A65, A66, A67, A68, A69, A70, A71, A72, A73, A74, A75, A76," ∷ codes "A77, A78, A79, A80, A81, A82, A83, A84, A85, A86, A87, A88, A89, A90, A91, A92," ∷ codes "A93, A94, A95, A96, A97, A98, A99, A100, A101, A102, A103, A104, A105, A106," ∷ codes "A107, A108, A109, A110, A111, A112, A113, A114, A115, A116, A117, A118, A119," ∷ codes "A120, A121, A122, A123, A124, A125, A126, A127);" ∷ codes "REFERENCE(C) R;" ∷ codes "WHILE TRUE DO R := C END." ∷ []),
      stopped (codes "LIMIT 5 AT 11,15: RECORDS") 260 [] (spaced 2 (codes "BLOCK 1,1") ∷ spaced 4 (codes "R = C.128") ∷ []),
    )
    ∷ []

-- storage: 32,768 cells may be live, most of them an array's
abbrev pub array_cells_decks : List Row
array_cells_decks =
    -- an array takes a cell and one for each element
    (
      plain (codes "BEGIN INTEGER ARRAY A (1::32767); END." ∷ []),
      ended 1 [],
    )
    ∷ (
      plain (codes "BEGIN INTEGER ARRAY A (1::32768); END." ∷ []),
      stopped (codes "LIMIT 3 AT 1,1: STORAGE") 1 [] (spaced 2 (codes "BLOCK 1,1") ∷ []),
    )
    ∷ (
      plain (codes "BEGIN INTEGER ARRAY A (-2147483647::2147483647); END." ∷ []),
      stopped (codes "LIMIT 3 AT 1,1: STORAGE") 1 [] (spaced 2 (codes "BLOCK 1,1") ∷ []),
    )
    -- the number of elements is computed without bound
    ∷ (
      plain (codes "BEGIN INTEGER ARRAY A (1::MAXINTEGER,1::MAXINTEGER,1::MAXINTEGER," ∷ codes "1::MAXINTEGER,1::MAXINTEGER,1::MAXINTEGER," ∷ codes "1::MAXINTEGER,1::MAXINTEGER);" ∷ codes "END." ∷ []),
      stopped (codes "LIMIT 3 AT 1,1: STORAGE") 1 [] (spaced 2 (codes "BLOCK 1,1") ∷ []),
    )
    ∷ (
      plain (codes "BEGIN INTEGER ARRAY A (1::MAXINTEGER,1::MAXINTEGER,1::MAXINTEGER," ∷ codes "1::MAXINTEGER,1::MAXINTEGER,1::MAXINTEGER," ∷ codes "1::MAXINTEGER,1::0);" ∷ codes "END." ∷ []),
      ended 1 [],
    )
    -- a block gives its cells back
    ∷ (
      plain (codes "BEGIN BEGIN INTEGER ARRAY A (1::32766); END;" ∷ codes "BEGIN INTEGER ARRAY B (1::32766); WRITE(1) END END." ∷ []),
      ended 4 (spaced 13 (codes "1") ∷ []),
    )
    -- so does a FOR
    ∷ (
      plain (codes "BEGIN INTEGER ARRAY A (1::32764); FOR I := 1 UNTIL 2 DO WRITE(I);" ∷ codes "FOR I := 3 UNTIL 3 DO WRITE(I) END." ∷ []),
      ended 9 (spaced 13 (codes "1") ∷ spaced 13 (codes "2") ∷ spaced 13 (codes "3") ∷ []),
    )
    -- variables take their cells name by name
    ∷ (
      plain (codes "BEGIN INTEGER ARRAY A (1::32766); INTEGER X, Y; END." ∷ []),
      stopped (codes "LIMIT 3 AT 1,1: STORAGE") 1 [] (spaced 2 (codes "BLOCK 1,1") ∷ spaced 4 (codes "A ARRAY (1::32766)") ∷ spaced 4 (codes "X = ?") ∷ []),
    )
    ∷ []

-- cells of operands, formals, loops and assignments
abbrev pub cells_decks : List Row
cells_decks =
    -- a value that is used at once takes no cell, a left operand does
    (
      plain (codes "BEGIN INTEGER ARRAY A (1::32767); WRITE(1); WRITE(1 + 1) END." ∷ []),
      stopped (codes "LIMIT 3 AT 1,45: STORAGE") 3 (spaced 13 (codes "1") ∷ []) (spaced 2 (codes "BLOCK 1,1") ∷ spaced 4 (codes "A ARRAY (1::32767)") ∷ []),
    )
    -- a formal takes its cell when its actual's value is there, and gives it back at the call's end
    ∷ (
      plain (codes "BEGIN INTEGER ARRAY A (1::32766); PROCEDURE P (INTEGER VALUE X);; P(1 + 1);" ∷ codes "P(2) END." ∷ []),
      ended 5 [],
    )
    -- a function's value takes a cell, though nothing is assigned back; the limit is met at the body
    ∷ (
      plain (codes "BEGIN INTEGER ARRAY A (1::32767);" ∷ codes "INTEGER PROCEDURE F; 1;" ∷ codes "WRITE(F) END." ∷ []),
      stopped (codes "LIMIT 3 AT 1,1: STORAGE") 3 [] (spaced 2 (codes "CALL F FROM 3,7") ∷ spaced 2 (codes "BLOCK 1,1") ∷ spaced 4 (codes "A ARRAY (1::32767)") ∷ []),
    )
    -- the limit of a FOR takes its cell before a step of zero is a fault
    ∷ (
      plain (codes "BEGIN INTEGER ARRAY A (1::32765); FOR I := 1 STEP 0 UNTIL 1 DO END." ∷ []),
      stopped (codes "LIMIT 3 AT 1,35: STORAGE") 2 [] (spaced 2 (codes "BLOCK 1,1") ∷ spaced 4 (codes "A ARRAY (1::32765)") ∷ []),
    )
    -- with one cell more there is that fault
    ∷ (
      plain (codes "BEGIN INTEGER ARRAY A (1::32764); FOR I := 1 STEP 0 UNTIL 1 DO END." ∷ []),
      stopped (codes "FAULT 14 AT 1,35: STEP ZERO") 2 [] (spaced 2 (codes "BLOCK 1,1") ∷ spaced 4 (codes "A ARRAY (1::32764)") ∷ []),
    )
    -- a target of READ takes no cell, the left part of an assignment does
    ∷ (
      fed (codes "5" ∷ []) (codes "BEGIN INTEGER ARRAY A (1::32766); INTEGER I; READ(I); WRITE(I); I := 1 END." ∷ []),
      stopped (codes "LIMIT 3 AT 1,65: STORAGE") 4 (spaced 13 (codes "5") ∷ []) (spaced 2 (codes "BLOCK 1,1") ∷ spaced 4 (codes "A ARRAY (1::32766)") ∷ spaced 4 (codes "I = 5") ∷ []),
    )
    -- assigning back takes no cell
    ∷ (
      fed (codes "5" ∷ []) (codes "BEGIN INTEGER ARRAY A (1::32765); INTEGER I;" ∷ codes "PROCEDURE P (INTEGER RESULT X); READ(X); P(I); WRITE(I) END." ∷ []),
      ended 5 (spaced 13 (codes "5") ∷ []),
    )
    -- a jump gives back the cells that were taken since its block was made: with 3 cells left, a FOR has room,
    -- and another has room behind a jump out of it
    ∷ (
      plain (codes "BEGIN INTEGER ARRAY A (1::32764);" ∷ codes "FOR I := 1 UNTIL 1 DO GOTO L;" ∷ codes "L: FOR I := 1 UNTIL 1 DO WRITE(I) END." ∷ []),
      ended 7 (spaced 13 (codes "1") ∷ []),
    )
    ∷ []

-- cells that are held while something else is evaluated
abbrev pub held_cells_decks : List Row
held_cells_decks =
    -- the element of a list holds a cell for its turn
    (
      plain (codes "BEGIN INTEGER ARRAY A (1::32766); FOR I := 1, 2 DO WRITE(I);" ∷ codes "FOR I := 3 DO WRITE(I + 1) END." ∷ []),
      stopped (codes "LIMIT 3 AT 2,15: STORAGE") 9 (spaced 13 (codes "1") ∷ spaced 13 (codes "2") ∷ []) (spaced 2 (codes "FOR 2,1") ∷ spaced 4 (codes "I = 3") ∷ spaced 2 (codes "BLOCK 1,1") ∷ spaced 4 (codes "A ARRAY (1::32766)") ∷ []),
    )
    -- a subscript
    ∷ (
      plain (codes "BEGIN INTEGER ARRAY A (1::32766); A(1) := 1; WRITE(A(1)); WRITE(1 + A(1)) END." ∷ []),
      stopped (codes "LIMIT 3 AT 1,59: STORAGE") 4 (spaced 13 (codes "1") ∷ []) (spaced 2 (codes "BLOCK 1,1") ∷ spaced 4 (codes "A ARRAY (1::32766)") ∷ []),
    )
    -- each subscript of a subarray
    ∷ (
      plain (codes "BEGIN INTEGER ARRAY A (1::1,1::1,1::32766); PROCEDURE P (INTEGER ARRAY R (*));;" ∷ codes "P(A(1,1,*)) END." ∷ []),
      stopped (codes "LIMIT 3 AT 2,1: STORAGE") 2 [] (spaced 2 (codes "BLOCK 1,1") ∷ spaced 4 (codes "A ARRAY (1::1,1::1,1::32766)") ∷ []),
    )
    -- each field of a record
    ∷ (
      plain (codes "BEGIN INTEGER ARRAY A (1::32764); RECORD C (INTEGER V, W); REFERENCE(C) R;" ∷ codes "R := C; R := C(1, 2) END." ∷ []),
      stopped (codes "LIMIT 3 AT 2,9: STORAGE") 3 [] (spaced 2 (codes "BLOCK 1,1") ∷ spaced 4 (codes "A ARRAY (1::32764)") ∷ spaced 4 (codes "R = C.1") ∷ []),
    )
    -- the string of which a part is read
    ∷ (
      fed (codes "\"AB\"" ∷ []) (codes "BEGIN INTEGER ARRAY A (1::32766); STRING(2) S; READ(S); WRITE(S);" ∷ codes "WRITE(S(0|1)) END." ∷ []),
      stopped (codes "LIMIT 3 AT 2,1: STORAGE") 4 (codes "AB" ∷ []) (spaced 2 (codes "BLOCK 1,1") ∷ spaced 4 (codes "A ARRAY (1::32766)") ∷ spaced 4 (codes "S = \"AB\"") ∷ []),
    )
    -- the left side of a relation
    ∷ (
      plain (codes "BEGIN INTEGER ARRAY A (1::32767); WRITE(TRUE); WRITE(1 = 1) END." ∷ []),
      stopped (codes "LIMIT 3 AT 1,48: STORAGE") 3 (spaced 2 (codes "TRUE") ∷ []) (spaced 2 (codes "BLOCK 1,1") ∷ spaced 4 (codes "A ARRAY (1::32767)") ∷ []),
    )
    -- bounds, until all of a declaration are there
    ∷ (
      plain (codes "BEGIN INTEGER ARRAY A (1::32766); BEGIN INTEGER ARRAY B (1::0);" ∷ codes "WRITE(1) END END." ∷ []),
      stopped (codes "LIMIT 3 AT 1,35: STORAGE") 2 [] (spaced 2 (codes "BLOCK 1,35") ∷ spaced 2 (codes "BLOCK 1,1") ∷ spaced 4 (codes "A ARRAY (1::32766)") ∷ []),
    )
    ∷ (
      plain (codes "BEGIN INTEGER ARRAY A (1::32765); BEGIN INTEGER ARRAY B (1::0);" ∷ codes "WRITE(1) END END." ∷ []),
      ended 3 (spaced 13 (codes "1") ∷ []),
    )
    ∷ []

-- calls and actuals under way: 2,000 may be
abbrev pub depth_decks : List Row
depth_decks = (
  plain (codes "BEGIN PROCEDURE P; P; P END." ∷ []),
  stopped (codes "LIMIT 4 AT 1,20: DEPTH") 4003 [] (times 40 (spaced 2 (codes "CALL P FROM 1,20") ∷ [])),
)
    ∷ (
      plain (codes "BEGIN INTEGER PROCEDURE F (INTEGER X); F(X + 1); WRITE(F(1)) END." ∷ []),
      stopped (codes "LIMIT 4 AT 1,1: DEPTH") 2003 [] (times 20 (spaced 2 (codes "CALL F FROM 1,40") ∷ spaced 4 (codes "X NAME") ∷ [])),
    )
    -- the call that would be one too many is counted, but isn't under way
    ∷ (
      plain (codes "BEGIN INTEGER N; INTEGER PROCEDURE H; 1;" ∷ codes "INTEGER PROCEDURE G; BEGIN N := N + 1; IF N = 2000 THEN H ELSE G END;" ∷ codes "N := 0; WRITE(G) END." ∷ []),
      stopped (codes "LIMIT 4 AT 1,1: DEPTH") 4004 [] (times 20 (spaced 2 (codes "BLOCK 2,22") ∷ spaced 2 (codes "CALL G FROM 2,64") ∷ [])),
    )
    ∷ []

-- an actual in an actual: 2,000 of them and of calls may be under way
abbrev pub deep_actual_decks : List Row
deep_actual_decks =
    -- 900 uses of X within each other
    (
      plain (codes "BEGIN INTEGER PROCEDURE G (INTEGER X; INTEGER VALUE N);" ∷ codes "IF N = 0 THEN X ELSE G(X + 1, N - 1);" ∷ codes "WRITE(G(1, 900)) END." ∷ []),
      ended 1804 (spaced 11 (codes "901") ∷ []),
    )
    -- a use of X within a use of X, a thousand deep
    ∷ (
      plain (codes "BEGIN INTEGER PROCEDURE G (INTEGER X; INTEGER VALUE N);" ∷ codes "IF N = 0 THEN X ELSE G(X + 1, N - 1);" ∷ codes "WRITE(G(1, 1000)) END." ∷ []),
      stopped (codes "LIMIT 4 AT 1,1: DEPTH") 2003 [] (times 40 (spaced 2 (codes "ACTUAL 2,24") ∷ [])),
    )
    ∷ []

-- what is shown of a run that was stopped
abbrev pub dumps_decks : List Row
dumps_decks =
    -- values of each type
    (
      plain (codes "BEGIN INTEGER I; LOGICAL L; BITS B; STRING(3) S; INTEGER ARRAY A (-1::2,0::3);" ∷ codes "RECORD C (INTEGER V); REFERENCE(C) R, Q; INTEGER U;" ∷ codes "I := -5; L := FALSE; B := #1F; S := \"\"\"A\"; R := C(1); Q := NULL;" ∷ codes "ASSERT FALSE END." ∷ []),
      stopped (codes "FAULT 13 AT 4,1: ASSERTION FALSE") 8 [] (spaced 2 (codes "BLOCK 1,1") ∷ spaced 4 (codes "I = -5") ∷ spaced 4 (codes "L = FALSE") ∷ spaced 4 (codes "B = #0000001F") ∷ spaced 4 (codes "S = \"\"\"A \"") ∷ spaced 4 (codes "A ARRAY (-1::2,0::3)") ∷ spaced 4 (codes "R = C.1") ∷ spaced 4 (codes "Q = NULL") ∷ spaced 4 (codes "U = ?") ∷ []),
    )
    -- each kind of entry, the innermost first; the fault of an actual is that of the statement in which it stands
    ∷ (
      plain (codes "BEGIN INTEGER N;" ∷ codes "PROCEDURE P (INTEGER X; INTEGER VALUE Y; INTEGER RESULT Z;" ∷ codes "INTEGER ARRAY R (*); PROCEDURE Q);" ∷ codes "BEGIN INTEGER K; FOR J := 7 DO K := X END;" ∷ codes "INTEGER ARRAY A (1::2);" ∷ codes "N := 3; P((N) DIV 0, 4, N, A, GOTO L);" ∷ codes "L: END." ∷ []),
      stopped (codes "FAULT 2 AT 6,9: DIVISION BY ZERO") 9 [] (spaced 2 (codes "ACTUAL 6,12") ∷ spaced 2 (codes "FOR 4,18") ∷ spaced 4 (codes "J = 7") ∷ spaced 2 (codes "BLOCK 4,1") ∷ spaced 4 (codes "K = ?") ∷ spaced 2 (codes "CALL P FROM 6,9") ∷ spaced 4 (codes "X NAME") ∷ spaced 4 (codes "Y = 4") ∷ spaced 4 (codes "Z = ?") ∷ spaced 4 (codes "R ARRAY (1::2)") ∷ spaced 4 (codes "Q PROCEDURE") ∷ spaced 2 (codes "BLOCK 1,1") ∷ spaced 4 (codes "N = 3") ∷ spaced 4 (codes "A ARRAY (1::2)") ∷ []),
    )
    -- names are shown as far as they are made
    ∷ (
      plain (codes "BEGIN INTEGER X; INTEGER ARRAY A (1::2); INTEGER Y;" ∷ codes "INTEGER ARRAY B (1::1 DIV 0); INTEGER Z; END." ∷ []),
      stopped (codes "FAULT 2 AT 1,1: DIVISION BY ZERO") 1 [] (spaced 2 (codes "BLOCK 1,1") ∷ spaced 4 (codes "X = ?") ∷ spaced 4 (codes "A ARRAY (1::2)") ∷ spaced 4 (codes "Y = ?") ∷ []),
    )
    -- a block that is entered while a place is evaluated in assigning back stands above its call, which is still under way
    ∷ (
      plain (codes "BEGIN INTEGER ARRAY A (1::2); PROCEDURE P (INTEGER RESULT X); X := 1;" ∷ codes "P(A(BEGIN INTEGER K; K := 0; 1 DIV K END)) END." ∷ []),
      stopped (codes "FAULT 2 AT 2,1: DIVISION BY ZERO") 5 [] (spaced 2 (codes "BLOCK 2,5") ∷ spaced 4 (codes "K = 0") ∷ spaced 2 (codes "CALL P FROM 2,1") ∷ spaced 4 (codes "X = 1") ∷ spaced 2 (codes "BLOCK 1,1") ∷ spaced 4 (codes "A ARRAY (1::2)") ∷ []),
    )
    -- a line is cut at 132 columns, and its last blanks are dropped
    ∷ (
      plain (codes "BEGIN STRING(200) S; S := \"A\"; ASSERT FALSE END." ∷ []),
      stopped (codes "FAULT 13 AT 1,32: ASSERTION FALSE") 3 [] (spaced 2 (codes "BLOCK 1,1") ∷ spaced 4 (codes "S = \"A") ∷ []),
    )
    -- a formal that stands for a formal: each use is an entry
    ∷ (
      plain (codes "BEGIN PROCEDURE Q (INTEGER Y); WRITE(Y); PROCEDURE P (INTEGER X); Q(X);" ∷ codes "P(1 DIV 0) END." ∷ []),
      stopped (codes "FAULT 2 AT 2,1: DIVISION BY ZERO") 8 [] (spaced 2 (codes "ACTUAL 2,3") ∷ spaced 2 (codes "ACTUAL 1,69") ∷ spaced 2 (codes "CALL Q FROM 1,67") ∷ spaced 4 (codes "Y NAME") ∷ spaced 2 (codes "CALL P FROM 2,1") ∷ spaced 4 (codes "X NAME") ∷ spaced 2 (codes "BLOCK 1,1") ∷ []),
    )
    ∷ []

pub record CallingDecksGive : Type 0 where
  pub modes : AllGive modes_decks
  pub assigning_back : AllGive assigning_back_decks
  pub names : AllGive names_decks
  pub procedure_formals : AllGive procedure_formals_decks
  pub fitting : AllGive fitting_decks
  pub recursion : AllGive recursion_decks
  pub step_limits : AllGive step_limits_decks
  pub other_limits : AllGive other_limits_decks
  pub array_cells : AllGive array_cells_decks
  pub cells : AllGive cells_decks
  pub held_cells : AllGive held_cells_decks
  pub depth : AllGive depth_decks
  pub deep_actual : AllGive deep_actual_decks
  pub dumps : AllGive dumps_decks
