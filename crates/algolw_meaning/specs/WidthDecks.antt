-- Decks with widths, each with what its program gives when it is run.
use Rattle.std.specs.Prelude.{List, [], ◌∷◌, codes, ◌++◌}
use Rattle.algolw_meaning.specs.RunRows.{Row, AllGive, plain, fed, printing, stepping, ended, stopped, spaced}

-- what a setting is, and what it holds for
abbrev pub settings_decks : List Row
settings_decks =
    -- until the end of its statement, and no longer
    (
      plain (codes "BEGIN WRITE(I_W := 3, S_W := 0, 7, 12345); WRITE(7) END." ∷ []),
      ended 3 (spaced 2 (codes "712345") ∷ spaced 13 (codes "7") ∷ []),
    )
    -- the variable isn't changed: it shows its own value, in the columns that are set
    ∷ (
      plain (codes "BEGIN WRITE(I_W := 4, I_W, S_W := 0, S_W, I_W); WRITE(I_W, S_W) END." ∷ []),
      ended 3 (spaced 2 (codes "14     2  14") ∷ spaced 12 (codes "14               2") ∷ []),
    )
    -- the last one before a value holds
    ∷ (
      plain (codes "BEGIN WRITE(1, I_W := 3, 2, I_W := 5, 3, S_W := 0, 4, 5, I_W := 1, 6, 7) END." ∷ []),
      ended 2 (spaced 13 (codes "1    2      3      4    567") ∷ []),
    )
    -- one at the end holds for nothing, and none is tested itself
    ∷ (
      plain (codes "BEGIN WRITE(1, I_W := 999); WRITE(I_W := -5, I_W := 4, S_W := 4000, S_W := 1, 7," ∷ codes "8, I_W := 0) END." ∷ []),
      ended 3 (spaced 13 (codes "1") ∷ spaced 3 (codes "7    8") ∷ []),
    )
    -- in parentheses too
    ∷ (
      plain (codes "BEGIN WRITE((I_W := 3), ((S_W := 0)), 1, 2) END." ∷ []),
      ended 2 (spaced 2 (codes "1  2") ∷ []),
    )
    -- an actual of a WRITE that is declared anew is none: it is a statement, which assigns
    ∷ (
      plain (codes "BEGIN PROCEDURE WRITE (PROCEDURE S; INTEGER VALUE N); BEGIN S; WRITEON(N) END;" ∷ codes "WRITE(I_W := 3, 7); WRITEON(I_W) END." ∷ []),
      ended 9 (spaced 2 (codes "7    3") ∷ []),
    )
    -- it is no statement: it takes no step, and is counted on no card
    ∷ (
      plain (codes "BEGIN" ∷ codes "WRITE(" ∷ codes "I_W := 3," ∷ codes "1," ∷ codes "S_W :=" ∷ codes "BEGIN INTEGER K; K := 1; K END," ∷ codes "2)" ∷ codes "END." ∷ []),
      ended 3 (spaced 2 (codes "1    2") ∷ []),
    )
    -- as many steps as the statements
    ∷ (
      stepping 2 (codes "BEGIN WRITE(I_W := 3, S_W := 1 + 0, 7, I_W := 4) END." ∷ []),
      ended 2 (spaced 2 (codes "7") ∷ []),
    )
    ∷ []

-- when a setting is evaluated, and its faults
abbrev pub settings_order_decks : List Row
settings_order_decks =
    -- the first value that is placed begins the line, and no setting before it
    (
      plain (codes "BEGIN INTEGER PROCEDURE F; BEGIN WRITEON(\"F\"); 3 END;" ∷ codes "WRITEON(\"A\"); WRITE(I_W := F, \"B\"); WRITE(I_W := F, F) END." ∷ []),
      ended 10 (codes "AF" ∷ codes "BFF" ∷ spaced 2 (codes "3") ∷ []),
    )
    -- its right part may assign the variable
    ∷ (
      plain (codes "BEGIN WRITE(I_W := BEGIN I_W := 5; 3 END, 7, I_W); WRITE(1) END." ∷ []),
      ended 4 (spaced 2 (codes "7    5") ∷ spaced 4 (codes "1") ∷ []),
    )
    -- and write, by widths of its own
    ∷ (
      plain (codes "BEGIN WRITE(I_W := BEGIN WRITE(S_W := 0, 1, 2); 3 END, 7, 8) END." ∷ []),
      ended 3 (spaced 13 (codes "1             2") ∷ spaced 2 (codes "7    8") ∷ []),
    )
    -- a fault in it is the WRITE's
    ∷ (
      plain (codes "BEGIN INTEGER U; WRITE(\"A\"); WRITE(1, I_W := U, 2) END." ∷ []),
      stopped (codes "FAULT 6 AT 1,30: VALUE UNDEFINED") 3 (codes "A" ∷ spaced 13 (codes "1") ∷ []) (spaced 2 (codes "BLOCK 1,1") ∷ spaced 4 (codes "U = ?") ∷ []),
    )
    -- a jump out of it
    ∷ (
      plain (codes "BEGIN INTEGER K; K := 0; WRITE(I_W := 2, BEGIN L: K := K + 1; K END, I_W :=" ∷ codes "BEGIN IF K < 3 THEN GOTO M; 4 END, K);" ∷ codes "M: K := K + 1; IF K < 4 THEN WRITE(I_W := 3, S_W := 0, K, I_W := BEGIN IF K = 2" ∷ codes "THEN GOTO M; 5 END, K) END." ∷ []),
      ended 15 (spaced 1 (codes "1") ∷ spaced 2 (codes "2") ∷ spaced 2 (codes "3    3") ∷ []),
    )
    -- by a control name
    ∷ (
      plain (codes "BEGIN FOR K := 3 UNTIL 6 DO WRITEON(I_W := K, S_W := 6 - K, K, -K) END." ∷ []),
      ended 10 (spaced 2 (codes "3    -3      4    -4      5    -5      6    -6") ∷ []),
    )
    ∷ []

-- the ranges of widths, which are those of what is placed
abbrev pub ranges_decks : List Row
ranges_decks = (
  plain (codes "BEGIN I_W := 0; WRITE(\"A\"); WRITE(1) END." ∷ []),
  stopped (codes "FAULT 17 AT 1,29: WIDTH OUT OF RANGE") 4 (codes "A" ∷ []) (spaced 2 (codes "BLOCK 1,1") ∷ []),
)
    -- a string asks for none
    ∷ (
      plain (codes "BEGIN I_W := 0; S_W := -1; WRITE(\"AB\", \"CD\"); WRITEON(CODE(65)) END." ∷ []),
      ended 5 (codes "ABCDA" ∷ []),
    )
    -- a truth value and bits ask for blanks alone
    ∷ (
      plain (codes "BEGIN I_W := 0; WRITE(TRUE, #FF, FALSE); S_W := 133; WRITE(\"A\"); WRITE(TRUE)" ∷ codes "END." ∷ []),
      stopped (codes "FAULT 17 AT 1,66: WIDTH OUT OF RANGE") 6 (spaced 2 (codes "TRUE        000000FF   FALSE") ∷ codes "A" ∷ []) (spaced 2 (codes "BLOCK 1,1") ∷ []),
    )
    -- 132 is in range
    ∷ (
      plain (codes "BEGIN WRITE(I_W := 132, S_W := 132, 7, 8); WRITE(S_W := 132, TRUE, TRUE) END." ∷ []),
      ended 3 (spaced 131 (codes "7") ∷ spaced 131 (codes "8") ∷ spaced 2 (codes "TRUE") ∷ spaced 2 (codes "TRUE") ∷ []),
    )
    -- and 133 is not
    ∷ (
      plain (codes "BEGIN WRITE(\"A\"); WRITE(I_W := 133, 7) END." ∷ []),
      stopped (codes "FAULT 17 AT 1,19: WIDTH OUT OF RANGE") 3 (codes "A" ∷ []) (spaced 2 (codes "BLOCK 1,1") ∷ []),
    )
    -- nor are fewer blanks than none
    ∷ (
      plain (codes "BEGIN WRITE(\"A\"); WRITE(S_W := -1, 7) END." ∷ []),
      stopped (codes "FAULT 17 AT 1,19: WIDTH OUT OF RANGE") 3 (codes "A" ∷ []) (spaced 2 (codes "BLOCK 1,1") ∷ []),
    )
    ∷ (
      plain (codes "BEGIN WRITE(\"A\"); WRITEON(S_W := 133, #F) END." ∷ []),
      stopped (codes "FAULT 17 AT 1,19: WIDTH OUT OF RANGE") 3 (codes "A" ∷ []) (spaced 2 (codes "BLOCK 1,1") ∷ []),
    )
    -- widths aren't cut
    ∷ (
      plain (codes "BEGIN WRITE(\"A\"); WRITE(I_W := 65550, 7) END." ∷ []),
      stopped (codes "FAULT 17 AT 1,19: WIDTH OUT OF RANGE") 3 (codes "A" ∷ []) (spaced 2 (codes "BLOCK 1,1") ∷ []),
    )
    ∷ (
      plain (codes "BEGIN WRITE(\"A\"); WRITE(S_W := 258, TRUE) END." ∷ []),
      stopped (codes "FAULT 17 AT 1,19: WIDTH OUT OF RANGE") 3 (codes "A" ∷ []) (spaced 2 (codes "BLOCK 1,1") ∷ []),
    )
    ∷ (
      plain (codes "BEGIN WRITE(\"A\"); I_W := -MAXINTEGER - 1; WRITE(\"B\", 7) END." ∷ []),
      stopped (codes "FAULT 17 AT 1,43: WIDTH OUT OF RANGE") 4 (codes "A" ∷ codes "B" ∷ []) (spaced 2 (codes "BLOCK 1,1") ∷ []),
    )
    ∷ (
      plain (codes "BEGIN WRITE(I_W := 0, S_W := 200, \"A\", 7) END." ∷ []),
      stopped (codes "FAULT 17 AT 1,7: WIDTH OUT OF RANGE") 2 (codes "A" ∷ []) (spaced 2 (codes "BLOCK 1,1") ∷ []),
    )
    ∷ []

-- columns and blanks on lines
abbrev pub widths_layout_decks : List Row
widths_layout_decks = (
  plain (codes "BEGIN I_W := 5; S_W := 1; WRITE(1, 2, TRUE, #F, \"A\"); I_W := 14; S_W := 2;" ∷ codes "WRITE(1, 2) END." ∷ []),
  ended 7 (spaced 4 (codes "1     2   TRUE       0000000F A") ∷ spaced 13 (codes "1               2") ∷ []),
)
    -- an integer with more characters than columns has as many as it needs
    ∷ (
      plain (codes "BEGIN WRITE(I_W := 1, S_W := 1, 123, -45, 0, 6); WRITE(I_W := 11, -MAXINTEGER -" ∷ codes "1, S_W := 0, 1) END." ∷ []),
      ended 3 (codes "123 -45 0 6" ∷ codes "-2147483648            1" ∷ []),
    )
    -- its columns are what has to fit
    ∷ (
      plain (codes "BEGIN WRITE(I_W := 127, S_W := 0, 1, I_W := 5, 2, I_W := 6, 3); WRITEON(I_W :=" ∷ codes "132, S_W := 0, 4) END." ∷ []),
      ended 3 (spaced 126 (codes "1    2") ∷ spaced 5 (codes "3") ∷ spaced 131 (codes "4") ∷ []),
    )
    -- or its characters, where these are more
    ∷ (
      plain (codes "BEGIN WRITE(I_W := 131, S_W := 0, 1, I_W := 1, 2); WRITE(I_W := 131, S_W := 0," ∷ codes "1, I_W := 1, 22) END." ∷ []),
      ended 3 (spaced 130 (codes "12") ∷ spaced 130 (codes "1") ∷ codes "22" ∷ []),
    )
    -- blanks that don't fit are left out
    ∷ (
      plain (codes "BEGIN WRITE(I_W := 130, S_W := 9, 1, \"A\"); WRITE(I_W := 120, S_W := 9, 1, \"ABC\"," ∷ codes "\"D\") END." ∷ []),
      ended 3 (spaced 129 (codes "1") ∷ codes "A" ∷ spaced 119 (codes "1         ABC") ∷ codes "D" ∷ []),
    )
    -- among strings of more than 132 characters
    ∷ (
      plain (codes "BEGIN STRING(140) T; T := \"T\"; T(133|1) := \"U\"; WRITE(I_W := 2, 1, T, S_W := 0," ∷ codes "2, 3); I_W := 1; WRITE(T, 4) END." ∷ []),
      ended 6 (spaced 1 (codes "1") ∷ codes "T" ∷ spaced 1 (codes "U       2 3") ∷ codes "T" ∷ spaced 1 (codes "U      4") ∷ []),
    )
    -- with IOCONTROL(2)
    ∷ (
      plain (codes "BEGIN WRITEON(I_W := 2, S_W := 0, 1, 2); WRITEON(3); IOCONTROL(2); WRITEON(I_W" ∷ codes ":= 2, 4); IOCONTROL(2); IOCONTROL(2); WRITEON(5) END." ∷ []),
      ended 8 (spaced 1 (codes "1 2             3") ∷ spaced 1 (codes "4") ∷ spaced 13 (codes "5") ∷ []),
    )
    ∷ (
      printing 2 (codes "BEGIN WRITE(I_W := 1, S_W := 131, 1, \"A\", I_W := 132, 2) END." ∷ []),
      stopped (codes "LIMIT 2 AT 1,7: LINES") 2 (codes "1" ∷ codes "A" ∷ []) (spaced 2 (codes "BLOCK 1,1") ∷ []),
    )
    ∷ []

-- a value comes first, then its widths, then the line
abbrev pub widths_order_decks : List Row
widths_order_decks =
    -- a fault of the value
    (
      plain (codes "BEGIN I_W := 0; WRITE(1 DIV 0) END." ∷ []),
      stopped (codes "FAULT 2 AT 1,17: DIVISION BY ZERO") 3 [] (spaced 2 (codes "BLOCK 1,1") ∷ []),
    )
    -- a fault of widths where no line is left
    ∷ (
      printing 1 (codes "BEGIN WRITE(1); I_W := 0; WRITE(2) END." ∷ []),
      stopped (codes "FAULT 17 AT 1,27: WIDTH OUT OF RANGE") 4 (spaced 13 (codes "1") ∷ []) (spaced 2 (codes "BLOCK 1,1") ∷ []),
    )
    -- and the limit of lines where there is none
    ∷ (
      printing 1 (codes "BEGIN WRITE(1); I_W := 1; WRITE(2) END." ∷ []),
      stopped (codes "LIMIT 2 AT 1,27: LINES") 4 (spaced 13 (codes "1") ∷ []) (spaced 2 (codes "BLOCK 1,1") ∷ []),
    )
    -- what is not set is taken behind the value
    ∷ (
      plain (codes "BEGIN INTEGER PROCEDURE F (INTEGER VALUE X); BEGIN I_W := X; X END;" ∷ codes "WRITE(F(3), F(5), 7); WRITE(S_W := 0, F(2), S_W, 1) END." ∷ []),
      ended 9 (spaced 2 (codes "3      5      7") ∷ spaced 1 (codes "2 2 1") ∷ []),
    )
    -- what is set stays
    ∷ (
      plain (codes "BEGIN INTEGER PROCEDURE F (INTEGER VALUE X); BEGIN I_W := X; S_W := X; X END;" ∷ codes "WRITE(I_W := 4, F(9), F(1)); WRITE(1, 2) END." ∷ []),
      ended 9 (spaced 3 (codes "9            1") ∷ codes "1 2" ∷ []),
    )
    ∷ (
      plain (codes "BEGIN INTEGER PROCEDURE F (INTEGER VALUE X); BEGIN S_W := X; X END;" ∷ codes "WRITE(I_W := 2, F(0), F(4), F(0), 5) END." ∷ []),
      ended 8 (spaced 1 (codes "0 4     0 5") ∷ []),
    )
    ∷ (
      plain (codes "BEGIN INTEGER PROCEDURE F; BEGIN I_W := 0; 7 END; WRITE(\"A\"); WRITE(\"B\", F) END." ∷ []),
      stopped (codes "FAULT 17 AT 1,63: WIDTH OUT OF RANGE") 5 (codes "A" ∷ codes "B" ∷ []) (spaced 2 (codes "BLOCK 1,1") ∷ []),
    )
    -- AND and OR leave what isn't asked for
    ∷ (
      plain (codes "BEGIN LOGICAL PROCEDURE F; BEGIN S_W := 0; TRUE END; WRITE(FALSE AND F, TRUE OR" ∷ codes "F, TRUE); WRITE(F, TRUE, TRUE) END." ∷ []),
      ended 5 (spaced 1 (codes "FALSE    TRUE    TRUE") ∷ spaced 2 (codes "TRUE  TRUE  TRUE") ∷ []),
    )
    ∷ []

-- a WRITE in a part of another
abbrev pub inner_widths_decks : List Row
inner_widths_decks = (
  plain (codes "BEGIN INTEGER PROCEDURE F; BEGIN WRITE(1, S_W := 0, 2, 3); 9 END;" ∷ codes "WRITE(I_W := 3, S_W := 1, 4, F, 5) END." ∷ []),
  ended 4 (spaced 2 (codes "4") ∷ spaced 13 (codes "1               2             3  9   5") ∷ []),
)
    -- a jump out of a part leaves the statement
    ∷ (
      plain (codes "BEGIN WRITE(\"A\"); WRITE(I_W := 3, S_W := 0, 1, BEGIN I_W := 9; GOTO L; 2 END," ∷ codes "3); L: WRITE(4, 5) END." ∷ []),
      ended 6 (codes "A" ∷ spaced 2 (codes "1") ∷ spaced 8 (codes "4          5") ∷ []),
    )
    -- one within it doesn't
    ∷ (
      plain (codes "BEGIN WRITE(I_W := 3, 1, BEGIN INTEGER K; K := 0; L: K := K + 1; WRITEON(K); IF" ∷ codes "K < 3 THEN GOTO L; K END, 2) END." ∷ []),
      ended 14 (spaced 2 (codes "1               1               2               3    3    2") ∷ []),
    )
    -- nor does one back from a WRITE in it
    ∷ (
      plain (codes "BEGIN PROCEDURE P (PROCEDURE Q); BEGIN INTEGER A, B; WRITEON(S_W := 9, I_W := 1," ∷ codes "BEGIN Q; 0 END) END;" ∷ codes "WRITE(I_W := 5, S_W := 0, 1, BEGIN P(GOTO L); WRITEON(\"NOT\"); L: WRITEON(7); 2" ∷ codes "END, 3); WRITE(4) END." ∷ []),
      ended 11 (spaced 4 (codes "1             7      2    3") ∷ spaced 13 (codes "4") ∷ []),
    )
    -- a function that calls itself
    ∷ (
      plain (codes "BEGIN INTEGER PROCEDURE F (INTEGER VALUE N);" ∷ codes "IF N = 0 THEN 0 ELSE BEGIN WRITE(I_W := N + 1, S_W := N, N, F(N - 1), N); N END;" ∷ codes "WRITE(F(3)) END." ∷ []),
      ended 9 (spaced 3 (codes "3") ∷ spaced 2 (codes "2") ∷ spaced 1 (codes "1  0  1   1    2     2      3") ∷ spaced 13 (codes "3") ∷ []),
    )
    -- the same by name
    ∷ (
      plain (codes "BEGIN PROCEDURE P (INTEGER X, N); WRITE(I_W := N, S_W := 0, X, N, X);" ∷ codes "INTEGER PROCEDURE F; BEGIN P(I_W, 2); 8 END; P(F, 4); WRITE(1) END." ∷ []),
      ended 25 (codes "14 214" ∷ spaced 3 (codes "8   4") ∷ codes "14 214   8" ∷ spaced 13 (codes "1") ∷ []),
    )
    ∷ []

-- I_W and S_W are variables
abbrev pub width_variables_decks : List Row
width_variables_decks =
    -- which begin with 14 and 2
    (
      plain (codes "BEGIN WRITE(I_W, S_W); WRITE(I_W + S_W) END." ∷ []),
      ended 3 (spaced 12 (codes "14               2") ∷ spaced 12 (codes "16") ∷ []),
    )
    -- by name
    ∷ (
      plain (codes "BEGIN PROCEDURE P (INTEGER X); BEGIN WRITE(X); X := X - 9; WRITE(X) END; P(I_W);" ∷ codes "WRITE(I_W); P(S_W) END." ∷ []),
      stopped (codes "FAULT 17 AT 1,60: WIDTH OUT OF RANGE") 22 (spaced 12 (codes "14") ∷ spaced 4 (codes "5") ∷ spaced 4 (codes "5") ∷ spaced 4 (codes "2") ∷ []) (spaced 2 (codes "BLOCK 1,32") ∷ spaced 2 (codes "CALL P FROM 2,13") ∷ spaced 4 (codes "X NAME") ∷ spaced 2 (codes "BLOCK 1,1") ∷ []),
    )
    ∷ (
      plain (codes "BEGIN PROCEDURE P (INTEGER X); X := 3; P(I_W); WRITE(7); P(I_W + 1) END." ∷ []),
      stopped (codes "FAULT 9 AT 1,32: ASSIGNMENT TO NO VARIABLE") 10 (spaced 2 (codes "7") ∷ []) (spaced 2 (codes "CALL P FROM 1,58") ∷ spaced 4 (codes "X NAME") ∷ spaced 2 (codes "BLOCK 1,1") ∷ []),
    )
    -- as RESULT and VALUE RESULT actuals
    ∷ (
      plain (codes "BEGIN PROCEDURE P (INTEGER RESULT X; INTEGER VALUE RESULT Y); BEGIN X := 4; Y :=" ∷ codes "Y - 1; WRITE(1) END;" ∷ codes "P(I_W, S_W); WRITE(1, 2) END." ∷ []),
      ended 8 (spaced 13 (codes "1") ∷ spaced 3 (codes "1    2") ∷ []),
    )
    ∷ (
      plain (codes "BEGIN PROCEDURE P (INTEGER RESULT X; INTEGER VALUE RESULT Y); BEGIN X := 4; Y :=" ∷ codes "Y - 1; WRITE(1) END;" ∷ codes "P(I_W, I_W); WRITE(I_W) END." ∷ []),
      ended 8 (spaced 13 (codes "1") ∷ spaced 11 (codes "13") ∷ []),
    )
    -- a RESULT formal without a value leaves them
    ∷ (
      plain (codes "BEGIN PROCEDURE P (INTEGER RESULT X); ; P(I_W) END." ∷ []),
      stopped (codes "FAULT 6 AT 1,41: VALUE UNDEFINED") 3 [] (spaced 2 (codes "CALL P FROM 1,41") ∷ spaced 4 (codes "X = ?") ∷ spaced 2 (codes "BLOCK 1,1") ∷ []),
    )
    -- in actuals of procedure formals
    ∷ (
      plain (codes "BEGIN PROCEDURE P (PROCEDURE S; INTEGER PROCEDURE E); BEGIN WRITE(E); S;" ∷ codes "WRITE(E) END;" ∷ codes "P(I_W := 3, I_W); P(WRITE(S_W := 9, 1, 2), S_W) END." ∷ []),
      ended 21 (spaced 12 (codes "14") ∷ spaced 2 (codes "3") ∷ spaced 2 (codes "2") ∷ spaced 2 (codes "1           2") ∷ spaced 2 (codes "2") ∷ []),
    )
    ∷ (
      plain (codes "BEGIN PROCEDURE P (INTEGER X); X := X + 1; PROCEDURE R (INTEGER RESULT X); X :=" ∷ codes "6;" ∷ codes "PROCEDURE Q (PROCEDURE F); F(I_W); Q(P); WRITE(1); Q(R); WRITE(1) END." ∷ []),
      ended 15 (spaced 14 (codes "1") ∷ spaced 5 (codes "1") ∷ []),
    )
    -- read
    ∷ (
      fed (codes "4 0" ∷ codes "-7" ∷ []) (codes "BEGIN READ(I_W, S_W); WRITE(1, 2); READON(I_W); WRITE(1) END." ∷ []),
      stopped (codes "FAULT 17 AT 1,49: WIDTH OUT OF RANGE") 5 (spaced 3 (codes "1   2") ∷ []) (spaced 2 (codes "BLOCK 1,1") ∷ []),
    )
    ∷ (
      fed (codes "3" ∷ codes "X" ∷ []) (codes "BEGIN READ(I_W); WRITE(1); READ(S_W) END." ∷ []),
      stopped (codes "FAULT 12 AT 1,28: DATUM ILL FORMED") 4 (spaced 2 (codes "1") ∷ []) (spaced 2 (codes "BLOCK 1,1") ∷ []),
    )
    -- in assignments with more than one left part
    ∷ (
      plain (codes "BEGIN INTEGER J; I_W := J := S_W := 3; WRITE(J, I_W, S_W); J := I_W := S_W + 1;" ∷ codes "WRITE(J, I_W) END." ∷ []),
      ended 5 (spaced 2 (codes "3     3     3") ∷ spaced 3 (codes "4      4") ∷ []),
    )
    -- in bounds, subscripts, CASE and FOR
    ∷ (
      plain (codes "BEGIN INTEGER ARRAY A (S_W::I_W); A(I_W) := 5; WRITE(A(I_W), CASE S_W OF (1, 22," ∷ codes "3));" ∷ codes "FOR K := S_W STEP 6 UNTIL I_W DO BEGIN I_W := I_W + 1; WRITE(K) END END." ∷ []),
      ended 16 (spaced 13 (codes "5              22") ∷ spaced 14 (codes "2") ∷ spaced 15 (codes "8") ∷ spaced 15 (codes "14") ∷ []),
    )
    -- declared anew they can't be named, and still hold
    ∷ (
      plain (codes "BEGIN INTEGER I_W, S_W; I_W := 3; S_W := 0; WRITE(7, 8); WRITE(I_W, S_W) END." ∷ []),
      ended 5 (spaced 13 (codes "7               8") ∷ spaced 13 (codes "3               0") ∷ []),
    )
    ∷ (
      plain (codes "BEGIN PROCEDURE SET (INTEGER VALUE N); I_W := N;" ∷ codes "BEGIN INTEGER I_W; I_W := 1; SET(4); WRITE(7, I_W) END; WRITE(I_W) END." ∷ []),
      ended 8 (spaced 3 (codes "7     1") ∷ spaced 3 (codes "4") ∷ []),
    )
    -- they are in no dump
    ∷ (
      plain (codes "BEGIN INTEGER K; PROCEDURE P (INTEGER X; INTEGER VALUE Y); BEGIN X := Y; ASSERT" ∷ codes "FALSE END; K := 1; P(I_W, S_W) END." ∷ []),
      stopped (codes "FAULT 13 AT 1,74: ASSERTION FALSE") 8 [] (spaced 2 (codes "BLOCK 1,60") ∷ spaced 2 (codes "CALL P FROM 2,20") ∷ spaced 4 (codes "X NAME") ∷ spaced 4 (codes "Y = 2") ∷ spaced 2 (codes "BLOCK 1,1") ∷ spaced 4 (codes "K = 1") ∷ []),
    )
    ∷ (
      plain (codes "BEGIN PROCEDURE P (INTEGER X); WRITE(X); S_W := 0; P((I_W) DIV S_W) END." ∷ []),
      stopped (codes "FAULT 2 AT 1,52: DIVISION BY ZERO") 6 [] (spaced 2 (codes "ACTUAL 1,55") ∷ spaced 2 (codes "CALL P FROM 1,52") ∷ spaced 4 (codes "X NAME") ∷ spaced 2 (codes "BLOCK 1,1") ∷ []),
    )
    ∷ []

pub record WidthDecksGive : Type 0 where
  pub settings : AllGive settings_decks
  pub settings_order : AllGive settings_order_decks
  pub ranges : AllGive ranges_decks
  pub widths_layout : AllGive widths_layout_decks
  pub widths_order : AllGive widths_order_decks
  pub inner_widths : AllGive inner_widths_decks
  pub width_variables : AllGive width_variables_decks
