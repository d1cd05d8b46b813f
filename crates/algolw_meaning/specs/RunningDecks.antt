-- Decks, each with what its program gives when it is run: statements, values and data.
use Rattle.std.specs.Prelude.{List, [], ◌∷◌, codes, ◌++◌}
use Rattle.algolw_meaning.specs.RunRows.{Row, AllGive, plain, fed, stepping, ended, stopped, spaced}

-- what is printed: a width for each type, and 132 columns to a line
abbrev pub output_decks : List Row
output_decks = (
  plain (codes "BEGIN WRITE(2 + 2) END." ∷ []),
  ended 2 (spaced 13 (codes "4") ∷ []),
)
    -- an integer, a truth value and bits are followed by two blanks, a string by nothing
    ∷ (
      plain (codes "BEGIN WRITE(1, TRUE, #F, \"AB\", -2, FALSE) END." ∷ []),
      ended 2 (spaced 13 (codes "1    TRUE        0000000F  AB            -2   FALSE") ∷ []),
    )
    -- WRITEON goes on with the open line; IOCONTROL(2) closes it, and does nothing where none is open; other arguments do nothing
    ∷ (
      plain (codes "BEGIN IOCONTROL(2); WRITEON(\"A\"); WRITEON(\"B\"); IOCONTROL(2); IOCONTROL(2);" ∷ codes "WRITEON(\"C\"); WRITE(\"D\"); IOCONTROL(9); IOCONTROL(-2); WRITEON(\"E\") END." ∷ []),
      ended 11 (codes "AB" ∷ codes "C" ∷ codes "DE" ∷ []),
    )
    -- eight integers fill a line, and the ninth begins another
    ∷ (
      plain (codes "BEGIN WRITE(1, 2, 3, 4, 5, 6, 7, 8, 9) END." ∷ []),
      ended 2 (spaced 13 (codes "1               2               3               4               5               6               7               8") ∷ spaced 13 (codes "9") ∷ []),
    )
    -- behind a value that ends in the last column no blanks are left
    ∷ (
      plain (codes "BEGIN STRING(118) S; S := \"A\"; WRITE(S, 1, \"X\") END." ∷ []),
      ended 3 ((codes "A" ++ spaced 130 (codes "1")) ∷ codes "X" ∷ []),
    )
    -- a string of more than 132 characters begins a line of its own, which its first 132 characters fill
    ∷ (
      plain (codes "BEGIN STRING(140) S; S(133|1) := \"Z\"; WRITEON(\"A\"); WRITEON(S) END." ∷ []),
      ended 4 (codes "A" ∷ [] ∷ codes " Z" ∷ []),
    )
    ∷ []

-- integers: results in range, and division towards zero
abbrev pub integers_decks : List Row
integers_decks = (
  plain (codes "BEGIN" ∷ codes "WRITE(-7 DIV 2, -7 REM 2);" ∷ codes "WRITE((-MAXINTEGER - 1) DIV (-1))" ∷ codes "END." ∷ []),
  stopped (codes "FAULT 1 AT 3,1: INTEGER OVERFLOW") 3 (spaced 12 (codes "-3              -1") ∷ []) (spaced 2 (codes "BLOCK 1,1") ∷ []),
)
    -- the remainder of the least integer by -1 is 0, though the quotient is out of range
    ∷ (
      plain (codes "BEGIN WRITE((-MAXINTEGER - 1) REM (-1), 7 REM (-2), (-7) REM 2, (-7) DIV 2);" ∷ codes "WRITE(2 + 3 * 4 - 1, 7 - 2 - 1, -2 * 3 + 1, ABS (-5) * 2) END." ∷ []),
      ended 3 (spaced 13 (codes "0               1              -1              -3") ∷ spaced 12 (codes "13               4              -5              10") ∷ []),
    )
    ∷ (
      plain (codes "BEGIN INTEGER I; I := MAXINTEGER + 1 END." ∷ []),
      stopped (codes "FAULT 1 AT 1,18: INTEGER OVERFLOW") 2 [] (spaced 2 (codes "BLOCK 1,1") ∷ spaced 4 (codes "I = ?") ∷ []),
    )
    ∷ (
      plain (codes "BEGIN WRITE(ABS (-MAXINTEGER - 1)) END." ∷ []),
      stopped (codes "FAULT 1 AT 1,7: INTEGER OVERFLOW") 2 [] (spaced 2 (codes "BLOCK 1,1") ∷ []),
    )
    ∷ (
      plain (codes "BEGIN WRITE(1 REM 0) END." ∷ []),
      stopped (codes "FAULT 2 AT 1,7: DIVISION BY ZERO") 2 [] (spaced 2 (codes "BLOCK 1,1") ∷ []),
    )
    -- the left operand's fault comes before the right operand's
    ∷ (
      plain (codes "BEGIN INTEGER I; WRITE(MAXINTEGER * 2 + I) END." ∷ []),
      stopped (codes "FAULT 1 AT 1,18: INTEGER OVERFLOW") 2 [] (spaced 2 (codes "BLOCK 1,1") ∷ spaced 4 (codes "I = ?") ∷ []),
    )
    -- a value that was never given
    ∷ (
      plain (codes "BEGIN INTEGER I; WRITE(I) END." ∷ []),
      stopped (codes "FAULT 6 AT 1,18: VALUE UNDEFINED") 2 [] (spaced 2 (codes "BLOCK 1,1") ∷ spaced 4 (codes "I = ?") ∷ []),
    )
    ∷ []

-- truth values, bits, and the standard functions
abbrev pub truth_and_bits_decks : List Row
truth_and_bits_decks =
    -- of AND and OR of truth values the right operand is evaluated only where it is needed
    (
      plain (codes "BEGIN WRITE(FALSE AND 1 DIV 0 = 1, TRUE OR 1 DIV 0 = 1, ~TRUE OR TRUE, ~(2 < 1))" ∷ codes "END." ∷ []),
      ended 2 (codes " FALSE    TRUE    TRUE    TRUE" ∷ []),
    )
    -- of bits both operands are evaluated
    ∷ (
      plain (codes "BEGIN BITS B; WRITE(#0 AND B) END." ∷ []),
      stopped (codes "FAULT 6 AT 1,15: VALUE UNDEFINED") 2 [] (spaced 2 (codes "BLOCK 1,1") ∷ spaced 4 (codes "B = ?") ∷ []),
    )
    -- a shift by 32 or more leaves nothing; zeros come in on both sides
    ∷ (
      plain (codes "BEGIN WRITE(#F SHL 32, #FF AND #0F, (~#0) SHR 28, #F0 OR #1, ~#F SHR 1);" ∷ codes "WRITE(BITSTRING(-1), NUMBER(#80000000), NUMBER(#FFFFFFFF)) END." ∷ []),
      ended 3 (spaced 6 (codes "00000000        0000000F        0000000F        000000F1        FFFFFFF8") ∷ spaced 6 (codes "FFFFFFFF     -2147483648              -1") ∷ []),
    )
    ∷ (
      plain (codes "BEGIN WRITE(#F SHL (-1)) END." ∷ []),
      stopped (codes "FAULT 15 AT 1,7: SHIFT NEGATIVE") 2 [] (spaced 2 (codes "BLOCK 1,1") ∷ []),
    )
    ∷ (
      plain (codes "BEGIN WRITE(ODD(-3), ODD(0), CODE(65), DECODE(\"a\"), ABS (-MAXINTEGER), -(-5))" ∷ codes "END." ∷ []),
      ended 2 (spaced 2 (codes "TRUE   FALSE  A            97      2147483647               5") ∷ []),
    )
    -- what was printed before a fault stays
    ∷ (
      plain (codes "BEGIN WRITE(\"A\", CODE(126), CODE(127)) END." ∷ []),
      stopped (codes "FAULT 16 AT 1,7: CODE OUTSIDE RANGE") 2 (codes "A~" ∷ []) (spaced 2 (codes "BLOCK 1,1") ∷ []),
    )
    ∷ (
      plain (codes "BEGIN WRITE(CODE(31)) END." ∷ []),
      stopped (codes "FAULT 16 AT 1,7: CODE OUTSIDE RANGE") 2 [] (spaced 2 (codes "BLOCK 1,1") ∷ []),
    )
    ∷ []

-- strings and their parts
abbrev pub strings_decks : List Row
strings_decks = (
  plain (codes "BEGIN STRING(16) S; S := \"AB\";" ∷ codes "WRITE(S = \"AB  \", \"\"\"Q\"\"\", S(0|2), CODE(65));" ∷ codes "S(15|1) := \"Z\"; WRITEON(S(15|1));" ∷ codes "S(16|1) := \"Z\" END." ∷ []),
  stopped (codes "FAULT 4 AT 4,1: PLACE OUTSIDE STRING") 6 (spaced 2 (codes "TRUE  \"Q\"ABAZ") ∷ []) (spaced 2 (codes "BLOCK 1,1") ∷ spaced 4 (codes "S = \"AB             Z\"") ∷ []),
)
    -- a part of a part; the value that is assigned is the one at the right end, filled with blanks for each left part
    ∷ (
      plain (codes "BEGIN STRING(5) A; STRING(3) B; B := A := \"AB\"; WRITE(A, \"!\", B, \"!\");" ∷ codes "A(1|3)(1|1) := \"Z\"; WRITE(A) END." ∷ []),
      ended 5 (codes "AB   !AB !" ∷ codes "ABZ" ∷ []),
    )
    -- a part of a string without a value is assigned: its other characters are blanks
    ∷ (
      plain (codes "BEGIN STRING(3) S; S(1|1) := \"X\"; WRITE(S, \"!\") END." ∷ []),
      ended 3 (codes " X !" ∷ []),
    )
    -- strings are ordered by their codes, the shorter one filled with blanks
    ∷ (
      plain (codes "BEGIN WRITE(\"A\" < \"a\", \"AB\" > \"A\", \"A \" = \"A\", \"Z\" < \"AA\", \"9\" < \"A\", \"A\" <" ∷ codes "\"A!\") END." ∷ []),
      ended 2 (spaced 2 (codes "TRUE    TRUE    TRUE   FALSE    TRUE    TRUE") ∷ []),
    )
    -- parts of what functions and procedure formals give
    ∷ (
      plain (codes "BEGIN STRING(3) PROCEDURE F; \"ABC\"; STRING(3) PROCEDURE G (INTEGER VALUE N);" ∷ codes "CODE(64 + N);" ∷ codes "PROCEDURE P (STRING(3) PROCEDURE H); WRITE(H(1|2), \"!\");" ∷ codes "WRITE(F(1|2), G(2)(0|2), \"!\"); P(\"XYZ\"); P(F) END." ∷ []),
      ended 12 (codes "BCB !" ∷ codes "YZ!" ∷ codes "BC!" ∷ []),
    )
    -- parts of elements and of fields
    ∷ (
      plain (codes "BEGIN STRING(3) ARRAY A (1::2); RECORD C (STRING(3) S); REFERENCE(C) R;" ∷ codes "R := C(\"ABC\"); A(2) := \"XYZ\"; S(R)(1|1) := A(2)(2|1); A(2)(0|2) := S(R)(1|1);" ∷ codes "WRITE(S(R), A(2)) END." ∷ []),
      ended 6 (codes "AZCZ Z" ∷ []),
    )
    ∷ []

-- parts of strings: where they lie, and in what order they are found
abbrev pub string_parts_decks : List Row
string_parts_decks =
    -- the string of which a part is read must have a value before the part's place is evaluated
    (
      plain (codes "BEGIN STRING(4) S; STRING(1) T; T := S(1 DIV 0|1) END." ∷ []),
      stopped (codes "FAULT 6 AT 1,33: VALUE UNDEFINED") 2 [] (spaced 2 (codes "BLOCK 1,1") ∷ spaced 4 (codes "S = ?") ∷ spaced 4 (codes "T = ?") ∷ []),
    )
    -- where a part is assigned, the string needs none
    ∷ (
      plain (codes "BEGIN STRING(4) S; S(1 DIV 0|1) := \"X\" END." ∷ []),
      stopped (codes "FAULT 2 AT 1,20: DIVISION BY ZERO") 2 [] (spaced 2 (codes "BLOCK 1,1") ∷ spaced 4 (codes "S = ?") ∷ []),
    )
    -- the string of which a part is assigned is found before the part's place is evaluated: here a formal
    -- that stands for a string of another length
    ∷ (
      plain (codes "BEGIN STRING(3) S; PROCEDURE P (STRING(4) X); X(1 DIV 0|1) := \"Z\"; P(S) END." ∷ []),
      stopped (codes "FAULT 9 AT 1,47: ASSIGNMENT TO NO VARIABLE") 5 [] (spaced 2 (codes "CALL P FROM 1,68") ∷ spaced 4 (codes "X NAME") ∷ spaced 2 (codes "BLOCK 1,1") ∷ spaced 4 (codes "S = ?") ∷ []),
    )
    ∷ (
      plain (codes "BEGIN STRING(4) S; S := \"ABCD\"; WRITE(S(3|1)); WRITE(S(-1|1)) END." ∷ []),
      stopped (codes "FAULT 4 AT 1,48: PLACE OUTSIDE STRING") 4 (codes "D" ∷ []) (spaced 2 (codes "BLOCK 1,1") ∷ spaced 4 (codes "S = \"ABCD\"") ∷ []),
    )
    -- a part of a part lies within that part, though the whole string would have room for it
    ∷ (
      plain (codes "BEGIN STRING(8) S; S := \"ABCDEFGH\"; WRITE(S(2|4)(1|2)); WRITE(S(2|4)(3|2)) END." ∷ []),
      stopped (codes "FAULT 4 AT 1,57: PLACE OUTSIDE STRING") 4 (codes "DE" ∷ []) (spaced 2 (codes "BLOCK 1,1") ∷ spaced 4 (codes "S = \"ABCDEFGH\"") ∷ []),
    )
    -- the same where it is assigned
    ∷ (
      plain (codes "BEGIN STRING(8) S; S := \"ABCDEFGH\"; S(2|4)(2|2) := \"X\"; S(2|4)(3|2) := \"YY\" END." ∷ []),
      stopped (codes "FAULT 4 AT 1,57: PLACE OUTSIDE STRING") 4 [] (spaced 2 (codes "BLOCK 1,1") ∷ spaced 4 (codes "S = \"ABCDX GH\"") ∷ []),
    )
    ∷ []

-- assignment: all left parts with all their faults, then the value, then the last left part first
abbrev pub assignments_decks : List Row
assignments_decks =
    -- a left part has all its faults before the value is evaluated: a reference that is NULL
    (
      plain (codes "BEGIN RECORD C (INTEGER V); REFERENCE(C) R; R := NULL; V(R) := 1 DIV 0 END." ∷ []),
      stopped (codes "FAULT 7 AT 1,56: REFERENCE NULL") 3 [] (spaced 2 (codes "BLOCK 1,1") ∷ spaced 4 (codes "R = NULL") ∷ []),
    )
    -- a record of another class
    ∷ (
      plain (codes "BEGIN RECORD C (INTEGER V); RECORD D (INTEGER W); REFERENCE(C, D) U;" ∷ codes "U := D(1); V(U) := 1 DIV 0 END." ∷ []),
      stopped (codes "FAULT 8 AT 2,12: WRONG RECORD CLASS") 3 [] (spaced 2 (codes "BLOCK 1,1") ∷ spaced 4 (codes "U = D.1") ∷ []),
    )
    -- a subscript outside its bounds
    ∷ (
      plain (codes "BEGIN INTEGER ARRAY A (1::2); A(3) := 1 DIV 0 END." ∷ []),
      stopped (codes "FAULT 3 AT 1,31: SUBSCRIPT OUTSIDE BOUNDS") 2 [] (spaced 2 (codes "BLOCK 1,1") ∷ spaced 4 (codes "A ARRAY (1::2)") ∷ []),
    )
    -- a place outside its string
    ∷ (
      plain (codes "BEGIN STRING(2) S; S(2|1) := CODE(1 DIV 0) END." ∷ []),
      stopped (codes "FAULT 4 AT 1,20: PLACE OUTSIDE STRING") 2 [] (spaced 2 (codes "BLOCK 1,1") ∷ spaced 4 (codes "S = ?") ∷ []),
    )
    -- the last left part is assigned first, so the first one is what stays
    ∷ (
      plain (codes "BEGIN STRING(3) S; S := S(1|1) := \"B\"; WRITE(S, \"!\") END." ∷ []),
      ended 3 (codes "B  !" ∷ []),
    )
    -- the left parts are found before anything is assigned
    ∷ (
      plain (codes "BEGIN INTEGER I; INTEGER ARRAY A (1::2); I := 1; A(I) := I := 2;" ∷ codes "WRITE(A(1), I) END." ∷ []),
      ended 4 (spaced 13 (codes "2               2") ∷ []),
    )
    -- each left part gets its value made and tested as it is assigned: the one behind was assigned before this fault
    ∷ (
      plain (codes "BEGIN RECORD C (INTEGER V); RECORD D (INTEGER W); REFERENCE(C) R;" ∷ codes "REFERENCE(C, D) U, X; X := D(5); R := U := X END." ∷ []),
      stopped (codes "FAULT 8 AT 2,34: WRONG RECORD CLASS") 3 [] (spaced 2 (codes "BLOCK 1,1") ∷ spaced 4 (codes "R = ?") ∷ spaced 4 (codes "U = D.1") ∷ spaced 4 (codes "X = D.1") ∷ []),
    )
    -- parentheses belong to no statement's place
    ∷ (
      plain (codes "BEGIN INTEGER X; (X) := 1 DIV 0 END." ∷ []),
      stopped (codes "FAULT 2 AT 1,19: DIVISION BY ZERO") 2 [] (spaced 2 (codes "BLOCK 1,1") ∷ spaced 4 (codes "X = ?") ∷ []),
    )
    ∷ []

-- the order of evaluation: a function that prints its argument tells when it is called
abbrev pub order_decks : List Row
order_decks =
    -- operands from left to right
    (
      plain (codes "BEGIN INTEGER PROCEDURE F (INTEGER VALUE N);" ∷ codes "BEGIN WRITEON(N); N END;" ∷ codes "WRITE(F(1) + F(2) * F(3) - F(4)) END." ∷ []),
      ended 10 (spaced 13 (codes "1               2               3               4") ∷ spaced 13 (codes "3") ∷ []),
    )
    -- the sides of a relation, and both operands of bits
    ∷ (
      plain (codes "BEGIN INTEGER PROCEDURE F (INTEGER VALUE N);" ∷ codes "BEGIN WRITEON(N); N END;" ∷ codes "WRITE(F(1) < F(2), BITSTRING(F(3)) OR BITSTRING(F(4))) END." ∷ []),
      ended 10 (spaced 13 (codes "1               2") ∷ spaced 2 (codes "TRUE               3               4        00000007") ∷ []),
    )
    -- left parts with their subscripts, then the value
    ∷ (
      plain (codes "BEGIN INTEGER ARRAY A (1::9,1::9);" ∷ codes "INTEGER PROCEDURE F (INTEGER VALUE N);" ∷ codes "BEGIN WRITEON(N); N END;" ∷ codes "A(F(1),F(2)) := A(F(3),F(4)) := F(5);" ∷ codes "WRITE(A(1,2), A(3,4)) END." ∷ []),
      ended 13 (spaced 13 (codes "1               2               3               4               5") ∷ spaced 13 (codes "5               5") ∷ []),
    )
    -- actuals from left to right: values, and the subscripts of subarrays; a name formal's actual isn't evaluated;
    -- the place of what is assigned back is evaluated once more behind the body
    ∷ (
      plain (codes "BEGIN INTEGER ARRAY A (1::3,1::3);" ∷ codes "INTEGER PROCEDURE F (INTEGER VALUE N);" ∷ codes "BEGIN WRITEON(N); N END;" ∷ codes "PROCEDURE P (INTEGER VALUE X; INTEGER ARRAY R (*); INTEGER Y;" ∷ codes "INTEGER VALUE RESULT Z); WRITEON(9);" ∷ codes "A(1,2) := 7; P(F(1), A(F(2),*), F(3), A(F(1),F(2))) END." ∷ []),
      ended 17 (spaced 13 (codes "1               2               1               2               9               1               2") ∷ []),
    )
    -- WRITE evaluates its first value before it begins the line, and each other value when it comes to it
    ∷ (
      plain (codes "BEGIN INTEGER PROCEDURE F (INTEGER VALUE N);" ∷ codes "BEGIN WRITEON(N); N END;" ∷ codes "WRITEON(0); WRITE(F(1), F(2)) END." ∷ []),
      ended 7 (spaced 13 (codes "0               1") ∷ spaced 13 (codes "1               2               2") ∷ []),
    )
    -- the actuals are evaluated before the call is counted
    ∷ (
      stepping 4 (codes "BEGIN INTEGER PROCEDURE F (INTEGER VALUE N);" ∷ codes "BEGIN WRITEON(N); N END;" ∷ codes "PROCEDURE P (INTEGER VALUE X); WRITEON(X + 1);" ∷ codes "P(F(1)) END." ∷ []),
      stopped (codes "LIMIT 1 AT 4,1: STEPS") 4 (spaced 13 (codes "1") ∷ []) (spaced 2 (codes "BLOCK 1,1") ∷ []),
    )
    -- the fields of a record from left to right
    ∷ (
      plain (codes "BEGIN RECORD C (INTEGER V, W); REFERENCE(C) R;" ∷ codes "INTEGER PROCEDURE F (INTEGER VALUE N);" ∷ codes "BEGIN WRITEON(N); N END;" ∷ codes "R := C(F(1), F(2)); WRITE(V(R) - W(R)) END." ∷ []),
      ended 7 (spaced 13 (codes "1               2") ∷ spaced 12 (codes "-1") ∷ []),
    )
    ∷ []

-- IF and CASE
abbrev pub choices_decks : List Row
choices_decks = (
  plain (codes "BEGIN IF FALSE THEN WRITE(1); IF TRUE THEN IF FALSE THEN WRITE(2) ELSE WRITE(3)" ∷ codes "END." ∷ []),
  ended 5 (spaced 13 (codes "3") ∷ []),
)
    -- the value of an IF or a CASE has the type of the whole; only the part that is chosen is evaluated; neither is a statement
    ∷ (
      plain (codes "BEGIN WRITE(IF TRUE THEN \"A\" ELSE \"BCD\", \"!\", CASE 2 OF (\"AB\", \"C\", CODE(1 DIV" ∷ codes "0)), \"!\") END." ∷ []),
      ended 2 (codes "A  !C !" ∷ []),
    )
    ∷ (
      plain (codes "BEGIN CASE 0 OF BEGIN END END." ∷ []),
      stopped (codes "FAULT 5 AT 1,7: CASE OUTSIDE RANGE") 2 [] (spaced 2 (codes "BLOCK 1,1") ∷ []),
    )
    -- what stands behind a last semicolon is one of the parts
    ∷ (
      plain (codes "BEGIN CASE 2 OF BEGIN WRITE(1); END END." ∷ []),
      ended 2 [],
    )
    ∷ (
      plain (codes "BEGIN CASE 2 OF BEGIN WRITE(1); WRITE(2) END; WRITE(CASE 3 OF (1, 2)) END." ∷ []),
      stopped (codes "FAULT 5 AT 1,47: CASE OUTSIDE RANGE") 4 (spaced 13 (codes "2") ∷ []) (spaced 2 (codes "BLOCK 1,1") ∷ []),
    )
    ∷ []

-- ASSERT, and blocks with a value
abbrev pub blocks_decks : List Row
blocks_decks = (
  plain (codes "BEGIN ASSERT FALSE END." ∷ []),
  stopped (codes "FAULT 13 AT 1,7: ASSERTION FALSE") 2 [] (spaced 2 (codes "BLOCK 1,1") ∷ []),
)
    ∷ (
      plain (codes "BEGIN ASSERT 1 < 2; ASSERT 2 < 1 END." ∷ []),
      stopped (codes "FAULT 13 AT 1,21: ASSERTION FALSE") 3 [] (spaced 2 (codes "BLOCK 1,1") ∷ []),
    )
    -- a block with a value is no statement: its fault is that of the statement round it, but it is shown
    ∷ (
      plain (codes "BEGIN WRITE(BEGIN INTEGER X; X := 3; X * X END + 1);" ∷ codes "WRITE(BEGIN INTEGER X; X := 3; X DIV 0 END) END." ∷ []),
      stopped (codes "FAULT 2 AT 2,1: DIVISION BY ZERO") 5 (spaced 12 (codes "10") ∷ []) (spaced 2 (codes "BLOCK 2,7") ∷ spaced 4 (codes "X = 3") ∷ spaced 2 (codes "BLOCK 1,1") ∷ []),
    )
    -- the innermost declaration counts, and standard names may be declared anew
    ∷ (
      plain (codes "BEGIN INTEGER X; PROCEDURE WRITE (INTEGER VALUE N); WRITEON(N + 1); X := 5;" ∷ codes "BEGIN INTEGER X; X := 1; WRITE(X) END; WRITE(X) END." ∷ []),
      ended 10 (spaced 13 (codes "2               6") ∷ []),
    )
    ∷ []

-- FOR with a step, and with a list
abbrev pub loops_decks : List Row
loops_decks =
    -- a step downwards
    (
      plain (codes "BEGIN FOR I := 3 STEP -2 UNTIL -2 DO WRITEON(I) END." ∷ []),
      ended 8 (spaced 13 (codes "3               1              -1") ∷ []),
    )
    -- the next control value is compared as an unbounded number
    ∷ (
      plain (codes "BEGIN FOR I := MAXINTEGER - 1 UNTIL MAXINTEGER DO WRITEON(I) END." ∷ []),
      ended 6 (spaced 4 (codes "2147483646      2147483647") ∷ []),
    )
    -- no turn; and none in the other direction
    ∷ (
      plain (codes "BEGIN FOR I := 2 UNTIL 1 DO WRITE(I); FOR I := 1 STEP -1 UNTIL 2 DO WRITE(I)" ∷ codes "END." ∷ []),
      ended 3 [],
    )
    -- first value, step and limit are evaluated once
    ∷ (
      plain (codes "BEGIN INTEGER N; N := 2; FOR I := N - 1 STEP N UNTIL 3 * N DO N := N + I;" ∷ codes "WRITE(N) END." ∷ []),
      ended 10 (spaced 12 (codes "11") ∷ []),
    )
    -- each value of a list is evaluated before its turn
    ∷ (
      plain (codes "BEGIN INTEGER N; N := 1; FOR I := N, N + 1, N + 1 DO N := I * 2; WRITE(N) END." ∷ []),
      ended 10 (spaced 12 (codes "14") ∷ []),
    )
    ∷ []

-- FOR: its faults, its control name, and FORs within each other
abbrev pub loop_faults_decks : List Row
loop_faults_decks = (
  plain (codes "BEGIN FOR I := 1 STEP 0 UNTIL 2 DO END." ∷ []),
  stopped (codes "FAULT 14 AT 1,7: STEP ZERO") 2 [] (spaced 2 (codes "BLOCK 1,1") ∷ []),
)
    -- a step of zero is a fault only behind the limit's evaluation
    ∷ (
      plain (codes "BEGIN FOR I := 1 STEP 0 UNTIL 1 DIV 0 DO END." ∷ []),
      stopped (codes "FAULT 2 AT 1,7: DIVISION BY ZERO") 2 [] (spaced 2 (codes "BLOCK 1,1") ∷ []),
    )
    -- the control name is a constant: it can't be assigned through a formal
    ∷ (
      plain (codes "BEGIN" ∷ codes "PROCEDURE BUMP (INTEGER X); X := X + 1;" ∷ codes "FOR I := 1 UNTIL 3 DO" ∷ codes "BUMP(I)" ∷ codes "END." ∷ []),
      stopped (codes "FAULT 9 AT 2,29: ASSIGNMENT TO NO VARIABLE") 7 [] (spaced 2 (codes "CALL BUMP FROM 4,1") ∷ spaced 4 (codes "X NAME") ∷ spaced 2 (codes "FOR 3,1") ∷ spaced 4 (codes "I = 1") ∷ spaced 2 (codes "BLOCK 1,1") ∷ []),
    )
    -- FORs within each other, and an array of two dimensions
    ∷ (
      plain (codes "BEGIN INTEGER ARRAY A (1::2,1::2);" ∷ codes "FOR I := 1 UNTIL 2 DO FOR J := 1, 2 DO A(I,J) := 10 * I + J;" ∷ codes "WRITE(A(1,1), A(1,2), A(2,1), A(2,2)) END." ∷ []),
      ended 15 (spaced 12 (codes "11              12              21              22") ∷ []),
    )
    ∷ []

-- labels and jumps
abbrev pub jumps_decks : List Row
jumps_decks = (
  plain (codes "BEGIN INTEGER I; I := 0; L: I := I + 1; IF I < 3 THEN GOTO L; WRITE(I) END." ∷ []),
  ended 11 (spaced 13 (codes "3") ∷ []),
)
    -- out of a block and a FOR
    ∷ (
      plain (codes "BEGIN INTEGER N; N := 0;" ∷ codes "FOR I := 1 UNTIL 5 DO" ∷ codes "BEGIN INTEGER X; X := I; IF X = 2 THEN GOTO L; N := N + X END;" ∷ codes "L: WRITE(N) END." ∷ []),
      ended 14 (spaced 13 (codes "1") ∷ []),
    )
    -- out of the bounds of a block that is being entered; that block is left
    ∷ (
      plain (codes "BEGIN" ∷ codes "BEGIN INTEGER X; INTEGER ARRAY A (1::BEGIN GOTO L; 3 END); WRITE(1) END;" ∷ codes "L: WRITE(2); ASSERT FALSE END." ∷ []),
      stopped (codes "FAULT 13 AT 3,14: ASSERTION FALSE") 5 (spaced 13 (codes "2") ∷ []) (spaced 2 (codes "BLOCK 1,1") ∷ []),
    )
    -- out of a function: nothing is assigned back
    ∷ (
      plain (codes "BEGIN INTEGER X;" ∷ codes "INTEGER PROCEDURE F (INTEGER VALUE RESULT Y); BEGIN Y := 5; GOTO L; 1 END;" ∷ codes "X := 1; WRITE(F(X));" ∷ codes "L: WRITE(X) END." ∷ []),
      ended 7 (spaced 13 (codes "1") ∷ []),
    )
    -- out of an actual that is used within a procedure
    ∷ (
      plain (codes "BEGIN PROCEDURE P (INTEGER X); BEGIN WRITE(1); WRITE(X); WRITE(2) END;" ∷ codes "P(BEGIN GOTO L; 3 END); WRITE(3);" ∷ codes "L: WRITE(4); ASSERT FALSE END." ∷ []),
      stopped (codes "FAULT 13 AT 3,14: ASSERTION FALSE") 10 (spaced 13 (codes "1") ∷ spaced 13 (codes "4") ∷ []) (spaced 2 (codes "BLOCK 1,1") ∷ []),
    )
    -- out of two procedures and a block, by a statement that is an actual
    ∷ (
      plain (codes "BEGIN INTEGER R;" ∷ codes "PROCEDURE INNER (PROCEDURE S); S;" ∷ codes "PROCEDURE OUTER (INTEGER VALUE RESULT X; PROCEDURE Q);" ∷ codes "BEGIN X := 9; INNER(Q); X := 10 END;" ∷ codes "R := 1;" ∷ codes "BEGIN OUTER(R, GOTO L); WRITE(\"NOT HERE\") END;" ∷ codes "L: WRITE(R)" ∷ codes "END." ∷ []),
      ended 13 (spaced 13 (codes "1") ∷ []),
    )
    -- a label belongs to the block instance in which the jump was written as an actual
    ∷ (
      plain (codes "BEGIN" ∷ codes "PROCEDURE P (INTEGER VALUE N; PROCEDURE Q);" ∷ codes "BEGIN IF N = 0 THEN Q ELSE P(N - 1, GOTO L);" ∷ codes "WRITE(10 + N); L: WRITE(N) END;" ∷ codes "P(2, WRITE(0)) END." ∷ []),
      ended 19 (spaced 13 (codes "1") ∷ spaced 12 (codes "12") ∷ spaced 13 (codes "2") ∷ []),
    )
    -- several labels, before and behind the jump
    ∷ (
      plain (codes "BEGIN INTEGER I; I := 0; L: M: I := I + 1; IF I = 1 THEN GOTO M;" ∷ codes "IF I = 2 THEN GOTO L; K: WRITE(I); IF I = 3 THEN BEGIN I := 4; GOTO K END END." ∷ []),
      ended 19 (spaced 13 (codes "3") ∷ spaced 13 (codes "4") ∷ []),
    )
    ∷ []

-- arrays and subarrays
abbrev pub arrays_decks : List Row
arrays_decks =
    -- an upper bound below the lower one makes an empty array
    (
      plain (codes "BEGIN INTEGER ARRAY A (1::0); A(1) := 5 END." ∷ []),
      stopped (codes "FAULT 3 AT 1,31: SUBSCRIPT OUTSIDE BOUNDS") 2 [] (spaced 2 (codes "BLOCK 1,1") ∷ spaced 4 (codes "A ARRAY (1::0)") ∷ []),
    )
    -- all subscripts are evaluated before any is tested
    ∷ (
      plain (codes "BEGIN INTEGER ARRAY A (1::2,1::2); A(3,1 DIV 0) := 1 END." ∷ []),
      stopped (codes "FAULT 2 AT 1,36: DIVISION BY ZERO") 2 [] (spaced 2 (codes "BLOCK 1,1") ∷ spaced 4 (codes "A ARRAY (1::2,1::2)") ∷ []),
    )
    -- elements have no value at first
    ∷ (
      plain (codes "BEGIN INTEGER ARRAY A (-1::1); A(-1) := 4; WRITE(A(-1)); WRITE(A(0)) END." ∷ []),
      stopped (codes "FAULT 6 AT 1,58: VALUE UNDEFINED") 4 (spaced 13 (codes "4") ∷ []) (spaced 2 (codes "BLOCK 1,1") ∷ spaced 4 (codes "A ARRAY (-1::1)") ∷ []),
    )
    -- names in bounds are those outside the block
    ∷ (
      plain (codes "BEGIN INTEGER N; N := 2;" ∷ codes "BEGIN INTEGER N; INTEGER ARRAY A (N - 1::N); N := 9; A(N - 7) := 5;" ∷ codes "WRITE(A(2)) END END." ∷ []),
      ended 6 (spaced 13 (codes "5") ∷ []),
    )
    ∷ (
      plain (codes "BEGIN INTEGER ARRAY A (1::2,1::3);" ∷ codes "PROCEDURE Z (INTEGER ARRAY R (*)); FOR J := 1 UNTIL 3 DO R(J) := J;" ∷ codes "Z(A(2,*)); WRITE(A(2,3)) END." ∷ []),
      ended 11 (spaced 13 (codes "3") ∷ []),
    )
    -- a subarray of a subarray
    ∷ (
      plain (codes "BEGIN INTEGER ARRAY A (1::2,1::2,1::2);" ∷ codes "PROCEDURE Q (INTEGER ARRAY R (*)); R(2) := 7;" ∷ codes "PROCEDURE P (INTEGER ARRAY R (*,*)); Q(R(*,1));" ∷ codes "P(A(2,*,*)); WRITE(A(2,2,1)) END." ∷ []),
      ended 7 (spaced 13 (codes "7") ∷ []),
    )
    -- a subarray's subscripts are tested when it is made ready for the call
    ∷ (
      plain (codes "BEGIN INTEGER ARRAY A (1::2,1::2);" ∷ codes "PROCEDURE P (INTEGER ARRAY R (*));; P(A(3,*)) END." ∷ []),
      stopped (codes "FAULT 3 AT 2,37: SUBSCRIPT OUTSIDE BOUNDS") 2 [] (spaced 2 (codes "BLOCK 1,1") ∷ spaced 4 (codes "A ARRAY (1::2,1::2)") ∷ []),
    )
    -- a subarray has the bounds of its stars
    ∷ (
      plain (codes "BEGIN INTEGER ARRAY A (1::2,0::3);" ∷ codes "PROCEDURE P (INTEGER ARRAY R (*)); R(4) := 1;" ∷ codes "P(A(2,*)) END." ∷ []),
      stopped (codes "FAULT 3 AT 2,36: SUBSCRIPT OUTSIDE BOUNDS") 4 [] (spaced 2 (codes "CALL P FROM 3,1") ∷ spaced 4 (codes "R ARRAY (0::3)") ∷ spaced 2 (codes "BLOCK 1,1") ∷ spaced 4 (codes "A ARRAY (1::2,0::3)") ∷ []),
    )
    ∷ []

-- records, their classes, and NULL
abbrev pub records_decks : List Row
records_decks = (
  plain (codes "BEGIN RECORD C (INTEGER V); REFERENCE(C) R; R := NULL; WRITE(V(R)) END." ∷ []),
  stopped (codes "FAULT 7 AT 1,56: REFERENCE NULL") 3 [] (spaced 2 (codes "BLOCK 1,1") ∷ spaced 4 (codes "R = NULL") ∷ []),
)
    ∷ (
      plain (codes "BEGIN RECORD C (INTEGER V); RECORD D (INTEGER W); REFERENCE(C, D) R;" ∷ codes "R := D(1); WRITE(W(R)); WRITE(V(R)) END." ∷ []),
      stopped (codes "FAULT 8 AT 2,25: WRONG RECORD CLASS") 4 (spaced 13 (codes "1") ∷ []) (spaced 2 (codes "BLOCK 1,1") ∷ spaced 4 (codes "R = D.1") ∷ []),
    )
    -- IS is false for NULL
    ∷ (
      plain (codes "BEGIN RECORD C (INTEGER V); RECORD D (INTEGER W); REFERENCE(C, D) R;" ∷ codes "R := NULL; WRITE(R IS C); R := C; WRITE(R IS C, R IS D) END." ∷ []),
      ended 5 (codes " FALSE" ∷ spaced 2 (codes "TRUE   FALSE") ∷ []),
    )
    -- the fields of a record that is made without a list have no value
    ∷ (
      plain (codes "BEGIN RECORD C (INTEGER V); REFERENCE(C) R; R := C; WRITE(V(R)) END." ∷ []),
      stopped (codes "FAULT 6 AT 1,53: VALUE UNDEFINED") 3 [] (spaced 2 (codes "BLOCK 1,1") ∷ spaced 4 (codes "R = C.1") ∷ []),
    )
    -- a record that holds itself
    ∷ (
      plain (codes "BEGIN RECORD C (INTEGER V; REFERENCE(C) N); REFERENCE(C) R;" ∷ codes "R := C(1, NULL); N(R) := R; V(N(N(R))) := 5; WRITE(V(R), R = N(R), R ~= NULL, R" ∷ codes "= C) END." ∷ []),
      ended 5 (spaced 13 (codes "5    TRUE    TRUE   FALSE") ∷ []),
    )
    -- a field's value is made into its type when it is evaluated, before the next one
    ∷ (
      plain (codes "BEGIN RECORD C (REFERENCE(C) N; INTEGER V); RECORD D (INTEGER W);" ∷ codes "REFERENCE(C, D) X; REFERENCE(C) R; X := D(1); R := C(X, 1 DIV 0) END." ∷ []),
      stopped (codes "FAULT 8 AT 2,47: WRONG RECORD CLASS") 3 [] (spaced 2 (codes "BLOCK 1,1") ∷ spaced 4 (codes "X = D.1") ∷ spaced 4 (codes "R = ?") ∷ []),
    )
    -- records of all classes are numbered in one order
    ∷ (
      plain (codes "BEGIN RECORD C (INTEGER V); RECORD D (INTEGER W); REFERENCE(C) R;" ∷ codes "REFERENCE(D) Q;" ∷ codes "Q := D(1); R := C(2); R := C(3); ASSERT FALSE END." ∷ []),
      stopped (codes "FAULT 13 AT 3,34: ASSERTION FALSE") 5 [] (spaced 2 (codes "BLOCK 1,1") ∷ spaced 4 (codes "R = C.3") ∷ spaced 4 (codes "Q = D.1") ∷ []),
    )
    -- a class list made of data, and a mean
    ∷ (
      fed (codes "70 \"ADA\"" ∷ codes "55 \"GRACE\"" ∷ codes "-1" ∷ []) (codes "BEGIN COMMENT CLASS LIST;" ∷ codes "RECORD PUPIL (STRING(12) NAME; INTEGER MARK; REFERENCE(PUPIL) NEXT);" ∷ codes "REFERENCE(PUPIL) LIST, P; INTEGER M, N, S; STRING(12) W;" ∷ codes "LIST := NULL; N := S := 0; READ(M);" ∷ codes "WHILE M >= 0 DO" ∷ codes "BEGIN READON(W); LIST := PUPIL(W, M, LIST);" ∷ codes "N := N + 1; S := S + M; READ(M) END;" ∷ codes "P := LIST;" ∷ codes "WHILE P ~= NULL DO" ∷ codes "BEGIN WRITE(NAME(P), MARK(P)); P := NEXT(P) END;" ∷ codes "WRITE(\"MEAN\", S DIV N)" ∷ codes "END." ∷ []),
      ended 30 ((codes "GRACE" ++ spaced 19 (codes "55")) ∷ (codes "ADA" ++ spaced 21 (codes "70")) ∷ codes "MEAN            62" ∷ []),
    )
    ∷ []

-- data cards
abbrev pub data_cards_decks : List Row
data_cards_decks = (
  plain (codes "BEGIN INTEGER I; READ(I) END." ∷ []),
  stopped (codes "FAULT 11 AT 1,18: NO DATA LEFT") 2 [] (spaced 2 (codes "BLOCK 1,1") ∷ spaced 4 (codes "I = ?") ∷ []),
)
    ∷ (
      fed (codes "12X" ∷ []) (codes "BEGIN INTEGER I; READ(I) END." ∷ []),
      stopped (codes "FAULT 12 AT 1,18: DATUM ILL FORMED") 2 [] (spaced 2 (codes "BLOCK 1,1") ∷ spaced 4 (codes "I = ?") ∷ []),
    )
    -- IOCONTROL(1) drops the rest of the card
    ∷ (
      fed (codes "1 2" ∷ codes "3" ∷ []) (codes "BEGIN INTEGER I; READON(I); IOCONTROL(1); READON(I); WRITE(I) END." ∷ []),
      ended 5 (spaced 13 (codes "3") ∷ []),
    )
    -- READ begins with the next card, READON goes on
    ∷ (
      fed (codes "1 2 3" ∷ codes "4 5" ∷ []) (codes "BEGIN INTEGER I, J, K; READ(I); READON(J); READ(K); WRITE(I, J, K) END." ∷ []),
      ended 5 (spaced 13 (codes "1               2               4") ∷ []),
    )
    -- a value of each type; truth values in any mixture of cases
    ∷ (
      fed (codes "-7 tRuE" ∷ codes "  #fF \"A\"\"B\"" ∷ []) (codes "BEGIN INTEGER I; LOGICAL L; BITS B; STRING(5) S;" ∷ codes "READ(I, L, B, S); WRITE(I, L, B, S, \"!\") END." ∷ []),
      ended 3 (spaced 12 (codes "-7    TRUE        000000FF  A\"B  !") ∷ []),
    )
    ∷ []

-- what is read, target by target
abbrev pub targets_decks : List Row
targets_decks =
    -- each target's place is evaluated, and then its datum is read
    (
      fed (codes "2 7" ∷ []) (codes "BEGIN INTEGER I; INTEGER ARRAY A (1::2); READ(I, A(I)); WRITE(I, A(2)) END." ∷ []),
      ended 3 (spaced 13 (codes "2               7") ∷ []),
    )
    -- so a fault of the place comes before one of the data
    ∷ (
      plain (codes "BEGIN INTEGER ARRAY A (1::2); READ(A(0)) END." ∷ []),
      stopped (codes "FAULT 3 AT 1,31: SUBSCRIPT OUTSIDE BOUNDS") 2 [] (spaced 2 (codes "BLOCK 1,1") ∷ spaced 4 (codes "A ARRAY (1::2)") ∷ []),
    )
    -- READCARD takes the next card whole and leaves nothing of it
    ∷ (
      fed (codes "1 2" ∷ codes "AB" ∷ codes "9" ∷ []) (codes "BEGIN INTEGER I, J; STRING(80) S; READON(I); READCARD(S); READON(J);" ∷ codes "WRITE(I, S(0|2), J) END." ∷ []),
      ended 5 (spaced 13 (codes "1  AB             9") ∷ []),
    )
    ∷ (
      plain (codes "BEGIN STRING(80) S; READCARD(S) END." ∷ []),
      stopped (codes "FAULT 11 AT 1,21: NO DATA LEFT") 2 [] (spaced 2 (codes "BLOCK 1,1") ∷ spaced 4 (codes "S = ?") ∷ []),
    )
    -- a string that is longer than its target
    ∷ (
      fed (codes "\"XY\"" ∷ codes "\"ABC\"" ∷ []) (codes "BEGIN STRING(2) S; READ(S); READ(S) END." ∷ []),
      stopped (codes "FAULT 12 AT 1,29: DATUM ILL FORMED") 3 [] (spaced 2 (codes "BLOCK 1,1") ∷ spaced 4 (codes "S = \"XY\"") ∷ []),
    )
    -- a formal that stands for no variable
    ∷ (
      fed (codes "5" ∷ []) (codes "BEGIN PROCEDURE P (INTEGER X); READ(X); P(1 + 1) END." ∷ []),
      stopped (codes "FAULT 9 AT 1,32: ASSIGNMENT TO NO VARIABLE") 5 [] (spaced 2 (codes "CALL P FROM 1,41") ∷ spaced 4 (codes "X NAME") ∷ spaced 2 (codes "BLOCK 1,1") ∷ []),
    )
    ∷ []

pub record DecksGive : Type 0 where
  pub output : AllGive output_decks
  pub integers : AllGive integers_decks
  pub truth_and_bits : AllGive truth_and_bits_decks
  pub strings : AllGive strings_decks
  pub string_parts : AllGive string_parts_decks
  pub assignments : AllGive assignments_decks
  pub order : AllGive order_decks
  pub choices : AllGive choices_decks
  pub blocks : AllGive blocks_decks
  pub loops : AllGive loops_decks
  pub loop_faults : AllGive loop_faults_decks
  pub jumps : AllGive jumps_decks
  pub arrays : AllGive arrays_decks
  pub records : AllGive records_decks
  pub data_cards : AllGive data_cards_decks
  pub targets : AllGive targets_decks
