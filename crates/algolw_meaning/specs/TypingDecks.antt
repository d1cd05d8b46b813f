-- Decks, each with the diagnostics that it has: each rule of names and types kept, and broken in each of its ways.
use Rattle.std.specs.Prelude.{◌≡◌, ℕ, List, [], ◌∷◌, map, codes}
use Rattle.value_ops.specs.declared.places.Diagnostic.{Diagnostic}
use Rattle.algolw_meaning.specs.DeckDiagnostics.{deck_diagnostics}

-- a diagnostic: its number, and the card and column of its place
abbrev pub d : ℕ → ℕ → ℕ → Diagnostic
d number card column = record { place = record { card = card; column = column }; number = number }

-- the cards of a deck, and its diagnostics
abbrev pub Row : Type 0
Row = List (List ℕ) × List Diagnostic

-- each deck of a table has exactly its diagnostics
abbrev pub AllHave : List Row → Type 0
AllHave rows = map (λ (r : Row). deck_diagnostics r.0) rows ≡ map (λ (r : Row). r.1) rows

-- types
abbrev pub types_decks : List Row
types_decks = (
  codes "BEGIN STRING(1) S; STRING(256) T; STRING U; BITS(32) B; BITS C; END." ∷ [],
  [],
)
    ∷ (
      codes "BEGIN STRING(0) S; STRING(257) T; BITS(31) B; END." ∷ [],
      d 32 1 14 ∷ d 32 1 27 ∷ d 32 1 40 ∷ [],
    )
    ∷ []

-- class names
abbrev pub class_names_decks : List Row
class_names_decks = (
  codes "BEGIN RECORD C (INTEGER V); REFERENCE(C) R; LOGICAL L; R := C; L := R IS C END." ∷ [],
  [],
)
    ∷ (
      codes "BEGIN INTEGER I; LOGICAL L; REFERENCE(D, I) R;" ∷ codes "L := NULL IS D; L := NULL IS I; L := 1 IS D END." ∷ [],
      d 30 1 39 ∷ d 33 1 42 ∷ d 30 2 14 ∷ d 33 2 30 ∷ d 30 2 43 ∷ [],
    )
    ∷ []

-- arrays and bounds
abbrev pub arrays_and_bounds_decks : List Row
arrays_and_bounds_decks = (
  codes "BEGIN INTEGER ARRAY A (1::1,1::1,1::1,1::1,1::1,1::1,1::1,1::1);" ∷ codes "PROCEDURE P (INTEGER ARRAY B (*,*,*,*,*,*,*,*)); ; END." ∷ [],
  [],
)
    ∷ (
      codes "BEGIN INTEGER ARRAY A, B (1::1,1::1,1::1,1::1,1::1,1::1,1::1,1::1,1::1);" ∷ codes "PROCEDURE P (INTEGER ARRAY D (*,*,*,*,*,*,*,*,*)); ; P; A := B END." ∷ [],
      d 32 1 21 ∷ d 32 2 28 ∷ [],
    )
    ∷ (
      codes "BEGIN INTEGER ARRAY A (TRUE::2); INTEGER ARRAY B (1::WRITE(1));" ∷ codes "INTEGER ARRAY C (TRUE::WRITE(1)); END." ∷ [],
      d 37 1 28 ∷ d 35 1 52 ∷ d 37 2 22 ∷ [],
    )
    ∷ []

-- procedures
abbrev pub procedures_decks : List Row
procedures_decks = (
  codes "BEGIN PROCEDURE P; WRITE(1); INTEGER PROCEDURE F; 1; P; WRITE(F) END." ∷ [],
  [],
)
    ∷ (
      codes "BEGIN PROCEDURE P; 1; INTEGER PROCEDURE F; ; STRING(1) PROCEDURE G; \"AB\"; END." ∷ [],
      d 36 1 7 ∷ d 35 1 31 ∷ d 37 1 56 ∷ [],
    )
    ∷ []

-- items and blocks
abbrev pub items_and_blocks_decks : List Row
items_and_blocks_decks = (
  codes "BEGIN 1; WRITE(2) END." ∷ [],
  d 36 1 7 ∷ [],
)
    ∷ (
      codes "BEGIN (1) + 2; END." ∷ [],
      d 36 1 8 ∷ [],
    )
    ∷ (
      codes "BEGIN WRITE(1); L: 2 END." ∷ [],
      d 36 1 20 ∷ [],
    )
    ∷ (
      codes "BEGIN 1; 2 END." ∷ [],
      d 36 1 7 ∷ [],
    )
    ∷ (
      codes "BEGIN INTEGER I; I := BEGIN INTEGER J; J := 1; J END END." ∷ [],
      [],
    )
    ∷ (
      codes "BEGIN 1 END." ∷ [],
      d 36 1 1 ∷ [],
    )
    ∷ []

-- IF
abbrev pub if_decks : List Row
if_decks = (
  codes "BEGIN INTEGER I; IF TRUE THEN I := 1; IF FALSE THEN ELSE I := 2;" ∷ codes "I := IF TRUE THEN 1 ELSE 2 END." ∷ [],
  [],
)
    ∷ (
      codes "BEGIN IF 1 THEN; IF WRITE(1) THEN; IF TRUE THEN 1;" ∷ codes "IF TRUE THEN 1 ELSE; IF TRUE THEN ELSE 1; IF TRUE THEN 1 ELSE TRUE END." ∷ [],
      d 37 1 7 ∷ d 35 1 18 ∷ d 36 1 36 ∷ d 37 2 1 ∷ d 37 2 22 ∷ d 37 2 43 ∷ [],
    )
    ∷ (
      codes "BEGIN STRING(5) S; S := IF TRUE THEN \"A\" ELSE \"ABCDE\";" ∷ codes "S := IF TRUE THEN \"ABCDEF\" ELSE \"A\" END." ∷ [],
      d 37 2 3 ∷ [],
    )
    ∷ []

-- CASE
abbrev pub case_decks : List Row
case_decks = (
  codes "BEGIN INTEGER I; I := CASE 1 OF (1, 2); CASE I OF BEGIN WRITE(1); END END." ∷ [],
  [],
)
    ∷ (
      codes "BEGIN INTEGER I; I := CASE TRUE OF (1, 2); I := CASE WRITE(1) OF (1);" ∷ codes "I := CASE 1 OF (1, TRUE, WRITE(1)); I := CASE 1 OF (1, TRUE) END." ∷ [],
      d 37 1 23 ∷ d 35 1 49 ∷ d 35 2 6 ∷ d 37 2 42 ∷ [],
    )
    ∷ (
      codes "BEGIN CASE TRUE OF BEGIN END; CASE WRITE(1) OF BEGIN END;" ∷ codes "CASE 1 OF BEGIN WRITE(1); 1 END END." ∷ [],
      d 37 1 7 ∷ d 35 1 31 ∷ d 36 2 1 ∷ [],
    )
    ∷ []

-- FOR
abbrev pub for_decks : List Row
for_decks = (
  codes "BEGIN FOR I := 1 STEP 2 UNTIL 9 DO WRITE(I); FOR I := 1, 2, 3 DO WRITE(I) END." ∷ [],
  [],
)
    ∷ (
      codes "BEGIN FOR I := TRUE UNTIL 2 DO; FOR I := 1 STEP WRITE(1) UNTIL 2 DO;" ∷ codes "FOR I := 1 UNTIL \"A\" DO; FOR I := 1 UNTIL 2 DO I;" ∷ codes "FOR I := 1, TRUE, WRITE(1) DO; FOR I := 1 DO I END." ∷ [],
      d 37 1 7 ∷ d 35 1 33 ∷ d 37 2 1 ∷ d 36 2 26 ∷ d 37 3 1 ∷ d 36 3 32 ∷ [],
    )
    ∷ []

-- WHILE and ASSERT
abbrev pub while_and_assert_decks : List Row
while_and_assert_decks = (
  codes "BEGIN WHILE FALSE DO; ASSERT TRUE END." ∷ [],
  [],
)
    ∷ (
      codes "BEGIN WHILE 1 DO; WHILE WRITE(1) DO; WHILE TRUE DO 1;" ∷ codes "ASSERT 1; ASSERT WRITE(1) END." ∷ [],
      d 37 1 7 ∷ d 35 1 19 ∷ d 36 1 38 ∷ d 37 2 1 ∷ d 35 2 11 ∷ [],
    )
    ∷ []

-- GOTO
abbrev pub goto_decks : List Row
goto_decks = (
  codes "BEGIN L: GOTO L; BEGIN GO TO L END END." ∷ [],
  [],
)
    ∷ (
      codes "BEGIN INTEGER I; GOTO M; GOTO I; GOTO WRITE END." ∷ [],
      d 30 1 23 ∷ d 42 1 31 ∷ d 42 1 39 ∷ [],
    )
    ∷ []

-- assignments
abbrev pub assignments_decks : List Row
assignments_decks = (
  codes "BEGIN INTEGER I, J; INTEGER ARRAY A (1::2); STRING(3) S; RECORD C (INTEGER V);" ∷ codes "I := J := 1; A(1) := 2; S(0|1) := \"A\"; S(0|2)(1|1) := \"A\"; V(C) := 3 END." ∷ [],
  [],
)
    ∷ (
      codes "BEGIN INTEGER I; PROCEDURE P; ; INTEGER PROCEDURE F; 1;" ∷ codes "FOR K := 1 UNTIL 2 DO K := P; FOR K := 1 UNTIL 2 DO K(0|1) := \"A\";" ∷ codes "P := P; F := 1; 1 := 2; MAXINTEGER := 1;" ∷ codes "I := P; I := TRUE; I := NULL + 1 END." ∷ [],
      d 43 2 25 ∷ d 34 2 54 ∷ d 38 3 3 ∷ d 38 3 11 ∷ d 38 3 19 ∷ d 38 3 36 ∷ d 35 4 3 ∷ d 37 4 11 ∷ d 34 4 30 ∷ [],
    )
    ∷ (
      codes "BEGIN STRING(3) S; STRING(5) T; S := T := \"AB\"; S := T := \"ABCD\" END." ∷ [],
      d 37 1 51 ∷ [],
    )
    ∷ []

-- AND, OR and ~
abbrev pub and_or_and_not_decks : List Row
and_or_and_not_decks = (
  codes "BEGIN LOGICAL L; BITS B; L := L AND TRUE OR ~ L; B := B AND #F OR ~ B END." ∷ [],
  [],
)
    ∷ (
      codes "BEGIN LOGICAL L; L := L AND #F; L := L OR 1; L := ~ 1;" ∷ codes "L := L AND WRITE(1); L := WRITE(1) OR 1; L := ~ WRITE(1) END." ∷ [],
      d 34 1 25 ∷ d 34 1 40 ∷ d 34 1 51 ∷ d 35 2 8 ∷ d 35 2 36 ∷ d 35 2 47 ∷ [],
    )
    ∷ []

-- relations
abbrev pub relations_decks : List Row
relations_decks = (
  codes "BEGIN LOGICAL L; RECORD C (INTEGER V); RECORD D (INTEGER W); REFERENCE(C, D) R;" ∷ codes "L := 1 = 2; L := L ~= L; L := #1 = #2; L := \"A\" = \"ABC\"; L := R = NULL;" ∷ codes "L := C ~= R; L := 1 <= 2; L := \"A\" < \"B\"; L := 1 > 2; L := \"A\" >= \"AB\" END." ∷ [],
  [],
)
    ∷ (
      codes "BEGIN LOGICAL L; RECORD C (INTEGER V); RECORD D (INTEGER W);" ∷ codes "L := 1 = TRUE; L := C ~= D; L := 1 = WRITE(1);" ∷ codes "L := L < L; L := #1 >= #2; L := NULL > NULL; L := WRITE(1) <= TRUE END." ∷ [],
      d 34 2 8 ∷ d 34 2 23 ∷ d 35 2 36 ∷ d 34 3 8 ∷ d 34 3 21 ∷ d 34 3 38 ∷ d 35 3 60 ∷ [],
    )
    ∷ []

-- IS
abbrev pub is_decks : List Row
is_decks = (
  codes "BEGIN LOGICAL L; RECORD C (INTEGER V); L := NULL IS C; L := 1 IS C;" ∷ codes "L := WRITE(1) IS C END." ∷ [],
  d 34 1 63 ∷ d 35 2 15 ∷ [],
)
    ∷ []

-- integers
abbrev pub integers_decks : List Row
integers_decks = (
  codes "BEGIN INTEGER I; I := - 1 + 2 * 3 - 4 DIV 5 REM 6; I := ABS I; I := + I END." ∷ [],
  [],
)
    ∷ (
      codes "BEGIN INTEGER I; I := 1 + TRUE + \"A\"; I := \"A\" REM 2; I := 1 * WRITE(1);" ∷ codes "I := - TRUE; I := + WRITE(1); I := ABS \"A\"; I := ABS WRITE(1) END." ∷ [],
      d 34 1 25 ∷ d 34 1 48 ∷ d 35 1 62 ∷ d 34 2 6 ∷ d 35 2 19 ∷ d 34 2 36 ∷ d 35 2 50 ∷ [],
    )
    ∷ (
      codes "BEGIN WRITE(7 / 2) END." ∷ [],
      d 34 1 15 ∷ [],
    )
    ∷ (
      codes "BEGIN INTEGER I; I := 7 ** 2; I := 7 / WRITE(1) END." ∷ [],
      d 34 1 25 ∷ d 35 1 38 ∷ [],
    )
    ∷ []

-- shifts
abbrev pub shifts_decks : List Row
shifts_decks = (
  codes "BEGIN BITS B; B := B SHL 1 SHR 2; B := 1 SHL 2; B := B SHR B;" ∷ codes "B := B SHL WRITE(1) END." ∷ [],
  d 34 1 42 ∷ d 34 1 56 ∷ d 35 2 8 ∷ [],
)
    ∷ []

-- substring lists
abbrev pub substring_lists_decks : List Row
substring_lists_decks = (
  codes "BEGIN STRING(5) S; STRING(3) PROCEDURE F; \"ABC\"; S := S(0|5)(1|2); S := F(0|3);" ∷ codes "S := CODE(65)(0|1) END." ∷ [],
  [],
)
    ∷ (
      codes "BEGIN STRING(5) S; INTEGER I; S := S(0|6); S := S(0|0); S := S(TRUE|9);" ∷ codes "S := S(WRITE(1)|1); S := I(0|1); S := I(TRUE|0);" ∷ codes "S := WRITE(1)(0|1); S := S(0|2)(0|3) END." ∷ [],
      d 32 1 37 ∷ d 32 1 50 ∷ d 37 1 63 ∷ d 35 2 7 ∷ d 34 2 27 ∷ d 37 2 40 ∷ d 34 3 14 ∷ d 32 3 32 ∷ [],
    )
    ∷ []

-- other lists
abbrev pub other_lists_decks : List Row
other_lists_decks = (
  codes "BEGIN STRING(5) S; INTEGER ARRAY A (1::2); A(1)(2) := 1; WRITE(1)(2);" ∷ codes "S := S(0|1)(1); A(1)(X) := 1 END." ∷ [],
  d 41 1 48 ∷ d 41 1 66 ∷ d 41 2 12 ∷ d 30 2 22 ∷ [],
)
    ∷ []

-- names without list
abbrev pub names_without_list_decks : List Row
names_without_list_decks = (
  codes "BEGIN INTEGER I; RECORD C (INTEGER V); REFERENCE(C) R; PROCEDURE P; ;" ∷ codes "INTEGER PROCEDURE F; 1; I := F; R := C; P; I := MAXINTEGER END." ∷ [],
  [],
)
    ∷ (
      codes "BEGIN INTEGER ARRAY A (1::2); RECORD C (INTEGER V); PROCEDURE P (INTEGER X); ;" ∷ codes "L: WRITE(X, A, V, L, ODD); P; WRITE END." ∷ [],
      d 30 2 10 ∷ d 41 2 13 ∷ d 41 2 16 ∷ d 41 2 19 ∷ d 39 2 22 ∷ d 39 2 28 ∷ d 39 2 31 ∷ [],
    )
    ∷ []

-- arrays with lists
abbrev pub arrays_with_lists_decks : List Row
arrays_with_lists_decks = (
  codes "BEGIN INTEGER I; INTEGER ARRAY A (1::2,1::2); I := A(1,2); I := A(0|1);" ∷ codes "I := A(*); I := A(1); I := A(1,TRUE); I := A(WRITE(1),1);" ∷ codes "I := A(TRUE,WRITE(1)); I := A(ODD|1) END." ∷ [],
  d 41 1 65 ∷ d 40 2 6 ∷ d 39 2 17 ∷ d 37 2 28 ∷ d 35 2 44 ∷ d 37 3 6 ∷ d 39 3 31 ∷ [],
)
    ∷ []

-- procedures with lists
abbrev pub procedures_with_lists_decks : List Row
procedures_with_lists_decks = (
  codes "BEGIN PROCEDURE P (INTEGER VALUE X, Y); ; PROCEDURE Q; ;" ∷ codes "STRING(3) PROCEDURE G (INTEGER X); \"ABC\"; STRING(3) PROCEDURE H; \"ABC\";" ∷ codes "P(1, 2); P(0|1); Q(0|1); WRITE(G(0|1), H(0|1)); P(*);" ∷ codes "P(1); P(TRUE, 2, 3); P(TRUE, WRITE(1)); P(WRITE(1), TRUE);" ∷ codes "H(1) END." ∷ [],
  d 41 3 10 ∷ d 41 3 18 ∷ d 41 3 32 ∷ d 40 3 49 ∷ d 39 4 1 ∷ d 39 4 7 ∷ d 37 4 22 ∷ d 35 4 41 ∷ d 39 5 1 ∷ [],
)
    ∷ (
      codes "BEGIN PROCEDURE R (PROCEDURE P; INTEGER PROCEDURE F; STRING(3) PROCEDURE G);" ∷ codes "BEGIN P; P(1, TRUE); P(0|1); P(*, 1); WRITE(F, F(1), G(0|1), G(1)(0|1)) END;" ∷ codes "END." ∷ [],
      d 41 2 22 ∷ d 40 2 30 ∷ [],
    )
    ∷ []

-- classes and fields with lists
abbrev pub classes_and_fields_with_lists_decks : List Row
classes_and_fields_with_lists_decks = (
  codes "BEGIN RECORD C (INTEGER V; STRING(2) S); REFERENCE(C) R; R := C(1, \"A\");" ∷ codes "R := C(0|1); R := C(*); R := C(1); R := C(WRITE(1), TRUE);" ∷ codes "R := C(1, \"ABC\"); R := C(TRUE, WRITE(1)) END." ∷ [],
  d 41 2 6 ∷ d 40 2 19 ∷ d 39 2 30 ∷ d 35 2 41 ∷ d 37 3 6 ∷ d 37 3 24 ∷ [],
)
    ∷ (
      codes "BEGIN RECORD C (INTEGER V); RECORD D (INTEGER W); REFERENCE(C) R; INTEGER I;" ∷ codes "REFERENCE(C, D) U; I := V(R) + W(U); I := V(0|1); I := V(*);" ∷ codes "I := V(R, R); I := V(WRITE(1)); I := V(1); I := W(R); I := V(NULL) END." ∷ [],
      d 41 2 43 ∷ d 40 2 56 ∷ d 39 3 6 ∷ d 35 3 20 ∷ d 37 3 38 ∷ d 37 3 49 ∷ d 37 3 60 ∷ [],
    )
    ∷ []

-- labels and simple names with lists
abbrev pub labels_and_simple_names_with_lists_decks : List Row
labels_and_simple_names_with_lists_decks = (
  codes "BEGIN INTEGER I; L: L(1); L(0|1); I := I(1); I := MAXINTEGER(*);" ∷ codes "FOR K := 1 UNTIL 2 DO I := K(1) END." ∷ [],
  d 41 1 21 ∷ d 41 1 27 ∷ d 41 1 40 ∷ d 41 1 51 ∷ d 41 2 28 ∷ [],
)
    ∷ (
      codes "BEGIN L: L(X|1); L(X); L(WRITE(1)) END." ∷ [],
      d 41 1 10 ∷ d 30 1 12 ∷ d 30 1 20 ∷ d 41 1 24 ∷ [],
    )
    ∷ []

-- WRITE and WRITEON
abbrev pub write_and_writeon_decks : List Row
write_and_writeon_decks = (
  codes "BEGIN WRITE(1, TRUE, #F, \"A\"); WRITEON(1); WRITE(0|1); WRITE(*);" ∷ codes "WRITE(NULL, WRITE(1)); WRITEON(1, NULL) END." ∷ [],
  d 41 1 44 ∷ d 40 1 56 ∷ d 35 2 1 ∷ d 37 2 24 ∷ [],
)
    ∷ []

-- READ, READON and READCARD
abbrev pub read_readon_and_readcard_decks : List Row
read_readon_and_readcard_decks = (
  codes "BEGIN INTEGER I; STRING(80) S; RECORD C (INTEGER V); REFERENCE(C) R;" ∷ codes "READ(I, V(R)); READON(S(0|3)(1|1)); READCARD(S); READ(0|1); READ(*);" ∷ codes "READ(R, 1); READ(I, R); READON(WRITE(1)); READCARD(I);" ∷ codes "READCARD(R); READCARD(S(0|79)); READ(MAXINTEGER);" ∷ codes "FOR K := 1 UNTIL 2 DO READ(K) END." ∷ [],
  d 41 2 50 ∷ d 40 2 61 ∷ d 38 3 1 ∷ d 37 3 13 ∷ d 38 3 25 ∷ d 37 3 43 ∷ d 37 4 1 ∷ d 37 4 14 ∷ d 38 4 33 ∷ d 38 5 23 ∷ [],
)
    ∷ []

-- functions
abbrev pub functions_decks : List Row
functions_decks = (
  codes "BEGIN LOGICAL L; BITS B; STRING(1) S; IOCONTROL(1); L := ODD(1);" ∷ codes "B := BITSTRING(1); S := CODE(65); IOCONTROL(0|1); L := ODD(*);" ∷ codes "B := BITSTRING(1, 2); S := CODE(TRUE); L := ODD(WRITE(1)) END." ∷ [],
  d 41 2 35 ∷ d 40 2 56 ∷ d 39 3 6 ∷ d 37 3 28 ∷ d 35 3 45 ∷ [],
)
    ∷ (
      codes "BEGIN INTEGER I; I := NUMBER(#F) + DECODE(\"A\"); I := NUMBER(0|1);" ∷ codes "I := DECODE(*); I := NUMBER(#F, #F); I := NUMBER(WRITE(1));" ∷ codes "I := NUMBER(1); I := DECODE(\"AB\"); I := DECODE(\"A\", 1) END." ∷ [],
      d 41 1 54 ∷ d 40 2 6 ∷ d 39 2 22 ∷ d 35 2 43 ∷ d 37 3 6 ∷ d 37 3 22 ∷ d 39 3 41 ∷ [],
    )
    ∷ []

-- actuals for VALUE and by name
abbrev pub actuals_for_value_and_by_name_decks : List Row
actuals_for_value_and_by_name_decks = (
  codes "BEGIN INTEGER ARRAY A (1::2); PROCEDURE P (INTEGER VALUE X); ; PROCEDURE N; ;" ∷ codes "PROCEDURE R (INTEGER X); ; INTEGER PROCEDURE F; 1;" ∷ codes "INTEGER PROCEDURE G (INTEGER X); X; P(1); P(F); R(A(1)); R(G(2)); P(A); R(A(*));" ∷ codes "R(G); P(WRITE(1));" ∷ codes "R(N); R(TRUE); P(\"A\") END." ∷ [],
  d 40 3 67 ∷ d 40 3 73 ∷ d 40 4 1 ∷ d 35 4 7 ∷ d 35 5 1 ∷ d 37 5 7 ∷ d 37 5 16 ∷ [],
)
    ∷ []

-- actuals for RESULT and VALUE RESULT
abbrev pub actuals_for_result_and_value_result_decks : List Row
actuals_for_result_and_value_result_decks = (
  codes "BEGIN STRING(3) S; STRING(5) T; INTEGER ARRAY A (1::2); STRING(4) PROCEDURE F;" ∷ codes "\"A\";" ∷ codes "PROCEDURE P (STRING(4) RESULT X); ; P(T); P(T(0|4)); P(A); P(P);" ∷ codes "P(WRITE(1)); P(F); P(TRUE); P(S) END." ∷ [],
  d 40 3 54 ∷ d 40 3 60 ∷ d 35 4 1 ∷ d 38 4 14 ∷ d 38 4 20 ∷ d 37 4 29 ∷ [],
)
    ∷ (
      codes "BEGIN STRING(3) S; STRING(4) T; STRING(5) U;" ∷ codes "PROCEDURE P (STRING(4) VALUE RESULT X); ;" ∷ codes "RECORD C (INTEGER V); RECORD D (INTEGER W); REFERENCE(C, D) R;" ∷ codes "PROCEDURE Q (REFERENCE(C) VALUE RESULT X); ; P(T); Q(R); P(S); P(U);" ∷ codes "P(\"ABCD\"); P(WRITE(1)); P(P) END." ∷ [],
      d 37 4 58 ∷ d 37 4 64 ∷ d 38 5 1 ∷ d 35 5 12 ∷ d 40 5 25 ∷ [],
    )
    ∷ []

-- actuals for ARRAY
abbrev pub actuals_for_array_decks : List Row
actuals_for_array_decks = (
  codes "BEGIN INTEGER ARRAY A (1::2,1::2); LOGICAL ARRAY B (1::2);" ∷ codes "STRING(2) ARRAY S (1::2);" ∷ codes "RECORD C (INTEGER V); RECORD D (INTEGER W); REFERENCE(C, D) ARRAY R (1::2);" ∷ codes "PROCEDURE P (INTEGER ARRAY X (*)); ; PROCEDURE Q (STRING(3) ARRAY X (*)); ;" ∷ codes "PROCEDURE U (REFERENCE(D, C) ARRAY X (*)); ;" ∷ codes "PROCEDURE Z (REFERENCE(C) ARRAY X (*)); ;" ∷ codes "P(A(*,1)); U(R); P(1); P(P); P(A); P(B); Q(S); Z(R);" ∷ codes "P(A(*)); P(A(*,TRUE)); P(A(WRITE(1),*)); P(A(*,*)) END." ∷ [],
  d 40 7 18 ∷ d 40 7 24 ∷ d 39 7 30 ∷ d 37 7 36 ∷ d 37 7 42 ∷ d 37 7 48 ∷ d 39 8 3 ∷ d 37 8 12 ∷ d 35 8 26 ∷ d 39 8 42 ∷ [],
)
    ∷ []

-- actuals for PROCEDURE
abbrev pub actuals_for_procedure_decks : List Row
actuals_for_procedure_decks = (
  codes "BEGIN INTEGER ARRAY A (1::2); INTEGER PROCEDURE F; 1; PROCEDURE N (INTEGER X); ;" ∷ codes "PROCEDURE P (PROCEDURE X); ; P(N); P(WRITE(1)); P(N(1)); P(A); P(F); P(1) END." ∷ [],
  d 40 2 58 ∷ d 40 2 64 ∷ d 36 2 70 ∷ [],
)
    ∷ (
      codes "BEGIN INTEGER ARRAY A (1::2); STRING(3) PROCEDURE F; \"A\"; STRING(2) PROCEDURE G;" ∷ codes "\"A\";" ∷ codes "PROCEDURE N; ; PROCEDURE P (STRING(3) PROCEDURE X); ; P(F); P(\"ABC\"); P(G(0|1));" ∷ codes "P(A); P(N); P(WRITE(1)); P(G); P(\"ABCD\") END." ∷ [],
      d 40 4 1 ∷ d 40 4 7 ∷ d 35 4 13 ∷ d 37 4 26 ∷ d 37 4 32 ∷ [],
    )
    ∷ (
      codes "BEGIN PROCEDURE P (PROCEDURE X); ; PROCEDURE Q (PROCEDURE Y;" ∷ codes "INTEGER PROCEDURE Z);" ∷ codes "BEGIN P(Y); P(Y(1)); P(Z); P(Z(1)) END; END." ∷ [],
      d 40 3 22 ∷ d 36 3 28 ∷ [],
    )
    ∷ []

-- actuals of a procedure formal
abbrev pub actuals_of_a_procedure_formal_decks : List Row
actuals_of_a_procedure_formal_decks = (
  codes "BEGIN INTEGER ARRAY A (1::2,1::2); PROCEDURE N (INTEGER X); ;" ∷ codes "PROCEDURE P (PROCEDURE Q); BEGIN Q(A, N, Q, A(*,1), 1); Q(A(*)); Q(L);" ∷ codes "Q(*); Q(A(*,TRUE)); L: END; END." ∷ [],
  d 39 2 59 ∷ d 41 2 68 ∷ d 40 3 1 ∷ d 37 3 9 ∷ [],
)
    ∷ []

-- names alone as actuals
abbrev pub names_alone_as_actuals_decks : List Row
names_alone_as_actuals_decks = (
  codes "BEGIN RECORD C (INTEGER V); PROCEDURE P (INTEGER X); ;" ∷ codes "L: P(U); P(ODD); P(V); P(L); P(MAXINTEGER) END." ∷ [],
  d 30 2 6 ∷ d 39 2 12 ∷ d 41 2 20 ∷ d 41 2 26 ∷ [],
)
    ∷ []

-- an actual is a part of a procedure's list alone
abbrev pub an_actual_is_a_part_of_a_procedure_s_list_alone_decks : List Row
an_actual_is_a_part_of_a_procedure_s_list_alone_decks = (
  codes "BEGIN INTEGER ARRAY A (1::2); UNDEF(A); WRITE(A) END." ∷ [],
  d 30 1 31 ∷ d 41 1 37 ∷ d 41 1 47 ∷ [],
)
    ∷ (
      codes "BEGIN PROCEDURE P; ; PROCEDURE Q (INTEGER X); ; INTEGER ARRAY A (1::2,1::2);" ∷ codes "P(Q); P(A); P(UNDEF); P(1 + TRUE); P(READ); P(A(*,1));" ∷ codes "P(1) END." ∷ [],
      d 39 2 1 ∷ d 39 2 7 ∷ d 30 2 15 ∷ d 34 2 27 ∷ d 39 2 38 ∷ d 39 2 45 ∷ d 39 3 1 ∷ [],
    )
    ∷ (
      codes "BEGIN PROCEDURE P (INTEGER X); ; INTEGER ARRAY A (1::2,1::2);" ∷ codes "P(A(1,*)(0|1)) END." ∷ [],
      d 40 2 3 ∷ [],
    )
    ∷ (
      codes "BEGIN INTEGER ARRAY A (1::2,1::2); PROCEDURE P;;" ∷ codes "P(A(1,*)); P(A(TRUE,*)); P(A(1,1,*)) END." ∷ [],
      d 39 2 1 ∷ d 37 2 14 ∷ d 39 2 28 ∷ [],
    )
    ∷ []

-- names declared twice
abbrev pub names_declared_twice_decks : List Row
names_declared_twice_decks = (
  codes "BEGIN INTEGER X, X; LOGICAL Y; X := TRUE; Y := X END." ∷ [],
  d 31 1 18 ∷ d 37 1 34 ∷ d 37 1 45 ∷ [],
)
    ∷ (
      codes "BEGIN INTEGER A; RECORD C (INTEGER A); PROCEDURE P (INTEGER X; LOGICAL X); ;" ∷ codes "C: P: END." ∷ [],
      d 31 1 36 ∷ d 31 1 72 ∷ d 31 2 1 ∷ d 31 2 4 ∷ [],
    )
    ∷ (
      codes "BEGIN INTEGER X; LOGICAL X; X := 1; X := TRUE END." ∷ [],
      d 31 1 26 ∷ d 37 1 39 ∷ [],
    )
    ∷ (
      codes "BEGIN INTEGER A; INTEGER ARRAY A (1::1,1::1,1::1,1::1,1::1,1::1,1::1,1::1,1::1);" ∷ codes "END." ∷ [],
      d 31 1 32 ∷ d 32 1 32 ∷ [],
    )
    ∷ []

-- scopes
abbrev pub scopes_decks : List Row
scopes_decks = (
  codes "BEGIN PROCEDURE P; I := 1; INTEGER I; P END." ∷ [],
  [],
)
    ∷ (
      codes "BEGIN INTEGER X; BEGIN LOGICAL X; X := TRUE; X := 1 END; X := 1; X := TRUE END." ∷ [],
      d 37 1 48 ∷ d 37 1 68 ∷ [],
    )
    ∷ (
      codes "BEGIN INTEGER N; BEGIN LOGICAL N; INTEGER ARRAY A (1::N); N := TRUE END END." ∷ [],
      [],
    )
    ∷ (
      codes "BEGIN INTEGER N; INTEGER ARRAY A (1::N); END." ∷ [],
      d 30 1 38 ∷ [],
    )
    ∷ (
      codes "BEGIN FOR I := I UNTIL I DO WRITE(I); WRITE(I) END." ∷ [],
      d 30 1 16 ∷ d 30 1 24 ∷ d 30 1 45 ∷ [],
    )
    ∷ (
      codes "BEGIN FOR I := 1 UNTIL 2 DO I := 3 END." ∷ [],
      d 43 1 31 ∷ [],
    )
    ∷ (
      codes "BEGIN PROCEDURE P (INTEGER X); X := 1; WRITE(X) END." ∷ [],
      d 30 1 46 ∷ [],
    )
    ∷ (
      codes "BEGIN INTEGER WRITE; WRITE := 1; WRITE(1) END." ∷ [],
      d 41 1 34 ∷ [],
    )
    ∷ (
      codes "BEGIN RECORD C (INTEGER V); PROCEDURE P (REFERENCE(C) X; INTEGER C); ; END." ∷ [],
      [],
    )
    ∷ (
      codes "BEGIN BEGIN L: END; GOTO L END." ∷ [],
      d 30 1 26 ∷ [],
    )
    ∷ []

-- declarations with faults
abbrev pub declarations_with_faults_decks : List Row
declarations_with_faults_decks = (
  codes "BEGIN INTEGER ARRAY A (TRUE::2); 1 END." ∷ [],
  d 36 1 1 ∷ d 37 1 28 ∷ [],
)
    ∷ (
      codes "BEGIN PROCEDURE P (STRING(0) X); 1; END." ∷ [],
      d 36 1 7 ∷ d 32 1 27 ∷ [],
    )
    ∷ (
      codes "BEGIN STRING(0) PROCEDURE F; TRUE; END." ∷ [],
      d 32 1 14 ∷ [],
    )
    ∷ (
      codes "BEGIN X(Y) := 1 END." ∷ [],
      d 30 1 7 ∷ d 30 1 9 ∷ [],
    )
    ∷ (
      codes "BEGIN REFERENCE(R) R; END." ∷ [],
      d 33 1 17 ∷ [],
    )
    ∷ (
      codes "BEGIN STRING(0) S; REFERENCE(S) R; END." ∷ [],
      d 32 1 14 ∷ d 33 1 30 ∷ [],
    )
    ∷ (
      codes "BEGIN RECORD C (STRING(0) S; INTEGER V); REFERENCE(C) R; R := C(TRUE);" ∷ codes "WRITE(V(1)) END." ∷ [],
      d 32 1 24 ∷ [],
    )
    ∷ (
      codes "BEGIN RECORD C (STRING(0) S); REFERENCE(C) R; LOGICAL L; R := NULL; R := 1;" ∷ codes "L := R IS C; L := 1 IS C; L := 1 END." ∷ [],
      d 32 1 24 ∷ d 37 1 71 ∷ d 37 2 29 ∷ [],
    )
    ∷ (
      codes "BEGIN STRING(0) S; BEGIN INTEGER ARRAY A (S::2); A(TRUE) := 1 END END." ∷ [],
      d 32 1 14 ∷ d 37 1 50 ∷ [],
    )
    ∷ (
      codes "BEGIN INTEGER ARRAY A (1::BEGIN INTEGER I, I; 2 END); A(TRUE) := 1 END." ∷ [],
      d 31 1 44 ∷ d 37 1 55 ∷ [],
    )
    ∷ (
      codes "BEGIN INTEGER ARRAY A (1::BEGIN 1; 2 END); A(TRUE) := 1; A := 2 END." ∷ [],
      d 36 1 33 ∷ [],
    )
    ∷ (
      codes "BEGIN STRING(0) S; S := 1; S := TRUE + S; GOTO S; S(1) := 2; READ(S) END." ∷ [],
      d 32 1 14 ∷ [],
    )
    ∷ (
      codes "BEGIN INTEGER ARRAY A (1::2); PROCEDURE P (STRING(0) X; INTEGER ARRAY Y (*)); ;" ∷ codes "P(\"A\", A); P(1); P(U) END." ∷ [],
      d 32 1 51 ∷ d 30 2 20 ∷ [],
    )
    ∷ (
      codes "BEGIN INTEGER PROCEDURE F; IF F = 1 THEN TRUE ELSE FALSE; F(1) END." ∷ [],
      d 37 1 15 ∷ d 39 1 59 ∷ [],
    )
    ∷ (
      codes "BEGIN INTEGER J; FOR I := X UNTIL 2 DO J := I = 1;" ∷ codes "FOR I := TRUE UNTIL 2 DO J := I END." ∷ [],
      d 30 1 27 ∷ d 37 1 42 ∷ d 37 2 1 ∷ [],
    )
    ∷ (
      codes "BEGIN INTEGER ARRAY A, A (1::2); A(TRUE) := 1 END." ∷ [],
      d 31 1 24 ∷ d 37 1 34 ∷ [],
    )
    ∷ []

-- decks of the manual
abbrev pub decks_of_the_manual_decks : List Row
decks_of_the_manual_decks = (
  codes "BEGIN INTEGER A; RECORD C (INTEGER A); END." ∷ [],
  d 31 1 36 ∷ [],
)
    ∷ (
      codes "BEGIN STRING(0) S; S := 1; GOTO S; READ(S) END." ∷ [],
      d 32 1 14 ∷ [],
    )
    ∷ (
      codes "BEGIN INTEGER PROCEDURE F; TRUE; F(1) END." ∷ [],
      d 37 1 15 ∷ d 39 1 34 ∷ [],
    )
    ∷ (
      codes "BEGIN STRING(0) ARRAY A (1::2); PROCEDURE P; ; P(A) END." ∷ [],
      d 32 1 14 ∷ [],
    )
    ∷ (
      codes "BEGIN INTEGER ARRAY A (BEGIN PROCEDURE P; 1; 1 END::2); A(TRUE) := 1 END." ∷ [],
      d 36 1 30 ∷ [],
    )
    ∷ (
      codes "BEGIN STRING(5) S; S := S(X|0); S := S(0|0) END." ∷ [],
      d 30 1 27 ∷ d 32 1 39 ∷ [],
    )
    ∷ (
      codes "BEGIN PROCEDURE P (STRING(0) X; INTEGER Y); Y := TRUE; END." ∷ [],
      d 32 1 27 ∷ d 37 1 47 ∷ [],
    )
    ∷ (
      codes "BEGIN RECORD C (INTEGER V); REFERENCE(C) R;" ∷ codes "R := IF TRUE THEN NULL ELSE NULL END." ∷ [],
      [],
    )
    ∷ (
      codes "BEGIN PROCEDURE Q (STRING(0) PROCEDURE F); F(A); INTEGER ARRAY A (1::2); END." ∷ [],
      d 32 1 27 ∷ [],
    )
    ∷ []

-- a deck for each number
abbrev pub a_deck_for_each_number_decks : List Row
a_deck_for_each_number_decks = (
  codes "BEGIN INTEGER TOTAL;" ∷ codes "TOTAL := 0; TOTL := 1 END." ∷ [],
  d 30 2 13 ∷ [],
)
    ∷ (
      codes "BEGIN INTEGER N; LOGICAL N;" ∷ codes "N := 1 END." ∷ [],
      d 31 1 26 ∷ [],
    )
    ∷ (
      codes "BEGIN STRING(300) S;" ∷ codes "S := \"A\" END." ∷ [],
      d 32 1 14 ∷ [],
    )
    ∷ (
      codes "BEGIN INTEGER NODE;" ∷ codes "REFERENCE(NODE) R; R := NULL END." ∷ [],
      d 33 2 11 ∷ [],
    )
    ∷ (
      codes "BEGIN INTEGER N; N := 7;" ∷ codes "WRITE(N / 2) END." ∷ [],
      d 34 2 9 ∷ [],
    )
    ∷ (
      codes "BEGIN PROCEDURE P; ;" ∷ codes "WRITE(P) END." ∷ [],
      d 35 2 1 ∷ [],
    )
    ∷ (
      codes "BEGIN INTEGER N;" ∷ codes "N := 1; N + 1; WRITE(N) END." ∷ [],
      d 36 2 9 ∷ [],
    )
    ∷ (
      codes "BEGIN INTEGER N;" ∷ codes "N := \"SEVEN\" END." ∷ [],
      d 37 2 3 ∷ [],
    )
    ∷ (
      codes "BEGIN INTEGER N;" ∷ codes "READ(N + 1) END." ∷ [],
      d 38 2 1 ∷ [],
    )
    ∷ (
      codes "BEGIN INTEGER ARRAY A (1::2, 1::2);" ∷ codes "A(1) := 7 END." ∷ [],
      d 39 2 1 ∷ [],
    )
    ∷ (
      codes "BEGIN PROCEDURE P (INTEGER ARRAY R (*)); R(1) := 0;" ∷ codes "P(7) END." ∷ [],
      d 40 2 1 ∷ [],
    )
    ∷ (
      codes "BEGIN INTEGER ARRAY A (1::2);" ∷ codes "WRITE(A) END." ∷ [],
      d 41 2 7 ∷ [],
    )
    ∷ (
      codes "BEGIN INTEGER NEXT;" ∷ codes "GOTO NEXT END." ∷ [],
      d 42 2 6 ∷ [],
    )
    ∷ (
      codes "BEGIN FOR I := 1 UNTIL 9 DO" ∷ codes "I := I + 1 END." ∷ [],
      d 43 2 3 ∷ [],
    )
    ∷ []

-- the order of faults
abbrev pub the_order_of_faults_decks : List Row
the_order_of_faults_decks = (
  codes "BEGIN INTEGER L; PROCEDURE P (STRING(0) X; INTEGER X); 1;" ∷ codes "WRITE(Y); L: WRITE(TRUE + 1, Z) END." ∷ [],
  d 36 1 18 ∷ d 32 1 38 ∷ d 31 1 52 ∷ d 30 2 7 ∷ d 31 2 11 ∷ d 34 2 25 ∷ d 30 2 30 ∷ [],
)
    ∷ (
      codes "BEGIN X := X + 1 END." ∷ [],
      d 30 1 7 ∷ d 30 1 12 ∷ [],
    )
    ∷ (
      codes "BEGIN" ∷ codes "GOTO Q;" ∷ codes "GOTO Q;" ∷ codes "GOTO Q;" ∷ codes "GOTO Q;" ∷ codes "GOTO Q;" ∷ codes "GOTO Q;" ∷ codes "GOTO Q;" ∷ codes "GOTO Q;" ∷ codes "GOTO Q;" ∷ codes "GOTO Q;" ∷ codes "GOTO Q;" ∷ codes "GOTO Q;" ∷ codes "GOTO Q;" ∷ codes "GOTO Q;" ∷ codes "GOTO Q;" ∷ codes "GOTO Q;" ∷ codes "GOTO Q;" ∷ codes "GOTO Q;" ∷ codes "GOTO Q;" ∷ codes "GOTO Q;" ∷ codes "GOTO Q;" ∷ codes "END." ∷ [],
      d 30 2 6 ∷ d 30 3 6 ∷ d 30 4 6 ∷ d 30 5 6 ∷ d 30 6 6 ∷ d 30 7 6 ∷ d 30 8 6 ∷ d 30 9 6 ∷ d 30 10 6 ∷ d 30 11 6 ∷ d 30 12 6 ∷ d 30 13 6 ∷ d 30 14 6 ∷ d 30 15 6 ∷ d 30 16 6 ∷ d 30 17 6 ∷ d 30 18 6 ∷ d 30 19 6 ∷ d 30 20 6 ∷ d 30 21 6 ∷ d 30 22 6 ∷ [],
    )
    ∷ []

-- All of them have.
pub record DecksHaveTheirFaults : Type 0 where
  pub types : AllHave types_decks
  pub class_names : AllHave class_names_decks
  pub arrays_and_bounds : AllHave arrays_and_bounds_decks
  pub procedures : AllHave procedures_decks
  pub items_and_blocks : AllHave items_and_blocks_decks
  pub if_rows : AllHave if_decks
  pub case_rows : AllHave case_decks
  pub for_rows : AllHave for_decks
  pub while_and_assert : AllHave while_and_assert_decks
  pub goto_rows : AllHave goto_decks
  pub assignments : AllHave assignments_decks
  pub and_or_and_not : AllHave and_or_and_not_decks
  pub relations : AllHave relations_decks
  pub is_rows : AllHave is_decks
  pub integers : AllHave integers_decks
  pub shifts : AllHave shifts_decks
  pub substring_lists : AllHave substring_lists_decks
  pub other_lists : AllHave other_lists_decks
  pub names_without_list : AllHave names_without_list_decks
  pub arrays_with_lists : AllHave arrays_with_lists_decks
  pub procedures_with_lists : AllHave procedures_with_lists_decks
  pub classes_and_fields_with_lists : AllHave classes_and_fields_with_lists_decks
  pub labels_and_simple_names_with_lists : AllHave labels_and_simple_names_with_lists_decks
  pub write_and_writeon : AllHave write_and_writeon_decks
  pub read_readon_and_readcard : AllHave read_readon_and_readcard_decks
  pub functions : AllHave functions_decks
  pub actuals_for_value_and_by_name : AllHave actuals_for_value_and_by_name_decks
  pub actuals_for_result_and_value_result : AllHave actuals_for_result_and_value_result_decks
  pub actuals_for_array : AllHave actuals_for_array_decks
  pub actuals_for_procedure : AllHave actuals_for_procedure_decks
  pub actuals_of_a_procedure_formal : AllHave actuals_of_a_procedure_formal_decks
  pub names_alone_as_actuals : AllHave names_alone_as_actuals_decks
  pub an_actual_is_a_part_of_a_procedure_s_list_alone : AllHave an_actual_is_a_part_of_a_procedure_s_list_alone_decks
  pub names_declared_twice : AllHave names_declared_twice_decks
  pub scopes : AllHave scopes_decks
  pub declarations_with_faults : AllHave declarations_with_faults_decks
  pub decks_of_the_manual : AllHave decks_of_the_manual_decks
  pub a_deck_for_each_number : AllHave a_deck_for_each_number_decks
  pub the_order_of_faults : AllHave the_order_of_faults_decks
