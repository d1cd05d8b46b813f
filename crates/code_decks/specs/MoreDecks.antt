-- Further decks, of which the meaning tells what their code gives: what the other tables don't come to.
use Rattle.std.specs.Prelude.{ℕ, zero, suc, List, [], ◌∷◌, codes}
use Rattle.algolw_meaning.specs.RunRows.{Job, plain, fed, stepping}
use Rattle.code_decks.specs.CodeRows.{AllAgree}

-- jumps out of and within places, values, bounds and turns
abbrev pub jumping_jobs : List Job
jumping_jobs =
    -- in the place to which a formal is assigned back, a block with a label of its own, while the call is still under way
    plain (codes "BEGIN INTEGER ARRAY A (1::3); PROCEDURE P (INTEGER RESULT X); X := 7;" ∷ codes "P(A(BEGIN INTEGER K; K := 0; L: K := K + 1; IF K < 3 THEN GOTO L; K END));" ∷ codes "WRITE(A(3)); ASSERT FALSE END." ∷ [])
    -- the same with VALUE RESULT, once before the call and once behind the body
    ∷ plain (codes "BEGIN INTEGER ARRAY A (1::3); PROCEDURE P (INTEGER VALUE RESULT X); X := X + 1;" ∷ codes "A(3) := 5;" ∷ codes "P(A(BEGIN INTEGER K; K := 0; L: K := K + 1; IF K < 3 THEN GOTO L; K END));" ∷ codes "WRITE(A(3)); ASSERT FALSE END." ∷ [])
    -- out of the place to which a formal is assigned back
    ∷ plain (codes "BEGIN INTEGER ARRAY A (1::3); INTEGER N; PROCEDURE P (INTEGER RESULT X); X := 7;" ∷ codes "N := 1; P(A(BEGIN N := 2; GOTO M; 1 END)); WRITE(1);" ∷ codes "M: WRITE(N); ASSERT FALSE END." ∷ [])
    -- out of the value of a VALUE RESULT formal, which is no call yet
    ∷ plain (codes "BEGIN INTEGER ARRAY A (1::3); INTEGER N; PROCEDURE P (INTEGER VALUE RESULT X);;" ∷ codes "N := 1; P(A(BEGIN N := 2; GOTO M; 1 END)); WRITE(1);" ∷ codes "M: WRITE(N); ASSERT FALSE END." ∷ [])
    -- out of turns within each other
    ∷ plain (codes "BEGIN INTEGER N; N := 0;" ∷ codes "FOR I := 1, 2, 3 DO BEGIN FOR J := I STEP 2 UNTIL 6 DO" ∷ codes "BEGIN IF J = 5 THEN GOTO NEXT; N := N + J END; NEXT: END; WRITE(N);" ∷ codes "FOR I := 1 UNTIL 3 DO FOR J := 4, 5 DO IF J + I = 7 THEN GOTO L; L: WRITE(N);" ∷ codes "ASSERT FALSE END." ∷ [])
    -- within bounds, behind names that are made already
    ∷ plain (codes "BEGIN INTEGER X, Y; INTEGER ARRAY A (1::BEGIN INTEGER K; K := 0;" ∷ codes "L: K := K + 1; IF K < 4 THEN GOTO L; K END); INTEGER Z;" ∷ codes "Z := 5; X := 1; Y := 2; A(4) := X + Y + Z; WRITE(A(4)); ASSERT FALSE END." ∷ [])
    -- from a procedure within a procedure, out of both, back to a block within a turn
    ∷ plain (codes "BEGIN INTEGER N; N := 0;" ∷ codes "FOR I := 1 UNTIL 2 DO BEGIN INTEGER K; PROCEDURE P (INTEGER VALUE M);" ∷ codes "BEGIN PROCEDURE Q; IF M < 2 THEN P(M + 1) ELSE GOTO L; Q; N := N + 100 END;" ∷ codes "K := I; P(0); N := N + 1000; L: N := N + K; WRITE(N) END; ASSERT FALSE END." ∷ [])
    -- out of a call, to a label of a function's body, whose value is then the function's
    ∷ plain (codes "BEGIN INTEGER PROCEDURE F (INTEGER VALUE N; INTEGER RESULT R);" ∷ codes "BEGIN PROCEDURE Q (PROCEDURE S); BEGIN INTEGER K; K := 1; S; K := 2 END;" ∷ codes "Q(GOTO L); N := 0; L: R := N; N + 1 END;" ∷ codes "INTEGER I; WRITE(F(5, I) + F(6, I)); WRITE(I); ASSERT FALSE END." ∷ [])
    ∷ []

-- calls, with formals of all kinds
abbrev pub calling_jobs : List Job
calling_jobs =
    -- all kinds of formals through a procedure formal
    plain (codes "BEGIN INTEGER I; INTEGER ARRAY A (1::3); INTEGER ARRAY B (1::2,1::2);" ∷ codes "PROCEDURE G (INTEGER VALUE RESULT X; INTEGER RESULT Y; INTEGER VALUE Z;" ∷ codes "INTEGER ARRAY R (*); INTEGER ARRAY S (*); PROCEDURE V; INTEGER N);" ∷ codes "BEGIN X := X + Z; Y := X + N; R(1) := 9; S(2) := 8; V; N := N + 1 END;" ∷ codes "PROCEDURE T (PROCEDURE F); F(I, A(I), 2 + 3, A, B(1,*), WRITE(I), A(2));" ∷ codes "I := 2; A(2) := 40; T(G); WRITE(I, A(1), A(2), B(1,2)) END." ∷ [])
    -- names that are handed on, and the values of functions whose names stand alone
    ∷ plain (codes "BEGIN INTEGER N; INTEGER PROCEDURE G; BEGIN N := N + 1; N END;" ∷ codes "PROCEDURE P (INTEGER VALUE X; INTEGER Y; INTEGER PROCEDURE Z);" ∷ codes "WRITE(X, Y, Z, Y, Z);" ∷ codes "PROCEDURE Q (PROCEDURE F; INTEGER PROCEDURE H); BEGIN F(H, H, H); P(H, H, H) END;" ∷ codes "N := 0; P(G, G, G); Q(P, G); Q(P, N + 10) END." ∷ [])
    -- a name formal whose actual is a name formal is assigned back to
    ∷ plain (codes "BEGIN INTEGER I; INTEGER ARRAY A (1::3);" ∷ codes "PROCEDURE R (INTEGER RESULT X); BEGIN X := 5; I := 3 END;" ∷ codes "PROCEDURE Q (INTEGER Y); R(Y); PROCEDURE P (INTEGER Z); Q(Z);" ∷ codes "I := 1; P(A(I)); WRITE(A(3)); WRITE(A(1)) END." ∷ [])
    -- a field is assigned back to, whose record is found anew
    ∷ plain (codes "BEGIN RECORD C (INTEGER V; STRING(3) S); REFERENCE(C) R, Q;" ∷ codes "PROCEDURE P (INTEGER VALUE RESULT X; STRING(3) RESULT T);" ∷ codes "BEGIN X := X + 1; T := \"XY\"; R := Q END;" ∷ codes "R := C(1, \"A\"); Q := C(10, \"B\"); P(V(R), S(R)); WRITE(V(Q), S(Q), \"!\");" ∷ codes "P(V(R), S(R)(1|2)) END." ∷ [])
    -- procedures within procedures, with the names of each, declared before and behind
    ∷ plain (codes "BEGIN INTEGER A; PROCEDURE P (INTEGER VALUE B; INTEGER C);" ∷ codes "BEGIN INTEGER D; PROCEDURE Q (INTEGER VALUE E; INTEGER F);" ∷ codes "BEGIN INTEGER G; PROCEDURE R (INTEGER H);" ∷ codes "BEGIN H := H + A + B + C + D + E + F + G + Z; IF A < 3 THEN BEGIN A := A + 1;" ∷ codes "P(H, F) END END; G := 6; R(G); F := F + G END; D := 4; Q(5, D); C := C + D END;" ∷ codes "INTEGER Z; A := 1; Z := 7; P(2, Z); WRITE(A, Z) END." ∷ [])
    -- arrays of a call, with bounds from its formals, and parts of them handed on
    ∷ plain (codes "BEGIN INTEGER PROCEDURE S (INTEGER VALUE N; INTEGER M);" ∷ codes "BEGIN INTEGER ARRAY A, B (1::N,M::M + 1); PROCEDURE F (INTEGER ARRAY R (*));" ∷ codes "BEGIN R(N) := N; IF N > 1 THEN WRITEON(S(N - 1, M + 1)) END;" ∷ codes "B(N,M) := 100; F(A(*,M)); A(N,M) + B(N,M) END;" ∷ codes "WRITEON(S(3, 4)); ASSERT FALSE END." ∷ [])
    -- strings: a part of a name formal, of a function and of a function of a name formal
    ∷ plain (codes "BEGIN STRING(5) S; STRING(4) PROCEDURE F (STRING(5) X); BEGIN X(1|2) := \"!\"; X(0|4) END;" ∷ codes "STRING(2) PROCEDURE G (STRING(4) PROCEDURE H); H(1|2);" ∷ codes "S := \"ABCDE\"; WRITE(F(S)(0|3), S, G(S(0|4)), G(\"XYZ\"), \"?\") END." ∷ [])
    -- records: a function of a class, tested at its body and at its use
    ∷ plain (codes "BEGIN RECORD C (INTEGER V); RECORD D (INTEGER W); REFERENCE(C, D) U;" ∷ codes "REFERENCE(C, D) PROCEDURE F (INTEGER VALUE N); IF N = 0 THEN C(1) ELSE D(2);" ∷ codes "PROCEDURE P (REFERENCE(C) X); BEGIN WRITE(V(X)); U := X; WRITE(U IS D) END;" ∷ codes "P(F(0)); P(F(1)) END." ∷ [])
    -- reading into formals, elements and parts
    ∷ fed (codes "7 \"Q\"" ∷ codes "WXYZ" ∷ codes "1" ∷ []) (codes "BEGIN INTEGER ARRAY A (1::3); STRING(80) T; STRING(6) S;" ∷ codes "PROCEDURE P (INTEGER X; STRING(3) Y); BEGIN READON(X, Y); READCARD(T) END;" ∷ codes "S := \"ABCDEF\"; P(A(3), S(2|3)); WRITE(A(3), S, T(0|4)); IOCONTROL(1); READON(A(1)) END." ∷ [])
    -- FOR within an actual and a CASE with blocks
    ∷ plain (codes "BEGIN INTEGER N; PROCEDURE P (PROCEDURE S; INTEGER X); BEGIN S; WRITE(X); S END;" ∷ codes "N := 0; P(FOR I := 1 STEP 2 UNTIL 5 DO FOR J := I, 2 * I DO N := N + J," ∷ codes "CASE N DIV 20 OF (1, BEGIN INTEGER K; K := N; K + 1 END, 3)); WRITE(N);" ∷ codes "P(N := 100, CASE N DIV 10 OF (1, 2)) END." ∷ [])
    ∷ []

-- faults and dumps
abbrev pub faults_jobs : List Job
faults_jobs =
    -- in an actual that is an aside: its blocks are shown, and no call
    plain (codes "BEGIN INTEGER ARRAY A (1::3); PROCEDURE P (INTEGER VALUE RESULT X);;" ∷ codes "P(A(BEGIN INTEGER K; K := 0; 1 DIV K END)) END." ∷ [])
    -- the same through a procedure formal
    ∷ plain (codes "BEGIN INTEGER N; PROCEDURE P (INTEGER VALUE X);;" ∷ codes "PROCEDURE T (PROCEDURE F); F(BEGIN INTEGER K; K := N; 1 DIV K END);" ∷ codes "N := 0; T(P) END." ∷ [])
    -- and in assigning back through one
    ∷ plain (codes "BEGIN INTEGER N; INTEGER ARRAY A (1::2); PROCEDURE P (INTEGER VALUE RESULT X);" ∷ codes "BEGIN X := 4; N := 5 END; PROCEDURE T (PROCEDURE F); F(A(N));" ∷ codes "N := 1; A(1) := 2; T(P) END." ∷ [])
    -- a record of another class for a formal through a procedure formal, at that call
    ∷ plain (codes "BEGIN RECORD C (INTEGER V); RECORD D (INTEGER W); REFERENCE(C, D) U;" ∷ codes "PROCEDURE P (REFERENCE(C) VALUE X);; PROCEDURE T (PROCEDURE F); F(U);" ∷ codes "U := D(1); T(P) END." ∷ [])
    -- an undefined RESULT formal, behind one that was assigned back
    ∷ plain (codes "BEGIN INTEGER N, M; INTEGER PROCEDURE P (INTEGER RESULT X, Y); BEGIN X := 3; 9 END;" ∷ codes "WRITE(P(N, M)) END." ∷ [])
    -- a record of another class that is assigned back
    ∷ plain (codes "BEGIN RECORD C (INTEGER V); RECORD D (INTEGER W); REFERENCE(C) U; REFERENCE(C, D) T;" ∷ codes "PROCEDURE P (REFERENCE(C, D) RESULT X); X := T; T := C(3); P(U); T := D(4); P(U) END." ∷ [])
    -- a fault in an actual that is used in an actual, from a turn
    ∷ plain (codes "BEGIN PROCEDURE P (INTEGER X; INTEGER Y); FOR I := 3, 2, 1, 0 DO WRITE(X + I, Y);" ∷ codes "PROCEDURE Q (INTEGER Z); FOR J := 1 STEP -1 UNTIL -1 DO P(Z DIV J, Z + J); Q(7) END." ∷ [])
    -- cells: an aside leaves none, and what its subscripts take is given back
    ∷ plain (codes "BEGIN INTEGER ARRAY A (1::32764); PROCEDURE P (INTEGER VALUE RESULT X);;" ∷ codes "A(1) := 1; P(A(1)); P(A(1 + 0)); P(A(1 + (1 - 1))) END." ∷ [])
    -- a function that calls itself for its actual, with RESULT and a name
    ∷ plain (codes "BEGIN INTEGER PROCEDURE F (INTEGER VALUE N; INTEGER RESULT R; INTEGER X);" ∷ codes "BEGIN INTEGER Q; R := N; IF N = 0 THEN X ELSE F(N - 1, Q, X + Q) + Q END;" ∷ codes "INTEGER T; T := 0; WRITE(F(4, T, T), T); ASSERT T < 4 END." ∷ [])
    -- a function's value of another class, where no cell is left for it
    ∷ plain (codes "BEGIN RECORD C (INTEGER V); RECORD D (INTEGER W); REFERENCE(C, D) U;" ∷ codes "INTEGER ARRAY A (1::32764); REFERENCE(C) PROCEDURE F; U; U := D(1);" ∷ codes "BEGIN INTEGER ARRAY B (1::1); WRITE(V(F)) END END." ∷ [])
    -- and where its class is right
    ∷ plain (codes "BEGIN RECORD C (INTEGER V); RECORD D (INTEGER W); REFERENCE(C, D) U;" ∷ codes "INTEGER ARRAY A (1::32764); REFERENCE(C) PROCEDURE F; U; U := C(1);" ∷ codes "BEGIN INTEGER ARRAY B (1::1); WRITE(V(F)) END END." ∷ [])
    ∷ []

-- depth
abbrev pub deep_jobs : List Job
deep_jobs =
    -- a VALUE RESULT actual is no copied actual: at the limit of depth it has still room
    plain (codes "BEGIN INTEGER N; PROCEDURE P (INTEGER VALUE RESULT X); P(X); N := 1; P(N) END." ∷ [])
    ∷ []

-- what doesn't fit is told before anything is prepared
abbrev pub comparing_jobs : List Job
comparing_jobs =
    plain (codes "BEGIN PROCEDURE P (LOGICAL VALUE X);; PROCEDURE T (PROCEDURE Q); Q(1 DIV 0);" ∷ codes "T(P) END." ∷ [])
    -- and a statement has no formals
    ∷ plain (codes "BEGIN PROCEDURE T (PROCEDURE Q); Q(1 DIV 0);" ∷ codes "T(WRITE(1)) END." ∷ [])
    ∷ []

-- jumps out of fifteen calls each, so often that their depths would be too many together
abbrev pub deep_jumps_jobs : List Job
deep_jumps_jobs =
    plain (codes "BEGIN INTEGER K; PROCEDURE A; GOTO L;" ∷ codes "PROCEDURE B; A; PROCEDURE C; B; PROCEDURE D; C; PROCEDURE E; D;" ∷ codes "PROCEDURE F; E; PROCEDURE G; F; PROCEDURE H; G; PROCEDURE I; H;" ∷ codes "PROCEDURE J; I; PROCEDURE M; J; PROCEDURE N; M; PROCEDURE O; N;" ∷ codes "PROCEDURE P; O; PROCEDURE Q; P;" ∷ codes "K := 0; L: K := K + 1; IF K < 140 THEN Q; WRITE(K); ASSERT FALSE END." ∷ [])
    ∷ []

-- decks of the tables of programs and of sections
abbrev pub program_jobs : List Job
program_jobs =
    plain (codes "BEGIN INTEGER I; PROCEDURE P (INTEGER X; LOGICAL Y);" ∷ codes "BEGIN INTEGER Z; Z := X END;" ∷ codes "FOR K := 1 UNTIL 2 DO BEGIN INTEGER M; M := K END;" ∷ codes "L: P(1, TRUE) END." ∷ [])
    ∷ plain (codes "BEGIN INTEGER X; INTEGER ARRAY A (1::BEGIN INTEGER Y; Y := 2; Y END); END." ∷ [])
    ∷ plain (codes "BEGIN INTEGER I, J; I := J := 1; IF TRUE THEN (I) := 2 ELSE;" ∷ codes "I := IF TRUE THEN 1 ELSE 2 END." ∷ [])
    ∷ plain (codes "BEGIN RECORD C (INTEGER V; REFERENCE(D, C) R);" ∷ codes "RECORD D (STRING(3) S); PROCEDURE P (PROCEDURE Q); Q; P(WRITE(1)) END." ∷ [])
    ∷ fed (codes "  12" ∷ []) (codes "BEGIN INTEGER N; INTEGER PROCEDURE HALF" ∷ codes "  (INTEGER VALUE X);" ∷ codes "  X DIV (X - 3);" ∷ codes "READ(N); WRITE(N);" ∷ codes "FOR I := 5 STEP -1 UNTIL 1 DO WRITE(HALF(I)) END." ∷ [])
    ∷ stepping 5 (codes "BEGIN INTEGER N; N := 0;" ∷ codes "MORE: N := N + 1; GOTO MORE END." ∷ [])
    ∷ []

-- a deck that may take so many steps, and one more each, so often
abbrev pub steps_from : ℕ → ℕ → List (List ℕ) → List Job
steps_from n zero deck = []
steps_from n (suc k) deck = stepping n deck ∷ steps_from (suc n) k deck

-- stopped at each of its steps: a call with formals of all kinds
abbrev pub stepped_jobs : List Job
stepped_jobs = steps_from 1 18 (codes "BEGIN INTEGER I; INTEGER ARRAY A (1::3); INTEGER ARRAY B (1::2,1::2);" ∷ codes "PROCEDURE G (INTEGER VALUE RESULT X; INTEGER RESULT Y; INTEGER VALUE Z;" ∷ codes "INTEGER ARRAY R (*); INTEGER ARRAY S (*); PROCEDURE V; INTEGER N);" ∷ codes "BEGIN X := X + Z; Y := X + N; R(1) := 9; S(2) := 8; V; N := N + 1 END;" ∷ codes "PROCEDURE T (PROCEDURE F); F(I, A(I), 2 + 3, A, B(1,*), WRITE(I), A(2));" ∷ codes "I := 2; A(2) := 40; T(G); WRITE(I, A(1), A(2), B(1,2)) END." ∷ [])

-- and jumps out of calls
abbrev pub stepped_jumps_jobs : List Job
stepped_jumps_jobs = steps_from 1 18 (codes "BEGIN INTEGER N; N := 0;" ∷ codes "FOR I := 1 UNTIL 2 DO BEGIN INTEGER K; PROCEDURE P (INTEGER VALUE M);" ∷ codes "BEGIN PROCEDURE Q; IF M < 2 THEN P(M + 1) ELSE GOTO L; Q; N := N + 100 END;" ∷ codes "K := I; P(0); N := N + 1000; L: N := N + K; WRITE(N) END; ASSERT FALSE END." ∷ [])

pub record CodeOfMoreDecks : Type 0 where
  pub jumping : AllAgree jumping_jobs
  pub calling : AllAgree calling_jobs
  pub faults : AllAgree faults_jobs
  pub deep : AllAgree deep_jobs
  pub comparing : AllAgree comparing_jobs
  pub deep_jumps : AllAgree deep_jumps_jobs
  pub stepped : AllAgree stepped_jobs
  pub stepped_jumps : AllAgree stepped_jumps_jobs
  pub programs : AllAgree program_jobs
