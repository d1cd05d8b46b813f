-- Decks with settings and standard variables where they may not stand, each with the diagnostics that it has.
use Rattle.std.specs.Prelude.{List, [], ◌∷◌, codes}
use Rattle.algolw_meaning.specs.TypingDecks.{Row, AllHave, d}

abbrev pub faulty_settings : List Row
faulty_settings =
    -- a WRITE that only sets has no value
    (
      codes "BEGIN WRITE(I_W := 5) END." ∷ [],
      d 39 1 7 ∷ [],
    )
    -- declared anew, I_W is set by no setting
    ∷ (
      codes "BEGIN INTEGER I_W; WRITE(I_W := 5, 1) END." ∷ [],
      d 35 1 20 ∷ [],
    )
    ∷ (
      codes "BEGIN PROCEDURE P (INTEGER I_W); WRITE(I_W := 3, 1); P(2) END." ∷ [],
      d 35 1 34 ∷ [],
    )
    ∷ (
      codes "BEGIN FOR I_W := 1 UNTIL 2 DO WRITE(I_W := 3, 1) END." ∷ [],
      d 43 1 41 ∷ [],
    )
    ∷ (
      codes "BEGIN BEGIN I_W: WRITE(I_W := 3, 1) END; BEGIN RECORD S_W (INTEGER V); WRITE(S_W" ∷ codes ":= 3, 1) END;" ∷ codes "BEGIN RECORD C (INTEGER I_W); WRITE(I_W := 3, 1) END;" ∷ codes "BEGIN INTEGER PROCEDURE I_W; 5; WRITE(I_W := 3, 1) END END." ∷ [],
      d 41 1 24 ∷ d 38 2 1 ∷ d 41 3 37 ∷ d 38 4 43 ∷ [],
    )
    ∷ (
      codes "BEGIN STRING(0) I_W; WRITE(I_W := 3, 1); WRITE(1, I_W) END." ∷ [],
      d 32 1 14 ∷ [],
    )
    ∷ (
      codes "BEGIN INTEGER ARRAY I_W (1::2); WRITE(I_W(1) := 3, 1) END." ∷ [],
      d 35 1 33 ∷ [],
    )
    -- an assignment of an assignment is no setting
    ∷ (
      codes "BEGIN INTEGER J; WRITE(I_W := J := 3, 1) END." ∷ [],
      d 35 1 18 ∷ [],
    )
    ∷ (
      codes "BEGIN INTEGER J; WRITE(I_W := S_W := 3, 1); WRITE(I_W := (J := 3), 1) END." ∷ [],
      d 35 1 18 ∷ d 35 1 45 ∷ [],
    )
    -- nor is one to another variable
    ∷ (
      codes "BEGIN INTEGER J; WRITE(J := 3, 1); WRITE(J := I_W := 3, 1) END." ∷ [],
      d 35 1 18 ∷ d 35 1 36 ∷ [],
    )
    -- nor one within a part
    ∷ (
      codes "BEGIN WRITE(IF TRUE THEN I_W := 3, 1); WRITE(BEGIN I_W := 3 END, 1) END." ∷ [],
      d 35 1 7 ∷ d 35 1 40 ∷ [],
    )
    ∷ (
      codes "BEGIN WRITE(CASE 1 OF (I_W := 3), 1); WRITE(ABS(I_W := 3)); WRITE(I_W = S_W :=" ∷ codes "3, 1) END." ∷ [],
      d 35 1 13 ∷ d 35 1 45 ∷ d 38 1 77 ∷ [],
    )
    -- the faults of its := silence the WRITE
    ∷ (
      codes "BEGIN WRITE(I_W := WRITE(1), 2); WRITE(S_W := TRUE, 2); WRITE(I_W := NULL) END." ∷ [],
      d 35 1 17 ∷ d 37 1 44 ∷ d 37 1 67 ∷ [],
    )
    ∷ (
      codes "BEGIN WRITE(I_W := TRUE, *, WRITE(1)); WRITE(I_W := X, 1) END." ∷ [],
      d 37 1 17 ∷ d 30 1 53 ∷ [],
    )
    -- 40 comes before 39, and 35 before 37
    ∷ (
      codes "BEGIN WRITE(*, I_W := 3); WRITE(I_W := 3, S_W := 1); WRITE(I_W := 3, WRITE(1)," ∷ codes "NULL) END." ∷ [],
      d 40 1 7 ∷ d 39 1 27 ∷ d 35 1 54 ∷ [],
    )
    ∷ (
      codes "BEGIN WRITE(I_W := 3, NULL); WRITEON(NULL, S_W := 3) END." ∷ [],
      d 37 1 7 ∷ d 37 1 30 ∷ [],
    )
    -- a substring list knows none
    ∷ (
      codes "BEGIN WRITE(I_W := 3|1); WRITE(1|1) END." ∷ [],
      d 41 1 7 ∷ d 41 1 26 ∷ [],
    )
    -- nor does the list of another name
    ∷ (
      codes "BEGIN PROCEDURE P (INTEGER X); ; P(I_W := 3); READ(I_W := 3); IOCONTROL(I_W :=" ∷ codes "1) END." ∷ [],
      d 35 1 34 ∷ d 38 1 47 ∷ d 35 1 63 ∷ [],
    )
    ∷ (
      codes "BEGIN PROCEDURE P (PROCEDURE S); ; P(I_W); P(S_W := 1); P(WRITE(I_W := 1)) END." ∷ [],
      d 36 1 36 ∷ d 39 1 59 ∷ [],
    )
    ∷ (
      codes "BEGIN PROCEDURE P; ; INTEGER PROCEDURE F; 4; WRITE(I_W := F, F, P) END." ∷ [],
      d 35 1 46 ∷ [],
    )
    -- what a variable isn't used for
    ∷ (
      codes "BEGIN REFERENCE(I_W) R; WRITE(I_W(0|1)); WRITE(I_W(1)); GOTO S_W END." ∷ [],
      d 33 1 17 ∷ d 34 1 34 ∷ d 41 1 48 ∷ d 42 1 62 ∷ [],
    )
    ∷ (
      codes "BEGIN RECORD C (INTEGER V); REFERENCE(S_W) Q; I_W := TRUE; READCARD(I_W);" ∷ codes "WRITE(V(I_W)); WRITE(I_W IS C); READ(I_W + 1) END." ∷ [],
      d 33 1 39 ∷ d 37 1 51 ∷ d 37 1 60 ∷ d 37 2 7 ∷ d 34 2 26 ∷ d 38 2 33 ∷ [],
    )
    ∷ (
      codes "BEGIN REFERENCE(I_W) R; R := NULL IS S_W END." ∷ [],
      d 33 1 17 ∷ d 33 1 38 ∷ [],
    )
    -- I__W is another name
    ∷ (
      codes "BEGIN write(i_w := 3, 7); WRITE(I__W := 3, 7) END." ∷ [],
      d 30 1 33 ∷ [],
    )
    ∷ []

abbrev pub SettingsHaveTheirFaults : Type 0
SettingsHaveTheirFaults = AllHave faulty_settings
