-- Decks without faults, with the names, record classes and statements of the program that each is, and what the statements
-- of its outermost block name.
use Rattle.std.specs.Prelude.{◌≡◌, ◌++◌, ℕ, zero, suc, ◌+◌, List, [], ◌∷◌, length, Option, None, Some, drop, codes}
use Rattle.value_ops.specs.declared.places.Place.{Place}
use Rattle.algolw_tree.specs.declared.programs.NameInfo.{NameInfo}
use Rattle.algolw_tree.specs.Standards.{standard_table}
use Rattle.algolw_typing.specs.Types.{ValueType, Integer, Logical, Bits, Str, Reference, Gives, Statement, Simple}
use Rattle.algolw_typing.specs.Typed as typed
use Rattle.algolw_typing.specs.Naming.{Class}
use Rattle.algolw_typing.specs.Programs.{TypedProgram, program_of}
use Rattle.algolw_meaning.specs.DeckDiagnostics.{Deck, IsProgram, deck_of}

abbrev pub at : ℕ → ℕ → Place
at card column = record { card = card; column = column }

-- the slot of a name that a deck declares: outside procedures those of the standard names come first
abbrev pub slot_at : ℕ → ℕ → ℕ
slot_at zero n = length standard_table + n
slot_at (suc level) n = n

-- a name, the card and column of its place, its level, and how many names of the deck have slots before its own
abbrev pub name : List ℕ → ℕ → ℕ → ℕ → ℕ → NameInfo
name x card column level n = record { name = x; place = at card column; level = level; slot = slot_at level n }

-- ---- what a statement names

-- A statement at a place, with the declaration of the name that it begins with or goes to, or of its control name. Of an
-- assignment also such a name of what is assigned, and what that gives.
pub data Doing : Type 0 where
  Speaks : Place → Option Place → Doing
  Assigns : Place → Option Place → Option Place → Option Gives → Doing

-- a name is assigned a value of a type
abbrev pub assigned : Place → Place → Option Place → ValueType → Doing
assigned p x y t = Assigns p (Some x) y (Some (Simple t))

abbrev pub own_name : typed.Kind → Option Place
own_name (typed.Named d lists) = Some d
own_name (typed.Goto d) = Some d
own_name (typed.ForStep d a step b body) = Some d
own_name (typed.ForList d values body) = Some d
own_name k = None

-- that of an assignment is the one on its left
abbrev pub first_name : typed.Kind → Option Place
first_name (typed.Assign a b) = own_name (typed.kind a)
first_name k = own_name k

abbrev pub doing : Place → typed.Kind → Doing
doing p (typed.Assign a b) = Assigns p (own_name (typed.kind a)) (first_name (typed.kind b)) (typed.gives b)
doing p k = Speaks p (own_name k)

-- Only what is counted is a statement.
abbrev pub doing_of : typed.Node → List Doing
doing_of (typed.At p f g (Some s) k) = doing s k ∷ []
doing_of (typed.At p f g None k) = []

abbrev pub doings_of_items : typed.Items → List Doing
doings_of_items typed.no_items = []
doings_of_items (typed.item_and (typed.Labelled labels a) items) = doing_of a ++ doings_of_items items

abbrev pub doings_of : typed.Kind → List Doing
doings_of (typed.Block decls items) = doings_of_items items
doings_of k = []

-- ---- the parts of a program

-- the names but for the standard ones, the record classes, the statements, and what those of the outermost block name
pub record Parts : Type 0 where
  pub names : List NameInfo
  pub classes : List Class
  pub statements : List Place
  pub doings : List Doing

abbrev pub parts : TypedProgram → Parts
parts p = record { names = drop (length standard_table) p.names; classes = p.classes; statements = p.statements; doings = doings_of (typed.kind p.root) }

abbrev pub parts_found : Deck → Parts
parts_found (IsProgram x) = parts (program_of x)
parts_found d = record { names = []; classes = []; statements = []; doings = [] }

-- the deck is a program with exactly these parts
abbrev pub HasParts : List (List ℕ) → Parts → Type 0
HasParts cards wanted = parts_found (deck_of cards) ≡ wanted

pub record DecksHaveTheirParts : Type 0 where
  -- names in procedures, FOR and blocks
  pub procedures : HasParts
      (codes "BEGIN INTEGER I; PROCEDURE P (INTEGER X; LOGICAL Y);" ∷ codes "BEGIN INTEGER Z; Z := X END;" ∷ codes "FOR K := 1 UNTIL 2 DO BEGIN INTEGER M; M := K END;" ∷ codes "L: P(1, TRUE) END." ∷ [])
      (record {
        names = name (codes "I") 1 15 0 0 ∷ name (codes "P") 1 28 0 1 ∷ name (codes "X") 1 39 1 0 ∷ name (codes "Y") 1 50 1 1 ∷ name (codes "Z") 2 15 1 2 ∷ name (codes "K") 3 1 0 3 ∷ name (codes "M") 3 37 0 4 ∷ name (codes "L") 4 1 0 2 ∷ [];
        classes = [];
        statements = at 1 1 ∷ at 2 1 ∷ at 2 18 ∷ at 3 1 ∷ at 3 23 ∷ at 3 40 ∷ at 4 4 ∷ [];
        doings = Speaks (at 3 1) (Some (at 3 1)) ∷ Speaks (at 4 4) (Some (at 1 28)) ∷ [];
      })
  -- a block in a bound
  pub bounds : HasParts
      (codes "BEGIN INTEGER X; INTEGER ARRAY A (1::BEGIN INTEGER Y; Y := 2; Y END); END." ∷ [])
      (record {
        names = name (codes "X") 1 15 0 0 ∷ name (codes "A") 1 32 0 1 ∷ name (codes "Y") 1 52 0 2 ∷ [];
        classes = [];
        statements = at 1 1 ∷ at 1 55 ∷ [];
        doings = [];
      })
  -- a multiple assignment, and an IF with a value
  pub assignments : HasParts
      (codes "BEGIN INTEGER I, J; I := J := 1; IF TRUE THEN (I) := 2 ELSE;" ∷ codes "I := IF TRUE THEN 1 ELSE 2 END." ∷ [])
      (record {
        names = name (codes "I") 1 15 0 0 ∷ name (codes "J") 1 18 0 1 ∷ [];
        classes = [];
        statements = at 1 1 ∷ at 1 21 ∷ at 1 34 ∷ at 1 48 ∷ at 2 1 ∷ [];
        doings = Assigns (at 1 21) (Some (at 1 15)) (Some (at 1 18)) (Some Statement) ∷ Speaks (at 1 34) None ∷ assigned (at 2 1) (at 1 15) None Integer ∷ [];
      })
  -- record classes, and a statement as an actual
  pub classes : HasParts
      (codes "BEGIN RECORD C (INTEGER V; REFERENCE(D, C) R);" ∷ codes "RECORD D (STRING(3) S); PROCEDURE P (PROCEDURE Q); Q; P(WRITE(1)) END." ∷ [])
      (record {
        names = name (codes "C") 1 14 0 0 ∷ name (codes "V") 1 25 0 1 ∷ name (codes "R") 1 44 0 2 ∷ name (codes "D") 2 8 0 3 ∷ name (codes "S") 2 21 0 4 ∷ name (codes "P") 2 35 0 5 ∷ name (codes "Q") 2 48 1 0 ∷ [];
        classes = record { place = at 1 14; name = codes "C"; fields = (codes "V", Integer) ∷ (codes "R", Reference (at 1 14 ∷ at 2 8 ∷ [])) ∷ [] } ∷ record { place = at 2 8; name = codes "D"; fields = (codes "S", Str 3) ∷ [] } ∷ [];
        statements = at 1 1 ∷ at 2 52 ∷ at 2 55 ∷ at 2 57 ∷ [];
        doings = Speaks (at 2 55) (Some (at 2 35)) ∷ [];
      })
  -- labels, of which an inner one hides the outer
  pub labels : HasParts
      (codes "BEGIN GOTO L; L: BEGIN GOTO L; M: L: GOTO M END;" ∷ codes "GOTO L END." ∷ [])
      (record {
        names = name (codes "L") 1 15 0 0 ∷ name (codes "M") 1 32 0 1 ∷ name (codes "L") 1 35 0 2 ∷ [];
        classes = [];
        statements = at 1 1 ∷ at 1 7 ∷ at 1 18 ∷ at 1 24 ∷ at 1 38 ∷ at 2 1 ∷ [];
        doings = Speaks (at 1 7) (Some (at 1 15)) ∷ Speaks (at 1 18) None ∷ Speaks (at 2 1) (Some (at 1 15)) ∷ [];
      })
  -- a procedure in a procedure, and FOR with names of its own
  pub nested : HasParts
      (codes "BEGIN INTEGER K; PROCEDURE P (INTEGER A, B; LOGICAL C);" ∷ codes "BEGIN PROCEDURE Q (INTEGER A); BEGIN INTEGER D; FOR E := K DO D := E + A END;" ∷ codes "INTEGER F; Q(B) END;" ∷ codes "FOR K := K, 2 DO WRITE(K); K := K END." ∷ [])
      (record {
        names = name (codes "K") 1 15 0 0 ∷ name (codes "P") 1 28 0 1 ∷ name (codes "A") 1 39 1 0 ∷ name (codes "B") 1 42 1 1 ∷ name (codes "C") 1 53 1 2 ∷ name (codes "Q") 2 17 1 3 ∷ name (codes "A") 2 28 2 0 ∷ name (codes "D") 2 46 2 1 ∷ name (codes "E") 2 49 2 2 ∷ name (codes "F") 3 9 1 4 ∷ name (codes "K") 4 1 0 2 ∷ [];
        classes = [];
        statements = at 1 1 ∷ at 2 1 ∷ at 2 32 ∷ at 2 49 ∷ at 2 63 ∷ at 3 12 ∷ at 4 1 ∷ at 4 18 ∷ at 4 28 ∷ [];
        doings = Speaks (at 4 1) (Some (at 4 1)) ∷ assigned (at 4 28) (at 1 15) (Some (at 1 15)) Integer ∷ [];
      })
  -- blocks in a limit, in a FOR and in each other, whose slots are used anew
  pub blocks : HasParts
      (codes "BEGIN INTEGER N; N := 3;" ∷ codes "FOR I := 1 STEP 1 UNTIL BEGIN INTEGER J; J := N; J END DO BEGIN INTEGER M;" ∷ codes "FOR O := I DO M := O END; BEGIN INTEGER T; T := 1; BEGIN INTEGER U;" ∷ codes "U := T END END; BEGIN INTEGER V; V := N END END." ∷ [])
      (record {
        names = name (codes "N") 1 15 0 0 ∷ name (codes "I") 2 1 0 1 ∷ name (codes "J") 2 39 0 2 ∷ name (codes "M") 2 73 0 2 ∷ name (codes "O") 3 1 0 3 ∷ name (codes "T") 3 41 0 1 ∷ name (codes "U") 3 66 0 2 ∷ name (codes "V") 4 31 0 1 ∷ [];
        classes = [];
        statements = at 1 1 ∷ at 1 18 ∷ at 2 1 ∷ at 2 42 ∷ at 2 59 ∷ at 3 1 ∷ at 3 15 ∷ at 3 27 ∷ at 3 44 ∷ at 3 52 ∷ at 4 1 ∷ at 4 17 ∷ at 4 34 ∷ [];
        doings = Assigns (at 1 18) (Some (at 1 15)) None (Some (Simple Integer)) ∷ Speaks (at 2 1) (Some (at 2 1)) ∷ Speaks (at 3 27) None ∷ Speaks (at 4 17) None ∷ [];
      })
  -- references to sets of classes, which are joined
  pub sets : HasParts
      (codes "BEGIN RECORD A (BITS I); RECORD B (BITS J); RECORD C (BITS K);" ∷ codes "RECORD D (BITS L); RECORD E (BITS M); RECORD F (BITS N);" ∷ codes "REFERENCE(F, A, C, E, A) P; REFERENCE(E, D, B) Q; REFERENCE(A, B) S;" ∷ codes "REFERENCE(C, D) T; REFERENCE(A, B, C, D, E, F) R; R := IF TRUE THEN P ELSE Q;" ∷ codes "R := IF TRUE THEN Q ELSE P; R := IF TRUE THEN S ELSE T;" ∷ codes "R := IF TRUE THEN T ELSE S; R := IF TRUE THEN NULL ELSE P;" ∷ codes "R := CASE 1 OF (B, D, Q, B, A); R := IF TRUE THEN R ELSE S;" ∷ codes "R := R; R := P; R := IF TRUE THEN NULL ELSE NULL END." ∷ [])
      (record {
        names = name (codes "A") 1 14 0 0 ∷ name (codes "I") 1 22 0 1 ∷ name (codes "B") 1 33 0 2 ∷ name (codes "J") 1 41 0 3 ∷ name (codes "C") 1 52 0 4 ∷ name (codes "K") 1 60 0 5 ∷ name (codes "D") 2 8 0 6 ∷ name (codes "L") 2 16 0 7 ∷ name (codes "E") 2 27 0 8 ∷ name (codes "M") 2 35 0 9 ∷ name (codes "F") 2 46 0 10 ∷ name (codes "N") 2 54 0 11 ∷ name (codes "P") 3 26 0 12 ∷ name (codes "Q") 3 48 0 13 ∷ name (codes "S") 3 67 0 14 ∷ name (codes "T") 4 17 0 15 ∷ name (codes "R") 4 48 0 16 ∷ [];
        classes = record { place = at 1 14; name = codes "A"; fields = (codes "I", Bits) ∷ [] } ∷ record { place = at 1 33; name = codes "B"; fields = (codes "J", Bits) ∷ [] } ∷ record { place = at 1 52; name = codes "C"; fields = (codes "K", Bits) ∷ [] } ∷ record { place = at 2 8; name = codes "D"; fields = (codes "L", Bits) ∷ [] } ∷ record { place = at 2 27; name = codes "E"; fields = (codes "M", Bits) ∷ [] } ∷ record { place = at 2 46; name = codes "F"; fields = (codes "N", Bits) ∷ [] } ∷ [];
        statements = at 1 1 ∷ at 4 51 ∷ at 5 1 ∷ at 5 29 ∷ at 6 1 ∷ at 6 29 ∷ at 7 1 ∷ at 7 33 ∷ at 8 1 ∷ at 8 9 ∷ at 8 17 ∷ [];
        doings = assigned (at 4 51) (at 4 48) None (Reference (at 1 14 ∷ at 1 33 ∷ at 1 52 ∷ at 2 8 ∷ at 2 27 ∷ at 2 46 ∷ [])) ∷ assigned (at 5 1) (at 4 48) None (Reference (at 1 14 ∷ at 1 33 ∷ at 1 52 ∷ at 2 8 ∷ at 2 27 ∷ at 2 46 ∷ [])) ∷ assigned (at 5 29) (at 4 48) None (Reference (at 1 14 ∷ at 1 33 ∷ at 1 52 ∷ at 2 8 ∷ [])) ∷ assigned (at 6 1) (at 4 48) None (Reference (at 1 14 ∷ at 1 33 ∷ at 1 52 ∷ at 2 8 ∷ [])) ∷ assigned (at 6 29) (at 4 48) None (Reference (at 1 14 ∷ at 1 52 ∷ at 2 27 ∷ at 2 46 ∷ [])) ∷ assigned (at 7 1) (at 4 48) None (Reference (at 1 14 ∷ at 1 33 ∷ at 2 8 ∷ at 2 27 ∷ [])) ∷ assigned (at 7 33) (at 4 48) None (Reference (at 1 14 ∷ at 1 33 ∷ at 1 52 ∷ at 2 8 ∷ at 2 27 ∷ at 2 46 ∷ [])) ∷ assigned (at 8 1) (at 4 48) (Some (at 4 48)) (Reference (at 1 14 ∷ at 1 33 ∷ at 1 52 ∷ at 2 8 ∷ at 2 27 ∷ at 2 46 ∷ [])) ∷ assigned (at 8 9) (at 4 48) (Some (at 3 26)) (Reference (at 1 14 ∷ at 1 52 ∷ at 2 27 ∷ at 2 46 ∷ [])) ∷ assigned (at 8 17) (at 4 48) None (Reference []) ∷ [];
      })
  -- strings that are parts, fields and joined, and a comparison of references
  pub strings : HasParts
      (codes "BEGIN RECORD C (STRING(4) S; LOGICAL B); REFERENCE(C) R; STRING(1) T;" ∷ codes "STRING U; R := C; R := C(\"AB\", TRUE); T := CODE(65); U := S(R); U := S(R)(1|2);" ∷ codes "U := IF B(R) THEN T ELSE \"XYZ\"; B(R) := R = C END." ∷ [])
      (record {
        names = name (codes "C") 1 14 0 0 ∷ name (codes "S") 1 27 0 1 ∷ name (codes "B") 1 38 0 2 ∷ name (codes "R") 1 55 0 3 ∷ name (codes "T") 1 68 0 4 ∷ name (codes "U") 2 8 0 5 ∷ [];
        classes = record { place = at 1 14; name = codes "C"; fields = (codes "S", Str 4) ∷ (codes "B", Logical) ∷ [] } ∷ [];
        statements = at 1 1 ∷ at 2 11 ∷ at 2 19 ∷ at 2 39 ∷ at 2 54 ∷ at 2 65 ∷ at 3 1 ∷ at 3 33 ∷ [];
        doings = assigned (at 2 11) (at 1 55) (Some (at 1 14)) (Reference (at 1 14 ∷ [])) ∷ assigned (at 2 19) (at 1 55) (Some (at 1 14)) (Reference (at 1 14 ∷ [])) ∷ assigned (at 2 39) (at 1 68) (Some (at 0 4)) (Str 1) ∷ assigned (at 2 54) (at 2 8) (Some (at 1 27)) (Str 4) ∷ assigned (at 2 65) (at 2 8) (Some (at 1 27)) (Str 2) ∷ assigned (at 3 1) (at 2 8) None (Str 3) ∷ assigned (at 3 33) (at 1 38) None Logical ∷ [];
      })
