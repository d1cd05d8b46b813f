-- The numbers of flaws, and what the listing says of them.
use Rattle.std.specs.Prelude.{ℕ, List, codes}
use Rattle.deck_reader.specs.declared.batch.Flaw.{Flaw}
use Rattle.deck_reader.specs.declared.batch.Flaw.TheVariants.{CardTooLong, ByteNotAllowed, JobCard, NumberOutOfRange, TooManyCards, AccountUnknown, LibraryUnknown, LibraryIllFormed}

abbrev pub flaw_number : Flaw → ℕ
flaw_number CardTooLong = 1
flaw_number ByteNotAllowed = 2
flaw_number JobCard = 3
flaw_number NumberOutOfRange = 4
flaw_number TooManyCards = 5
flaw_number AccountUnknown = 6
flaw_number LibraryUnknown = 7
flaw_number LibraryIllFormed = 8

abbrev pub flaw_text : Flaw → List ℕ
flaw_text CardTooLong = codes "CARD OVER 80 BYTES"
flaw_text ByteNotAllowed = codes "BYTE NOT ALLOWED"
flaw_text JobCard = codes "JOB CARD ILL FORMED"
flaw_text NumberOutOfRange = codes "NUMBER OUT OF RANGE"
flaw_text TooManyCards = codes "OVER 2000 CARDS"
flaw_text AccountUnknown = codes "ACCOUNT UNKNOWN"
flaw_text LibraryUnknown = codes "LIBRARY UNKNOWN"
flaw_text LibraryIllFormed = codes "LIBRARY ILL FORMED"
