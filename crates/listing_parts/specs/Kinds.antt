-- The lines of each kind.
use Rattle.std.specs.Prelude.{ℕ, Bool, List}
use Rattle.listing_parts.specs.declared.lines.Kind.{Kind}
use Rattle.listing_parts.specs.declared.lines.Kind.TheVariants.{Card, Diagnostic, Dump, Balance}
use Rattle.listing_parts.specs.Sections.{begins, is_card, ends_in_digit}

abbrev pub is_of : Kind → List ℕ → Bool
is_of Card = is_card
is_of Diagnostic = begins 68
is_of Dump = begins 32
is_of Balance = ends_in_digit
