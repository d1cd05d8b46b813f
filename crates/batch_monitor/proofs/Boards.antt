-- A listing with the line of a board behind it.
use Rattle.std.proofs.Common.{◌≡◌, ℕ, Bool, true, false, [], List, ◌++◌, Option, Some, None, is_some, take, drop, append_assoc, append-nil, refl, sym, ap, subst, ◌∙◌, arith}
use Rattle.std.specs.Io.KnownBytes.{Appends}
use Rattle.std.proofs.KnownBytes.{Appends-trans}
use Rattle.std.proofs.lemmas.List.{take-append-drop}
use Rattle.deck_reader.specs.declared.batch.Account.{Account}
use Rattle.operator_board.specs.declared.tallies.Tallies.{Tallies}
use Rattle.batch_listing.specs.declared.audit.Audit.{Audit}
use Rattle.batch_listing.specs.Listing.{listing_with}
use Rattle.batch_listing.specs.Writing.{AppendsPrefix, WroteUpTo}
use Rattle.batch_listing.proofs.Written.{prefix_more, prefix_written}
use Rattle.batch_runner.specs.declared.board.BoardLine.{BoardLine}
use Rattle.batch_runner.specs.Board.{IsBoardLine, board_text}
use Rattle.batch_runner.specs.Outcome.{IsCutShort, IsListed}
use Rattle.batch_monitor.specs.declared.asked.Asked.{Asked}
use Rattle.batch_monitor.specs.Asked.{IsBoard}
use Rattle.batch_monitor.specs.Lines.{line_text}
use Rattle.batch_monitor.specs.Outcome.{IsDone, IsPart, IsShown, IsWritten}

-- before any event
abbrev no_counts : Tallies
no_counts = record { arrived = 0; accepted = 0; refused = 0; ended = 0; printed = 0 }

-- there is something that may stand behind a listing
some_board : (b : Bool) → (text : List ℕ) × IsBoard b text
some_board true = (board_text no_counts, record { counts = no_counts; add_up = record { decided = omega arith; ended = omega arith; printed = omega arith }; says = refl })
some_board false = ([], refl)

-- the line of a run is what is asked for
pub board_shows : (b : Bool) (line : Option BoardLine) → is_some line ≡ b → IsBoard b (line_text line)
board_shows true (Some line) is = record { counts = line.counts; add_up = line.add_up; says = line.says }
board_shows true None is = cc
board_shows false (Some line) is = cc
board_shows false None is = refl

-- a prefix of a text is one of a longer one
longer : (old new : Option (List ℕ)) (text more : List ℕ) → AppendsPrefix old new text → AppendsPrefix old new (text ++ more)
longer old new text more (n, wrote) = prefix_written old new (text ++ more) (drop n text ++ more) (record {
  done = take n text;
  wrote = wrote;
  whole = sym (append_assoc (take n text) (drop n text) more) ∙ ap (λ (bytes : List ℕ). bytes ++ more) (take-append-drop n text);
})

-- a listing was cut short
pub part_of_listing : (asked : Asked) (given : Option (List Account)) (left left' written written' : Option (List ℕ)) → IsCutShort given left left' written written' → IsPart asked given left left' written written'
part_of_listing asked given left left' written written' cut =
    let board = some_board asked.board in
    record { input = cut.input; read = cut.read; board = board.0; shows = board.1; wrote = longer written written' (listing_with given cut.input) board.0 cut.wrote }

module _ (asked : Asked) (given : Option (List Account)) (left left' written written' written'' : Option (List ℕ)) (audit : Audit) (listed : IsListed given left left' written written' audit) (line : List ℕ) (shows : IsBoard asked.board line) where
  -- a prefix of the line was written behind it
  pub part_of_line : AppendsPrefix written' written'' line → IsPart asked given left left' written written''
  part_of_line part =
      let text = listing_with given listed.input in
      let front : WroteUpTo written written' (text ++ line) (line ++ []) = record { done = text; wrote = listed.wrote; whole = ap (λ (bytes : List ℕ). text ++ bytes) (append-nil line) } in
      record { input = listed.input; read = listed.read; board = line; shows = shows; wrote = prefix_more written written' written'' (text ++ line) line [] front part }

  -- the whole line was
  pub written_so : Appends written' written'' line → IsWritten asked given left left' written written'' listed.input
  written_so more = record {
    read = listed.read;
    to_end = listed.to_end;
    fits = listed.fits;
    board = line;
    shows = shows;
    wrote = Appends-trans written written' written'' (listing_with given listed.input) line listed.wrote more;
  }

-- what is written whole is a prefix of itself
pub part_of_whole : (asked : Asked) (given : Option (List Account)) (left left' written written' : Option (List ℕ)) (input : List ℕ) → IsWritten asked given left left' written written' input → IsPart asked given left left' written written'
part_of_whole asked given left left' written written' input whole = record {
  input = input;
  read = whole.read;
  board = whole.board;
  shows = whole.shows;
  wrote =
      let text = listing_with given input ++ whole.board in
      prefix_written written written' text [] (record { done = text; wrote = whole.wrote; whole = append-nil text });
}

-- where a board is asked for, a line of tallies that add up stands behind the listing
pub shown_so : (asked : Asked) (left left' written written' known known' closed closed' : Option (List ℕ)) → asked.board ≡ true → IsDone asked left left' written written' known known' closed closed'
    → IsShown asked left left' written written' known known'
shown_so asked left left' written written' known known' closed closed' is done =
    let whole = done.all.whole in
    let line : IsBoardLine whole.board = subst (λ (b : Bool). IsBoard b whole.board) is whole.shows in
    record {
      given = done.given;
      is_given = done.is_given;
      input = done.all.input;
      read = whole.read;
      counts = line.counts;
      add_up = line.add_up;
      wrote = subst (λ (text : List ℕ). Appends written written' (listing_with done.given done.all.input ++ text)) line.says whole.wrote;
    }
