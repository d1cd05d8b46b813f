use Rattle.std.proofs.Common.{◌≡◌, sym, ◌∙◌, ◌≤◌, ℕ, List, ◌∷◌, ◌++◌, refl, ap, arith, length, length-append}
use Rattle.algolw_scanner.specs.Front.{Found, Open, Pass, Fault}
use Rattle.algolw_tree.specs.Tokens.{text, Separator, OfKind}
use Rattle.algolw_scanner.specs.Seen.{seen}
use Rattle.algolw_scanner.specs.Matches.{Matches, Opens}
use Rattle.algolw_scanner.proofs.Nexts.{matches_at, next_reads, card_reads, end_reads, skipped_comment, endless_comment}
use Rattle.algolw_scanner.proofs.cursor.Cursor.next_piece.Goals as goal
use Rattle.algolw_scanner.proofs.cursor.Cursor.next_piece.Goals.{In-Blank, In-Token, In-Fault, In-Comment}

shorter : (line u r : List ℕ) → line ≡ u ++ r → length r ≤ length line
shorter line u r e = omega (arith, ap length e, length-append u r)

blank : (c : In-Blank) → Matches c.args.self.line.now (text c.args.self.later.now) (Pass c.in-Blank.rest.now)
blank c = matches_at c.args.self c.requires c.is_empty.result c.is_empty.ensures c.if-is_empty.false (Pass c.in-Blank.rest.now) (ap (seen c.front.new.kind) (sym c.in-Blank.is) ∙ c.in_ok-found.ensures)

token : (c : In-Token) → Matches c.args.self.line.now (text c.args.self.later.now) (Found c.front.new.kind c.in-Token.rest.now)
token c = matches_at c.args.self c.requires c.is_empty.result c.is_empty.ensures c.if-is_empty.false (Found c.front.new.kind c.in-Token.rest.now) (ap (seen c.front.new.kind) (sym c.in-Token.is) ∙ c.in_ok-found.ensures)

fault : (c : In-Fault) → Matches c.args.self.line.now (text c.args.self.later.now) (Fault c.in-Fault.number)
fault c = matches_at c.args.self c.requires c.is_empty.result c.is_empty.ensures c.if-is_empty.false (Fault c.in-Fault.number) (ap (seen c.front.new.kind) (sym c.in-Fault.is) ∙ c.in_ok-found.ensures)

comment : (c : In-Comment) → Opens c.args.self.line.now (text c.args.self.later.now) c.in-Comment.rest.now
comment c = matches_at c.args.self c.requires c.is_empty.result c.is_empty.ensures c.if-is_empty.false (Open c.in-Comment.rest.now) (ap (seen c.front.new.kind) (sym c.in-Comment.is) ∙ c.in_ok-found.ensures)

pub returns-in-None : goal.returns-in-None
returns-in-None c = end_reads c.args.self c.in-None.ensures

pub returns-in-Some : goal.returns-in-Some
returns-in-Some c = card_reads c.args.self c.in-Some.next c.in-Some.ensures

pub past-requires-clause-left : goal.past-requires-clause-left
past-requires-clause-left c = shorter c.args.self.line.now (blank c).0 c.in-Blank.rest.now (blank c).1

pub past-requires-in-Token-clause-left : goal.past-requires-in-Token-clause-left
past-requires-in-Token-clause-left c = shorter c.args.self.line.now (token c).0 c.in-Token.rest.now (token c).1

pub past-requires-in-Comment-clause-left : goal.past-requires-in-Comment-clause-left
past-requires-in-Comment-clause-left c = shorter c.args.self.line.now ((comment c).first ∷ (comment c).more) c.in-Comment.rest.now (comment c).cut

pub after_semicolon-requires : goal.after_semicolon-requires
after_semicolon-requires c =
    let o : Opens c.args.self.line.now (text c.args.self.later.now) c.in-Comment.rest.now = comment (goal.at.after_semicolon-requires c).In-Comment in
    (c.past-in-Comment.ensures (o.first ∷ o.more) o.cut).sound

pub returns-in-Blank : goal.returns-in-Blank
returns-in-Blank c =
    let h : Matches c.args.self.line.now (text c.args.self.later.now) (Pass c.in-Blank.rest.now) = blank (goal.at.returns-in-Blank c).In-Blank in
    next_reads c.args.self c.past.result h.0 _ Separator h.2 (c.past.ensures h.0 h.1)

pub returns-in-Token : goal.returns-in-Token
returns-in-Token c =
    let h : Matches c.args.self.line.now (text c.args.self.later.now) (Found c.front.new.kind c.in-Token.rest.now) = token (goal.at.returns-in-Token c).In-Token in
    next_reads c.args.self c.past-in-Token.result h.0 _ (OfKind c.front.new.kind) h.2 (c.past-in-Token.ensures h.0 h.1)

pub returns-in-Fault : goal.returns-in-Fault
returns-in-Fault c =
    let h : Matches c.args.self.line.now (text c.args.self.later.now) (Fault c.in-Fault.number) = fault (goal.at.returns-in-Fault c).In-Fault in
    (h.0, h.1, refl)

pub returns-in-None-after_semicolon : goal.returns-in-None-after_semicolon
returns-in-None-after_semicolon c =
    let o : Opens c.args.self.line.now (text c.args.self.later.now) c.in-Comment.rest.now = comment (goal.at.returns-in-None-after_semicolon c).In-Comment in
    endless_comment c.args.self c.in-Comment.rest.now o c.past-in-Comment.result (c.past-in-Comment.ensures (o.first ∷ o.more) o.cut) c.in-None-after_semicolon.ensures

pub returns-in-Some-after_semicolon : goal.returns-in-Some-after_semicolon
returns-in-Some-after_semicolon c =
    let o : Opens c.args.self.line.now (text c.args.self.later.now) c.in-Comment.rest.now = comment (goal.at.returns-in-Some-after_semicolon c).In-Comment in
    skipped_comment c.args.self c.in-Comment.rest.now o c.past-in-Comment.result (c.past-in-Comment.ensures (o.first ∷ o.more) o.cut) c.in-Some-after_semicolon.next c.in-Some-after_semicolon.ensures
