use Rattle.std.proofs.Common.{◌≡◌, ◌+◌, ◌*◌, length, map}
use Rattle.algolw_tree.specs.declared.tokens.Symbol.TheVariants.{Comma, Semicolon}
use Rattle.algolw_tree.specs.View.{tree, link_tree, list_tree, actual_tree, bound_tree, part_tree, item_tree, decl_tree}
use Rattle.algolw_grammar.specs.Readers.{gathered}
use Rattle.algolw_grammar.specs.Reading.{readers, read_later, read_perhaps, read_decls, read_bound, read_item, read_lists, read_actual}
use Rattle.token_reader.specs.Levels.{read_links_at}
use Rattle.algolw_parser.proofs.Ranks.{rank}
use Rattle.algolw_parser.proofs.phrases.+phrases.Given as goal

abbrev pub decreases-phrase : goal.decreases-phrase
decreases-phrase l = 32 * l.room + 0

abbrev pub decreases-perhaps : goal.decreases-perhaps
decreases-perhaps l = 32 * l.room + 1

abbrev pub decreases-unboxed : goal.decreases-unboxed
decreases-unboxed l = 32 * l.room + 1

abbrev pub decreases-part : goal.decreases-part
decreases-part l = 32 * l.room + 2

abbrev pub decreases-later_phrases : goal.decreases-later_phrases
decreases-later_phrases l = 32 * l.room + 2

abbrev pub decreases-actual : goal.decreases-actual
decreases-actual l = 32 * l.room + 2

abbrev pub decreases-bound : goal.decreases-bound
decreases-bound l = 32 * l.room + 2

abbrev pub decreases-assertion : goal.decreases-assertion
decreases-assertion l = 32 * l.room + 1

abbrev pub decreases-item : goal.decreases-item
decreases-item l = 32 * l.room + 3

abbrev pub decreases-unlabelled : goal.decreases-unlabelled
decreases-unlabelled l = 32 * l.room + 2

abbrev pub decreases-later_parts : goal.decreases-later_parts
decreases-later_parts l = 32 * l.room + 3

abbrev pub decreases-later_actuals : goal.decreases-later_actuals
decreases-later_actuals l = 32 * l.room + 3

abbrev pub decreases-later_bounds : goal.decreases-later_bounds
decreases-later_bounds l = 32 * l.room + 3

abbrev pub decreases-procedure : goal.decreases-procedure
decreases-procedure l = 32 * l.room + 2

abbrev pub decreases-conditional : goal.decreases-conditional
decreases-conditional l = 32 * l.room + 2

abbrev pub decreases-repetition : goal.decreases-repetition
decreases-repetition l = 32 * l.room + 2

abbrev pub decreases-later_items : goal.decreases-later_items
decreases-later_items l = 32 * l.room + 4

abbrev pub decreases-decl : goal.decreases-decl
decreases-decl l = 32 * l.room + 4

abbrev pub decreases-listing : goal.decreases-listing
decreases-listing l = 32 * l.room + 4

abbrev pub decreases-selection : goal.decreases-selection
decreases-selection l = 32 * l.room + 4

abbrev pub decreases-iteration : goal.decreases-iteration
decreases-iteration l = 32 * l.room + 4

abbrev pub decreases-decls : goal.decreases-decls
decreases-decls l = 32 * l.room + 5

abbrev pub decreases-lists : goal.decreases-lists
decreases-lists l = 32 * l.room + 5

abbrev pub decreases-block : goal.decreases-block
decreases-block l = 32 * l.room + 6

abbrev pub decreases-primary : goal.decreases-primary
decreases-primary l = 32 * l.room + 7

abbrev pub decreases-relation : goal.decreases-relation
decreases-relation l = 32 * l.room + 19

abbrev pub decreases-negated : goal.decreases-negated
decreases-negated l = 32 * l.room + 20

abbrev pub decreases-assignment : goal.decreases-assignment
decreases-assignment l = 32 * l.room + 31

abbrev pub decreases-operand : goal.decreases-operand
decreases-operand l = 32 * l.room + (4 * rank l.level + 8)

abbrev pub decreases-first_operand : goal.decreases-first_operand
decreases-first_operand l = 32 * l.room + (4 * rank l.level + 9)

abbrev pub decreases-links : goal.decreases-links
decreases-links l = 32 * l.room + (4 * rank l.level + 9)

abbrev pub decreases-chain : goal.decreases-chain
decreases-chain l = 32 * l.room + (4 * rank l.level + 10)

abbrev pub invariant-later_phrases-turns : goal.invariant-later_phrases-turns
invariant-later_phrases-turns l = gathered (map tree l.phrases.items) (read_later Comma (readers l.room).phrase l.parser.rest.now) ≡ gathered (map tree l.initial.phrases.items) (read_later Comma (readers l.room).phrase l.initial.parser.rest.now)

abbrev pub decreases-later_phrases-turns : goal.decreases-later_phrases-turns
decreases-later_phrases-turns l = length l.parser.rest.now

abbrev pub invariant-later_parts-turns : goal.invariant-later_parts-turns
invariant-later_parts-turns l = gathered (map part_tree l.parts.items) (read_later Semicolon (read_perhaps (readers l.room)) l.parser.rest.now) ≡ gathered (map part_tree l.initial.parts.items) (read_later Semicolon (read_perhaps (readers l.room)) l.initial.parser.rest.now)

abbrev pub decreases-later_parts-turns : goal.decreases-later_parts-turns
decreases-later_parts-turns l = length l.parser.rest.now

abbrev pub invariant-later_actuals-turns : goal.invariant-later_actuals-turns
invariant-later_actuals-turns l = gathered (map actual_tree l.actuals.items) (read_later Comma (read_actual (readers l.room)) l.parser.rest.now) ≡ gathered (map actual_tree l.initial.actuals.items) (read_later Comma (read_actual (readers l.room)) l.initial.parser.rest.now)

abbrev pub decreases-later_actuals-turns : goal.decreases-later_actuals-turns
decreases-later_actuals-turns l = length l.parser.rest.now

abbrev pub invariant-later_bounds-turns : goal.invariant-later_bounds-turns
invariant-later_bounds-turns l = gathered (map bound_tree l.bounds.items) (read_later Comma (read_bound (readers l.room)) l.parser.rest.now) ≡ gathered (map bound_tree l.initial.bounds.items) (read_later Comma (read_bound (readers l.room)) l.initial.parser.rest.now)

abbrev pub decreases-later_bounds-turns : goal.decreases-later_bounds-turns
decreases-later_bounds-turns l = length l.parser.rest.now

abbrev pub invariant-later_items-turns : goal.invariant-later_items-turns
invariant-later_items-turns l = gathered (map item_tree l.items.items) (read_later Semicolon (read_item (readers l.room)) l.parser.rest.now) ≡ gathered (map item_tree l.initial.items.items) (read_later Semicolon (read_item (readers l.room)) l.initial.parser.rest.now)

abbrev pub decreases-later_items-turns : goal.decreases-later_items-turns
decreases-later_items-turns l = length l.parser.rest.now

abbrev pub invariant-decls-turns : goal.invariant-decls-turns
invariant-decls-turns l = gathered (map decl_tree l.decls.items) (read_decls (readers l.room) l.parser.rest.now) ≡ gathered (map decl_tree l.initial.decls.items) (read_decls (readers l.room) l.initial.parser.rest.now)

abbrev pub decreases-decls-turns : goal.decreases-decls-turns
decreases-decls-turns l = length l.parser.rest.now

abbrev pub invariant-lists-turns : goal.invariant-lists-turns
invariant-lists-turns l = gathered (map list_tree l.lists.items) (read_lists (readers l.room) l.parser.rest.now) ≡ gathered (map list_tree l.initial.lists.items) (read_lists (readers l.room) l.initial.parser.rest.now)

abbrev pub decreases-lists-turns : goal.decreases-lists-turns
decreases-lists-turns l = length l.parser.rest.now

abbrev pub invariant-links-turns : goal.invariant-links-turns
invariant-links-turns l = gathered (map link_tree l.links.items) (read_links_at l.level (readers l.room) l.parser.rest.now) ≡ gathered (map link_tree l.initial.links.items) (read_links_at l.level (readers l.room) l.initial.parser.rest.now)

abbrev pub decreases-links-turns : goal.decreases-links-turns
decreases-links-turns l = length l.parser.rest.now
