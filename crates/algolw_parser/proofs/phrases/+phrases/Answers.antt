use Rattle.std.proofs.Common.{◌≡◌, ap, subst, sym, ◌∙◌, map}
use Rattle.std.specs.Prelude.{None}
use Rattle.algolw_tree.specs.declared.tokens.Symbol.TheVariants.{Comma, Semicolon, Open}
use Rattle.algolw_tree.specs.declared.phrases.Phrase.{Phrase}
use Rattle.algolw_tree.specs.Grammar.{left, right, link_of}
use Rattle.algolw_tree.specs.View.{tree, link_tree, list_tree, actual_tree, bound_tree, part_tree, item_tree, decl_tree}
use Rattle.algolw_grammar.specs.Kinds.{the_symbol}
use Rattle.algolw_grammar.specs.Readers.{Got, mapped, gathered, read_left}
use Rattle.algolw_grammar.specs.Reading.{readers, read_symbol, read_perhaps, read_actual, read_bound, read_item, read_decl, read_decls, first_decl}
use Rattle.token_reader.specs.declared.stop.Stop.{Stop}
use Rattle.token_reader.specs.Gives.{Fails, boxed_tree}
use Rattle.token_reader.specs.Levels.{operators, read_operator, read_operand}
use Rattle.token_reader.proofs.Turns.{turn_kept, turn_fails, both_got, both_fails, mapped_fails, failed, for_fails, values_fail, gathered_none}
use Rattle.token_reader.proofs.Shrink.{shrinks_phrase, shrinks_part, shrinks_actual, shrinks_bound, shrinks_item, shrinks_decl, shrinks_listing, shrinks_link}
use Rattle.algolw_parser.proofs.Loops.{body_fails}
use Rattle.algolw_parser.proofs.phrases.+phrases.Goals as goal

pub later_phrases-turns-smaller : goal.later_phrases-turns-smaller
later_phrases-turns-smaller t c = (shrinks_phrase c.args.room).less c.turns.parser.rest.now _ _ c.unboxed.new.parser.rest.now (ap (mapped right) (both_got (read_symbol Comma) (readers c.args.room).phrase c.turns.parser.rest.now c.expect_symbol.new.self.rest.now c.unboxed.new.parser.rest.now _ _ c.in_ok-expect_symbol.ensures c.in_ok-one.ensures))

pub later_phrases-turns-preserved : goal.later_phrases-turns-preserved
later_phrases-turns-preserved t c =
    turn_kept (the_symbol Comma) _ tree (shrinks_phrase c.args.room) c.turns.phrases.items _ c.in_ok-one.one c.turns.parser.rest.now c.unboxed.new.parser.rest.now _ c.in_ok-push-2.ensures.items (sym c.at_symbol.ensures ∙ c.turns-test.true) (ap (mapped right) (both_got (read_symbol Comma) (readers c.args.room).phrase c.turns.parser.rest.now c.expect_symbol.new.self.rest.now c.unboxed.new.parser.rest.now _ _ c.in_ok-expect_symbol.ensures c.in_ok-one.ensures)) c.turns.invariant

pub later_parts-turns-smaller : goal.later_parts-turns-smaller
later_parts-turns-smaller t c = (shrinks_part c.args.room).less c.turns.parser.rest.now _ _ c.part.new.parser.rest.now (ap (mapped right) (both_got (read_symbol Semicolon) (read_perhaps (readers c.args.room)) c.turns.parser.rest.now c.expect_symbol.new.self.rest.now c.part.new.parser.rest.now _ _ c.in_ok-expect_symbol.ensures c.in_ok-one.ensures))

pub later_parts-turns-preserved : goal.later_parts-turns-preserved
later_parts-turns-preserved t c =
    turn_kept (the_symbol Semicolon) _ part_tree (shrinks_part c.args.room) c.turns.parts.items _ c.in_ok-one.one c.turns.parser.rest.now c.part.new.parser.rest.now _ c.in_ok-push-2.ensures.items (sym c.at_symbol.ensures ∙ c.turns-test.true) (ap (mapped right) (both_got (read_symbol Semicolon) (read_perhaps (readers c.args.room)) c.turns.parser.rest.now c.expect_symbol.new.self.rest.now c.part.new.parser.rest.now _ _ c.in_ok-expect_symbol.ensures c.in_ok-one.ensures)) c.turns.invariant

pub later_actuals-turns-smaller : goal.later_actuals-turns-smaller
later_actuals-turns-smaller t c = (shrinks_actual c.args.room).less c.turns.parser.rest.now _ _ c.actual.new.parser.rest.now (ap (mapped right) (both_got (read_symbol Comma) (read_actual (readers c.args.room)) c.turns.parser.rest.now c.expect_symbol.new.self.rest.now c.actual.new.parser.rest.now _ _ c.in_ok-expect_symbol.ensures c.in_ok-one.ensures))

pub later_actuals-turns-preserved : goal.later_actuals-turns-preserved
later_actuals-turns-preserved t c =
    turn_kept (the_symbol Comma) _ actual_tree (shrinks_actual c.args.room) c.turns.actuals.items _ c.in_ok-one.one c.turns.parser.rest.now c.actual.new.parser.rest.now _ c.in_ok-push-2.ensures.items (sym c.at_symbol.ensures ∙ c.turns-test.true) (ap (mapped right) (both_got (read_symbol Comma) (read_actual (readers c.args.room)) c.turns.parser.rest.now c.expect_symbol.new.self.rest.now c.actual.new.parser.rest.now _ _ c.in_ok-expect_symbol.ensures c.in_ok-one.ensures)) c.turns.invariant

pub later_bounds-turns-smaller : goal.later_bounds-turns-smaller
later_bounds-turns-smaller t c = (shrinks_bound c.args.room).less c.turns.parser.rest.now _ _ c.bound.new.parser.rest.now (ap (mapped right) (both_got (read_symbol Comma) (read_bound (readers c.args.room)) c.turns.parser.rest.now c.expect_symbol.new.self.rest.now c.bound.new.parser.rest.now _ _ c.in_ok-expect_symbol.ensures c.in_ok-one.ensures))

pub later_bounds-turns-preserved : goal.later_bounds-turns-preserved
later_bounds-turns-preserved t c =
    turn_kept (the_symbol Comma) _ bound_tree (shrinks_bound c.args.room) c.turns.bounds.items _ c.in_ok-one.one c.turns.parser.rest.now c.bound.new.parser.rest.now _ c.in_ok-push-2.ensures.items (sym c.at_symbol.ensures ∙ c.turns-test.true) (ap (mapped right) (both_got (read_symbol Comma) (read_bound (readers c.args.room)) c.turns.parser.rest.now c.expect_symbol.new.self.rest.now c.bound.new.parser.rest.now _ _ c.in_ok-expect_symbol.ensures c.in_ok-one.ensures)) c.turns.invariant

pub later_items-turns-smaller : goal.later_items-turns-smaller
later_items-turns-smaller t c = (shrinks_item c.args.room).less c.turns.parser.rest.now _ _ c.item.new.parser.rest.now (ap (mapped right) (both_got (read_symbol Semicolon) (read_item (readers c.args.room)) c.turns.parser.rest.now c.expect_symbol.new.self.rest.now c.item.new.parser.rest.now _ _ c.in_ok-expect_symbol.ensures c.in_ok-one.ensures))

pub later_items-turns-preserved : goal.later_items-turns-preserved
later_items-turns-preserved t c =
    turn_kept (the_symbol Semicolon) _ item_tree (shrinks_item c.args.room) c.turns.items.items _ c.in_ok-one.one c.turns.parser.rest.now c.item.new.parser.rest.now _ c.in_ok-push-2.ensures.items (sym c.at_symbol.ensures ∙ c.turns-test.true) (ap (mapped right) (both_got (read_symbol Semicolon) (read_item (readers c.args.room)) c.turns.parser.rest.now c.expect_symbol.new.self.rest.now c.item.new.parser.rest.now _ _ c.in_ok-expect_symbol.ensures c.in_ok-one.ensures)) c.turns.invariant

pub lists-turns-smaller : goal.lists-turns-smaller
lists-turns-smaller t c = (shrinks_listing c.args.room).less c.turns.parser.rest.now _ _ c.listing.new.parser.rest.now c.in_ok-one.ensures

pub lists-turns-preserved : goal.lists-turns-preserved
lists-turns-preserved t c =
    turn_kept (the_symbol Open) _ list_tree (shrinks_listing c.args.room) c.turns.lists.items _ c.in_ok-one.one c.turns.parser.rest.now c.listing.new.parser.rest.now _ c.in_ok-push.ensures.items (sym c.at_symbol.ensures ∙ c.turns-test.true) c.in_ok-one.ensures c.turns.invariant

pub decls-turns-smaller : goal.decls-turns-smaller
decls-turns-smaller t c = (shrinks_decl c.args.room).less c.turns.parser.rest.now _ _ c.expect_symbol.new.self.rest.now (ap (mapped left) (both_got (read_decl (readers c.args.room)) (read_symbol Semicolon) c.turns.parser.rest.now c.decl.new.parser.rest.now c.expect_symbol.new.self.rest.now _ _ c.in_ok-one.ensures c.in_ok-expect_symbol.ensures))

pub decls-turns-preserved : goal.decls-turns-preserved
decls-turns-preserved t c =
    turn_kept first_decl _ decl_tree (shrinks_decl c.args.room) c.turns.decls.items _ c.in_ok-one.one c.turns.parser.rest.now c.expect_symbol.new.self.rest.now _ c.in_ok-push.ensures.items (sym c.at_decl.ensures ∙ c.turns-test.true) (ap (mapped left) (both_got (read_decl (readers c.args.room)) (read_symbol Semicolon) c.turns.parser.rest.now c.decl.new.parser.rest.now c.expect_symbol.new.self.rest.now _ _ c.in_ok-one.ensures c.in_ok-expect_symbol.ensures)) c.turns.invariant

pub decls-returns-in_err-expect_symbol : goal.decls-returns-in_err-expect_symbol
decls-returns-in_err-expect_symbol t c =
    let e : Stop = c.in_err-expect_symbol.field-0.0 in
    let one = mapped_fails left e _ (both_fails (read_decl (readers c.args.room)) (read_symbol Semicolon) e c.turns.parser.rest.now c.decl.new.parser.rest.now _ c.in_ok-one.ensures c.in_err-expect_symbol.ensures) in
    let all = turn_fails first_decl (read_left (read_decl (readers c.args.room)) (read_symbol Semicolon)) (map decl_tree c.turns.decls.items) c.turns.parser.rest.now e (sym c.at_decl.ensures ∙ c.turns-test.true) one in
    let same : gathered (map decl_tree c.turns.decls.items) (read_decls (readers c.args.room) c.turns.parser.rest.now) ≡ read_decls (readers c.args.room) c.args.parser.now.rest.now = c.turns.invariant ∙ ap (λ ds. gathered (map decl_tree ds) (read_decls (readers c.args.room) c.args.parser.now.rest.now)) c.new-decls.ensures.items ∙ gathered_none _ in
    failed (λ x. map decl_tree x.items) c.from_residual-in_err-expect_symbol.result c.expect_symbol.new.self.rest.now e _ c.from_residual-in_err-expect_symbol.ensures (subst (Fails e) same all)

pub iteration-returns-in_err-expect_word : goal.iteration-returns-in_err-expect_word
iteration-returns-in_err-expect_word t c =
    let e : Stop = c.in_err-expect_word.field-0.0 in
    let start : (readers c.args.room).phrase c.expect_symbol.new.self.rest.now ≡ Got (tree c.into_inner.result) None c.phrase.new.parser.rest.now = c.in_ok-start.ensures ∙ ap (λ (p : Phrase). Got (tree p) None c.phrase.new.parser.rest.now) (sym c.into_inner.ensures) in
    failed boxed_tree c.from_residual-in_err-expect_word.result c.expect_word-then-at_values.new.self.rest.now e _ c.from_residual-in_err-expect_word.ensures (for_fails (readers c.args.room) e c.args.parser.now.rest.now c.expect_word.new.self.rest.now c.expect_name.new.self.rest.now c.expect_symbol.new.self.rest.now c.phrase.new.parser.rest.now c.later_phrases.new.parser.rest.now _ _ _ _ _ c.in_ok-place.ensures c.in_ok-name.ensures c.in_ok-expect_symbol.ensures start (sym c.at_values.ensures ∙ c.if-at_values.true) c.in_ok-values.ensures c.in_err-expect_word.ensures)

pub iteration-returns-in_err-values : goal.iteration-returns-in_err-values
iteration-returns-in_err-values t c =
    let e : Stop = c.in_err-values.field-0.0 in
    let start : (readers c.args.room).phrase c.expect_symbol.new.self.rest.now ≡ Got (tree c.into_inner.result) None c.phrase.new.parser.rest.now = c.in_ok-start.ensures ∙ ap (λ (p : Phrase). Got (tree p) None c.phrase.new.parser.rest.now) (sym c.into_inner.ensures) in
    failed boxed_tree c.from_residual-in_err-values.result c.later_phrases.new.parser.rest.now e _ c.from_residual-in_err-values.ensures (values_fail (readers c.args.room) e c.args.parser.now.rest.now c.expect_word.new.self.rest.now c.expect_name.new.self.rest.now c.expect_symbol.new.self.rest.now c.phrase.new.parser.rest.now _ _ _ _ c.in_ok-place.ensures c.in_ok-name.ensures c.in_ok-expect_symbol.ensures start (sym c.at_values.ensures ∙ c.if-at_values.true) c.in_err-values.ensures)

pub iteration-returns-in_err-body : goal.iteration-returns-in_err-body
iteration-returns-in_err-body t c =
    let e : Stop = c.in_err-body.field-0.0 in
    let start : (readers c.args.room).phrase c.expect_symbol.new.self.rest.now ≡ Got (tree c.into_inner.result) None c.phrase.new.parser.rest.now = c.in_ok-start.ensures ∙ ap (λ (p : Phrase). Got (tree p) None c.phrase.new.parser.rest.now) (sym c.into_inner.ensures) in
    failed boxed_tree c.from_residual-in_err-body.result c.perhaps.new.parser.rest.now e _ c.from_residual-in_err-body.ensures (body_fails (readers c.args.room) e c.args.parser.now.rest.now c.expect_word.new.self.rest.now c.expect_name.new.self.rest.now c.expect_symbol.new.self.rest.now c.phrase.new.parser.rest.now c.later_phrases.new.parser.rest.now c.expect_word-then-at_values.new.self.rest.now _ _ _ _ _ _ c.in_ok-place.ensures c.in_ok-name.ensures c.in_ok-expect_symbol.ensures start (sym c.at_values.ensures ∙ c.if-at_values.true) c.in_ok-values.ensures c.in_ok-expect_word.ensures c.in_err-body.ensures)

pub links-turns-smaller : goal.links-turns-smaller
links-turns-smaller t c = (shrinks_link c.args.room c.args.level).less c.turns.parser.rest.now _ _ c.operand.new.parser.rest.now (ap (mapped link_of) (both_got (read_operator c.args.level) (read_operand c.args.level (readers c.args.room)) c.turns.parser.rest.now c.operator.new.self.rest.now c.operand.new.parser.rest.now _ _ c.in_ok-op.ensures c.in_ok-right.ensures))

pub links-turns-preserved : goal.links-turns-preserved
links-turns-preserved t c =
    turn_kept (operators c.args.level) _ link_tree (shrinks_link c.args.room c.args.level) c.turns.links.items _ c.link.result c.turns.parser.rest.now c.operand.new.parser.rest.now _ c.in_ok-push.ensures.items (sym c.at_operator.ensures ∙ c.turns-test.true) (ap (mapped link_of) (both_got (read_operator c.args.level) (read_operand c.args.level (readers c.args.room)) c.turns.parser.rest.now c.operator.new.self.rest.now c.operand.new.parser.rest.now _ _ c.in_ok-op.ensures c.in_ok-right.ensures) ∙ ap (λ l. Got l None c.operand.new.parser.rest.now) (sym c.link.ensures)) c.turns.invariant
