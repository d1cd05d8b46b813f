use Rattle.std.proofs.Common.{◌≡◌, ◌+◌, ◌*◌, ◌++◌, suc, drop, map}
use Rattle.algolw_tree.specs.Grammar.{phrases_of, links_of, lists_of, actuals_of, items_of, bounds_of, decls_of}
use Rattle.algolw_tree.specs.View.{tree, part_tree, link_tree, list_tree, actual_tree, item_tree, bound_tree, decl_tree, procedure_tree, optional_tree}
use Rattle.algolw_tree.proofs.Sizes.{size, size_perhaps, size_phrases, size_links, size_lists, size_listing, size_actuals, size_actual, size_items, size_bounds, size_decls, size_decl}
use Rattle.algolw_typing.specs.Naming.{NamePath, actuals_naming, bounds_naming, decls_naming, items_naming, links_naming, lists_naming, phrases_naming}
use Rattle.algolw_typing.specs.Scopes.{Scopes}
use Rattle.algolw_typing.specs.Types.{Statement}
use Rattle.algolw_typing.specs.Typing as rules
use Rattle.algolw_typing.specs.Typing.{typed_bounds, typed_decls, typed_items, typed_links, typed_parts, typed_phrases}
use Rattle.algolw_typing.specs.Verdicts.{Good}
use Rattle.typing_rules.specs.MeaningView.{part, reading}
use Rattle.typing_rules.specs.View as view
use Rattle.block_scopes.specs.FrameView.{frame_view}
use Rattle.declared_names.specs.Blocks.{bounds_notes, bounds_view, each_bounds}
use Rattle.declared_names.specs.NamesAlong.{names_along}
use Rattle.typed_phrases.specs.FoundParts.{all_view, given_view}
use Rattle.typed_phrases.specs.Fronts.{front_lists}
use Rattle.typed_phrases.specs.FrontViews.{front_view}
use Rattle.phrase_checker.proofs.BlockSteps.{BoundsSoFar, DeclsSoFar, ItemsSoFar, phrase_in}
use Rattle.phrase_checker.proofs.ListSteps.{ListsSoFar, PartsSoFar}
use Rattle.phrase_checker.proofs.Noting.{Left}
use Rattle.phrase_checker.specs.NotedParts.{each_notes}
use Rattle.phrase_checker.proofs.Turns.{CasesSoFar, LinksSoFar, PhrasesSoFar}
use Rattle.phrase_checker.proofs.checker.Checker.+phrases.Given as goal

abbrev pub decreases-phrase : goal.decreases-phrase
decreases-phrase l = suc (3 * size (tree l.phrase.now))

abbrev pub decreases-inside : goal.decreases-inside
decreases-inside l = 3 * size (tree l.phrase.now)

abbrev pub decreases-prefixed : goal.decreases-prefixed
decreases-prefixed l = suc (suc (3 * size (tree l.operand.now)))

abbrev pub decreases-pair : goal.decreases-pair
decreases-pair l = 3 * suc (size (tree l.first.now) + size (tree l.second.now))

abbrev pub decreases-relation : goal.decreases-relation
decreases-relation l = suc (3 * suc (size (tree l.comparison.now.left) + size (tree l.comparison.now.right)))

abbrev pub decreases-while_do : goal.decreases-while_do
decreases-while_do l = suc (3 * suc (size (tree l.repetition.now.condition) + size (tree l.repetition.now.body)))

abbrev pub decreases-conditional : goal.decreases-conditional
decreases-conditional l = suc (3 * suc (size (tree l.condition.now) + size (tree l.then.now) + size_perhaps (optional_tree l.otherwise.now)))

abbrev pub decreases-chain : goal.decreases-chain
decreases-chain l = 3 * suc (size (tree l.first.now) + size_links (links_of (map link_tree l.links.now)))

abbrev pub decreases-links : goal.decreases-links
decreases-links l = 3 * size_links (links_of (map link_tree l.links.now))

abbrev pub decreases-case_value : goal.decreases-case_value
decreases-case_value l = 3 * suc (size (tree l.subject.now) + size_phrases (phrases_of (map tree l.values.now)))

abbrev pub decreases-case_do : goal.decreases-case_do
decreases-case_do l = 3 * suc (size (tree l.subject.now) + size_phrases (phrases_of (map part_tree l.parts.now)))

abbrev pub decreases-cases : goal.decreases-cases
decreases-cases l = 3 * size_phrases (phrases_of (map part_tree l.parts.now))

abbrev pub decreases-case : goal.decreases-case
decreases-case l = suc (suc (3 * size (part_tree l.part.now)))

abbrev pub invariant-cases-loop-part : goal.invariant-cases-loop-part
invariant-cases-loop-part l =
    (CasesSoFar l.initial.self.log l.self.log (given_view l.gives) (typed_phrases l.path (phrases_of (map part_tree l.parts))) (typed_phrases l.path (phrases_of (map part_tree (drop l.part-index l.parts)))))
    × Left (phrases_naming (frame_view l.frame) (names_along l.path) (phrases_of (map part_tree l.parts))) (phrases_naming (frame_view l.frame) (names_along l.path) (phrases_of (map part_tree (drop l.part-index l.parts)))) l.initial.self.log l.self.log

abbrev pub decreases-phrases : goal.decreases-phrases
decreases-phrases l = 3 * size_phrases (phrases_of (map tree l.phrases.now))

abbrev pub invariant-phrases-loop-phrase : goal.invariant-phrases-loop-phrase
invariant-phrases-loop-phrase l =
    (PhrasesSoFar l.initial.self.log l.self.log (all_view l.found.gives) (typed_phrases l.path (phrases_of (map tree l.phrases))) (typed_phrases l.path (phrases_of (map tree (drop l.phrase-index l.phrases)))))
    × Left (phrases_naming (frame_view l.frame) (names_along l.path) (phrases_of (map tree l.phrases))) (phrases_naming (frame_view l.frame) (names_along l.path) (phrases_of (map tree (drop l.phrase-index l.phrases)))) l.initial.self.log l.self.log

abbrev pub invariant-links-loop-link : goal.invariant-links-loop-link
invariant-links-loop-link l =
    (LinksSoFar l.initial.self.log l.self.log (typed_links l.path (view.verdict l.initial.front) (links_of (map link_tree l.links))) (typed_links l.path (view.verdict l.front) (links_of (map link_tree (drop l.link-index l.links)))))
    × Left (links_naming (frame_view l.frame) (names_along l.path) (links_of (map link_tree l.links))) (links_naming (frame_view l.frame) (names_along l.path) (links_of (map link_tree (drop l.link-index l.links)))) l.initial.self.log l.self.log

abbrev pub decreases-is_class : goal.decreases-is_class
decreases-is_class l = 3 * suc (size (tree l.operand.now))

abbrev pub decreases-assign : goal.decreases-assign
decreases-assign l = suc (suc (3 * suc (size (tree l.assignment.now.target) + size (tree l.assignment.now.value))))

abbrev pub decreases-assignment : goal.decreases-assignment
decreases-assignment l = suc (3 * suc (size (tree l.assignment.now.target) + size (tree l.assignment.now.value)))

abbrev pub decreases-value : goal.decreases-value
decreases-value l = suc (suc (3 * size (tree l.phrase.now)))

abbrev pub decreases-controlled : goal.decreases-controlled
decreases-controlled l = 3 * suc (size (tree l.body.now))

abbrev pub decreases-for_range : goal.decreases-for_range
decreases-for_range l = suc (3 * suc (size (tree l.start.now) + size_perhaps (optional_tree l.step.now) + size (tree l.limit.now) + size (tree l.body.now)))

abbrev pub decreases-range : goal.decreases-range
decreases-range l = 3 * suc (size (tree l.start.now) + size_perhaps (optional_tree l.step.now) + size (tree l.limit.now))

abbrev pub decreases-step : goal.decreases-step
decreases-step l = 3 * size_perhaps (optional_tree l.step.now)

abbrev pub decreases-for_list : goal.decreases-for_list
decreases-for_list l = suc (3 * suc (size_phrases (phrases_of (map tree l.values.now)) + size (tree l.body.now)))

abbrev pub decreases-named : goal.decreases-named
decreases-named l = 3 * suc (size_lists (lists_of (map list_tree l.lists.now)))

abbrev pub decreases-list : goal.decreases-list
decreases-list l = 3 * size_listing (list_tree l.list.now)

abbrev pub decreases-applied : goal.decreases-applied
decreases-applied l = suc (suc (3 * size_actuals (actuals_of (map actual_tree l.applied.now.actuals.items))))

abbrev pub decreases-application : goal.decreases-application
decreases-application l = suc (3 * size_actuals (actuals_of (map actual_tree l.application.actuals.now)))

abbrev pub decreases-parts : goal.decreases-parts
decreases-parts l = 3 * size_actuals (actuals_of (map actual_tree l.actuals.now))

abbrev pub decreases-actual : goal.decreases-actual
decreases-actual l = 3 * size_actual (actual_tree l.actual.now)

abbrev pub decreases-given : goal.decreases-given
decreases-given l = suc (3 * size (tree l.phrase.now))

abbrev pub decreases-block : goal.decreases-block
decreases-block l = 3 * suc (suc (size_decls (decls_of (map decl_tree l.decls.now)) + size_items (items_of (map item_tree l.items.now))))

abbrev pub decreases-meanings : goal.decreases-meanings
decreases-meanings l = 3 * size_decls (decls_of (map decl_tree l.decls.now))

abbrev pub decreases-decl_bounds : goal.decreases-decl_bounds
decreases-decl_bounds l = suc (3 * size_decl (decl_tree l.decl.now))

abbrev pub decreases-bounds : goal.decreases-bounds
decreases-bounds l = 3 * size_bounds (bounds_of (map bound_tree l.bounds.now))

abbrev pub decreases-bound : goal.decreases-bound
decreases-bound l = suc (3 * suc (size (tree l.bound.now.lower) + size (tree l.bound.now.upper)))

abbrev pub decreases-decls : goal.decreases-decls
decreases-decls l = 3 * size_decls (decls_of (map decl_tree l.decls.now))

abbrev pub decreases-decl : goal.decreases-decl
decreases-decl l = suc (3 * size_decl (decl_tree l.decl.now))

abbrev pub decreases-procedure : goal.decreases-procedure
decreases-procedure l = 3 * size_decl (procedure_tree l.declared.now)

abbrev pub decreases-items : goal.decreases-items
decreases-items l = suc (suc (3 * size_items (items_of (map item_tree l.items.now))))

abbrev pub decreases-item : goal.decreases-item
decreases-item l = suc (3 * suc (size (phrase_in (item_tree l.item.now))))

abbrev pub decreases-item_phrase : goal.decreases-item_phrase
decreases-item_phrase l = suc (suc (3 * size (tree l.phrase.now)))

abbrev pub invariant-named-loop-list : goal.invariant-named-loop-list
invariant-named-loop-list l =
    (ListsSoFar l.initial.self.log l.self.log (front_lists l.path (front_view l.name l.initial.front) (lists_of (map list_tree l.lists))) (front_lists l.path (front_view l.name l.front) (lists_of (map list_tree (drop l.list-index l.lists)))))
    × Left (lists_naming (frame_view l.frame) (names_along l.path) (lists_of (map list_tree l.lists))) (lists_naming (frame_view l.frame) (names_along l.path) (lists_of (map list_tree (drop l.list-index l.lists)))) l.initial.self.log l.self.log

abbrev pub invariant-parts-loop-actual : goal.invariant-parts-loop-actual
invariant-parts-loop-actual l =
    (PartsSoFar l.initial.self.log l.self.log (map part l.found.items) (typed_parts l.path (reading l.initial.reading) (actuals_of (map actual_tree l.actuals))) (typed_parts l.path (reading l.reading) (actuals_of (map actual_tree (drop l.actual-index l.actuals)))))
    × Left (actuals_naming (frame_view l.frame) (names_along l.path) (actuals_of (map actual_tree l.actuals))) (actuals_naming (frame_view l.frame) (names_along l.path) (actuals_of (map actual_tree (drop l.actual-index l.actuals)))) l.initial.self.log l.self.log

-- what is declared, and the bounds that are found, with what is left are all
abbrev pub invariant-meanings-loop-decl : goal.invariant-meanings-loop-decl
invariant-meanings-loop-decl l =
    (l.self.log ≡ l.initial.self.log)
    × (l.scope ++ rules.meanings l.path l.names (decls_of (map decl_tree (drop l.decl-index l.decls))) ≡ l.initial.scope ++ rules.meanings l.path l.names (decls_of (map decl_tree l.decls)))
    × (map bounds_view l.found.items ++ each_bounds l.path (map decl_tree (drop l.decl-index l.decls)) ≡ each_bounds l.path (map decl_tree l.decls))
    × (map bounds_notes l.found.items ++ each_notes (frame_view l.frame) (names_along l.path) (map decl_tree (drop l.decl-index l.decls)) ≡ each_notes (frame_view l.frame) (names_along l.path) (map decl_tree l.decls))

abbrev pub invariant-bounds-loop-bound : goal.invariant-bounds-loop-bound
invariant-bounds-loop-bound l =
    (BoundsSoFar l.initial.self.log l.self.log (typed_bounds l.path (bounds_of (map bound_tree l.bounds))) (typed_bounds l.path (bounds_of (map bound_tree (drop l.bound-index l.bounds)))))
    × Left (bounds_naming (frame_view l.frame) (names_along l.path) (bounds_of (map bound_tree l.bounds))) (bounds_naming (frame_view l.frame) (names_along l.path) (bounds_of (map bound_tree (drop l.bound-index l.bounds)))) l.initial.self.log l.self.log

abbrev pub invariant-decls-loop-position : goal.invariant-decls-loop-position
invariant-decls-loop-position l =
    ((around : Scopes) → map bounds_view l.bounds ≡ each_bounds around (map decl_tree l.decls)
    → DeclsSoFar l.initial.self.log l.self.log (typed_decls around l.path (decls_of (map decl_tree l.decls))) (typed_decls around l.path (decls_of (map decl_tree (drop l.position l.decls)))))
    × ((around : NamePath) → map bounds_notes l.bounds ≡ each_notes (frame_view l.frame) around (map decl_tree l.decls)
    → Left (decls_naming (frame_view l.frame) around (names_along l.path) (decls_of (map decl_tree l.decls))) (decls_naming (frame_view l.frame) around (names_along l.path) (decls_of (map decl_tree (drop l.position l.decls)))) l.initial.self.log l.self.log)

abbrev pub invariant-items-loop-position : goal.invariant-items-loop-position
invariant-items-loop-position l =
    (ItemsSoFar l.initial.self.log l.self.log (typed_items l.path (Good Statement) (items_of (map item_tree l.items))) (typed_items l.path (view.verdict l.verdict) (items_of (map item_tree (drop l.position l.items)))))
    × Left (items_naming (frame_view l.frame) (names_along l.path) (items_of (map item_tree l.items))) (items_naming (frame_view l.frame) (names_along l.path) (items_of (map item_tree (drop l.position l.items)))) l.initial.self.log l.self.log
