-- With one more level of nesting the language says no less, and its reader changes only where it went beyond the levels.
use Rattle.std.proofs.Common.{◌≡◌, ℕ, zero, suc, ◌+◌, ◌≤◌, List, [], ◌∷◌, length, refl, sym, ◌∙◌, subst, inl, inr, arith, ◌⊎◌, Option, Some, None, true, false, ◌<◌, le_trans, eq-or-lt_of_le, le_of_suc-le-suc, not-suc-le-zero, zero-le}
use Rattle.algolw_tree.specs.declared.tokens.Word.{Word}
use Rattle.algolw_tree.specs.declared.tokens.Word.TheVariants as w
use Rattle.algolw_tree.specs.declared.tokens.Symbol.{Symbol}
use Rattle.algolw_tree.specs.declared.tokens.Symbol.TheVariants as s
use Rattle.algolw_tree.specs.declared.tokens.Token.{Token}
use Rattle.algolw_tree.specs.declared.phrases.Op.{Op}
use Rattle.algolw_tree.specs.declared.phrases.Op.TheVariants as op
use Rattle.algolw_tree.specs.declared.phrases.RelOp.TheVariants as rel_op
use Rattle.algolw_tree.specs.declared.phrases.Mode.TheVariants as mode
use Rattle.value_ops.specs.declared.places.Place.{Place}
use Rattle.algolw_tree.specs.Tree.{Integer, Logical, Bits, Str, Reference, Phrase, Star, Given}
use Rattle.algolw_tree.specs.Parts.{Beyond, Part, token, both, choice, made, beyond, nowhere}
use Rattle.algolw_tree.specs.Grammar.{Levels, left, right, applied, ◌⊗◌, ◌⊲◌, ◌⊳◌, ◌⊛◌, word_at, symbol_at, name_at, number_at, bits_at, string_at, finish_at, word, symbol, name, number, parens, optional, onto, later, separated, names, to, type_spec, group, class_of, record_class, passing, array_formal, simple_formal, procedure_formal, formal_end, formal, formals, empty_at, perhaps, bound_of, bound, procedure_of, procedure, array_decl, simple_decl, typed, untyped, decl_end, decl, item_of, label, item, block_of, block, actual, part_of, actuals_from, actuals_from_star, list, listing, number_of, bits_of, string_of, truth_of, null_of, named_of, literal, prim, op_at, or_op, and_op, adding_op, multiplying_op, shifting_op, link_of, links, chain_of, chain, shift, term, signed_of, signed, sum, relop_at, relop, relation_of, class_test, same, relation_end, rel, neg, conj, disj, assign_of, assign_end, assignment, if_of, if_phrase, case_value, case_do, case_of, case_end, case_phrase, for_step, for_list, for_end, for_of, for_phrase, while_of, while_phrase, goto_of, goto_phrase, assert_of, assert_phrase, phrase, negated_of, absolute_of, negation, absolute, levels, program}
use Rattle.algolw_grammar.specs.Kinds.{the_word, the_symbol, a_name}
use Rattle.algolw_grammar.specs.Readers.{Reader, read_both, read_left, read_right, read_applied, read_deep}
use Rattle.algolw_grammar.specs.Taken.{word_taken, symbol_taken, name_taken, number_taken, bits_taken, string_taken, finish_taken, label_taken}
use Rattle.algolw_grammar.specs.Reading.{Readers, read_word, read_symbol, read_name, read_number, read_parens, read_optional, read_later, read_separated, read_names, read_length, read_type, read_group, read_class, read_passing, read_formal_end, read_formal, read_formals, first_phrase, read_perhaps, read_bound, read_procedure, read_decl_end, read_decl, read_item, read_block, read_actual, read_list, read_listing, read_literal, read_prim, read_or, read_and, read_adding, read_multiplying, read_shifting, read_chain, read_shift, read_term, read_signed, read_sum, read_relop, read_relation_end, read_rel, read_neg, read_conj, read_disj, read_assign_end, read_assignment, read_if, read_case_end, read_case, read_for_end, read_for, read_while, read_goto, read_assert, read_phrase, read_negation, read_absolute, read_program_by, first_decl, first_goto, shifting, multiplying, adding, comparing, listing_values}
use Rattle.algolw_grammar.proofs.Good.{IsDeep, Climbs, read_beyond}
use Rattle.algolw_grammar.proofs.Climbing.{token_climbs, nothing_climbs, empty_climbs, both_climbs, behind_token_climbs, made_climbs, choice_climbs, else_climbs, many_climbs, labelled_climbs, beyond_climbs, lower_climbs, nowhere_climbs}
use Rattle.algolw_grammar.proofs.Marked.{marked, UnreadLevels}
use Rattle.algolw_grammar.proofs.LanguageUnread.{unread_marked}

-- the parts that others are made of

word_climbs : (x : Word) (j : ℕ) → Climbs (word x) (word x) (read_word x) (read_word x) j
unfolding word
word_climbs x j = token_climbs (word_at x) (word_taken x) j

symbol_climbs : (x : Symbol) (j : ℕ) → Climbs (symbol x) (symbol x) (read_symbol x) (read_symbol x) j
unfolding symbol
symbol_climbs x j = token_climbs (symbol_at x) (symbol_taken x) j

name_climbs : (j : ℕ) → Climbs name name read_name read_name j
unfolding name
name_climbs j = token_climbs name_at name_taken j

number_climbs : (j : ℕ) → Climbs number number read_number read_number j
unfolding number
number_climbs j = token_climbs number_at number_taken j

module _ {A : Type 0} {g h : Part A} {p q : Reader A} where
  behind_word : (x : Word) {k : ℕ} → Climbs g h p q k → Climbs (word x ⊗ g) (word x ⊗ h) (read_both (read_word x) p) (read_both (read_word x) q) (suc k)
  unfolding word
  behind_word x c = behind_token_climbs (word_at x) (word_taken x) c

  behind_symbol : (x : Symbol) {k : ℕ} → Climbs g h p q k → Climbs (symbol x ⊗ g) (symbol x ⊗ h) (read_both (read_symbol x) p) (read_both (read_symbol x) q) (suc k)
  unfolding symbol
  behind_symbol x c = behind_token_climbs (symbol_at x) (symbol_taken x) c

  -- behind a word or a symbol that doesn't count, and before one
  after_word : (x : Word) {k : ℕ} → Climbs g h p q k → Climbs (word x ⊳ g) (word x ⊳ h) (read_right (read_word x) p) (read_right (read_word x) q) (suc k)
  after_word x c = made_climbs right (behind_word x c)

  after_symbol : (x : Symbol) {k : ℕ} → Climbs g h p q k → Climbs (symbol x ⊳ g) (symbol x ⊳ h) (read_right (read_symbol x) p) (read_right (read_symbol x) q) (suc k)
  after_symbol x c = made_climbs right (behind_symbol x c)

  until_word : (x : Word) {j : ℕ} → Climbs g h p q j → Climbs (g ⊲ word x) (h ⊲ word x) (read_left p (read_word x)) (read_left q (read_word x)) j
  until_word x {j} c = made_climbs left (both_climbs c (word_climbs x j))

  until_symbol : (x : Symbol) {j : ℕ} → Climbs g h p q j → Climbs (g ⊲ symbol x) (h ⊲ symbol x) (read_left p (read_symbol x)) (read_left q (read_symbol x)) j
  until_symbol x {j} c = made_climbs left (both_climbs c (symbol_climbs x j))

module _ {A : Type 0} {g h : Part A} {p q : Reader A} where
  parens_climbs : {k : ℕ} → Climbs g h p q k → Climbs (parens g) (parens h) (read_parens p) (read_parens q) (suc k)
  unfolding parens
  parens_climbs c = after_symbol s.Open (until_symbol s.Close c)

  lowered : {k : ℕ} → Climbs g h p q (suc k) → Climbs g h p q k
  lowered {k} c = lower_climbs k (omega arith) c

  optional_climbs : (first : List ℕ) {j : ℕ} → Climbs g h p q j → Climbs (optional g) (optional h) (read_optional first p) (read_optional first q) j
  unfolding optional
  optional_climbs first {j} c = choice_climbs first (made_climbs Some c) (nothing_climbs None j)

  later_climbs : (separator : Symbol) {j : ℕ} → Climbs g h p q j → Climbs (later separator g) (later separator h) (read_later separator p) (read_later separator q) j
  unfolding later
  later_climbs separator {j} c = many_climbs (the_symbol separator) (made_climbs right (both_climbs (symbol_climbs separator j) c))

  separated_climbs : (separator : Symbol) {j : ℕ} → Climbs g h p q j → Climbs (separated separator g) (separated separator h) (read_separated separator p) (read_separated separator q) j
  unfolding separated
  separated_climbs separator c = made_climbs onto (both_climbs c (later_climbs separator c))

module _ {A B : Type 0} {g h : Part A} {p q : Reader A} {g2 h2 : Part (A → B)} {p2 q2 : Reader (A → B)} where
  applied_climbs : {j : ℕ} → Climbs g h p q j → Climbs g2 h2 p2 q2 j → Climbs (g ⊛ g2) (h ⊛ h2) (read_applied p p2) (read_applied q q2) j
  applied_climbs c c2 = made_climbs applied (both_climbs c c2)

chain_climbs : (ops : List ℕ) (operator : Part (Op × Place)) (o : Reader (Op × Place)) {first first2 g h : Part Phrase} {f f2 p q : Reader Phrase} {j : ℕ} → Climbs operator operator o o j → Climbs first first2 f f2 j → Climbs g h p q j → Climbs (chain first operator g) (chain first2 operator h) (read_chain ops f o p) (read_chain ops f2 o q) j
unfolding chain links
chain_climbs ops operator o c a b = made_climbs chain_of (both_climbs a (many_climbs ops (made_climbs link_of (both_climbs c b))))

-- what has no levels

names_climbs : (j : ℕ) → Climbs names names read_names read_names j
unfolding names read_names
names_climbs j = separated_climbs s.Comma (name_climbs j)

length_climbs : (j : ℕ) → Climbs (optional (parens number)) (optional (parens number)) read_length read_length j
length_climbs j = optional_climbs (the_symbol s.Open) (lowered (parens_climbs (number_climbs j)))

type_climbs : (j : ℕ) → Climbs type_spec type_spec read_type read_type j
unfolding type_spec read_type
type_climbs j =
    choice_climbs (the_word w.Integer) (made_climbs (to Integer) (word_climbs w.Integer j)) (
    choice_climbs (the_word w.Logical) (made_climbs (to Logical) (word_climbs w.Logical j)) (
    choice_climbs (the_word w.Bits) (made_climbs Bits (lowered (after_word w.Bits (length_climbs j)))) (
    choice_climbs (the_word w.String) (made_climbs Str (lowered (after_word w.String (length_climbs j)))) (
    made_climbs Reference (lowered (after_word w.Reference (lowered (parens_climbs (names_climbs j)))))))))

group_climbs : (j : ℕ) → Climbs group group read_group read_group j
unfolding group read_group
group_climbs j = both_climbs (type_climbs j) (names_climbs j)

class_climbs : (j : ℕ) → Climbs record_class record_class read_class read_class j
unfolding record_class read_class
class_climbs j =
    let groups = lowered (parens_climbs (separated_climbs s.Semicolon (group_climbs j))) in
    made_climbs class_of (lowered (after_word w.Record (both_climbs (name_climbs j) groups)))

passing_climbs : (j : ℕ) → Climbs passing passing read_passing read_passing j
unfolding passing read_passing
passing_climbs j =
    let value = choice_climbs (the_word w.Result) (made_climbs (to mode.ValueResult) (word_climbs w.Result j)) (nothing_climbs mode.Value j) in
    choice_climbs (the_word w.Value) (lowered (after_word w.Value value)) (
    choice_climbs (the_word w.Result) (made_climbs (to mode.Result) (word_climbs w.Result j)) (
    choice_climbs (the_word w.Procedure) (made_climbs (to mode.Procedure) (word_climbs w.Procedure j))
    (nothing_climbs mode.ByName j)))

formal_end_climbs : (j : ℕ) → Climbs formal_end formal_end read_formal_end read_formal_end j
unfolding formal_end read_formal_end
formal_end_climbs j =
    let stars = lowered (parens_climbs (separated_climbs s.Comma (symbol_climbs s.Star j))) in
    choice_climbs (the_word w.Array) (made_climbs array_formal (lowered (after_word w.Array (both_climbs (names_climbs j) stars))))
    (made_climbs simple_formal (both_climbs (passing_climbs j) (names_climbs j)))

formal_climbs : (j : ℕ) → Climbs formal formal read_formal read_formal j
unfolding formal read_formal
formal_climbs j =
    choice_climbs (the_word w.Procedure) (made_climbs procedure_formal (lowered (after_word w.Procedure (names_climbs j))))
    (applied_climbs (type_climbs j) (formal_end_climbs j))

formals_climbs : (j : ℕ) → Climbs formals formals read_formals read_formals j
unfolding formals read_formals
formals_climbs j = choice_climbs (the_symbol s.Open) (lowered (parens_climbs (separated_climbs s.Semicolon (formal_climbs j)))) (nothing_climbs [] j)

literal_climbs : (j : ℕ) → Climbs literal literal read_literal read_literal j
unfolding literal read_literal
literal_climbs j =
    choice_climbs (66 ∷ []) (made_climbs number_of (number_climbs j)) (
    choice_climbs (67 ∷ []) (made_climbs bits_of (token_climbs bits_at bits_taken j)) (
    choice_climbs (68 ∷ []) (made_climbs string_of (token_climbs string_at string_taken j)) (
    choice_climbs (the_word w.True) (made_climbs (truth_of true) (word_climbs w.True j)) (
    choice_climbs (the_word w.False) (made_climbs (truth_of false) (word_climbs w.False j))
    (made_climbs null_of (word_climbs w.Null j))))))

or_climbs : (j : ℕ) → Climbs or_op or_op read_or read_or j
unfolding or_op read_or
or_climbs j = made_climbs (op_at op.Or) (word_climbs w.Or j)

and_climbs : (j : ℕ) → Climbs and_op and_op read_and read_and j
unfolding and_op read_and
and_climbs j = made_climbs (op_at op.And) (word_climbs w.And j)

adding_climbs : (j : ℕ) → Climbs adding_op adding_op read_adding read_adding j
unfolding adding_op read_adding
adding_climbs j = choice_climbs (the_symbol s.Plus) (made_climbs (op_at op.Plus) (symbol_climbs s.Plus j)) (made_climbs (op_at op.Minus) (symbol_climbs s.Minus j))

multiplying_climbs : (j : ℕ) → Climbs multiplying_op multiplying_op read_multiplying read_multiplying j
unfolding multiplying_op read_multiplying
multiplying_climbs j =
    choice_climbs (the_symbol s.Star) (made_climbs (op_at op.Times) (symbol_climbs s.Star j)) (
    choice_climbs (the_symbol s.Slash) (made_climbs (op_at op.Slash) (symbol_climbs s.Slash j)) (
    choice_climbs (the_word w.Div) (made_climbs (op_at op.Div) (word_climbs w.Div j))
    (made_climbs (op_at op.Rem) (word_climbs w.Rem j))))

shifting_climbs : (j : ℕ) → Climbs shifting_op shifting_op read_shifting read_shifting j
unfolding shifting_op read_shifting
shifting_climbs j =
    choice_climbs (the_word w.Shl) (made_climbs (op_at op.Shl) (word_climbs w.Shl j)) (
    choice_climbs (the_word w.Shr) (made_climbs (op_at op.Shr) (word_climbs w.Shr j))
    (made_climbs (op_at op.Power) (symbol_climbs s.Power j)))

relop_climbs : (j : ℕ) → Climbs relop relop read_relop read_relop j
unfolding relop read_relop
relop_climbs j =
    choice_climbs (the_symbol s.Equal) (made_climbs (relop_at rel_op.Equal) (symbol_climbs s.Equal j)) (
    choice_climbs (the_symbol s.NotEqual) (made_climbs (relop_at rel_op.NotEqual) (symbol_climbs s.NotEqual j)) (
    choice_climbs (the_symbol s.Less) (made_climbs (relop_at rel_op.Less) (symbol_climbs s.Less j)) (
    choice_climbs (the_symbol s.LessEqual) (made_climbs (relop_at rel_op.LessEqual) (symbol_climbs s.LessEqual j)) (
    choice_climbs (the_symbol s.Greater) (made_climbs (relop_at rel_op.Greater) (symbol_climbs s.Greater j))
    (made_climbs (relop_at rel_op.GreaterEqual) (symbol_climbs s.GreaterEqual j))))))

goto_climbs : (j : ℕ) → Climbs goto_phrase goto_phrase read_goto read_goto j
unfolding goto_phrase read_goto
goto_climbs j =
    choice_climbs (the_word w.Goto) (made_climbs goto_of (lowered (behind_word w.Goto (name_climbs j))))
    (made_climbs goto_of (lowered (behind_word w.Go (lowered (after_word w.To (name_climbs j))))))

-- what has levels

-- Where l and m are read by r and q, m has a level more than l. A phrase may need as many levels as k tell of, and what begins with ~
-- or ABS one more.
pub record ClimbsLevels (l m : Levels) (r q : Readers) (k : ℕ) : Type 0 where
  pub phrase : Climbs l.phrase m.phrase r.phrase q.phrase k
  pub negation : Climbs l.negation m.negation r.negation q.negation (suc k)
  pub absolute : Climbs l.absolute m.absolute r.absolute q.absolute (suc k)

module _ {l m : Levels} {r q : Readers} {k : ℕ} (up : ClimbsLevels l m r q k) where
  perhaps_climbs : Climbs (perhaps l) (perhaps m) (read_perhaps r) (read_perhaps q) k
  unfolding perhaps read_perhaps
  perhaps_climbs = choice_climbs first_phrase up.phrase (empty_climbs empty_at k)

  bound_climbs : Climbs (bound l) (bound m) (read_bound r) (read_bound q) k
  unfolding bound read_bound
  bound_climbs = made_climbs bound_of (both_climbs up.phrase (both_climbs (symbol_climbs s.Bounds k) up.phrase))

  procedure_climbs : Climbs (procedure l) (procedure m) (read_procedure r) (read_procedure q) (suc k)
  unfolding procedure read_procedure
  procedure_climbs = made_climbs procedure_of (behind_word w.Procedure (both_climbs (name_climbs k) (both_climbs (until_symbol s.Semicolon (formals_climbs k)) perhaps_climbs)))

  decl_end_climbs : Climbs (decl_end l) (decl_end m) (read_decl_end r) (read_decl_end q) (suc k)
  unfolding decl_end read_decl_end
  decl_end_climbs =
      let bounds = lowered (parens_climbs (separated_climbs s.Comma bound_climbs)) in
      choice_climbs (the_word w.Array) (made_climbs array_decl (after_word w.Array (both_climbs (names_climbs k) bounds))) (
      choice_climbs (the_word w.Procedure) (made_climbs typed procedure_climbs)
      (made_climbs simple_decl (names_climbs (suc k))))

  decl_climbs : Climbs (decl l) (decl m) (read_decl r) (read_decl q) (suc k)
  unfolding decl read_decl
  decl_climbs =
      choice_climbs (the_word w.Procedure) (made_climbs untyped procedure_climbs) (
      choice_climbs (the_word w.Record) (class_climbs (suc k))
      (applied_climbs (type_climbs (suc k)) decl_end_climbs))

  item_climbs : Climbs (item l) (item m) (read_item r) (read_item q) k
  unfolding item read_item
  item_climbs = made_climbs item_of (labelled_climbs label label_taken perhaps_climbs)

  block_climbs : Climbs (block l) (block m) (read_block r) (read_block q) (suc k)
  unfolding block read_block
  block_climbs =
      let decls = many_climbs first_decl (until_symbol s.Semicolon (lowered decl_climbs)) in
      let items = until_word w.End (separated_climbs s.Semicolon item_climbs) in
      made_climbs block_of (behind_word w.Begin (both_climbs decls items))

  actual_climbs : Climbs (actual l) (actual m) (read_actual r) (read_actual q) k
  unfolding actual read_actual
  actual_climbs = choice_climbs (the_symbol s.Star) (made_climbs Star (symbol_climbs s.Star k)) (made_climbs Given up.phrase)

  list_climbs : Climbs (list l) (list m) (read_list r) (read_list q) k
  unfolding list read_list
  list_climbs =
      let actuals = later_climbs s.Comma actual_climbs in
      let part = lowered (after_symbol s.Bar (number_climbs k)) in
      choice_climbs (the_symbol s.Star) (made_climbs actuals_from_star (both_climbs (symbol_climbs s.Star k) actuals))
      (applied_climbs up.phrase (choice_climbs (the_symbol s.Bar) (made_climbs part_of part) (made_climbs actuals_from actuals)))

  listing_climbs : Climbs (listing l) (listing m) (read_listing r) (read_listing q) (suc k)
  unfolding listing read_listing
  listing_climbs = made_climbs applied (behind_symbol s.Open (until_symbol s.Close list_climbs))

  prim_climbs : Climbs (prim l) (prim m) (read_prim r) (read_prim q) (suc k)
  unfolding prim read_prim
  prim_climbs =
      let named = made_climbs named_of (both_climbs (name_climbs (suc k)) (many_climbs (the_symbol s.Open) listing_climbs)) in
      choice_climbs (the_word w.Abs) up.absolute (
      choice_climbs (the_symbol s.Open) (parens_climbs up.phrase) (
      choice_climbs (the_word w.Begin) block_climbs (
      choice_climbs a_name named
      (literal_climbs (suc k)))))

  shift_climbs : Climbs (shift l) (shift m) (read_shift r) (read_shift q) (suc k)
  unfolding shift read_shift
  shift_climbs = chain_climbs shifting shifting_op read_shifting (shifting_climbs (suc k)) prim_climbs prim_climbs

  term_climbs : Climbs (term l) (term m) (read_term r) (read_term q) (suc k)
  unfolding term read_term
  term_climbs = chain_climbs multiplying multiplying_op read_multiplying (multiplying_climbs (suc k)) shift_climbs shift_climbs

  signed_climbs : Climbs (signed l) (signed m) (read_signed r) (read_signed q) (suc k)
  unfolding signed read_signed
  signed_climbs =
      choice_climbs (the_symbol s.Plus) (made_climbs (signed_of false) (both_climbs (symbol_climbs s.Plus (suc k)) term_climbs)) (
      choice_climbs (the_symbol s.Minus) (made_climbs (signed_of true) (both_climbs (symbol_climbs s.Minus (suc k)) term_climbs))
      term_climbs)

  sum_climbs : Climbs (sum l) (sum m) (read_sum r) (read_sum q) (suc k)
  unfolding sum read_sum
  sum_climbs = chain_climbs adding adding_op read_adding (adding_climbs (suc k)) signed_climbs term_climbs

  relation_end_climbs : Climbs (relation_end l) (relation_end m) (read_relation_end r) (read_relation_end q) (suc k)
  unfolding relation_end read_relation_end
  relation_end_climbs =
      choice_climbs (the_word w.Is) (made_climbs class_test (behind_word w.Is (name_climbs k))) (
      choice_climbs comparing (made_climbs relation_of (both_climbs (relop_climbs (suc k)) sum_climbs))
      (nothing_climbs same (suc k)))

  rel_climbs : Climbs (rel l) (rel m) (read_rel r) (read_rel q) (suc k)
  unfolding rel read_rel
  rel_climbs = applied_climbs sum_climbs relation_end_climbs

  neg_climbs : Climbs (neg l) (neg m) (read_neg r) (read_neg q) (suc k)
  unfolding neg read_neg
  neg_climbs = choice_climbs (the_symbol s.Not) up.negation rel_climbs

  conj_climbs : Climbs (conj l) (conj m) (read_conj r) (read_conj q) (suc k)
  unfolding conj read_conj
  conj_climbs = chain_climbs (the_word w.And) and_op read_and (and_climbs (suc k)) neg_climbs neg_climbs

  disj_climbs : Climbs (disj l) (disj m) (read_disj r) (read_disj q) (suc k)
  unfolding disj read_disj
  disj_climbs = chain_climbs (the_word w.Or) or_op read_or (or_climbs (suc k)) conj_climbs conj_climbs

  assign_end_climbs : Climbs (assign_end l) (assign_end m) (read_assign_end r) (read_assign_end q) (suc k)
  unfolding assign_end read_assign_end
  assign_end_climbs = choice_climbs (the_symbol s.Becomes) (made_climbs assign_of (behind_symbol s.Becomes up.phrase)) (nothing_climbs same (suc k))

  assignment_climbs : Climbs (assignment l) (assignment m) (read_assignment r) (read_assignment q) (suc k)
  unfolding assignment read_assignment
  assignment_climbs = applied_climbs disj_climbs assign_end_climbs

  if_climbs : Climbs (if_phrase l) (if_phrase m) (read_if r) (read_if q) (suc k)
  unfolding if_phrase read_if
  if_climbs =
      let other = else_climbs (lowered (after_word w.Else perhaps_climbs)) in
      made_climbs if_of (behind_word w.If (both_climbs (until_word w.Then up.phrase) (both_climbs perhaps_climbs other)))

  case_end_climbs : Climbs (case_end l) (case_end m) (read_case_end r) (read_case_end q) (suc k)
  unfolding case_end read_case_end
  case_end_climbs =
      choice_climbs (the_symbol s.Open) (made_climbs case_value (parens_climbs (separated_climbs s.Comma up.phrase)))
      (made_climbs case_do (after_word w.Begin (until_word w.End (separated_climbs s.Semicolon perhaps_climbs))))

  case_climbs : Climbs (case_phrase l) (case_phrase m) (read_case r) (read_case q) (suc k)
  unfolding case_phrase read_case
  case_climbs = made_climbs case_of (behind_word w.Case (applied_climbs (until_word w.Of up.phrase) (lowered case_end_climbs)))

  for_end_climbs : Climbs (for_end l) (for_end m) (read_for_end r) (read_for_end q) k
  unfolding for_end read_for_end
  for_end_climbs =
      let step = optional_climbs (the_word w.Step) (lowered (after_word w.Step up.phrase)) in
      let until = lowered (after_word w.Until (until_word w.Do up.phrase)) in
      choice_climbs listing_values (made_climbs for_list (until_word w.Do (later_climbs s.Comma up.phrase)))
      (made_climbs for_step (both_climbs step until))

  for_climbs : Climbs (for_phrase l) (for_phrase m) (read_for r) (read_for q) (suc k)
  unfolding for_phrase read_for
  for_climbs = made_climbs for_of (behind_word w.For (both_climbs (until_symbol s.Becomes (name_climbs k)) (both_climbs up.phrase (both_climbs for_end_climbs perhaps_climbs))))

  while_climbs : Climbs (while_phrase l) (while_phrase m) (read_while r) (read_while q) (suc k)
  unfolding while_phrase read_while
  while_climbs = made_climbs while_of (behind_word w.While (both_climbs (until_word w.Do up.phrase) perhaps_climbs))

  assert_climbs : Climbs (assert_phrase l) (assert_phrase m) (read_assert r) (read_assert q) (suc k)
  unfolding assert_phrase read_assert
  assert_climbs = made_climbs assert_of (behind_word w.Assert up.phrase)

  phrase_climbs : Climbs (phrase l) (phrase m) (read_phrase r) (read_phrase q) (suc k)
  unfolding phrase read_phrase
  phrase_climbs =
      choice_climbs (the_word w.If) if_climbs (
      choice_climbs (the_word w.Case) case_climbs (
      choice_climbs (the_word w.For) for_climbs (
      choice_climbs (the_word w.While) while_climbs (
      choice_climbs first_goto (goto_climbs (suc k)) (
      choice_climbs (the_word w.Assert) assert_climbs
      assignment_climbs)))))

  negation_climbs : Climbs (negation l) (negation m) (read_negation r) (read_negation q) (suc (suc k))
  unfolding negation read_negation
  negation_climbs = made_climbs negated_of (behind_symbol s.Not neg_climbs)

  absolute_climbs : Climbs (absolute l) (absolute m) (read_absolute r) (read_absolute q) (suc (suc k))
  unfolding absolute read_absolute
  absolute_climbs = made_climbs absolute_of (behind_word w.Abs prim_climbs)

  pub next_climbs : ClimbsLevels (record { phrase = phrase l; negation = negation l; absolute = absolute l }) (record { phrase = phrase m; negation = negation m; absolute = absolute m }) (record { phrase = read_phrase r; negation = read_negation r; absolute = read_absolute r }) (record { phrase = read_phrase q; negation = read_negation q; absolute = read_absolute q }) (suc k)
  next_climbs = record { phrase = phrase_climbs; negation = negation_climbs; absolute = absolute_climbs }

-- from no level to one

phrase_begins : (l : Levels) → (phrase l).begins [] None
unfolding phrase if_phrase word token both made choice
phrase_begins l = inl (inl (inl refl, refl))

negation_begins : (l : Levels) → (negation l).begins [] None
unfolding negation symbol token both made
negation_begins l = inl (inl refl, refl)

absolute_begins : (l : Levels) → (absolute l).begins [] None
unfolding absolute word token both made
absolute_begins l = inl (inl refl, refl)

beyond_begins : {A : Type 0} (g : Part A) → g.begins [] None → (beyond g).begins [] None
unfolding beyond
beyond_begins g b = (None, b, refl)

none_climbs : (l : Levels) (q : Readers) → l.phrase.begins [] None → l.negation.begins [] None → l.absolute.begins [] None → UnreadLevels q → ClimbsLevels (record { phrase = nowhere; negation = nowhere; absolute = nowhere }) l (record { phrase = read_deep first_phrase; negation = read_deep (the_symbol s.Not); absolute = read_deep (the_word w.Abs) }) q 0
none_climbs l q b n a u = record {
  phrase = lower_climbs 0 zero-le (nowhere_climbs first_phrase l.phrase q.phrase b u.phrase);
  negation = nowhere_climbs (the_symbol s.Not) l.negation q.negation n u.negation;
  absolute = nowhere_climbs (the_word w.Abs) l.absolute q.absolute a u.absolute;
}

-- one level more

pub levels_climb : (n room : ℕ) → ClimbsLevels (levels n room) (levels (suc n) room) (marked n room) (marked (suc n) room) n
unfolding levels marked
levels_climb zero zero =
    let l = levels zero zero in
    none_climbs (levels 1 zero) (marked 1 zero) (beyond_begins _ (phrase_begins l)) (beyond_begins _ (negation_begins l)) (beyond_begins _ (absolute_begins l)) (unread_marked 1 zero)
levels_climb zero (suc room) =
    let l = levels zero room in
    none_climbs (levels 1 (suc room)) (marked 1 (suc room)) (phrase_begins l) (negation_begins l) (absolute_begins l) (unread_marked 1 (suc room))
levels_climb (suc n) zero = below (next_climbs (levels_climb n zero))
  where
    below : {l m : Levels} {r q : Readers} {k : ℕ} → ClimbsLevels l m r q k → ClimbsLevels (record { phrase = beyond l.phrase; negation = beyond l.negation; absolute = beyond l.absolute }) (record { phrase = beyond m.phrase; negation = beyond m.negation; absolute = beyond m.absolute }) (record { phrase = read_beyond r.phrase; negation = read_beyond r.negation; absolute = read_beyond r.absolute }) (record { phrase = read_beyond q.phrase; negation = read_beyond q.negation; absolute = read_beyond q.absolute }) k
    below c = record { phrase = beyond_climbs c.phrase; negation = beyond_climbs c.negation; absolute = beyond_climbs c.absolute }
levels_climb (suc n) (suc room) = next_climbs (levels_climb n room)

pub program_climbs : (n : ℕ) → Climbs (program n) (program (suc n)) (read_program_by (marked n 99)) (read_program_by (marked (suc n) 99)) n
unfolding program read_program_by
program_climbs n =
    let stop = optional_climbs (the_symbol s.Stop) (symbol_climbs s.Stop n) in
    let block = lowered (block_climbs (levels_climb n 99)) in
    made_climbs left (both_climbs (made_climbs left (both_climbs block stop)) (token_climbs finish_at finish_taken n))

-- any number of levels more

steps : (P : ℕ → Type 0) (n : ℕ) → ((i : ℕ) → n ≤ i → P i → P (suc i)) → (m : ℕ) → n ≤ m → P n → P m
steps P n next m i x = go m (eq-or-lt_of_le i)
  where
    go : (m : ℕ) → (n ≡ m) ⊎ (n < m) → P m
    go m (inl e) = subst P e x
    go zero (inr h) = absurd (not-suc-le-zero h)
    go (suc m) (inr h) = let k : n ≤ m = le_of_suc-le-suc h in next m k (go m (eq-or-lt_of_le k))

pub program_spelled : (n m : ℕ) → n ≤ m → (c : Option Token) (u : List Token) (x : Phrase) (b : Beyond) → (program n).spells c u x b → (program m).spells c u x b
program_spelled n m i c u x b s = steps (λ i. (program i).spells c u x b) n (λ i k s. (program_climbs i).spelled c u x b s) m i s

pub program_begun : (n m : ℕ) → n ≤ m → (u : List Token) (b : Beyond) → (program n).begins u b → (program m).begins u b
program_begun n m i u b s = steps (λ i. (program i).begins u b) n (λ i k s. (program_climbs i).begins u b s) m i s

pub program_shallow : (n : ℕ) (w : List Token) → length w + length w ≤ n → IsDeep (read_program_by (marked n 99) w) → ⊥
program_shallow n w h = (program_climbs n).shallow w h

-- what reads no deeper than n reads the same with one level more
same_next : (n : ℕ) (w : List Token) → length w + length w ≤ n → read_program_by (marked (suc n) 99) w ≡ read_program_by (marked n 99) w
same_next n w h = go ((program_climbs n).same w)
  where
    go : IsDeep (read_program_by (marked n 99) w) ⊎ (read_program_by (marked n 99) w ≡ read_program_by (marked (suc n) 99) w) → read_program_by (marked (suc n) 99) w ≡ read_program_by (marked n 99) w
    go (inl d) = absurd (program_shallow n w h d)
    go (inr e) = sym e

pub program_same : (n m : ℕ) (w : List Token) → n ≤ m → length w + length w ≤ n → read_program_by (marked m 99) w ≡ read_program_by (marked n 99) w
program_same n m w i h = steps (λ i. read_program_by (marked i 99) w ≡ read_program_by (marked n 99) w) n (λ i k e. same_next i w (le_trans h k) ∙ e) m i refl
