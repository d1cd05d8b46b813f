-- Readers that leave no more tokens than there were, and that those of the language do.
use Rattle.std.proofs.Common.{ℕ, zero, suc, ◌≤◌, Bool, true, false, List, [], ◌∷◌, length, arith, le_refl, Option, Some, None}
use Rattle.algolw_tree.specs.declared.tokens.Word.{Word}
use Rattle.algolw_tree.specs.declared.tokens.Word.TheVariants as w
use Rattle.algolw_tree.specs.declared.tokens.Symbol.{Symbol}
use Rattle.algolw_tree.specs.declared.tokens.Symbol.TheVariants as s
use Rattle.algolw_tree.specs.declared.tokens.Token.{Token}
use Rattle.algolw_tree.specs.Parts.{Beyond, follow, is_else}
use Rattle.algolw_grammar.specs.Kinds.{opens, the_word, the_symbol, a_name}
use Rattle.algolw_grammar.specs.Readers.{Out, Got, Bad, Deep, Reader, taken, behind, then, mapped, picked, no_else, on_front, more, turns, one_label, read_token, read_nothing, read_empty, read_both, read_made, read_left, read_right, read_applied, read_choice, read_else, read_many, read_deep, read_labelled}
use Rattle.value_ops.specs.declared.places.Place.{Place}
use Rattle.algolw_tree.specs.declared.phrases.Op.{Op}
use Rattle.algolw_tree.specs.declared.phrases.Op.TheVariants as op
use Rattle.algolw_tree.specs.declared.phrases.RelOp.TheVariants as rel_op
use Rattle.algolw_tree.specs.declared.phrases.Mode.TheVariants as mode
use Rattle.algolw_tree.specs.Tree.{Integer, Logical, Bits, Str, Reference, Phrase, Star, Given}
use Rattle.algolw_tree.specs.Grammar.{left, right, applied, onto, to, same, class_of, array_formal, simple_formal, procedure_formal, empty_at, bound_of, procedure_of, array_decl, simple_decl, typed, untyped, item_of, block_of, part_of, actuals_from, actuals_from_star, number_of, bits_of, string_of, truth_of, null_of, named_of, op_at, link_of, chain_of, signed_of, relop_at, relation_of, class_test, assign_of, if_of, case_value, case_do, case_of, for_step, for_list, for_of, while_of, goto_of, assert_of, negated_of, absolute_of}
use Rattle.algolw_grammar.specs.Taken.{label_taken, name_taken, word_taken, symbol_taken, number_taken, bits_taken, string_taken}
use Rattle.algolw_grammar.specs.Reading.{Readers, readers, read_word, read_symbol, read_name, read_number, read_parens, read_optional, read_later, read_separated, read_names, read_length, read_type, read_group, read_class, read_passing, read_formal_end, read_formal, read_formals, first_phrase, read_perhaps, read_bound, read_procedure, read_decl_end, first_decl, read_decl, read_item, read_block, read_actual, read_list, read_listing, read_literal, read_prim, read_or, read_and, read_adding, read_multiplying, read_shifting, adding, multiplying, shifting, read_links, read_chain, read_shift, read_term, read_signed, read_sum, read_relop, comparing, read_relation_end, read_rel, read_neg, read_conj, read_disj, read_assign_end, read_assignment, read_if, read_case_end, read_case, listing_values, read_for_end, read_for, read_while, read_goto, read_assert, first_goto, read_phrase, read_negation, read_absolute}
use Rattle.algolw_grammar.proofs.Good.{Eaten, marked, read_beyond}
use Rattle.algolw_grammar.proofs.Marked as levels

-- What is left of a list behind what the reader q reads, or before the token that it refuses, is no longer than the list.
pub record Leaves {A : Type 0} (q : Reader A) : Type 0 where
  pub leaves : (w : List Token) → Eaten (q w) w

-- one token, and no token

taken_leaves : {A : Type 0} (o : Option A) (t : Token) (w : List Token) → Eaten (taken o t w) (t ∷ w)
taken_leaves (Some x) t w = omega arith
taken_leaves None t w = omega arith

pub leaves_token : {A : Type 0} (f : Token → Option A) → Leaves (read_token f)
leaves_token f = record { leaves = go }
  where
    go : (w : List Token) → Eaten (read_token f w) w
    go [] = omega arith
    go (t ∷ w) = taken_leaves (f t) t w

pub leaves_nothing : {A : Type 0} (x : A) → Leaves (read_nothing x)
leaves_nothing x = record { leaves = λ w. le_refl (length w) }

pub leaves_empty : {A : Type 0} (f : Token → A) → Leaves (read_empty f)
leaves_empty f = record { leaves = go }
  where
    go : (w : List Token) → Eaten (read_empty f w) w
    go [] = omega arith
    go (t ∷ w) = omega arith

-- the one and then the other

pub behind_left : {A B : Type 0} (x : A) (d : Beyond) (o : Out B) (r w : List Token) → Eaten o r → length r ≤ length w → Eaten (behind x d o) w
behind_left x d (Got y e z) r w h l = omega arith
behind_left x d (Bad e z) r w h l = omega arith
behind_left x d (Deep z) r w h l = tt

pub then_left : {A B : Type 0} (q : Reader B) → Leaves q → (o : Out A) (w : List Token) → Eaten o w → Eaten (then q o) w
then_left q k (Got x d r) w h = behind_left x d (q r) r w (k.leaves r) h
then_left q k (Bad d r) w h = h
then_left q k (Deep r) w h = tt

pub leaves_both : {A B : Type 0} {p : Reader A} {q : Reader B} → Leaves p → Leaves q → Leaves (read_both p q)
leaves_both {p} {q} a b = record { leaves = λ w. then_left q b (p w) w (a.leaves w) }

-- a value made of the parts

mapped_left : {A B : Type 0} (f : A → B) (o : Out A) (w : List Token) → Eaten o w → Eaten (mapped f o) w
mapped_left f (Got x e r) w h = h
mapped_left f (Bad e r) w h = h
mapped_left f (Deep r) w h = tt

pub leaves_made : {A B : Type 0} (f : A → B) {p : Reader A} → Leaves p → Leaves (read_made f p)
leaves_made f {p} a = record { leaves = λ w. mapped_left f (p w) w (a.leaves w) }

-- the one or the other

picked_left : {A : Type 0} (p q : Reader A) (c : Bool) (w : List Token) → Eaten (p w) w → Eaten (q w) w → Eaten (picked c p q w) w
picked_left p q true w h k = h
picked_left p q false w h k = k

pub leaves_choice : {A : Type 0} (s : List ℕ) {p q : Reader A} → Leaves p → Leaves q → Leaves (read_choice s p q)
leaves_choice s {p} {q} a b = record { leaves = λ w. picked_left p q (opens s w) w (a.leaves w) (b.leaves w) }

pub leaves_else : {A : Type 0} {p : Reader A} → Leaves p → Leaves (read_else p)
leaves_else {p} a = record { leaves = λ w. picked_left (read_made Some p) no_else (is_else (follow w None)) w (mapped_left Some (p w) w (a.leaves w)) (le_refl (length w)) }

-- any number

module _ {A : Type 0} where
  front_left : (x : A) (d : Beyond) (o : Out (List A)) (r w : List Token) → Eaten o r → length r ≤ length w → Eaten (on_front x d o) w
  front_left x d (Got xs e z) r w h l = omega arith
  front_left x d (Bad e z) r w h l = omega arith
  front_left x d (Deep z) r w h l = tt

  more_left : (q : Reader (List A)) → ((w : List Token) → Eaten (q w) w) → (o : Out A) (w : List Token) → Eaten o w → Eaten (more q o) w
  more_left q k (Got x d r) w h = front_left x d (q r) r w (k r) h
  more_left q k (Bad d r) w h = h
  more_left q k (Deep r) w h = tt

  turns_left : (s : List ℕ) (p : Reader A) → Leaves p → (n : ℕ) (w : List Token) → Eaten (turns s p n w) w
  turns_left s p a zero w = le_refl (length w)
  turns_left s p a (suc n) w = picked_left (λ w. more (turns s p n) (p w)) (read_nothing []) (opens s w) w (more_left (turns s p n) (turns_left s p a n) (p w) w (a.leaves w)) (le_refl (length w))

pub leaves_many : {A : Type 0} (s : List ℕ) {p : Reader A} → Leaves p → Leaves (read_many s p)
leaves_many s {p} a = record { leaves = λ w. turns_left s p a (length w) w }

-- labels

module _ {A B : Type 0} where
  label_left : (c : Option B) (o other : Out (List B × A)) (t k : Token) (w : List Token) → Eaten o w → Eaten other (t ∷ k ∷ w) → Eaten (one_label c o other) (t ∷ k ∷ w)
  label_left (Some l) (Got x d r) other t k w h z = omega arith
  label_left (Some l) (Bad d r) other t k w h z = omega arith
  label_left (Some l) (Deep r) other t k w h z = tt
  label_left None o other t k w h z = z

  labelled_left : (f : Token → Token → Option B) (p : Reader A) → Leaves p → (w : List Token) → Eaten (read_labelled f p w) w
  labelled_left f p a [] = behind_left {A = List B} [] None (p []) [] [] (a.leaves []) (omega arith)
  labelled_left f p a (t ∷ []) = behind_left {A = List B} [] None (p (t ∷ [])) (t ∷ []) (t ∷ []) (a.leaves (t ∷ [])) (le_refl 1)
  labelled_left f p a (t ∷ k ∷ w) = label_left (f t k) (read_labelled f p w) (behind [] None (p (t ∷ k ∷ w))) t k w (labelled_left f p a w) (behind_left {A = List B} [] None (p (t ∷ k ∷ w)) (t ∷ k ∷ w) (t ∷ k ∷ w) (a.leaves (t ∷ k ∷ w)) (omega arith))

pub leaves_labelled : {A B : Type 0} (f : Token → Token → Option B) {p : Reader A} → Leaves p → Leaves (read_labelled f p)
leaves_labelled f {p} a = record { leaves = labelled_left f p a }

-- beyond the limit

pub leaves_deep : (A : Type 0) (s : List ℕ) → Leaves (read_deep {A = A} s)
leaves_deep A s = record { leaves = λ w. picked_left {A = A} Deep (Bad None) (opens s w) w tt (le_refl (length w)) }

marked_left : {A : Type 0} (u : List Token) (o : Out A) (w : List Token) → Eaten o w → Eaten (marked u o) w
marked_left u (Got x d r) w h = h
marked_left u (Bad d r) w h = h
marked_left u (Deep r) w h = tt

pub leaves_beyond : {A : Type 0} {p : Reader A} → Leaves p → Leaves (read_beyond p)
leaves_beyond {p} a = record { leaves = λ w. marked_left w (p w) w (a.leaves w) }

-- tokens of the language

pub leaves_word : (x : Word) → Leaves (read_word x)
leaves_word x = leaves_token (word_taken x)

pub leaves_symbol : (x : Symbol) → Leaves (read_symbol x)
leaves_symbol x = leaves_token (symbol_taken x)

pub leaves_name : Leaves read_name
leaves_name = leaves_token name_taken

pub leaves_number : Leaves read_number
leaves_number = leaves_token number_taken

-- the parts of a part

pub leaves_left : {A B : Type 0} {p : Reader A} {q : Reader B} → Leaves p → Leaves q → Leaves (read_left p q)
leaves_left a b = leaves_made left (leaves_both a b)

pub leaves_right : {A B : Type 0} {p : Reader A} {q : Reader B} → Leaves p → Leaves q → Leaves (read_right p q)
leaves_right a b = leaves_made right (leaves_both a b)

pub leaves_applied : {A B : Type 0} {p : Reader A} {q : Reader (A → B)} → Leaves p → Leaves q → Leaves (read_applied p q)
leaves_applied a b = leaves_made applied (leaves_both a b)

pub leaves_parens : {A : Type 0} {p : Reader A} → Leaves p → Leaves (read_parens p)
leaves_parens a = leaves_right (leaves_symbol s.Open) (leaves_left a (leaves_symbol s.Close))

pub leaves_optional : {A : Type 0} (first : List ℕ) {p : Reader A} → Leaves p → Leaves (read_optional first p)
leaves_optional first a = leaves_choice first (leaves_made Some a) (leaves_nothing None)

pub leaves_later : {A : Type 0} (x : Symbol) {p : Reader A} → Leaves p → Leaves (read_later x p)
leaves_later x a = leaves_many (the_symbol x) (leaves_right (leaves_symbol x) a)

pub leaves_separated : {A : Type 0} (x : Symbol) {p : Reader A} → Leaves p → Leaves (read_separated x p)
leaves_separated x a = leaves_made onto (leaves_both a (leaves_later x a))

pub leaves_links : (ops : List ℕ) {o : Reader (Op × Place)} {p : Reader Phrase} → Leaves o → Leaves p → Leaves (read_links ops o p)
leaves_links ops o a = leaves_many ops (leaves_made link_of (leaves_both o a))

pub leaves_chain : (ops : List ℕ) {f : Reader Phrase} {o : Reader (Op × Place)} {p : Reader Phrase} → Leaves f → Leaves o → Leaves p → Leaves (read_chain ops f o p)
leaves_chain ops f o a = leaves_made chain_of (leaves_both f (leaves_links ops o a))

-- types, classes and formals

pub leaves_names : Leaves read_names
unfolding read_names
leaves_names = leaves_separated s.Comma leaves_name

pub leaves_length : Leaves read_length
leaves_length = leaves_optional (the_symbol s.Open) (leaves_parens leaves_number)

pub leaves_type : Leaves read_type
unfolding read_type
leaves_type =
    leaves_choice (the_word w.Integer) (leaves_made (to Integer) (leaves_word w.Integer)) (
    leaves_choice (the_word w.Logical) (leaves_made (to Logical) (leaves_word w.Logical)) (
    leaves_choice (the_word w.Bits) (leaves_made Bits (leaves_right (leaves_word w.Bits) leaves_length)) (
    leaves_choice (the_word w.String) (leaves_made Str (leaves_right (leaves_word w.String) leaves_length))
    (leaves_made Reference (leaves_right (leaves_word w.Reference) (leaves_parens leaves_names))))))

pub leaves_group : Leaves read_group
unfolding read_group
leaves_group = leaves_both leaves_type leaves_names

pub leaves_class : Leaves read_class
unfolding read_class
leaves_class = leaves_made class_of (leaves_right (leaves_word w.Record) (leaves_both leaves_name (leaves_parens (leaves_separated s.Semicolon leaves_group))))

pub leaves_passing : Leaves read_passing
unfolding read_passing
leaves_passing =
    leaves_choice (the_word w.Value) (leaves_right (leaves_word w.Value) (leaves_choice (the_word w.Result) (leaves_made (to mode.ValueResult) (leaves_word w.Result)) (leaves_nothing mode.Value))) (
    leaves_choice (the_word w.Result) (leaves_made (to mode.Result) (leaves_word w.Result)) (
    leaves_choice (the_word w.Procedure) (leaves_made (to mode.Procedure) (leaves_word w.Procedure))
    (leaves_nothing mode.ByName)))

pub leaves_formal_end : Leaves read_formal_end
unfolding read_formal_end
leaves_formal_end =
    leaves_choice (the_word w.Array) (leaves_made array_formal (leaves_right (leaves_word w.Array) (leaves_both leaves_names (leaves_parens (leaves_separated s.Comma (leaves_symbol s.Star))))))
    (leaves_made simple_formal (leaves_both leaves_passing leaves_names))

pub leaves_formal : Leaves read_formal
unfolding read_formal
leaves_formal = leaves_choice (the_word w.Procedure) (leaves_made procedure_formal (leaves_right (leaves_word w.Procedure) leaves_names)) (leaves_applied leaves_type leaves_formal_end)

pub leaves_formals : Leaves read_formals
unfolding read_formals
leaves_formals = leaves_choice (the_symbol s.Open) (leaves_parens (leaves_separated s.Semicolon leaves_formal)) (leaves_nothing [])

-- literals and operators

pub leaves_literal : Leaves read_literal
unfolding read_literal
leaves_literal =
    leaves_choice (66 ∷ []) (leaves_made number_of leaves_number) (
    leaves_choice (67 ∷ []) (leaves_made bits_of (leaves_token bits_taken)) (
    leaves_choice (68 ∷ []) (leaves_made string_of (leaves_token string_taken)) (
    leaves_choice (the_word w.True) (leaves_made (truth_of true) (leaves_word w.True)) (
    leaves_choice (the_word w.False) (leaves_made (truth_of false) (leaves_word w.False))
    (leaves_made null_of (leaves_word w.Null))))))

pub leaves_or : Leaves read_or
unfolding read_or
leaves_or = leaves_made (op_at op.Or) (leaves_word w.Or)

pub leaves_and : Leaves read_and
unfolding read_and
leaves_and = leaves_made (op_at op.And) (leaves_word w.And)

pub leaves_adding : Leaves read_adding
unfolding read_adding
leaves_adding = leaves_choice (the_symbol s.Plus) (leaves_made (op_at op.Plus) (leaves_symbol s.Plus)) (leaves_made (op_at op.Minus) (leaves_symbol s.Minus))

pub leaves_multiplying : Leaves read_multiplying
unfolding read_multiplying
leaves_multiplying =
    leaves_choice (the_symbol s.Star) (leaves_made (op_at op.Times) (leaves_symbol s.Star)) (
    leaves_choice (the_symbol s.Slash) (leaves_made (op_at op.Slash) (leaves_symbol s.Slash)) (
    leaves_choice (the_word w.Div) (leaves_made (op_at op.Div) (leaves_word w.Div))
    (leaves_made (op_at op.Rem) (leaves_word w.Rem))))

pub leaves_shifting : Leaves read_shifting
unfolding read_shifting
leaves_shifting =
    leaves_choice (the_word w.Shl) (leaves_made (op_at op.Shl) (leaves_word w.Shl)) (
    leaves_choice (the_word w.Shr) (leaves_made (op_at op.Shr) (leaves_word w.Shr))
    (leaves_made (op_at op.Power) (leaves_symbol s.Power)))

pub leaves_relop : Leaves read_relop
unfolding read_relop
leaves_relop =
    leaves_choice (the_symbol s.Equal) (leaves_made (relop_at rel_op.Equal) (leaves_symbol s.Equal)) (
    leaves_choice (the_symbol s.NotEqual) (leaves_made (relop_at rel_op.NotEqual) (leaves_symbol s.NotEqual)) (
    leaves_choice (the_symbol s.Less) (leaves_made (relop_at rel_op.Less) (leaves_symbol s.Less)) (
    leaves_choice (the_symbol s.LessEqual) (leaves_made (relop_at rel_op.LessEqual) (leaves_symbol s.LessEqual)) (
    leaves_choice (the_symbol s.Greater) (leaves_made (relop_at rel_op.Greater) (leaves_symbol s.Greater))
    (leaves_made (relop_at rel_op.GreaterEqual) (leaves_symbol s.GreaterEqual))))))

pub leaves_goto : Leaves read_goto
unfolding read_goto
leaves_goto = leaves_choice (the_word w.Goto) (leaves_made goto_of (leaves_both (leaves_word w.Goto) leaves_name)) (leaves_made goto_of (leaves_both (leaves_word w.Go) (leaves_right (leaves_word w.To) leaves_name)))

-- what nests

-- the readers r leave no more tokens than there were
pub record LeavesLevels (r : Readers) : Type 0 where
  pub phrase : Leaves r.phrase
  pub negation : Leaves r.negation
  pub absolute : Leaves r.absolute

module _ (r : Readers) (ok : LeavesLevels r) where
  pub leaves_perhaps : Leaves (read_perhaps r)
  unfolding read_perhaps
  leaves_perhaps = leaves_choice first_phrase ok.phrase (leaves_empty empty_at)

  pub leaves_bound : Leaves (read_bound r)
  unfolding read_bound
  leaves_bound = leaves_made bound_of (leaves_both ok.phrase (leaves_both (leaves_symbol s.Bounds) ok.phrase))

  pub leaves_procedure : Leaves (read_procedure r)
  unfolding read_procedure
  leaves_procedure = leaves_made procedure_of (leaves_both (leaves_word w.Procedure) (leaves_both leaves_name (leaves_both (leaves_left leaves_formals (leaves_symbol s.Semicolon)) leaves_perhaps)))

  pub leaves_decl_end : Leaves (read_decl_end r)
  unfolding read_decl_end
  leaves_decl_end =
      leaves_choice (the_word w.Array) (leaves_made array_decl (leaves_right (leaves_word w.Array) (leaves_both leaves_names (leaves_parens (leaves_separated s.Comma leaves_bound))))) (
      leaves_choice (the_word w.Procedure) (leaves_made typed leaves_procedure)
      (leaves_made simple_decl leaves_names))

  pub leaves_decl : Leaves (read_decl r)
  unfolding read_decl
  leaves_decl = leaves_choice (the_word w.Procedure) (leaves_made untyped leaves_procedure) (leaves_choice (the_word w.Record) leaves_class (leaves_applied leaves_type leaves_decl_end))

  pub leaves_item : Leaves (read_item r)
  unfolding read_item
  leaves_item = leaves_made item_of (leaves_labelled label_taken leaves_perhaps)

  pub leaves_block : Leaves (read_block r)
  unfolding read_block
  leaves_block = leaves_made block_of (leaves_both (leaves_word w.Begin) (leaves_both (leaves_many first_decl (leaves_left leaves_decl (leaves_symbol s.Semicolon))) (leaves_left (leaves_separated s.Semicolon leaves_item) (leaves_word w.End))))

  pub leaves_actual : Leaves (read_actual r)
  unfolding read_actual
  leaves_actual = leaves_choice (the_symbol s.Star) (leaves_made Star (leaves_symbol s.Star)) (leaves_made Given ok.phrase)

  pub leaves_list : Leaves (read_list r)
  unfolding read_list
  leaves_list =
      let actuals = leaves_later s.Comma leaves_actual in
      leaves_choice (the_symbol s.Star) (leaves_made actuals_from_star (leaves_both (leaves_symbol s.Star) actuals))
      (leaves_applied ok.phrase (leaves_choice (the_symbol s.Bar) (leaves_made part_of (leaves_right (leaves_symbol s.Bar) leaves_number)) (leaves_made actuals_from actuals)))

  pub leaves_listing : Leaves (read_listing r)
  unfolding read_listing
  leaves_listing = leaves_applied (leaves_symbol s.Open) (leaves_left leaves_list (leaves_symbol s.Close))

  pub leaves_prim : Leaves (read_prim r)
  unfolding read_prim
  leaves_prim =
      leaves_choice (the_word w.Abs) ok.absolute (
      leaves_choice (the_symbol s.Open) (leaves_parens ok.phrase) (
      leaves_choice (the_word w.Begin) leaves_block (
      leaves_choice a_name (leaves_made named_of (leaves_both leaves_name (leaves_many (the_symbol s.Open) leaves_listing)))
      leaves_literal)))

  pub leaves_shift : Leaves (read_shift r)
  unfolding read_shift
  leaves_shift = leaves_chain shifting leaves_prim leaves_shifting leaves_prim

  pub leaves_term : Leaves (read_term r)
  unfolding read_term
  leaves_term = leaves_chain multiplying leaves_shift leaves_multiplying leaves_shift

  pub leaves_signed : Leaves (read_signed r)
  unfolding read_signed
  leaves_signed =
      leaves_choice (the_symbol s.Plus) (leaves_made (signed_of false) (leaves_both (leaves_symbol s.Plus) leaves_term)) (
      leaves_choice (the_symbol s.Minus) (leaves_made (signed_of true) (leaves_both (leaves_symbol s.Minus) leaves_term))
      leaves_term)

  pub leaves_sum : Leaves (read_sum r)
  unfolding read_sum
  leaves_sum = leaves_chain adding leaves_signed leaves_adding leaves_term

  pub leaves_relation_end : Leaves (read_relation_end r)
  unfolding read_relation_end
  leaves_relation_end =
      leaves_choice (the_word w.Is) (leaves_made class_test (leaves_both (leaves_word w.Is) leaves_name)) (
      leaves_choice comparing (leaves_made relation_of (leaves_both leaves_relop leaves_sum))
      (leaves_nothing same))

  pub leaves_rel : Leaves (read_rel r)
  unfolding read_rel
  leaves_rel = leaves_applied leaves_sum leaves_relation_end

  pub leaves_neg : Leaves (read_neg r)
  unfolding read_neg
  leaves_neg = leaves_choice (the_symbol s.Not) ok.negation leaves_rel

  pub leaves_conj : Leaves (read_conj r)
  unfolding read_conj
  leaves_conj = leaves_chain (the_word w.And) leaves_neg leaves_and leaves_neg

  pub leaves_disj : Leaves (read_disj r)
  unfolding read_disj
  leaves_disj = leaves_chain (the_word w.Or) leaves_conj leaves_or leaves_conj

  pub leaves_assign_end : Leaves (read_assign_end r)
  unfolding read_assign_end
  leaves_assign_end = leaves_choice (the_symbol s.Becomes) (leaves_made assign_of (leaves_both (leaves_symbol s.Becomes) ok.phrase)) (leaves_nothing same)

  pub leaves_assignment : Leaves (read_assignment r)
  unfolding read_assignment
  leaves_assignment = leaves_applied leaves_disj leaves_assign_end

  pub leaves_if : Leaves (read_if r)
  unfolding read_if
  leaves_if = leaves_made if_of (leaves_both (leaves_word w.If) (leaves_both (leaves_left ok.phrase (leaves_word w.Then)) (leaves_both leaves_perhaps (leaves_else (leaves_right (leaves_word w.Else) leaves_perhaps)))))

  pub leaves_case_end : Leaves (read_case_end r)
  unfolding read_case_end
  leaves_case_end =
      leaves_choice (the_symbol s.Open) (leaves_made case_value (leaves_parens (leaves_separated s.Comma ok.phrase)))
      (leaves_made case_do (leaves_right (leaves_word w.Begin) (leaves_left (leaves_separated s.Semicolon leaves_perhaps) (leaves_word w.End))))

  pub leaves_case : Leaves (read_case r)
  unfolding read_case
  leaves_case = leaves_made case_of (leaves_both (leaves_word w.Case) (leaves_applied (leaves_left ok.phrase (leaves_word w.Of)) leaves_case_end))

  pub leaves_for_end : Leaves (read_for_end r)
  unfolding read_for_end
  leaves_for_end =
      leaves_choice listing_values (leaves_made for_list (leaves_left (leaves_later s.Comma ok.phrase) (leaves_word w.Do)))
      (leaves_made for_step (leaves_both (leaves_optional (the_word w.Step) (leaves_right (leaves_word w.Step) ok.phrase)) (leaves_right (leaves_word w.Until) (leaves_left ok.phrase (leaves_word w.Do)))))

  pub leaves_for : Leaves (read_for r)
  unfolding read_for
  leaves_for = leaves_made for_of (leaves_both (leaves_word w.For) (leaves_both (leaves_left leaves_name (leaves_symbol s.Becomes)) (leaves_both ok.phrase (leaves_both leaves_for_end leaves_perhaps))))

  pub leaves_while : Leaves (read_while r)
  unfolding read_while
  leaves_while = leaves_made while_of (leaves_both (leaves_word w.While) (leaves_both (leaves_left ok.phrase (leaves_word w.Do)) leaves_perhaps))

  pub leaves_assert : Leaves (read_assert r)
  unfolding read_assert
  leaves_assert = leaves_made assert_of (leaves_both (leaves_word w.Assert) ok.phrase)

  pub leaves_phrase : Leaves (read_phrase r)
  unfolding read_phrase
  leaves_phrase =
      leaves_choice (the_word w.If) leaves_if (
      leaves_choice (the_word w.Case) leaves_case (
      leaves_choice (the_word w.For) leaves_for (
      leaves_choice (the_word w.While) leaves_while (
      leaves_choice first_goto leaves_goto (
      leaves_choice (the_word w.Assert) leaves_assert
      leaves_assignment)))))

  pub leaves_negation : Leaves (read_negation r)
  unfolding read_negation
  leaves_negation = leaves_made negated_of (leaves_both (leaves_symbol s.Not) leaves_neg)

  pub leaves_absolute : Leaves (read_absolute r)
  unfolding read_absolute
  leaves_absolute = leaves_made absolute_of (leaves_both (leaves_word w.Abs) leaves_prim)

-- where so many levels of nesting are left
pub leaves_levels : (n room : ℕ) → LeavesLevels (levels.marked n room)
unfolding levels.marked
leaves_levels zero room = record { phrase = leaves_deep Phrase first_phrase; negation = leaves_deep Phrase (the_symbol s.Not); absolute = leaves_deep Phrase (the_word w.Abs) }
leaves_levels (suc n) zero = record {
  phrase = leaves_beyond (leaves_phrase _ (leaves_levels n zero));
  negation = leaves_beyond (leaves_negation _ (leaves_levels n zero));
  absolute = leaves_beyond (leaves_absolute _ (leaves_levels n zero));
}
leaves_levels (suc n) (suc room) = record {
  phrase = leaves_phrase _ (leaves_levels n room);
  negation = leaves_negation _ (leaves_levels n room);
  absolute = leaves_absolute _ (leaves_levels n room);
}

pub leaves_readers : (n : ℕ) → LeavesLevels (readers n)
unfolding readers
leaves_readers zero = record { phrase = leaves_deep Phrase first_phrase; negation = leaves_deep Phrase (the_symbol s.Not); absolute = leaves_deep Phrase (the_word w.Abs) }
leaves_readers (suc n) = record {
  phrase = leaves_phrase _ (leaves_readers n);
  negation = leaves_negation _ (leaves_readers n);
  absolute = leaves_absolute _ (leaves_readers n);
}
