-- That the readers read what in the language has no levels: types, formals, literals and operators.
use Rattle.std.proofs.Common.{◌≡◌, Bool, true, false, ℕ, List, [], ◌∷◌, ◌++◌, refl, sym, Some, None}
use Rattle.std.specs.Prelude.{◌&&◌}
use Rattle.algolw_tree.specs.declared.tokens.Word.TheVariants as w
use Rattle.algolw_tree.specs.declared.tokens.Symbol.{Symbol}
use Rattle.algolw_tree.specs.declared.tokens.Symbol.TheVariants as s
use Rattle.value_ops.specs.declared.places.Place.{Place}
use Rattle.algolw_tree.specs.declared.phrases.Op.{Op}
use Rattle.algolw_tree.specs.declared.phrases.Op.TheVariants as op
use Rattle.algolw_tree.specs.declared.phrases.RelOp.TheVariants as rel_op
use Rattle.algolw_tree.specs.declared.phrases.Mode.TheVariants as mode
use Rattle.algolw_tree.specs.Tree.{Integer, Logical, Bits, Str, Reference, Phrase}
use Rattle.algolw_tree.specs.Parts.{Part}
use Rattle.algolw_tree.specs.Grammar.{parens, optional, onto, later, separated, names, to, type_spec, group, class_of, record_class, passing, array_formal, simple_formal, procedure_formal, formal_end, formal, formals, number_of, bits_of, string_of, truth_of, null_of, literal, op_at, or_op, and_op, adding_op, multiplying_op, shifting_op, link_of, links, chain_of, chain, relop_at, relop, goto_of, goto_phrase}
use Rattle.algolw_grammar.specs.Kinds.{the_word, the_symbol, a_name}
use Rattle.algolw_grammar.specs.Readers.{Reader}
use Rattle.algolw_grammar.specs.Reading.{read_parens, read_optional, read_later, read_separated, read_names, read_type, read_group, read_class, read_passing, read_formal_end, read_formal, read_formals, first_literal, first_type, read_literal, read_or, read_and, read_adding, read_multiplying, read_shifting, adding, multiplying, shifting, read_links, read_chain, read_relop, comparing, read_goto, first_goto}
use Rattle.algolw_grammar.proofs.Sets.{apart, when}
use Rattle.algolw_grammar.proofs.Good.{Good, append_nil}
use Rattle.algolw_grammar.proofs.Both.{nothing_good, both_good, made_good, left_good, right_good, applied_good}
use Rattle.algolw_grammar.proofs.Choice.{choice_good, wide_good}
use Rattle.algolw_grammar.proofs.Many.{many_good}
use Rattle.algolw_grammar.proofs.Terminals.{word_good, symbol_good, name_good, number_good, bits_good, string_good}

apart_nil : (xs : List ℕ) → apart xs [] ≡ true
apart_nil [] = refl
apart_nil (x ∷ xs) = apart_nil xs

front : {A : Type 0} {g : Part A} {p : Reader A} {first last : List ℕ} {null : Bool} → Good g p (first ++ []) last null → Good g p first last null
front {first} ok = rw (sym (append_nil first)) ok

-- parentheses, what may be missing, and lists

pub parens_good : {A : Type 0} {g : Part A} {p : Reader A} {first last : List ℕ} → Good g p first last false → apart (the_symbol s.Close) last ≡ true → Good (parens g) (read_parens p) (the_symbol s.Open) [] false
unfolding parens
parens_good {first} ok h = right_good (symbol_good s.Open) (left_good ok (symbol_good s.Close) h) (apart_nil (first ++ []))

pub optional_good : {A : Type 0} {g : Part A} {p : Reader A} {first last : List ℕ} → Good g p first last false → Good (optional g) (read_optional first p) first (last ++ first) true
unfolding optional
optional_good ok = front (choice_good (made_good Some ok) (nothing_good None) refl)

pub later_good : {A : Type 0} {g : Part A} {p : Reader A} {first last : List ℕ} {null : Bool} (separator : Symbol) → Good g p first last null → apart (the_symbol separator) (last ++ when null []) ≡ true → Good (later separator g) (read_later separator p) (the_symbol separator) ((last ++ when null []) ++ the_symbol separator) true
unfolding later
later_good {first} separator ok h = many_good (right_good (symbol_good separator) ok (apart_nil first)) h

pub separated_good : {A : Type 0} {g : Part A} {p : Reader A} {first last : List ℕ} {null : Bool} (separator : Symbol) → Good g p first last null → apart (the_symbol separator) (last ++ when null []) ≡ true → apart (the_symbol separator) last ≡ true → Good (separated separator g) (read_separated separator p) (first ++ when null (the_symbol separator)) (((last ++ when null []) ++ the_symbol separator) ++ last) (null && true)
unfolding separated
separated_good separator ok h k = made_good onto (both_good ok (later_good separator ok h) k)

pub links_good : {operator : Part (Op × Place)} {q : Reader (Op × Place)} {x : Part Phrase} {p : Reader Phrase} {ops first last : List ℕ} → Good operator q ops [] false → Good x p first last false → apart ops (last ++ []) ≡ true → Good (links operator x) (read_links ops q p) ops ((last ++ []) ++ ops) true
unfolding links
links_good {first} okq ok h = many_good (front (made_good link_of (both_good okq ok (apart_nil first)))) h

pub chain_good : {begin x : Part Phrase} {pb p : Reader Phrase} {operator : Part (Op × Place)} {q : Reader (Op × Place)} {fb lb ops first last : List ℕ} → Good begin pb fb lb false → Good operator q ops [] false → Good x p first last false → apart ops (last ++ []) ≡ true → apart ops lb ≡ true → Good (chain begin operator x) (read_chain ops pb q p) fb (((last ++ []) ++ ops) ++ lb) false
unfolding chain
chain_good okb okq ok h k = front (made_good chain_of (both_good okb (links_good okq ok h) k))

pub names_good : Good names read_names a_name (the_symbol s.Comma) false
unfolding names read_names
names_good = separated_good s.Comma name_good refl refl

-- types, classes and formals

pub type_good : Good type_spec read_type first_type (the_symbol s.Open) false
unfolding type_spec read_type
type_good =
    let length = optional_good (parens_good number_good refl) in
    let bits = made_good Bits (right_good (word_good w.Bits) length refl) in
    let str = made_good Str (right_good (word_good w.String) length refl) in
    let reference = made_good Reference (right_good (word_good w.Reference) (parens_good names_good refl) refl) in
    let integer = made_good (to Integer) (word_good w.Integer) in
    let logical = made_good (to Logical) (word_good w.Logical) in
    wide_good (choice_good integer (choice_good logical (choice_good bits (choice_good str reference refl) refl) refl) refl) _ _ refl refl

pub group_good : Good group read_group first_type (the_symbol s.Comma) false
unfolding group read_group
group_good = both_good type_good names_good refl

pub class_good : Good record_class read_class (the_word w.Record) [] false
unfolding record_class read_class
class_good =
    let groups = parens_good (separated_good s.Semicolon group_good refl refl) refl in
    made_good class_of (right_good (word_good w.Record) (both_good name_good groups refl) refl)

pub passing_good : Good passing read_passing (the_word w.Value ++ the_word w.Result ++ the_word w.Procedure) (the_word w.Value ++ the_word w.Result ++ the_word w.Procedure) true
unfolding passing read_passing
passing_good =
    let result = choice_good (made_good (to mode.ValueResult) (word_good w.Result)) (nothing_good mode.Value) refl in
    let value = right_good (word_good w.Value) result refl in
    let procedure = choice_good (made_good (to mode.Procedure) (word_good w.Procedure)) (nothing_good mode.ByName) refl in
    wide_good (choice_good value (choice_good (made_good (to mode.Result) (word_good w.Result)) procedure refl) refl) _ _ refl refl

pub formal_end_good : Good formal_end read_formal_end (the_word w.Array ++ the_word w.Value ++ the_word w.Result ++ the_word w.Procedure ++ a_name) (the_symbol s.Comma) false
unfolding formal_end read_formal_end
formal_end_good =
    let stars = parens_good (separated_good s.Comma (symbol_good s.Star) refl refl) refl in
    let array = made_good array_formal (right_good (word_good w.Array) (both_good names_good stars refl) refl) in
    let simple = made_good simple_formal (both_good passing_good names_good refl) in
    wide_good (choice_good array simple refl) _ _ refl refl

pub formal_good : Good formal read_formal (the_word w.Procedure ++ first_type) (the_symbol s.Comma) false
unfolding formal read_formal
formal_good =
    let procedure = made_good procedure_formal (right_good (word_good w.Procedure) names_good refl) in
    wide_good (choice_good procedure (applied_good type_good formal_end_good refl) refl) _ _ refl refl

pub formals_good : Good formals read_formals (the_symbol s.Open) (the_symbol s.Open) true
unfolding formals read_formals
formals_good = wide_good (choice_good (parens_good (separated_good s.Semicolon formal_good refl refl) refl) (nothing_good []) refl) _ _ refl refl

-- literals and operators

pub literal_good : Good literal read_literal first_literal [] false
unfolding literal read_literal
literal_good =
    let null = made_good null_of (word_good w.Null) in
    let untrue = made_good (truth_of false) (word_good w.False) in
    let truth = made_good (truth_of true) (word_good w.True) in
    let string = made_good string_of string_good in
    let bits = made_good bits_of bits_good in
    wide_good (choice_good (made_good number_of number_good) (choice_good bits (choice_good string (choice_good truth (choice_good untrue null refl) refl) refl) refl) refl) _ _ refl refl

pub or_good : Good or_op read_or (the_word w.Or) [] false
unfolding or_op read_or
or_good = made_good (op_at op.Or) (word_good w.Or)

pub and_good : Good and_op read_and (the_word w.And) [] false
unfolding and_op read_and
and_good = made_good (op_at op.And) (word_good w.And)

pub adding_good : Good adding_op read_adding adding [] false
unfolding adding_op read_adding
adding_good = choice_good (made_good (op_at op.Plus) (symbol_good s.Plus)) (made_good (op_at op.Minus) (symbol_good s.Minus)) refl

pub multiplying_good : Good multiplying_op read_multiplying multiplying [] false
unfolding multiplying_op read_multiplying
multiplying_good =
    let rem = made_good (op_at op.Rem) (word_good w.Rem) in
    let div = made_good (op_at op.Div) (word_good w.Div) in
    let slash = made_good (op_at op.Slash) (symbol_good s.Slash) in
    choice_good (made_good (op_at op.Times) (symbol_good s.Star)) (choice_good slash (choice_good div rem refl) refl) refl

pub shifting_good : Good shifting_op read_shifting shifting [] false
unfolding shifting_op read_shifting
shifting_good =
    let power = made_good (op_at op.Power) (symbol_good s.Power) in
    let shr = made_good (op_at op.Shr) (word_good w.Shr) in
    choice_good (made_good (op_at op.Shl) (word_good w.Shl)) (choice_good shr power refl) refl

pub relop_good : Good relop read_relop comparing [] false
unfolding relop read_relop
relop_good =
    let greater_equal = made_good (relop_at rel_op.GreaterEqual) (symbol_good s.GreaterEqual) in
    let greater = made_good (relop_at rel_op.Greater) (symbol_good s.Greater) in
    let less_equal = made_good (relop_at rel_op.LessEqual) (symbol_good s.LessEqual) in
    let less = made_good (relop_at rel_op.Less) (symbol_good s.Less) in
    let not_equal = made_good (relop_at rel_op.NotEqual) (symbol_good s.NotEqual) in
    let equal = made_good (relop_at rel_op.Equal) (symbol_good s.Equal) in
    choice_good equal (choice_good not_equal (choice_good less (choice_good less_equal (choice_good greater greater_equal refl) refl) refl) refl) refl

pub goto_good : Good goto_phrase read_goto first_goto [] false
unfolding goto_phrase read_goto
goto_good =
    let go = made_good goto_of (both_good (word_good w.Go) (right_good (word_good w.To) name_good refl) refl) in
    choice_good (made_good goto_of (both_good (word_good w.Goto) name_good refl)) go refl
