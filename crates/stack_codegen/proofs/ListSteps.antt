-- The loop over the phrases of a list.
use Rattle.std.proofs.Common.{◌≡◌, ℕ, ◌+◌, ◌<◌, max, nat_cmp, List, length, sym, ◌∙◌, subst, arith}
use Rattle.std.specs.Ordering.{ord_max}
use Rattle.std.specs.Prelude.{slice_index_or}
use Rattle.std.proofs.lemmas.Bool.Decides.{nat_tests}
use Rattle.value_ops.specs.declared.places.Place.{Place}
use Rattle.algolw_tree.specs.declared.programs.Node.{Node}
use Rattle.algolw_tree.specs.declared.programs.TypedActual.{TypedActual, Star}
use Rattle.stack_code.specs.CodeView.{KindFits}
use Rattle.stack_code.specs.declared.instructions.Mode.{Mode}
use Rattle.symbol_table.specs.declared.here.Here.{Here}
use Rattle.symbol_table.specs.Heres.{variable_type}
use Rattle.code_emitter.specs.declared.emitter.Emitter.{Emitter}
use Rattle.code_emitter.specs.Parts.{CodesPhrase, phrase_in, scene}
use Rattle.stack_codegen.specs.declared.lists.ListUse.{ListUse}
use Rattle.stack_codegen.specs.Codable.{IsCodable, node_in}
use Rattle.stack_codegen.specs.Listed.{behind, wanted}
use Rattle.stack_codegen.proofs.ListParts.{ListedLeft, as_actual, listed_more, listed_star}
use Rattle.stack_codegen.proofs.Ready.{ready_after}
use Rattle.stack_codegen.proofs.Typing.{variable_fits}

pub gives_fit : (e : Emitter) (x : Node) → IsCodable e (node_in x) → KindFits e.code.given (variable_type x.gives)
gives_fit e x r = variable_fits (scene e) r.fits.scene x.gives r.knows.0

-- the same behind the phrase
pub gives_fit_behind : {a b : Emitter} {m : ℕ} (here : Here) (v : Mode) (x : Node) → CodesPhrase a b here v (phrase_in (scene a) (node_in x (scene a))) m → IsCodable a (node_in x) → KindFits b.code.given (variable_type x.gives)
gives_fit_behind {a} {b} here v x c r = gives_fit b x (ready_after c.stays r)

pub listed_next : {old now b after : Emitter} {m n : ℕ} (here : Here) (u : ListUse) (p : ℕ) (actuals : List TypedActual) (i : ℕ) (a : TypedActual) (x : Node) (v : Mode) (k : ℕ) → a ≡ as_actual x → i < length actuals → a ≡ slice_index_or actuals i a → IsCodable now (node_in x) → v ≡ wanted u → k ≡ max m n → ListedLeft old now here u p actuals i m → CodesPhrase now b here v (phrase_in (scene now) (node_in x (scene now))) n → after ≡ behind b here u p x.gives → ListedLeft old after here u (p + 1) actuals (i + 1) k
listed_next {old} {now} {b} {after} {m} {n} here u p actuals i a x v k is l there r mode most left c e =
    subst (λ q. ListedLeft old after here u (p + 1) actuals (i + 1) q) (sym most)
    (listed_more here u p actuals i x l (subst (λ y. y ≡ slice_index_or actuals i y) is there) (gives_fit now x r) r.fits.scene.fields left (subst (λ w. CodesPhrase now b here w (phrase_in (scene now) (node_in x (scene now))) n) mode c) e)

pub listed_past : {old now : Emitter} {m : ℕ} (here : Here) (u : ListUse) (p : ℕ) (actuals : List TypedActual) (i : ℕ) (a : TypedActual) (q : Place) → a ≡ Star q → i < length actuals → a ≡ slice_index_or actuals i a → ListedLeft old now here u p actuals i m → ListedLeft old now here u p actuals (i + 1) m
listed_past here u p actuals i a q is l there left = listed_star here u p actuals i q l (subst (λ y. y ≡ slice_index_or actuals i y) is there) left

-- the larger of two
larger_is : (a b : ℕ) → ord_max nat_cmp a b ≡ max a b
larger_is a b = grind (arith, nat_tests)

pub larger_was : (a b k : ℕ) → k ≡ ord_max nat_cmp a b → k ≡ max a b
larger_was a b k q = q ∙ larger_is a b
