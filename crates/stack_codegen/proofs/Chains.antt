-- Operands with operators of one level between them.
use Rattle.std.proofs.Common.{◌≡◌, ℕ, ◌+◌, ◌<◌, ◌≤◌, ◌==◌, arith, max, Bool, true, List, [], ◌∷◌, drop, length, refl, sym, ap, ◌∙◌, subst}
use Rattle.std.specs.Prelude.{if◌then◌else◌, slice_index_or}
use Rattle.std.proofs.Math.Dec.{eqb-suc-zero}
use Rattle.std.proofs.lemmas.List.{drop_all}
use Rattle.value_ops.specs.declared.places.Place.{Place}
use Rattle.algolw_tree.specs.declared.phrases.Op.{Op}
use Rattle.algolw_tree.specs.declared.phrases.Op.TheVariants as op
use Rattle.algolw_tree.specs.declared.programs.TypedLink.{TypedLink}
use Rattle.algolw_typing.specs.Typed as typed
use Rattle.program_meaning.specs.Phrases.{Phrase}
use Rattle.program_meaning.specs.Translating as translating
use Rattle.program_meaning.specs.Translating.{chain_of, linked, phrase_of}
use Rattle.phrase_code.specs.Coding.{Context, code}
use Rattle.stack_code.specs.Instr as instr
use Rattle.stack_code.specs.CodeView.{mode_view}
use Rattle.stack_code.specs.declared.instructions.Mode.{Mode}
use Rattle.stack_code.specs.declared.instructions.Mode.TheVariants as mode
use Rattle.symbol_table.specs.declared.here.Here.{Here}
use Rattle.symbol_table.specs.Contexts.{Scene, coding_context, numbers_in, phrase_context}
use Rattle.symbol_table.specs.Parts.{links_in}
use Rattle.symbol_table.proofs.Declaring.{next_out}
use Rattle.code_emitter.specs.declared.emitter.Emitter.{Emitter}
use Rattle.code_emitter.specs.Parts.{CodesPhrase, next, phrase_in, place_in, scene}
use Rattle.code_emitter.proofs.Joining.{codes_as}
use Rattle.stack_codegen.specs.Codable.{node_in}
use Rattle.stack_codegen.specs.Operations.{Continues}

-- what is wanted of operands that are linked makes no difference
pub linked_any : (c : Context) (w : Place) (u v : instr.Mode) (k : ℕ) (logical : Bool) (o : Op) (a b : Phrase) → code c w u k (linked logical o a b) ≡ code c w v k (linked logical o a b)
linked_any c w u v k true op.And a b = refl
linked_any c w u v k true op.Or a b = refl
linked_any c w u v k logical o a b = refl

pub chain_any : (x : translating.Context) (c : Context) (w : Place) (u v : instr.Mode) (k : ℕ) (logical : Bool) (a : Phrase) (o : Op) (q : Place) (b : typed.Node) (rest : typed.Links) → code c w u k (chain_of x logical a (typed.link_and (typed.Linked o q b) rest)) ≡ code c w v k (chain_of x logical a (typed.link_and (typed.Linked o q b) rest))
chain_any x c w u v k logical a o q b typed.no_links = linked_any c w u v k logical o a (phrase_of x b)
chain_any x c w u v k logical a o q b (typed.link_and (typed.Linked p r d) rest) = chain_any x c w u v k logical (linked logical o a (phrase_of x b)) p r d rest

-- ---- link by link

-- an operand with links, as phrases have it
abbrev pub chained : Scene → Bool → Phrase → List TypedLink → Phrase
chained s logical a links = chain_of (phrase_context s) logical a (links_in (numbers_in s) links)

-- what is coded by now, with the links that are left, is the whole
pub record Chained (old now : Emitter) (here : Here) (wanted : Mode) (logical : Bool) (whole : Phrase) (left : List TypedLink) (m : ℕ) : Type 0 where
  pub phrase : Phrase
  pub codes : CodesPhrase old now here wanted phrase m
  pub same : chained (scene old) logical phrase left ≡ whole

pub chain_begun : {a b : Emitter} {m : ℕ} (here : Here) (wanted first : Mode) (logical : Bool) (x : Phrase) (links : List TypedLink) → first ≡ wanted → CodesPhrase a b here first x m → Chained a b here wanted logical (chained (scene a) logical x links) links m
chain_begun {a} {b} {m} here wanted first logical x links q part = record { phrase = x; codes = subst (λ u. CodesPhrase a b here u x m) q part; same = refl }

value_more : {a b c : Emitter} {m : ℕ} (n : ℕ) (here : Here) (logical : Bool) (whole : Phrase) (links : List TypedLink) (i : ℕ) (l : TypedLink) → i < length links → l ≡ slice_index_or links i l → Chained a b here mode.Value logical whole (drop i links) m → ((k : ℕ) → Continues b c here mode.Value (λ x. linked logical l.op x (phrase_in (scene b) (node_in l.right (scene b)))) k (max k n)) → Chained a c here mode.Value logical whole (drop (i + 1) links) (max m n)
value_more {a} {b} {c} {m} n here logical whole links i l there is k more =
    let right : Scene → Phrase = λ s. phrase_in s (node_in l.right s) in
    record {
      phrase = linked logical l.op k.phrase (right (scene a));
      codes = subst (λ (s : Scene). CodesPhrase a c here mode.Value (linked logical l.op k.phrase (right s)) (max m n)) k.codes.stays.scene (more m a k.phrase k.codes);
      same = sym (ap (chained (scene a) logical k.phrase) (next_out links i l there is)) ∙ k.same;
    }

pub chain_more : {a b c : Emitter} {m : ℕ} (n : ℕ) (here : Here) (wanted : Mode) (logical : Bool) (whole : Phrase) (links : List TypedLink) (i : ℕ) (l : TypedLink) → wanted ≡ mode.Value → i < length links → l ≡ slice_index_or links i l → Chained a b here wanted logical whole (drop i links) m → ((k : ℕ) → Continues b c here mode.Value (λ x. linked logical l.op x (phrase_in (scene b) (node_in l.right (scene b)))) k (max k n)) → Chained a c here wanted logical whole (drop (i + 1) links) (max m n)
chain_more {a} {b} {c} {m} n here wanted logical whole links i l w there is k more =
    subst (λ u. Chained a c here u logical whole (drop (i + 1) links) (max m n)) (sym w) (value_more n here logical whole links i l there is (subst (λ u. Chained a b here u logical whole (drop i links) m) w k) more)

-- where there are links, what is wanted of the whole makes no difference
chain_wanted : (s : Scene) (here : Here) (u v : Mode) (k : ℕ) (logical : Bool) (x : Phrase) (l : TypedLink) (ls : List TypedLink) (ts : List ℕ) → code (coding_context s ts here) (place_in s here) (mode_view u) k (chained s logical x (l ∷ ls)) ≡ code (coding_context s ts here) (place_in s here) (mode_view v) k (chained s logical x (l ∷ ls))
chain_wanted s here u v k logical x l ls ts = chain_any (phrase_context s) (coding_context s ts here) (place_in s here) (mode_view u) (mode_view v) k logical x l.op l.place (node_in l.right s) (links_in (numbers_in s) ls)

pub wanted_inside : (u : Mode) (links : List TypedLink) (i : ℕ) → i < length links → (if length links == 0 then u else mode.Value) ≡ mode.Value
wanted_inside u [] i l = absurd (omega (arith, l))
wanted_inside u (l ∷ ls) i less = ap (λ (b : Bool). if b then u else mode.Value) (eqb-suc-zero (length ls))

pub wanted_alone : (u : Mode) (links : List TypedLink) → links ≡ [] → (if length links == 0 then u else mode.Value) ≡ u
wanted_alone u links none = ap (λ (ls : List TypedLink). if length ls == 0 then u else mode.Value) none

pub chain_done : {a b : Emitter} {m : ℕ} (here : Here) (u wanted : Mode) (logical : Bool) (x : Phrase) (links : List TypedLink) (i : ℕ) → length links ≤ i → (links ≡ [] → wanted ≡ u) → Chained a b here wanted logical (chained (scene a) logical x links) (drop i links) m → CodesPhrase a b here u (chained (scene a) logical x links) m
chain_done {a} {b} {m} here u wanted logical x links i l w k = by links w all
  where
    all : CodesPhrase a b here wanted (chained (scene a) logical x links) m
    all = subst (λ p. CodesPhrase a b here wanted p m) (sym (ap (chained (scene a) logical k.phrase) (drop_all i links l)) ∙ k.same) k.codes

    by : (ls : List TypedLink) → (ls ≡ [] → wanted ≡ u) → CodesPhrase a b here wanted (chained (scene a) logical x ls) m → CodesPhrase a b here u (chained (scene a) logical x ls) m
    by [] v c = subst (λ t. CodesPhrase a b here t x m) (v refl) c
    by (y ∷ ls) v c = codes_as _ _ (λ ts h. chain_wanted (scene a) here wanted u (next a) logical x y ls ts) refl c
