-- A program is a block, also as it lies in memory.
use Rattle.std.proofs.Common.{◌≡◌, List, Bool, true, false, Option, None, refl, sym, ap, ◌∙◌}
use Rattle.std.specs.declared.boxed.Box.{Box}
use Rattle.std.specs.declared.alloc.Global.{Global}
use Rattle.value_ops.specs.declared.places.Place.{Place}
use Rattle.algolw_tree.specs.declared.tokens.Token.{Token}
use Rattle.algolw_tree.specs.declared.phrases.Kind as code
use Rattle.algolw_tree.specs.declared.phrases.Kind.{Kind, out-Kind, roll-Kind}
use Rattle.algolw_tree.specs.declared.phrases.Block.{Block}
use Rattle.algolw_tree.specs.declared.phrases.Listed.{Listed' as listed}
use Rattle.algolw_tree.specs.declared.phrases.Chain.{Chain' as chain}
use Rattle.algolw_tree.specs.declared.phrases.Conditional.{Conditional'}
use Rattle.algolw_tree.specs.declared.phrases.CaseValue.{CaseValue' as case_value}
use Rattle.algolw_tree.specs.declared.phrases.ForStep.{ForStep' as for_step}
use Rattle.algolw_tree.specs.declared.phrases.ForList.{ForList' as for_list}
use Rattle.algolw_tree.specs.Tree as Tree
use Rattle.algolw_tree.specs.Tree.{Phrase, At}
use Rattle.algolw_tree.specs.Parts.{Beyond, Part, made, both}
use Rattle.algolw_tree.specs.Grammar.{◌⊲◌, Levels, block, levels, program}
use Rattle.algolw_tree.specs.Programs.{IsProgram, Spells}
use Rattle.algolw_tree.specs.View.{kind_tree}

abbrev is_block_kind : Tree.Kind → Bool
is_block_kind (Tree.Block decls items) = true
is_block_kind k = false

abbrev is_block : Phrase → Bool
is_block (At p f k) = is_block_kind k

-- what tokens spell as a program is a block
made_block : (l : Levels) (c : Option Token) (u : List Token) (x : Phrase) (b : Beyond) → (block l).spells c u x b → is_block x ≡ true
unfolding block made
made_block l c u x b (parts, spelled, is) = ap is_block is

in_front : {A : Type 0} (g : Part Phrase) (h : Part A) → ((c : Option Token) (u : List Token) (x : Phrase) (b : Beyond) → g.spells c u x b → is_block x ≡ true)
    → (c : Option Token) (u : List Token) (x : Phrase) (b : Beyond) → (g ⊲ h).spells c u x b → is_block x ≡ true
unfolding made both
in_front g h all c u x b (y, (v, w, d, e, cut, beyond, front, behind), is) = ap is_block is ∙ all _ v y.0 d front

spelled_block : (tokens : List Token) (x : Phrase) (b : Beyond) → Spells tokens x b → is_block x ≡ true
unfolding program
spelled_block tokens x b (n, spelled) = in_front _ _ (in_front _ _ (made_block (levels n 99))) None tokens x b spelled

-- and what is no block in memory is none
other_kind : (k : Kind) → ((b : Box Block Global) → k ≡ code.Block b → ⊥) → is_block_kind (kind_tree k) ≡ false
unfolding out-Kind roll-Kind denote.Hole.Carrier.out denote.Hole.Carrier.roll
other_kind (code.Block' q shape decls shape2 items) other = absurd (other _ (sym (code.roll-out-Kind (code.Block' q shape decls shape2 items))))
other_kind (code.Listed' q (listed n shape lists)) other = refl
other_kind (code.Chain' q (chain place first kind shape links)) other = refl
other_kind (code.IfThen' q (Conditional' place first kind place2 first2 kind2 otherwise)) other = refl
other_kind (code.CaseValue' q (case_value place first kind shape values)) other = refl
other_kind (code.ForStep' q (for_step n place first kind step place2 first2 kind2 place3 first3 kind3)) other = refl
other_kind (code.ForList' q (for_list n shape values place first kind)) other = refl
other_kind k other = refl

pub never_other : (tokens : List Token) (p f : Place) (k : Kind) → ((b : Box Block Global) → k ≡ code.Block b → ⊥) → IsProgram tokens (At p f (kind_tree k)) → ⊥
never_other tokens p f k other is = absurd (cc (spelled_block tokens _ None is.spelled, other_kind k other))
