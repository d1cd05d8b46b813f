-- What tokens spell as a program is a block at the first of them.
use Rattle.std.proofs.Common.{◌≡◌, List, [], ◌∷◌, ◌++◌, sym, ap, ◌∙◌}
use Rattle.value_ops.specs.declared.places.Place.{Place}
use Rattle.algolw_tree.specs.declared.tokens.Token.{Token}
use Rattle.algolw_tree.specs.declared.tokens.Word.TheVariants.{Begin}
use Rattle.algolw_tree.specs.Tree.{Phrase, At, Block, Decls, Items}
use Rattle.algolw_tree.specs.Parts.{Beyond, token, made, both}
use Rattle.algolw_tree.specs.Programs.{Spells}
use Rattle.algolw_tree.specs.Grammar as grammar
use Rattle.algolw_tree.specs.Grammar.{word, word_at, decls_of, items_of}

first_place : Place → List Token → Place
first_place p [] = p
first_place p (t ∷ ts) = t.place

pub record IsBlockAt (p : Place) (x : Phrase) : Type 0 where
  pub decls : Decls
  pub items : Items
  pub is : x ≡ At p p (Block decls items)

pub root : (t : Token) (ts : List Token) (x : Phrase) (b : Beyond) → Spells (t ∷ ts) x b → IsBlockAt t.place x
unfolding grammar.program grammar.block word both made token first_place
root t ts x b (n, (y, (v, w, d, e, cut, far, (z, (v', w', d', e', cut', far', (r, (u, u', d'', e'', cut'', far'', begin, rest), is_block), stop), is_left), end), is)) =
    let all : t ∷ ts ≡ word_at Begin r.0 ∷ ((u' ++ w') ++ w) = cut ∙ ap (λ q. q ++ w) (cut' ∙ ap (λ q. q ++ w') (cut'' ∙ ap (λ q. q ++ u') begin.0)) in
    let first : t.place ≡ r.0 = ap (first_place r.0) all in
    record {
      decls = decls_of r.1.0;
      items = items_of r.1.1;
      is = is ∙ is_left ∙ is_block ∙ ap (λ p. At p p (Block (decls_of r.1.0) (items_of r.1.1))) (sym first);
    }
