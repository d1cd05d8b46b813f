-- Where the reading of what a FOR does stops, that of the FOR does.
use Rattle.std.proofs.Common.{◌≡◌, true, List, [], ◌∷◌, None, ◌∙◌, ap}
use Rattle.algolw_tree.specs.declared.tokens.Token.{Token}
use Rattle.algolw_tree.specs.declared.tokens.Word.TheVariants.{For, Do}
use Rattle.algolw_tree.specs.declared.tokens.Symbol.TheVariants.{Comma, Becomes}
use Rattle.algolw_tree.specs.Tree.{Phrase, Placed}
use Rattle.algolw_tree.specs.Grammar.{left, for_list, for_of}
use Rattle.value_ops.specs.declared.places.Place.{Place}
use Rattle.algolw_grammar.specs.Kinds.{opens}
use Rattle.algolw_grammar.specs.Readers.{Got, Reader, mapped, picked, gathered, read_choice, read_left}
use Rattle.algolw_grammar.specs.Reading.{Readers, read_word, read_symbol, read_name, read_later, read_perhaps, read_for, read_for_end, listing_values}
use Rattle.token_reader.specs.declared.stop.Stop.{Stop}
use Rattle.token_reader.specs.Gives.{Fails}
use Rattle.token_reader.proofs.Turns.{both_got, both_fails, mapped_fails, gathered_got}

-- the first of two readings
first_read : {A : Type 0} (s : _) (p q : Reader A) (w : List Token) → opens s w ≡ true → read_choice s p q w ≡ p w
first_read s p q w o = ap (λ b. picked b p q w) o

-- the values and what ends them
values_read : (r : Readers) (w v x : List Token) (zs : List Phrase) (d : Place) → opens listing_values w ≡ true → read_later Comma r.phrase w ≡ Got zs None v → read_word Do v ≡ Got d None x → read_for_end r w ≡ Got (for_list zs) None x
unfolding read_for_end
values_read r w v x zs d o h k = first_read listing_values _ _ w o ∙ ap (mapped for_list) (ap (mapped left) (both_got (read_later Comma r.phrase) (read_word Do) w v x zs d h k))

-- behind values, what is done isn't read
pub body_fails : (r : Readers) (e : Stop) (w w1 w2 w3 w4 w5 w6 : List Token) (p : Place) (n : Placed) (b : Place) (start : Phrase) (values : List Phrase) (d : Place)
    → read_word For w ≡ Got p None w1 → read_name w1 ≡ Got n None w2 → read_symbol Becomes w2 ≡ Got b None w3 → r.phrase w3 ≡ Got start None w4
    → opens listing_values w4 ≡ true → gathered (start ∷ []) (read_later Comma r.phrase w4) ≡ Got values None w5 → read_word Do w5 ≡ Got d None w6 → Fails e (read_perhaps r w6) → Fails e (read_for r w)
unfolding read_for
body_fails r e w w1 w2 w3 w4 w5 w6 p n b start values d h1 h2 h3 h4 o g h f = go (gathered_got start values w5 (read_later Comma r.phrase w4) g)
  where
    go : (zs : List Phrase) × (values ≡ start ∷ zs) × (read_later Comma r.phrase w4 ≡ Got zs None w5) → Fails e (read_for r w)
    go (zs, same, k) =
        let name : read_left read_name (read_symbol Becomes) w1 ≡ Got n None w3 = ap (mapped left) (both_got read_name (read_symbol Becomes) w1 w2 w3 n b h2 h3) in
        mapped_fails for_of e _ (both_fails (read_word For) _ e w w1 p h1 (both_fails (read_left read_name (read_symbol Becomes)) _ e w1 w3 n name (both_fails r.phrase _ e w3 w4 start h4 (both_fails (read_for_end r) (read_perhaps r) e w4 w6 (for_list zs) (values_read r w4 w5 w6 zs d o k h) f))))
