-- What a deck is, and its diagnostics, by what scanning and reading say of it.
use Rattle.std.proofs.Common.{◌≡◌, List, [], ◌∷◌, ℕ, Bool, true, false, cond, ◌&&◌, Option, Some, None, take, inl, inr, refl, subst, sym, ap, ◌∙◌}
use Rattle.value_ops.specs.declared.places.Place.{Place}
use Rattle.value_ops.specs.declared.places.Diagnostic.{Diagnostic}
use Rattle.algolw_tree.specs.declared.tokens.Token.{Token}
use Rattle.algolw_tree.specs.Tokens.{AreTokens, Gives, finish, skip, token, kept, is_name, is_end}
use Rattle.algolw_tree.specs.Tree.{Phrase}
use Rattle.algolw_tree.specs.Grammar.{finish_at}
use Rattle.algolw_tree.specs.Programs.{Answer, Program, Unexpected, TooDeep, IsAnswer, IsEnded}
use Rattle.algolw_scanner.specs.Decks.{Reading, AllTokens, FirstFault, scanned}
use Rattle.algolw_scanner.specs.Laws.{IsReading}
use Rattle.algolw_scanner.proofs.One.{one_list, no_list, stops_one}
use Rattle.algolw_scanner.proofs.Pieces.{scanned_is}
use Rattle.algolw_grammar.specs.Parsing.{parsed, diagnostic_of}
use Rattle.algolw_grammar.proofs.Verdict.{answered, one_answer}
use Rattle.algolw_typing.specs.Faults.{program_faults}
use Rattle.algolw_meaning.specs.DeckDiagnostics.{Deck, IsProgram, IsWrong, NothingFound, DecksAreRead, DiagnosticsOfDecks, HasDiagnostics, HasFault, HasProgram, IsFound, answer_deck, deck_diagnostics, deck_of, diagnostics_found, reading_deck}

-- ---- the last token of a deck is its end

pub ended_behind : (t : Token) (ts : List Token) → IsEnded ts → IsEnded (t ∷ ts)
ended_behind t ts (front, p, e) = (t ∷ front, p, ap (λ x. t ∷ x) e)

finish_kept : (p : Place) (e : Bool) → IsEnded (kept e (finish_at p ∷ []))
finish_kept p true = ([], p, refl)
finish_kept p false = ([], p, refl)

kept_ended : {p : Place} {rest : List ℕ} {all : List Token} → Gives p rest all → (e : Bool) → IsEnded (kept e all)
kept_ended (finish {p = p}) e = finish_kept p e
kept_ended (skip u w r g) e = kept_ended g e
kept_ended (token {p = p} {ts = ts} k u w r g) e = go (e && is_name k) (kept_ended g false) (kept_ended g (is_end k))
  where
    go : (d : Bool) → IsEnded (kept false ts) → IsEnded (kept (is_end k) ts) → IsEnded (cond d (kept false ts) (record { place = p; kind = k } ∷ kept (is_end k) ts))
    go true h i = h
    go false h i = ended_behind (record { place = p; kind = k }) (kept (is_end k) ts) i

pub deck_ended : (deck : List (List ℕ)) (tokens : List Token) → AreTokens deck tokens → IsEnded tokens
deck_ended deck tokens (all, g, e) = subst IsEnded (sym e) (kept_ended g false)

-- ---- what is found of a deck

answer_found : (deck : List (List ℕ)) (tokens : List Token) → AreTokens deck tokens → (a : Answer) → IsAnswer tokens a → IsFound deck (answer_deck (Some a))
answer_found deck tokens are (Program x) is = (tokens, are, is)
answer_found deck tokens are (Unexpected t rest) is = inr (tokens, Unexpected t rest, are, is, refl)
answer_found deck tokens are (TooDeep t rest) is = inr (tokens, TooDeep t rest, are, is, refl)

parsed_found : (deck : List (List ℕ)) (tokens : List Token) → AreTokens deck tokens → (a : Answer) × (parsed tokens ≡ Some a) × IsAnswer tokens a → IsFound deck (answer_deck (parsed tokens))
parsed_found deck tokens are (a, e, is) = subst (λ o. IsFound deck (answer_deck o)) (sym e) (answer_found deck tokens are a is)

reading_found : (deck : List (List ℕ)) (r : Reading) → IsReading deck r → IsFound deck (reading_deck r)
reading_found deck (FirstFault d) is = inl is
reading_found deck (AllTokens tokens) are = parsed_found deck tokens are (answered tokens (deck_ended deck tokens are))

pub deck_found : (deck : List (List ℕ)) → IsFound deck (deck_of deck)
unfolding deck_of
deck_found deck = reading_found deck (scanned deck) (scanned_is deck)

-- ---- nothing else is

-- of the tokens of a deck there is one thing to say
same_answer : (deck : List (List ℕ)) (v w : List Token) (a b : Answer) → AreTokens deck v → AreTokens deck w → IsAnswer v a → IsAnswer w b → a ≡ b
same_answer deck v w a b are is x y = one_answer w a b (subst (λ ts. IsAnswer ts a) (one_list deck v w are is) x) y

same_wrong : (a b : Answer) (c d : Diagnostic) → a ≡ b → diagnostic_of a ≡ Some c → diagnostic_of b ≡ Some d → c ≡ d
same_wrong a b c d e x y = some_same (sym x ∙ ap diagnostic_of e ∙ y)
  where
    some_same : Some c ≡ Some d → c ≡ d
    some_same e = ap (λ (o : Option Diagnostic). elim o [ Some f ↦ f | None ↦ c ]) e

program_not_wrong : (deck : List (List ℕ)) (x : Phrase) (d : Diagnostic) → HasProgram deck x → HasFault deck d → ⊥
program_not_wrong deck x d (tokens, are, is) (inl f) = no_list deck tokens d are f
program_not_wrong deck x d (tokens, are, is) (inr (others, a, be, so, e)) = absurd (cc (sym (ap diagnostic_of (same_answer deck tokens others (Program x) a are be is so)), e))

same_program : (deck : List (List ℕ)) (x y : Phrase) → HasProgram deck x → HasProgram deck y → x ≡ y
same_program deck x y (tokens, are, is) (others, be, so) = ap (λ (a : Answer). elim a [ Program z ↦ z | Unexpected t rest ↦ x | TooDeep t rest ↦ x ]) (same_answer deck tokens others (Program x) (Program y) are be is so)

same_fault : (deck : List (List ℕ)) (c d : Diagnostic) → HasFault deck c → HasFault deck d → c ≡ d
same_fault deck c d (inl x) (inl y) = stops_one x y
same_fault deck c d (inl x) (inr (others, a, be, so, e)) = absurd (no_list deck others c be x)
same_fault deck c d (inr (tokens, a, are, is, e)) (inl y) = absurd (no_list deck tokens d are y)
same_fault deck c d (inr (tokens, a, are, is, e)) (inr (others, b, be, so, f)) = same_wrong a b c d (same_answer deck tokens others a b are be is so) e f

one_found : (deck : List (List ℕ)) (c d : Deck) → IsFound deck c → IsFound deck d → c ≡ d
one_found deck (IsProgram x) (IsProgram y) p q = ap IsProgram (same_program deck x y p q)
one_found deck (IsProgram x) (IsWrong d) p q = absurd (program_not_wrong deck x d p q)
one_found deck (IsWrong c) (IsProgram y) p q = absurd (program_not_wrong deck y c q p)
one_found deck (IsWrong c) (IsWrong d) p q = ap IsWrong (same_fault deck c d p q)
one_found deck NothingFound d p q = absurd p
one_found deck (IsProgram x) NothingFound p q = absurd q
one_found deck (IsWrong c) NothingFound p q = absurd q

pub decks_are_read : DecksAreRead
decks_are_read = record { found = deck_found; only = λ deck d p. one_found deck d (deck_of deck) p (deck_found deck) }

-- ---- a deck has its diagnostics

pub diagnostics_are : (deck : List (List ℕ)) → deck_diagnostics deck ≡ diagnostics_found (deck_of deck)
unfolding deck_diagnostics deck_of
diagnostics_are deck = refl

found_diagnostics : (deck : List (List ℕ)) (d : Deck) → IsFound deck d → HasDiagnostics deck (diagnostics_found d)
found_diagnostics deck (IsProgram x) h = inr (x, h, refl)
found_diagnostics deck (IsWrong d) h = inl (d, h, refl)
found_diagnostics deck NothingFound h = absurd h

pub diagnostics_of_decks : DiagnosticsOfDecks
diagnostics_of_decks deck = subst (HasDiagnostics deck) (sym (diagnostics_are deck)) (found_diagnostics deck (deck_of deck) (deck_found deck))
