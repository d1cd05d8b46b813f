-- What a deck with its library is, and its diagnostics.
use Rattle.std.proofs.Common.{◌≡◌, List, [], ◌∷◌, ◌++◌, ℕ, Bool, true, false, Option, Some, None, take, inl, inr, refl, subst, sym, ap, ◌∙◌}
use Rattle.value_ops.specs.declared.places.Diagnostic.{Diagnostic}
use Rattle.value_ops.specs.declared.places.Place.{Place}
use Rattle.algolw_tree.specs.declared.tokens.Token.{Token}
use Rattle.algolw_tree.specs.declared.tokens.TokenKind.TheVariants.{Word as AWord}
use Rattle.algolw_tree.specs.declared.tokens.Word.TheVariants.{End}
use Rattle.algolw_tree.specs.Grammar.{finish_at}
use Rattle.algolw_tree.specs.Libraries.{composed, is_library, library_place, moved, moved_place, moved_token, moved_tokens, wrapped}
use Rattle.algolw_tree.specs.Tokens.{AreTokens}
use Rattle.algolw_tree.specs.Tree.{Phrase}
use Rattle.algolw_tree.specs.Programs.{Answer, Program, Unexpected, TooDeep, IsAnswer, IsEnded}
use Rattle.algolw_scanner.specs.Decks.{Reading, AllTokens, FirstFault, scanned}
use Rattle.algolw_scanner.specs.Laws.{IsReading}
use Rattle.algolw_scanner.proofs.One.{one_list, no_list, stops_one}
use Rattle.algolw_scanner.proofs.Pieces.{scanned_is}
use Rattle.algolw_grammar.specs.Parsing.{parsed, diagnostic_of}
use Rattle.algolw_grammar.proofs.Verdict.{answered, one_answer}
use Rattle.algolw_typing.specs.Faults.{program_faults}
use Rattle.algolw_meaning.specs.DeckDiagnostics.{Deck, IsProgram, IsWrong, NothingFound, DiagnosticsOfJobs, HasFault, HasLibrary, HasLibraryFault, IsFound, IsJobFound, IsLibraryFound, JobHasDiagnostics, JobHasFault, JobHasProgram, JobsAreRead, behind_library, composed_deck, deck_of, diagnostics_found, job_deck, job_diagnostics, library_answer, library_of, library_reading, no_library, of_form, of_tokens}
use Rattle.algolw_meaning.specs.Meaning.{shown_diagnostics}
use Rattle.algolw_meaning.proofs.Found.{deck_ended, deck_found, decks_are_read, ended_behind}

-- ---- the last token of a wrapped library is its end

moved_ended : (front : List Token) (p : Place) → IsEnded (moved_tokens (front ++ finish_at p ∷ []))
moved_ended [] p = (record { place = moved_place p; kind = AWord End } ∷ [], moved_place p, refl)
moved_ended (t ∷ []) p = ended_behind (moved_token t) (moved_tokens (finish_at p ∷ [])) (moved_ended [] p)
moved_ended (t ∷ u ∷ front) p = ended_behind (moved_token t) (moved_tokens (u ∷ front ++ finish_at p ∷ [])) (moved_ended (u ∷ front) p)

wrapped_ended : (tokens : List Token) → IsEnded tokens → IsEnded (wrapped tokens)
wrapped_ended tokens (front, p, e) = subst (λ ts. IsEnded (wrapped ts)) (sym e) (ended_behind _ (moved_tokens (front ++ finish_at p ∷ [])) (moved_ended front p))

-- ---- what is found of a library

-- a library's program, by whether it is a library
abbrev judged : Phrase → Bool → Deck
judged x b = elim b [ true ↦ IsProgram x | false ↦ IsWrong (record { number = 44; place = library_place }) ]

program_found : (cards : List (List ℕ)) (tokens : List Token) → AreTokens cards tokens → (x : Phrase) → IsAnswer (wrapped tokens) (Program x) → (b : Bool) → is_library x ≡ b → IsLibraryFound cards (judged x b)
program_found cards tokens are x is true e = (tokens, are, is, e)
program_found cards tokens are x is false e = no_library tokens x are is e refl

answer_found : (cards : List (List ℕ)) (tokens : List Token) → AreTokens cards tokens → (a : Answer) → IsAnswer (wrapped tokens) a → IsLibraryFound cards (library_answer (Some a))
answer_found cards tokens are (Program x) is = program_found cards tokens are x is (is_library x) refl
answer_found cards tokens are (Unexpected t rest) is = of_form tokens (Unexpected t rest) are is refl
answer_found cards tokens are (TooDeep t rest) is = of_form tokens (TooDeep t rest) are is refl

parsed_found : (cards : List (List ℕ)) (tokens : List Token) → AreTokens cards tokens → (a : Answer) × (parsed (wrapped tokens) ≡ Some a) × IsAnswer (wrapped tokens) a → IsLibraryFound cards (library_answer (parsed (wrapped tokens)))
parsed_found cards tokens are (a, e, is) = subst (λ o. IsLibraryFound cards (library_answer o)) (sym e) (answer_found cards tokens are a is)

reading_found : (cards : List (List ℕ)) (r : Reading) → IsReading cards r → IsLibraryFound cards (library_reading r)
reading_found cards (FirstFault d) is = of_tokens d is refl
reading_found cards (AllTokens tokens) are = parsed_found cards tokens are (answered (wrapped tokens) (wrapped_ended tokens (deck_ended cards tokens are)))

pub library_found : (cards : List (List ℕ)) → IsLibraryFound cards (library_of cards)
unfolding library_of
library_found cards = reading_found cards (scanned cards) (scanned_is cards)

-- ---- nothing else is

same_answer : (cards : List (List ℕ)) (v w : List Token) (a b : Answer) → AreTokens cards v → AreTokens cards w → IsAnswer (wrapped v) a → IsAnswer (wrapped w) b → a ≡ b
same_answer cards v w a b are is x y = one_answer (wrapped w) a b (subst (λ ts. IsAnswer (wrapped ts) a) (one_list cards v w are is) x) y

same_wrong : (a b : Answer) (c d : Diagnostic) → a ≡ b → diagnostic_of a ≡ Some c → diagnostic_of b ≡ Some d → c ≡ d
same_wrong a b c d e x y = some_same (sym x ∙ ap diagnostic_of e ∙ y)
  where
    some_same : Some c ≡ Some d → c ≡ d
    some_same e = ap (λ (o : Option Diagnostic). elim o [ Some f ↦ f | None ↦ c ]) e

-- a program is no wrong answer
never_wrong : (x : Phrase) (a : Answer) (d : Diagnostic) → Program x ≡ a → diagnostic_of a ≡ Some d → ⊥
never_wrong x a d e w = absurd (cc (ap diagnostic_of e, w))

same_program : (x y : Phrase) → Program x ≡ Program y → x ≡ y
same_program x y e = ap (λ (a : Answer). elim a [ Program z ↦ z | Unexpected t rest ↦ x | TooDeep t rest ↦ x ]) e

library_not_wrong : (cards : List (List ℕ)) (x : Phrase) (d : Diagnostic) → HasLibrary cards x → HasLibraryFault cards d → ⊥
library_not_wrong cards x d (tokens, are, is, l) (of_tokens e f q) = no_list cards tokens e are f
library_not_wrong cards x d (tokens, are, is, l) (of_form others a be so w) = never_wrong x a d (same_answer cards tokens others (Program x) a are be is so) w
library_not_wrong cards x d (tokens, are, is, l) (no_library others y be so n q) =
    let same = same_program x y (same_answer cards tokens others (Program x) (Program y) are be is so) in
    absurd (cc (ap is_library same, l, n))

pub same_library : (cards : List (List ℕ)) (x y : Phrase) → HasLibrary cards x → HasLibrary cards y → x ≡ y
same_library cards x y (tokens, are, is, l) (others, be, so, m) = same_program x y (same_answer cards tokens others (Program x) (Program y) are be is so)

same_fault : (cards : List (List ℕ)) (c d : Diagnostic) → HasLibraryFault cards c → HasLibraryFault cards d → c ≡ d
same_fault cards c d (of_tokens e f q) (of_tokens g h r) = q ∙ ap moved (stops_one f h) ∙ sym r
same_fault cards c d (of_tokens e f q) (of_form others a be so w) = absurd (no_list cards others e be f)
same_fault cards c d (of_tokens e f q) (no_library others y be so n r) = absurd (no_list cards others e be f)
same_fault cards c d (of_form tokens a are is w) (of_tokens g h r) = absurd (no_list cards tokens g are h)
same_fault cards c d (of_form tokens a are is w) (of_form others b be so v) = same_wrong a b c d (same_answer cards tokens others a b are be is so) w v
same_fault cards c d (of_form tokens a are is w) (no_library others y be so n r) = absurd (never_wrong y a c (same_answer cards others tokens (Program y) a be are so is) w)
same_fault cards c d (no_library tokens x are is n q) (of_tokens g h r) = absurd (no_list cards tokens g are h)
same_fault cards c d (no_library tokens x are is n q) (of_form others b be so v) = absurd (never_wrong x b d (same_answer cards tokens others (Program x) b are be is so) v)
same_fault cards c d (no_library tokens x are is n q) (no_library others y be so m r) = q ∙ sym r

one_found : (cards : List (List ℕ)) (c d : Deck) → IsLibraryFound cards c → IsLibraryFound cards d → c ≡ d
one_found cards (IsProgram x) (IsProgram y) p q = ap IsProgram (same_library cards x y p q)
one_found cards (IsProgram x) (IsWrong d) p q = absurd (library_not_wrong cards x d p q)
one_found cards (IsWrong c) (IsProgram y) p q = absurd (library_not_wrong cards y c q p)
one_found cards (IsWrong c) (IsWrong d) p q = ap IsWrong (same_fault cards c d p q)
one_found cards NothingFound d p q = absurd p
one_found cards (IsProgram x) NothingFound p q = absurd q
one_found cards (IsWrong c) NothingFound p q = absurd q

pub library_only : (cards : List (List ℕ)) (d : Deck) → IsLibraryFound cards d → d ≡ library_of cards
library_only cards d h = one_found cards d (library_of cards) h (library_found cards)

-- ---- a deck with its library

alone : (deck : List (List ℕ)) (d : Deck) → IsFound deck d → IsJobFound None deck d
alone deck (IsProgram x) h = h
alone deck (IsWrong d) h = h
alone deck NothingFound h = h

found_alone : (deck : List (List ℕ)) (d : Deck) → IsJobFound None deck d → IsFound deck d
found_alone deck (IsProgram x) h = h
found_alone deck (IsWrong d) h = h
found_alone deck NothingFound h = h

composed_found : (cards deck : List (List ℕ)) (library d : Deck) → IsLibraryFound cards library → IsFound deck d → IsJobFound (Some cards) deck (behind_library library d)
composed_found cards deck (IsProgram x) (IsProgram y) h g = (x, y, h, g, refl)
composed_found cards deck (IsProgram x) (IsWrong d) h g = inr (x, h, g)
composed_found cards deck (IsProgram x) NothingFound h g = absurd g
composed_found cards deck (IsWrong c) d h g = inl h
composed_found cards deck NothingFound d h g = absurd h

job_alone : (deck : List (List ℕ)) → job_deck None deck ≡ deck_of deck
unfolding job_deck library_of deck_of
job_alone deck = refl

job_behind : (cards deck : List (List ℕ)) → job_deck (Some cards) deck ≡ behind_library (library_of cards) (deck_of deck)
unfolding job_deck library_of deck_of
job_behind cards deck = refl

pub job_found : (library : Option (List (List ℕ))) (deck : List (List ℕ)) → IsJobFound library deck (job_deck library deck)
job_found None deck = subst (IsJobFound None deck) (sym (job_alone deck)) (alone deck (deck_of deck) (deck_found deck))
job_found (Some cards) deck = subst (IsJobFound (Some cards) deck) (sym (job_behind cards deck)) (composed_found cards deck (library_of cards) (deck_of deck) (library_found cards) (deck_found deck))

-- what a deck and its library are makes what they are together
together : (cards deck : List (List ℕ)) (library d : Deck) → library ≡ library_of cards → d ≡ deck_of deck → behind_library library d ≡ job_deck (Some cards) deck
together cards deck library d e f = ap (λ l. behind_library l d) e ∙ ap (behind_library (library_of cards)) f ∙ sym (job_behind cards deck)

-- where the library is wrong, the deck isn't looked at
library_wrong : (cards deck : List (List ℕ)) (c : Diagnostic) → HasLibraryFault cards c → IsWrong c ≡ job_deck (Some cards) deck
library_wrong cards deck c h = together cards deck (IsWrong c) (deck_of deck) (library_only cards (IsWrong c) h) refl

only_with : (cards deck : List (List ℕ)) (d : Deck) → IsJobFound (Some cards) deck d → d ≡ job_deck (Some cards) deck
only_with cards deck (IsProgram x) (l, y, h, g, e) = ap IsProgram e ∙ together cards deck (IsProgram l) (IsProgram y) (library_only cards (IsProgram l) h) (decks_are_read.only deck (IsProgram y) g)
only_with cards deck (IsWrong d) (inl h) = library_wrong cards deck d h
only_with cards deck (IsWrong d) (inr (l, h, g)) = together cards deck (IsProgram l) (IsWrong d) (library_only cards (IsProgram l) h) (decks_are_read.only deck (IsWrong d) g)
only_with cards deck NothingFound h = absurd h

pub job_only : (library : Option (List (List ℕ))) (deck : List (List ℕ)) (d : Deck) → IsJobFound library deck d → d ≡ job_deck library deck
job_only None deck d h = decks_are_read.only deck d (found_alone deck d h) ∙ sym (job_alone deck)
job_only (Some cards) deck d h = only_with cards deck d h

pub jobs_are_read : JobsAreRead
jobs_are_read = record { found = job_found; only = job_only }

-- ---- its diagnostics

pub job_diagnostics_are : (library : Option (List (List ℕ))) (deck : List (List ℕ)) → job_diagnostics library deck ≡ diagnostics_found (job_deck library deck)
unfolding job_diagnostics job_deck
job_diagnostics_are library deck = refl

found_diagnostics : (library : Option (List (List ℕ))) (deck : List (List ℕ)) (d : Deck) → IsJobFound library deck d → JobHasDiagnostics library deck (diagnostics_found d)
found_diagnostics library deck (IsProgram x) h = inr (x, h, refl)
found_diagnostics library deck (IsWrong d) h = inl (d, h, refl)
found_diagnostics library deck NothingFound h = absurd h

pub diagnostics_of_jobs : DiagnosticsOfJobs
diagnostics_of_jobs library deck = subst (JobHasDiagnostics library deck) (sym (job_diagnostics_are library deck)) (found_diagnostics library deck (job_deck library deck) (job_found library deck))

-- ---- what is shown of them

found_shown : (library : Option (List (List ℕ))) (deck : List (List ℕ)) (d : Deck) → IsJobFound library deck d → shown_diagnostics library deck ≡ take 20 (diagnostics_found d)
found_shown library deck d h = ap (take 20) (job_diagnostics_are library deck ∙ ap diagnostics_found (sym (job_only library deck d h)))

-- the fault of the tokens or the form, alone
pub fault_shown : (library : Option (List (List ℕ))) (deck : List (List ℕ)) (d : Diagnostic) → JobHasFault library deck d → shown_diagnostics library deck ≡ d ∷ []
fault_shown library deck d h = found_shown library deck (IsWrong d) h

-- the first twenty faults of a program
pub program_shown : (library : Option (List (List ℕ))) (deck : List (List ℕ)) (x : Phrase) → JobHasProgram library deck x → shown_diagnostics library deck ≡ take 20 (program_faults x)
program_shown library deck x h = found_shown library deck (IsProgram x) h
