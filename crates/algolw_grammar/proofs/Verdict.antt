-- What the reader of programs says of tokens is what is to be said of them.
use Rattle.std.proofs.Common.{◌≡◌, ℕ, suc, ◌+◌, ◌<◌, ◌≤◌, List, [], ◌∷◌, ◌++◌, length, refl, sym, ◌∙◌, ap, subst, subst₂, inl, inr, arith, append_assoc, length-append, le_of_eq, Some, None}
use Rattle.value_ops.specs.declared.places.Place.{Place}
use Rattle.algolw_tree.specs.declared.tokens.Token.{Token}
use Rattle.algolw_tree.specs.Tree.{Phrase}
use Rattle.algolw_tree.specs.Parts.{Beyond, follow}
use Rattle.algolw_tree.specs.Grammar.{program, finish_at}
use Rattle.algolw_tree.specs.Programs.{Spells, Begins, IsErrorToken, IsDeepFrom, in_program, before_error, IsProgram, IsUnexpected, IsTooDeep, Answer, Program, Unexpected, TooDeep, IsAnswer, IsEnded}
use Rattle.algolw_grammar.specs.Readers.{Out, Got, Bad, Deep, Reader}
use Rattle.algolw_grammar.specs.Parsing.{answer_of, parsed}
use Rattle.algolw_grammar.specs.Reading.{readers, read_program_by, read_program}
use Rattle.algolw_grammar.specs.Laws.{OneProgram, ProgramsBegin, FrontsBegin, OneAnswer, ParsedIsAnswer}
use Rattle.algolw_grammar.proofs.Good.{before, Agrees, IsDeep, cut, Ends, append_nil, before_nil, got_value, got_beyond, got_rest, bad_rest, deep_rest}
use Rattle.algolw_grammar.proofs.Marked.{marked, TiedLevels}
use Rattle.algolw_grammar.proofs.Language.{program_good}
use Rattle.algolw_grammar.proofs.LanguageClimbs.{program_spelled, program_begun, program_shallow, program_same}
use Rattle.algolw_grammar.proofs.LanguageUnread.{unread_next, unread_marked}
use Rattle.algolw_grammar.proofs.LanguageTied.{levels_tied, program_cuts, program_ends, program_ends_deep}
use Rattle.algolw_grammar.proofs.Keeping.{SomeAt}
use Rattle.algolw_grammar.proofs.LanguageKeeps.{Finishing, program_finishes}

-- Reading by n levels of nesting.
abbrev by : ℕ → Reader Phrase
by n = read_program_by (marked n 99)

-- So many levels are more than the limit, and more than these tokens need.
pub enough : List Token → ℕ
enough w = 100 + (length w + length w)

enough_limit : (w : List Token) → 99 < enough w
unfolding enough
enough_limit w = omega arith

enough_room : (w : List Token) → length w + length w ≤ enough w
unfolding enough
enough_room w = omega arith

-- one program, and fronts

pub one_program : OneProgram
one_program tokens x y b d (n, s) (m, t) = (got_value x y _ _ [] [] e, sym (before_nil b) ∙ got_beyond x y (before b []) (before d []) [] [] e ∙ before_nil d)
  where
    reads : (i : ℕ) (z : Phrase) (a : Beyond) → (program i).spells None tokens z a → by i (tokens ++ []) ≡ Got z (before a []) []
    reads i z a h = (program_good i).takes tokens [] z a h tt

    e : Got x (before b []) [] ≡ Got y (before d []) []
    e = sym (reads (n + m) x b (program_spelled n (n + m) (omega arith) None tokens x b s)) ∙ reads (n + m) y d (program_spelled m (n + m) (omega arith) None tokens y d t)

pub programs_begin : ProgramsBegin
programs_begin tokens x b (n, s) = (n, (program_good n).whole None tokens x b s)

pub fronts_begin : FrontsBegin
fronts_begin front more b (n, s) = go ((program_good n).fronts front more b s)
  where
    go : (d : Beyond) × (program n).begins front d → (d : Beyond) × Begins front d
    go (d, h) = (d, (n, h))

-- tokens that go on as a front of them

one_more : (u r : List Token) (t : Token) → (u ++ t ∷ []) ++ r ≡ u ++ t ∷ r
one_more u r t = append_assoc u (t ∷ []) r

-- what begins a program has no error token
no_error : (w before : List Token) (t : Token) (rest : List Token) (b : Beyond) → Begins w b → IsErrorToken w before t rest → ⊥
no_error w before t rest b h e = go (fronts_begin (before ++ t ∷ []) rest b (subst (λ v. Begins v b) (e.cut ∙ sym (one_more before rest t)) h))
  where
    go : (d : Beyond) × Begins (before ++ t ∷ []) d → ⊥
    go (d, k) = e.ended d k

-- Two tokens of a list are one, or one stands before the other.
data Split (b1 b2 : List Token) (t1 t2 : Token) (r1 r2 : List Token) : Type 0 where
  one : b1 ≡ b2 → t1 ≡ t2 → r1 ≡ r2 → Split b1 b2 t1 t2 r1 r2
  first : (v : List Token) → b2 ≡ (b1 ++ t1 ∷ []) ++ v → Split b1 b2 t1 t2 r1 r2
  second : (v : List Token) → b1 ≡ (b2 ++ t2 ∷ []) ++ v → Split b1 b2 t1 t2 r1 r2

head_of : (t k : Token) (r q : List Token) → t ∷ r ≡ k ∷ q → t ≡ k
head_of t k r q h = cc

tail_of : (t k : Token) (r q : List Token) → t ∷ r ≡ k ∷ q → r ≡ q
tail_of t k r q h = cc

split : (b1 b2 : List Token) (t1 t2 : Token) (r1 r2 : List Token) → b1 ++ t1 ∷ r1 ≡ b2 ++ t2 ∷ r2 → Split b1 b2 t1 t2 r1 r2
split [] [] t1 t2 r1 r2 h = one refl (head_of t1 t2 r1 r2 h) (tail_of t1 t2 r1 r2 h)
split [] (k ∷ b2) t1 t2 r1 r2 h = first b2 (ap (λ t. t ∷ b2) (sym (head_of t1 k r1 (b2 ++ t2 ∷ r2) h)))
split (k ∷ b1) [] t1 t2 r1 r2 h = second b1 (ap (λ t. t ∷ b1) (head_of k t2 (b1 ++ t1 ∷ r1) r2 h))
split (k ∷ b1) (l ∷ b2) t1 t2 r1 r2 h = next (split b1 b2 t1 t2 r1 r2 (tail_of k l (b1 ++ t1 ∷ r1) (b2 ++ t2 ∷ r2) h))
  where
    same : k ≡ l
    same = head_of k l (b1 ++ t1 ∷ r1) (b2 ++ t2 ∷ r2) h

    next : Split b1 b2 t1 t2 r1 r2 → Split (k ∷ b1) (l ∷ b2) t1 t2 r1 r2
    next (one b t r) = one (ap (λ v. k ∷ v) b ∙ ap (λ t. t ∷ b2) same) t r
    next (first v b) = first v (ap (λ v. l ∷ v) b ∙ ap (λ t. t ∷ ((b1 ++ t1 ∷ []) ++ v)) (sym same))
    next (second v b) = second v (ap (λ v. k ∷ v) b ∙ ap (λ t. t ∷ ((b2 ++ t2 ∷ []) ++ v)) same)

-- no token before an error token is one
error_before : (b1 : List Token) (t1 : Token) (w b2 v : List Token) (t2 : Token) (r2 : List Token) → ((b : Beyond) → Begins (b1 ++ t1 ∷ []) b → ⊥) → IsErrorToken w b2 t2 r2 → b2 ≡ (b1 ++ t1 ∷ []) ++ v → ⊥
error_before b1 t1 w b2 v t2 r2 ended e h = go e.begun
  where
    back : (d : Beyond) × Begins (b1 ++ t1 ∷ []) d → ⊥
    back (d, k) = ended d k

    go : (b : Beyond) × Begins b2 b → ⊥
    go (b, k) = back (fronts_begin (b1 ++ t1 ∷ []) v b (subst (λ u. Begins u b) h k))

pub error_once : (w b1 : List Token) (t1 : Token) (r1 b2 : List Token) (t2 : Token) (r2 : List Token) → IsErrorToken w b1 t1 r1 → IsErrorToken w b2 t2 r2 → (b1 ≡ b2) × (t1 ≡ t2) × (r1 ≡ r2)
error_once w b1 t1 r1 b2 t2 r2 e f = go (split b1 b2 t1 t2 r1 r2 (sym e.cut ∙ f.cut))
  where
    go : Split b1 b2 t1 t2 r1 r2 → (b1 ≡ b2) × (t1 ≡ t2) × (r1 ≡ r2)
    go (one b t r) = (b, t, r)
    go (first v b) = absurd (error_before b1 t1 w b2 v t2 r2 e.ended f b)
    go (second v b) = absurd (error_before b2 t2 w b1 v t1 r1 f.ended e b)

-- what the reader says of tokens w of which the front v begins a program
begun_agrees : (n : ℕ) (w v y : List Token) (d : Beyond) → w ≡ v ++ y → length w + length w ≤ n → Begins v d → Agrees (by n w) d y
begun_agrees n w v y d c i (m, h) = subst (λ o. Agrees o d y) (ap (by (n + m)) (sym c) ∙ program_same n (n + m) w (omega arith) i) ((program_good (n + m)).reads v y d (program_begun m (n + m) (omega arith) v d h))

-- The reader stops at these tokens, and marks what goes beyond the limit so.
abbrev At : Out Phrase → Beyond → List Token → Type 0
At (Got x e r) d s = (e ≡ d) × (r ≡ s)
At (Bad e r) d s = (e ≡ d) × (r ≡ s)
At (Deep r) d s = ⊥

not_behind : (o : Out Phrase) (e d : Beyond) (t : Token) (r : List Token) → At o e (t ∷ r) → Agrees o d r → ⊥
not_behind (Got x e2 q) e d t r h a = let k : length q ≡ suc (length r) = ap length (h.1) in omega arith
not_behind (Bad e2 q) e d t r h a = let k : length q ≡ suc (length r) = ap length (h.1) in omega arith
not_behind (Deep q) e d t r h a = h

marked_so : (o : Out Phrase) (e : Beyond) (from y : List Token) → At o e y → Agrees o (Some from) y → e ≡ Some (from ++ y)
marked_so (Got x e2 q) e from y h (l, inl m) = sym (h.0) ∙ m
marked_so (Got x e2 q) e from y h (l, inr m) = let k : length q ≡ length y = ap length (h.1) in absurd (omega arith)
marked_so (Bad e2 q) e from y h (l, inl m) = sym (h.0) ∙ m
marked_so (Bad e2 q) e from y h (l, inr m) = let k : length q ≡ length y = ap length (h.1) in absurd (omega arith)
marked_so (Deep q) e from y h a = absurd h

-- What the reader says of tokens w where it stops at t: it is the error token.
record Stopped (w : List Token) (e : Beyond) (t : Token) (r : List Token) : Type 0 where
  front : List Token
  mark : Beyond
  wrong : IsErrorToken w front t r
  begun : Begins front mark
  marks : e ≡ before mark (t ∷ r)
  all : (from : List Token) → Begins front (Some from) → e ≡ Some (from ++ t ∷ r)

front_of : (n : ℕ) (w : List Token) (e : Beyond) (s : List Token) (o : Out Phrase) → by n w ≡ o → At o e s → (u : List Token) × (d : Beyond) × (w ≡ u ++ s) × (e ≡ before d s) × (program n).begins u d
front_of n w e s (Got x e2 q) p h = go ((program_good n).sound w x e2 q p)
  where
    go : (u : List Token) × (d : Beyond) × (w ≡ u ++ q) × (e2 ≡ before d q) × (program n).spells (follow q None) u x d → (u : List Token) × (d : Beyond) × (w ≡ u ++ s) × (e ≡ before d s) × (program n).begins u d
    go (u, d, c, b, g) = (u, d, c ∙ ap (λ q. u ++ q) (h.1), sym (h.0) ∙ b ∙ ap (before d) (h.1), (program_good n).whole (follow q None) u x d g)
front_of n w e s (Bad e2 q) p h = go ((program_good n).stops w e2 q p)
  where
    go : (u : List Token) × (d : Beyond) × (w ≡ u ++ q) × (e2 ≡ before d q) × (program n).begins u d → (u : List Token) × (d : Beyond) × (w ≡ u ++ s) × (e ≡ before d s) × (program n).begins u d
    go (u, d, c, b, g) = (u, d, c ∙ ap (λ q. u ++ q) (h.1), sym (h.0) ∙ b ∙ ap (before d) (h.1), g)
front_of n w e s (Deep q) p h = absurd h

stopped : (n : ℕ) (w : List Token) (e : Beyond) (t : Token) (r : List Token) → length w + length w ≤ n → At (by n w) e (t ∷ r) → Stopped w e t r
stopped n w e t r i h = go (front_of n w e (t ∷ r) (by n w) refl h)
  where
    go : (u : List Token) × (d : Beyond) × (w ≡ u ++ t ∷ r) × (e ≡ before d (t ∷ r)) × (program n).begins u d → Stopped w e t r
    go (u, d, c, b, g) = record {
      front = u;
      mark = d;
      begun = (n, g);
      marks = b;
      wrong = record {
        cut = c;
        begun = (d, (n, g));
        ended = λ a k. not_behind (by n w) e a t r h (begun_agrees n w (u ++ t ∷ []) r a (c ∙ sym (one_more u r t)) i k);
      };
      all = λ from k. marked_so (by n w) e from (t ∷ r) h (begun_agrees n w u (t ∷ r) (Some from) c i k);
    }

-- what is marked of tokens that begin a program

abbrev Marks : Out Phrase → List Token → Type 0
Marks (Got x e r) from = e ≡ Some from
Marks (Bad e r) from = e ≡ Some from
Marks (Deep r) from = ⊥

not_deep : (w : List Token) → IsDeep (by (enough w) w) → ⊥
not_deep w = program_shallow (enough w) w (enough_room w)

begun_marks : (u from : List Token) → Begins u (Some from) → Marks (by (enough u) u) from
begun_marks u from h = go (by (enough u) u) (not_deep u) (begun_agrees (enough u) u u [] (Some from) (sym (append_nil u)) (enough_room u) h)
  where
    go : (o : Out Phrase) → (IsDeep o → ⊥) → Agrees o (Some from) [] → Marks o from
    go (Got x e r) d (l, inl m) = m ∙ ap Some (append_nil from)
    go (Got x e r) d (l, inr m) = absurd (omega arith)
    go (Bad e r) d (l, inl m) = m ∙ ap Some (append_nil from)
    go (Bad e r) d (l, inr m) = absurd (omega arith)
    go (Deep r) d a = d tt

some_eq : (a b : List Token) → Some a ≡ Some b → a ≡ b
some_eq a b h = cc

one_mark : (u from other : List Token) → Begins u (Some from) → Begins u (Some other) → from ≡ other
one_mark u from other h k = go (by (enough u) u) (begun_marks u from h) (begun_marks u other k)
  where
    go : (o : Out Phrase) → Marks o from → Marks o other → from ≡ other
    go (Got x e r) a b = some_eq from other (sym a ∙ b)
    go (Bad e r) a b = some_eq from other (sym a ∙ b)
    go (Deep r) a b = absurd a

some_length : (from : List Token) → SomeAt (Some from) → 1 ≤ length from
some_length [] h = absurd h
some_length (t ∷ r) h = omega arith

mark_length : (u from : List Token) → Begins u (Some from) → 1 ≤ length from
mark_length u from h = go (by (enough u) u) (program_finishes (enough u) u) (begun_marks u from h)
  where
    go : (o : Out Phrase) → Finishing u o → Marks o from → 1 ≤ length from
    go (Got x e r) f m = some_length from (subst SomeAt m f)
    go (Bad e r) f m = some_length from (subst SomeAt m (f.0))
    go (Deep r) f m = absurd m

-- what the reader that stops beyond the limit gives

enough_tied : (w : List Token) → TiedLevels (marked (enough w) 99) (readers 99)
enough_tied w = levels_tied unread_next unread_marked (enough w) 99 (enough_limit w)

cut_at : (w : List Token) → read_program w ≡ cut (by (enough w) w)
cut_at w = program_cuts (marked (enough w) 99) (readers 99) (enough_tied w) w

spelled_by : (n : ℕ) (w : List Token) (x : Phrase) (e : Beyond) → by n w ≡ Got x e [] → Spells w x e
spelled_by n w x e h = go ((program_good n).sound w x e [] h)
  where
    go : (u : List Token) × (d : Beyond) × (w ≡ u ++ []) × (e ≡ before d []) × (program n).spells None u x d → Spells w x e
    go (u, d, c, b, g) = (n, subst₂ (λ u d. (program n).spells None u x d) (sym (c ∙ append_nil u)) (sym (b ∙ before_nil d)) g)

pub found : (w : List Token) (x : Phrase) → read_program w ≡ Got x None [] → IsProgram w x
found w x h = go (by (enough w) w) refl (sym h ∙ cut_at w)
  where
    done : Spells w x None → IsProgram w x
    done s = record { spelled = s; only = λ y b k. one_program w y x b None k s }

    go : (o : Out Phrase) → by (enough w) w ≡ o → Got x None [] ≡ cut o → IsProgram w x
    go (Got y None r) p c = done (spelled_by (enough w) w x None (p ∙ sym c))
    go (Got y (Some f) r) p c = cc
    go (Bad None r) p c = cc
    go (Bad (Some f) r) p c = cc
    go (Deep r) p c = cc

unexpected_at : (w : List Token) (t : Token) (r : List Token) → At (by (enough w) w) None (t ∷ r) → IsUnexpected w t r
unexpected_at w t r h = go (stopped (enough w) w None t r (enough_room w) h)
  where
    none : (a : List Token) → None ≡ Some a → ⊥
    none a h = cc

    go : Stopped w None t r → IsUnexpected w t r
    go s = record { before = s.front; wrong = s.wrong; first = first }
      where
        first : (from : List Token) → IsDeepFrom w from → length from ≤ length (t ∷ r)
        first from (in_program x k) = absurd (no_error w s.front t r (Some from) (programs_begin w x (Some from) k) s.wrong)
        first _ (before_error from b2 t2 r2 n e k long) =
            let one = error_once w s.front t r b2 t2 r2 s.wrong e in
            absurd (none (from ++ t ∷ r) (s.all from (subst (λ u. Begins u (Some from)) (sym (one.0)) k)))

pub more_found : (w : List Token) (x : Phrase) (t : Token) (r : List Token) → read_program w ≡ Got x None (t ∷ r) → IsUnexpected w t r
more_found w x t r h = unexpected_at w t r (go (by (enough w) w) (sym h ∙ cut_at w))
  where
    go : (o : Out Phrase) → Got x None (t ∷ r) ≡ cut o → At o None (t ∷ r)
    go (Got y None q) c = (refl, sym (got_rest x y None None (t ∷ r) q c))
    go (Got y (Some f) q) c = cc
    go (Bad None q) c = cc
    go (Bad (Some f) q) c = cc
    go (Deep q) c = cc

pub unexpected : (w : List Token) (t : Token) (r : List Token) → read_program w ≡ Bad None (t ∷ r) → IsUnexpected w t r
unexpected w t r h = unexpected_at w t r (go (by (enough w) w) (sym h ∙ cut_at w))
  where
    go : (o : Out Phrase) → ◌≡◌ {A = Out Phrase} (Bad None (t ∷ r)) (cut o) → At o None (t ∷ r)
    go (Got y None q) c = cc
    go (Got y (Some f) q) c = cc
    go (Bad None q) c = (refl, sym (bad_rest {A = Phrase} None None (t ∷ r) q c))
    go (Bad (Some f) q) c = cc
    go (Deep q) c = cc

-- the deep token of a program
deep_in : (w : List Token) (x : Phrase) (t : Token) (r : List Token) → Spells w x (Some (t ∷ r)) → IsTooDeep w t r
deep_in w x t r s = record {
  deep = in_program x s;
  first = λ before e after k. absurd (no_error w before e after (Some (t ∷ r)) (programs_begin w x (Some (t ∷ r)) s) k);
}

-- the deep token before an error token
deep_before : (w : List Token) (t : Token) (r : List Token) (e : Token) (q : List Token) → At (by (enough w) w) (Some (t ∷ r)) (e ∷ q) → IsTooDeep w t r
deep_before w t r e q h = go (stopped (enough w) w (Some (t ∷ r)) e q (enough_room w) h)
  where
    go : Stopped w (Some (t ∷ r)) e q → IsTooDeep w t r
    go s = at s.mark s.begun s.marks
      where
        at : (b : Beyond) → Begins s.front b → Some (t ∷ r) ≡ before b (e ∷ q) → IsTooDeep w t r
        at None g m = cc
        at (Some from) g m = record {
          deep = subst (IsDeepFrom w) (sym whole) (before_error from s.front e q none s.wrong g long);
          first = first;
        }
          where
            whole : t ∷ r ≡ from ++ e ∷ q
            whole = some_eq (t ∷ r) (from ++ e ∷ q) m

            none : (x : Phrase) (b : Beyond) → Spells w x b → ⊥
            none x b k = no_error w s.front e q b (programs_begin w x b k) s.wrong

            long : (other : List Token) → Begins s.front (Some other) → length other ≤ length from
            long other k = le_of_eq (ap length (one_mark s.front other from k g))

            first : (b2 : List Token) (e2 : Token) (q2 : List Token) → IsErrorToken w b2 e2 q2 → length (e2 ∷ q2) < length (t ∷ r)
            first b2 e2 q2 k =
                let one = error_once w b2 e2 q2 s.front e q k s.wrong in
                let same : length q2 ≡ length q = ap length (one.2) in
                let sum : length (t ∷ r) ≡ length from + length (e ∷ q) = ap length whole ∙ length-append from (e ∷ q) in
                let some : 1 ≤ length from = mark_length s.front from g in
                omega arith

pub too_deep : (w : List Token) (t : Token) (r : List Token) → Ends w → read_program w ≡ Deep (t ∷ r) → IsTooDeep w t r
too_deep w t r i h = go (by (enough w) w) refl (sym h ∙ cut_at w)
  where
    stops : (f : List Token) (e : Token) (q : List Token) (o : Out Phrase) → by (enough w) w ≡ o → ◌≡◌ {A = Out Phrase} (Deep (t ∷ r)) (Deep f) → At o (Some f) (e ∷ q) → IsTooDeep w t r
    stops f e q o p c a = deep_before w t r e q (subst₂ (λ o f. At o (Some f) (e ∷ q)) (sym p) (sym (deep_rest {A = Phrase} (t ∷ r) f c)) a)

    go : (o : Out Phrase) → by (enough w) w ≡ o → Deep (t ∷ r) ≡ cut o → IsTooDeep w t r
    go (Got x None q) p c = cc
    go (Got x (Some f) []) p c = deep_in w x t r (spelled_by (enough w) w x (Some (t ∷ r)) (p ∙ ap (λ d. Got x (Some d) []) (sym (deep_rest {A = Phrase} (t ∷ r) f c))))
    go (Got x (Some f) (e ∷ q)) p c = stops f e q (Got x (Some f) (e ∷ q)) p c (refl, refl)
    go (Bad None q) p c = cc
    go (Bad (Some f) []) p c = absurd ((subst (Finishing w) p (program_finishes (enough w) w)).1 i)
    go (Bad (Some f) (e ∷ q)) p c = stops f e q (Bad (Some f) (e ∷ q)) p c (refl, refl)
    go (Deep q) p c = absurd (not_deep w (subst IsDeep (sym p) tt))

-- where the last token is the end of the deck

front_ends : (front : List Token) (p : Place) → Ends (front ++ finish_at p ∷ [])
front_ends [] p = refl
front_ends (t ∷ []) p = refl
front_ends (t ∷ k ∷ front) p = front_ends (k ∷ front) p

pub ended : (w : List Token) → IsEnded w → Ends w
ended w (front, p, e) = subst Ends (sym e) (front_ends front p)

pub ended_too_deep : (w : List Token) (t : Token) (r : List Token) → IsEnded w → read_program w ≡ Deep (t ∷ r) → IsTooDeep w t r
ended_too_deep w t r i h = too_deep w t r (ended w i) h

pub names_token : (w r : List Token) → IsEnded w → read_program w ≡ Bad None r → (t : Token) × (r2 : List Token) × (r ≡ t ∷ r2)
names_token w r i h = program_ends (marked (enough w) 99) (readers 99) (enough_tied w) w r (ended w i) h

pub names_deep : (w r : List Token) → IsEnded w → read_program w ≡ Deep r → (t : Token) × (r2 : List Token) × (r ≡ t ∷ r2)
names_deep w r i h = program_ends_deep (marked (enough w) 99) (readers 99) (enough_tied w) w r (ended w i) h

-- the reader that stops beyond the limit marks nothing
pub never_marked : (w : List Token) (x : Phrase) (f r : List Token) → read_program w ≡ Got x (Some f) r → ⊥
never_marked w x f r h = go (by (enough w) w) (sym h ∙ cut_at w)
  where
    go : (o : Out Phrase) → Got x (Some f) r ≡ cut o → ⊥
    go (Got y None q) c = cc
    go (Got y (Some g) q) c = cc
    go (Bad None q) c = cc
    go (Bad (Some g) q) c = cc
    go (Deep q) c = cc

pub never_bad_marked : (w f r : List Token) → read_program w ≡ Bad (Some f) r → ⊥
never_bad_marked w f r h = go (by (enough w) w) (sym h ∙ cut_at w)
  where
    go : (o : Out Phrase) → ◌≡◌ {A = Out Phrase} (Bad (Some f) r) (cut o) → ⊥
    go (Got y None q) c = cc
    go (Got y (Some g) q) c = cc
    go (Bad None q) c = cc
    go (Bad (Some g) q) c = cc
    go (Deep q) c = cc

no_token : (t : Token) × (r : List Token) × ([] ≡ t ∷ r) → ⊥
no_token (t, r, h) = cc

pub answered : ParsedIsAnswer
unfolding parsed
answered w i = go (read_program w) refl
  where
    go : (o : Out Phrase) → read_program w ≡ o → (x : Answer) × (answer_of o ≡ Some x) × IsAnswer w x
    go (Got x None []) h = (Program x, refl, found w x h)
    go (Got x None (t ∷ r)) h = (Unexpected t r, refl, more_found w x t r h)
    go (Got x (Some f) r) h = absurd (never_marked w x f r h)
    go (Bad None []) h = absurd (no_token (names_token w [] i h))
    go (Bad None (t ∷ r)) h = (Unexpected t r, refl, unexpected w t r h)
    go (Bad (Some f) r) h = absurd (never_bad_marked w f r h)
    go (Deep []) h = absurd (no_token (names_deep w [] i h))
    go (Deep (t ∷ r)) h = (TooDeep t r, refl, ended_too_deep w t r i h)

-- one answer

deep_once : (w d1 d2 : List Token) → IsDeepFrom w d1 → IsDeepFrom w d2 → d1 ≡ d2
deep_once w d1 d2 (in_program x h) (in_program y k) = some_eq d1 d2 ((one_program w x y (Some d1) (Some d2) h k).1)
deep_once w d1 _ (in_program x h) (before_error f2 b2 t2 r2 none2 e2 g2 long2) = absurd (none2 x (Some d1) h)
deep_once w _ d2 (before_error f1 b1 t1 r1 none1 e1 g1 long1) (in_program y k) = absurd (none1 y (Some d2) k)
deep_once w _ _ (before_error f1 b1 t1 r1 none1 e1 g1 long1) (before_error f2 b2 t2 r2 none2 e2 g2 long2) =
    let one = error_once w b1 t1 r1 b2 t2 r2 e1 e2 in
    let same : f1 ≡ f2 = one_mark b1 f1 f2 g1 (subst (λ u. Begins u (Some f2)) (sym (one.0)) g2) in
    ap (λ f. f ++ t1 ∷ r1) same ∙ ap (λ t. f2 ++ t ∷ r1) (one.1) ∙ ap (λ r. f2 ++ t2 ∷ r) (one.2)

-- a program has no error token and no deep token

program_right : (w : List Token) (x : Phrase) (t : Token) (r : List Token) → IsProgram w x → IsUnexpected w t r → ⊥
program_right w x t r p u = no_error w u.before t r None (programs_begin w x None p.spelled) u.wrong

program_shallow_enough : (w : List Token) (x : Phrase) (d : List Token) → IsProgram w x → IsDeepFrom w d → ⊥
program_shallow_enough w x d p (in_program y k) = none ((p.only y (Some d) k).1)
  where
    none : Some d ≡ None → ⊥
    none h = cc
program_shallow_enough w x _ p (before_error f b t r none e g long) = none x None p.spelled

one_way : (w : List Token) (t : Token) (r : List Token) (k : Token) (q : List Token) → IsUnexpected w t r → IsTooDeep w k q → ⊥
one_way w t r k q u d =
    let le : length (k ∷ q) ≤ length (t ∷ r) = u.first (k ∷ q) d.deep in
    let lt : length (t ∷ r) < length (k ∷ q) = d.first u.before t r u.wrong in
    omega arith

pub one_answer : OneAnswer
one_answer w (Program x) (Program y) p q = ap Program ((q.only x None p.spelled).0)
one_answer w (Program x) (Unexpected t r) p q = absurd (program_right w x t r p q)
one_answer w (Program x) (TooDeep t r) p q = absurd (program_shallow_enough w x (t ∷ r) p q.deep)
one_answer w (Unexpected t r) (Program y) p q = absurd (program_right w y t r q p)
one_answer w (Unexpected t r) (Unexpected k s) p q =
    let one = error_once w p.before t r q.before k s p.wrong q.wrong in
    ap (λ t. Unexpected t r) (one.1) ∙ ap (Unexpected k) (one.2)
one_answer w (Unexpected t r) (TooDeep k s) p q = absurd (one_way w t r k s p q)
one_answer w (TooDeep t r) (Program y) p q = absurd (program_shallow_enough w y (t ∷ r) q p.deep)
one_answer w (TooDeep t r) (Unexpected k s) p q = absurd (one_way w k s t r q p)
one_answer w (TooDeep t r) (TooDeep k s) p q =
    let one = deep_once w (t ∷ r) (k ∷ s) p.deep q.deep in
    ap (λ t. TooDeep t r) (head_of t k r s one) ∙ ap (TooDeep k) (tail_of t k r s one)
