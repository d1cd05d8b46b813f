-- What the chains have for a window, job by job.
use Rattle.std.proofs.Common.{◌≡◌, ℕ, zero, suc, ◌+◌, ◌<◌, ◌==◌, Bool, true, false, cond, List, [], ◌∷◌, ◌++◌, Option, Some, codes, decimal, length, drop, get_or, replicate, slice_get, take, refl, sym, ap, ◌∙◌, arith, subst, append_assoc, append-nil}
use Rattle.std.specs.Borrow.{Bor}
use Rattle.std.specs.Io.KnownBytes.{Appends}
use Rattle.std.specs.declared.alloc.Global.{Global}
use Rattle.std.specs.declared.vec.Vec.{Vec}
use Rattle.std.proofs.KnownBytes.{Appends-nil, Appends-trans}
use Rattle.std.proofs.Math.ListN.{set}
use Rattle.std.proofs.Math.Seq.{drop-cons, take-append_seam}
use Rattle.std.proofs.lemmas.Bool.Decides.{Decides-eqb}
use Rattle.std.proofs.lemmas.List.{drop-drop, get_or-set_same, get_or-set_other, length-drop, length-map}
use Rattle.std.proofs.lemmas.Option.{get_or_from_slice_get, slice_get_within}
use Rattle.deck_reader.specs.declared.batch.Flaw.{Flaw}
use Rattle.deck_reader.specs.Flaws.{flaw_number, flaw_text}
use Rattle.night_merge.specs.declared.plan.Entry.{Entry}
use Rattle.night_merge.specs.declared.plan.Entry.TheVariants.{Job, Refused}
use Rattle.night_merge.specs.Entries.{AreBelow, count_of, is_below}
use Rattle.night_merge.specs.Joining.{first_of, joined, left_by, others_of, refused_rest, rest_by}
use Rattle.night_merge.specs.Supplies.{AreEnough, HasNext, HasRests, Supplies}
use Rattle.night_merge.specs.Texts.{numbered}
use Rattle.night_merge.specs.Writing.{AppendsPrefix}
use Rattle.night_merge.proofs.Numbers.{shown}
use Rattle.night_merge.proofs.Written.{prefix_more, prefix_written}

shown_at : (items : List (Bor (List ℕ))) (at : ℕ) (d : Bor (List ℕ)) → at < length items → get_or (shown items) at d.now ≡ (get_or items at d).now
shown_at [] at d within = absurd (omega arith)
shown_at (x ∷ items) zero d within = refl
shown_at (x ∷ items) (suc at) d within = shown_at items at d (omega arith)

first_is : (l xs : List (List ℕ)) (x : List ℕ) → x ∷ xs ≡ l → x ≡ first_of l
first_is [] xs x e = absurd (cc e)
first_is (y ∷ l) xs x e = cc e

-- the next one of a chain, behind so many
pub next_is : (supply : ℕ → List (List ℕ)) (owns : List (Vec (Bor (List ℕ)) Global)) (taken : List ℕ) (chain at : ℕ) (own : Vec (Bor (List ℕ)) Global) (rest : Bor (List ℕ)) → Supplies supply owns taken
    → slice_get owns chain ≡ Some own → get_or taken chain 0 ≡ at → slice_get own.items at ≡ Some rest → rest.now ≡ first_of (supply chain)
next_is supply owns taken chain at own rest s o t r =
    let within : at < length own.items = slice_get_within own.items at rest r in
    let has : drop at (shown own.items) ≡ supply chain = ap (λ (n : ℕ). drop n (shown own.items)) (sym t) ∙ s chain own o in
    let here : get_or (shown own.items) at rest.now ≡ rest.now = shown_at own.items at rest within ∙ ap (λ (b : Bor (List ℕ)). b.now) (get_or_from_slice_get own.items at rest rest r) in
    let cut : drop at (shown own.items) ≡ get_or (shown own.items) at rest.now ∷ drop (suc at) (shown own.items) = drop-cons (shown own.items) at rest.now (omega (arith, within, length-map own.items (λ (b : Bor (List ℕ)). b.now))) in
    first_is (supply chain) (drop (suc at) (shown own.items)) rest.now (ap (λ (l : List ℕ). l ∷ drop (suc at) (shown own.items)) (sym here) ∙ sym cut ∙ has)

-- there is one
pub next_there : (supply : ℕ → List (List ℕ)) (owns : List (Vec (Bor (List ℕ)) Global)) (taken : List ℕ) (chain at : ℕ) (own : Vec (Bor (List ℕ)) Global) → Supplies supply owns taken
    → slice_get owns chain ≡ Some own → get_or taken chain 0 ≡ at → 0 < length (supply chain) → at < length own.items
next_there supply owns taken chain at own s o t some =
    let has : drop at (shown own.items) ≡ supply chain = ap (λ (n : ℕ). drop n (shown own.items)) (sym t) ∙ s chain own o in
    omega (arith, some, ap (λ (l : List (List ℕ)). length l) has, length-drop at (shown own.items), length-map own.items (λ (b : Bor (List ℕ)). b.now))

one_dropped : (l : List (List ℕ)) → drop 1 l ≡ others_of l
one_dropped [] = refl
one_dropped (x ∷ l) = refl

drop_more : (at : ℕ) (l : List (List ℕ)) → drop (at + 1) l ≡ others_of (drop at l)
drop_more at l = sym (drop-drop 1 at l) ∙ one_dropped (drop at l)

taken_by : (supply : ℕ → List (List ℕ)) (owns : List (Vec (Bor (List ℕ)) Global)) (taken : List ℕ) (chain at c : ℕ) (own : Vec (Bor (List ℕ)) Global) (v : Bool) → (chain == c) ≡ v
    → chain < length taken → get_or taken chain 0 ≡ at → drop (get_or taken c 0) (shown own.items) ≡ supply c
    → drop (get_or (set taken chain (at + 1)) c 0) (shown own.items) ≡ cond v (others_of (supply c)) (supply c)
taken_by supply owns taken chain at c own true e within t s =
    let same : chain ≡ c = (Decides-eqb chain c).0 e in
    let now : get_or (set taken chain (at + 1)) c 0 ≡ at + 1 = ap (λ (n : ℕ). get_or (set taken chain (at + 1)) n 0) (sym same) ∙ get_or-set_same taken chain (at + 1) 0 within in
    let was : get_or taken c 0 ≡ at = ap (λ (n : ℕ). get_or taken n 0) (sym same) ∙ t in
    ap (λ (n : ℕ). drop n (shown own.items)) now ∙ drop_more at (shown own.items) ∙ ap (λ (n : ℕ). others_of (drop n (shown own.items))) (sym was) ∙ ap others_of s
taken_by supply owns taken chain at c own false e within t s =
    let other : c ≡ chain → ⊥ = λ same. let both : (chain == c) ≡ true = (Decides-eqb chain c).1 (sym same) in cc (both, e) in
    ap (λ (n : ℕ). drop n (shown own.items)) (get_or-set_other taken chain c (at + 1) 0 other) ∙ s

-- behind it the chain has the others
pub supplies_more : (supply : ℕ → List (List ℕ)) (owns : List (Vec (Bor (List ℕ)) Global)) (taken : List ℕ) (chain at : ℕ) → Supplies supply owns taken → chain < length taken → get_or taken chain 0 ≡ at
    → Supplies (left_by supply (Job chain)) owns (set taken chain (at + 1))
supplies_more supply owns taken chain at s within t = λ c own o. taken_by supply owns taken chain at c own (chain == c) refl within t (s c own o)

-- ---- as many as there are jobs

fewer : (xs : List (List ℕ)) (n : ℕ) → length xs ≡ n + 1 → length (others_of xs) ≡ n
fewer [] n e = absurd (omega (arith, e))
fewer (x ∷ xs) n e = omega (arith, e)

enough_by : (v : Bool) (xs : List (List ℕ)) (n : ℕ) → length xs ≡ cond v (n + 1) n → length (cond v (others_of xs) xs) ≡ n
enough_by true xs n e = fewer xs n e
enough_by false xs n e = e

pub enough_more : (chains : ℕ) (supply : ℕ → List (List ℕ)) (entry : Entry) (entries : List Entry) → AreEnough chains supply (entry ∷ entries) → AreEnough chains (left_by supply entry) entries
enough_more chains supply (Job chain) entries enough = λ c below. enough_by (chain == c) (supply c) (count_of c entries) (enough c below)
enough_more chains supply (Refused flaw name account_name) entries enough = λ c below. enough c below

pub enough_now : (chains : ℕ) (supply : ℕ → List (List ℕ)) (entry : Entry) (entries : List Entry) → is_below chains entry → AreEnough chains supply (entry ∷ entries) → HasNext chains supply entry
enough_now chains supply (Job chain) entries below enough =
    let self : (chain == chain) ≡ true = (Decides-eqb chain chain).1 refl in
    let many : length (supply chain) ≡ cond (chain == chain) (count_of chain entries + 1) (count_of chain entries) = enough chain below in
    (below, omega (arith, many ∙ ap (λ (v : Bool). cond v (count_of chain entries + 1) (count_of chain entries)) self))
enough_now chains supply (Refused flaw name account_name) entries below enough = tt

-- ---- sections that are written one after the other

-- the sections of so many jobs are written; those of the others are made of what the chains still have
pub record StillJoining (owns : List (Vec (Bor (List ℕ)) Global)) (taken : List ℕ) (left : List Entry) (number : ℕ) (old new : Option (List ℕ)) (whole : List ℕ) : Type 0 where
  pub supply : ℕ → List (List ℕ)
  pub done : List ℕ
  pub has : Supplies supply owns taken
  pub below : AreBelow (length owns) left
  pub enough : AreEnough (length owns) supply left
  pub wrote : Appends old new done
  pub all : done ++ joined number supply left ≡ whole

abbrev pub zeros : ℕ → List ℕ
zeros n = replicate n 0

none_taken : (n c : ℕ) → get_or (zeros n) c 0 ≡ 0
none_taken zero c = refl
none_taken (suc n) zero = refl
none_taken (suc n) (suc c) = none_taken n c

pub joining_begins : (supply : ℕ → List (List ℕ)) (owns : List (Vec (Bor (List ℕ)) Global)) (taken : List ℕ) (n : ℕ) (entries : List Entry) (number : ℕ) (known : Option (List ℕ))
    → taken ≡ zeros n → HasRests supply owns → AreBelow (length owns) entries → AreEnough (length owns) supply entries
    → StillJoining owns taken entries number known known (joined number supply entries)
joining_begins supply owns taken n entries number known e has below enough = record {
  supply = supply;
  done = [];
  has = λ c own o. ap (λ (k : ℕ). drop k (shown own.items)) (ap (λ (l : List ℕ). get_or l c 0) e ∙ none_taken n c) ∙ has c own o;
  below = below;
  enough = enough;
  wrote = Appends-nil known;
  all = refl;
}

-- a job more
pub joining_more : (owns : List (Vec (Bor (List ℕ)) Global)) (taken grown : List ℕ) (entry : Entry) (left : List Entry) (number : ℕ) (old new behind : Option (List ℕ)) (whole section : List ℕ)
    → (s : StillJoining owns taken (entry ∷ left) number old new whole) → section ≡ numbered number (rest_by s.supply entry) → Supplies (left_by s.supply entry) owns grown → Appends new behind section
    → StillJoining owns grown left (number + 1) old behind whole
joining_more owns taken grown entry left number old new behind whole section s is has more = record {
  supply = left_by s.supply entry;
  done = s.done ++ section;
  has = has;
  below = s.below.1;
  enough = enough_more (length owns) s.supply entry left s.enough;
  wrote = Appends-trans old new behind s.done section s.wrote more;
  all = append_assoc s.done section (joined (number + 1) (left_by s.supply entry) left)
      ∙ ap (λ (l : List ℕ). s.done ++ (l ++ joined (number + 1) (left_by s.supply entry) left)) is
      ∙ s.all;
}

-- all are written
pub joining_ends : (owns : List (Vec (Bor (List ℕ)) Global)) (taken : List ℕ) (left : List Entry) (number : ℕ) (old new : Option (List ℕ)) (whole : List ℕ)
    → left ≡ [] → StillJoining owns taken left number old new whole → Appends old new whole
joining_ends owns taken left number old new whole none s =
    let appends : List ℕ → Type 0 = λ bytes. Appends old new bytes in
    subst appends (sym (append-nil s.done) ∙ ap (λ (l : List Entry). s.done ++ joined number s.supply l) (sym none) ∙ s.all) s.wrote

-- what is written is a front
pub joining_cut : (owns : List (Vec (Bor (List ℕ)) Global)) (taken : List ℕ) (left : List Entry) (number : ℕ) (old new : Option (List ℕ)) (whole : List ℕ)
    → StillJoining owns taken left number old new whole → AppendsPrefix old new whole
joining_cut owns taken left number old new whole s = prefix_written old new whole (joined number s.supply left) (record { done = s.done; wrote = s.wrote; whole = s.all })

-- so it is with a front of a section more
pub joining_cut_more : (owns : List (Vec (Bor (List ℕ)) Global)) (taken : List ℕ) (entry : Entry) (left : List Entry) (number : ℕ) (old new behind : Option (List ℕ)) (whole section : List ℕ)
    → (s : StillJoining owns taken (entry ∷ left) number old new whole) → section ≡ numbered number (rest_by s.supply entry) → AppendsPrefix new behind section → AppendsPrefix old behind whole
joining_cut_more owns taken entry left number old new behind whole section s is more =
    let rest = joined (number + 1) (left_by s.supply entry) left in
    prefix_more old new behind whole section rest
    (record { done = s.done; wrote = s.wrote; whole = ap (λ (l : List ℕ). s.done ++ (l ++ rest)) is ∙ s.all }) more

pub joining_same : (owns : List (Vec (Bor (List ℕ)) Global)) (taken taken' : List ℕ) (left : List Entry) (number : ℕ) (old new : Option (List ℕ)) (whole : List ℕ) → taken' ≡ taken
    → StillJoining owns taken left number old new whole → StillJoining owns taken' left number old new whole
joining_same owns taken taken' left number old new whole e s =
    let P : List ℕ → Type 0 = λ t. StillJoining owns t left number old new whole in
    subst P (sym e) s

-- the job of this number comes next
pub joining_at : (owns : List (Vec (Bor (List ℕ)) Global)) (taken taken' : List ℕ) (entries : List Entry) (at : ℕ) (entry : Entry) (number : ℕ) (old new : Option (List ℕ)) (whole : List ℕ) → taken' ≡ taken
    → at < length entries → entry ≡ get_or entries at entry → StillJoining owns taken (drop at entries) number old new whole → StillJoining owns taken' (entry ∷ drop (at + 1) entries) number old new whole
joining_at owns taken taken' entries at entry number old new whole e within is s =
    let next : suc at ≡ at + 1 = omega arith in
    let P : List Entry → Type 0 = λ l. StillJoining owns taken' l number old new whole in
    subst P (drop-cons entries at entry within ∙ ap (λ (x : Entry). x ∷ drop (suc at) entries) (sym is) ∙ ap (λ (n : ℕ). entry ∷ drop n entries) next)
    (joining_same owns taken taken' (drop at entries) number old new whole e s)

-- a slice that was written takes the place of what the vector had
pub written_back : (new items : List ℕ) (n : ℕ) → n ≡ length new → take n (new ++ drop (length new) items) ≡ new
written_back new items n e = ap (λ (k : ℕ). take k (new ++ drop (length new) items)) e ∙ take-append_seam new (drop (length new) items)

pub joining_number : (owns : List (Vec (Bor (List ℕ)) Global)) (taken : List ℕ) (left : List Entry) (number number' : ℕ) (old new : Option (List ℕ)) (whole : List ℕ) → number ≡ number'
    → StillJoining owns taken left number old new whole → StillJoining owns taken left number' old new whole
joining_number owns taken left number number' old new whole e s =
    let P : ℕ → Type 0 = λ n. StillJoining owns taken left n old new whole in
    subst P e s

-- the section of a refused job, written piece by piece
pub pushed_refused : (o o1 o2 o3 o4 o5 o6 o7 o8 o9 name account_name text : List ℕ) (number : ℕ) (flaw : Flaw) → number ≡ flaw_number flaw → text ≡ flaw_text flaw → o1 ≡ o ++ 32 ∷ [] → o2 ≡ o1 ++ name
    → o3 ≡ o2 ++ 32 ∷ [] → o4 ≡ o3 ++ account_name → o5 ≡ o4 ++ codes "\nREFUSED " → o6 ≡ o5 ++ decimal number → o7 ≡ o6 ++ codes ": " → o8 ≡ o7 ++ text → o9 ≡ o8 ++ 10 ∷ []
    → o9 ≡ o ++ refused_rest flaw name account_name
pushed_refused o o1 o2 o3 o4 o5 o6 o7 o8 o9 name account_name text number flaw n t e1 e2 e3 e4 e5 e6 e7 e8 e9 = simp (e9, e8, e7, e6, e5, e4, e3, e2, e1, n, t, append_assoc)
