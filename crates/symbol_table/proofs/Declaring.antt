-- Steps of the loops that declare.
use Rattle.std.proofs.Common.{◌≡◌, ℕ, suc, ◌+◌, ◌-◌, ◌<◌, ◌≤◌, List, [], ◌∷◌, ◌++◌, length, drop, Option, sym, ap, ◌∙◌, arith, slice_index_or, append_assoc}
use Rattle.std.specs.List.{All}
use Rattle.std.proofs.Math.Seq.{drop-cons}
use Rattle.std.proofs.lemmas.List.{append-nil}
use Rattle.std.proofs.lemmas.List.Elements.{All-cons, All-head, All-nil, All-tail}
use Rattle.value_ops.specs.declared.values.ClassId.{ClassId}
use Rattle.value_ops.specs.declared.values.SimpleType.{SimpleType}
use Rattle.stack_code.specs.declared.heads.Formal.{Formal}
use Rattle.symbol_table.specs.declared.standings.Standing.{Standing}
use Rattle.symbol_table.specs.Standings.{Names, TableView}
use Rattle.symbol_table.specs.Symbols.{SymbolsView}

-- ---- lists

-- the next element of a list, in front of those behind it
pub next_out : {X : Type 0} (xs : List X) (i : ℕ) (x : X) → i < length xs → x ≡ slice_index_or xs i x → drop i xs ≡ x ∷ drop (i + 1) xs
next_out xs i x l e =
    let more : suc i ≡ i + 1 = omega arith in
    drop-cons xs i x l ∙ ap (λ y. y ∷ drop (suc i) xs) (sym e) ∙ ap (λ n. x ∷ drop n xs) more

-- the last element before the i-th, in front of those from there on
pub last_out : {X : Type 0} (xs : List X) (i : ℕ) (x : X) → 0 < i → i ≤ length xs → x ≡ slice_index_or xs (i - 1) x → drop (i - 1) xs ≡ x ∷ drop i xs
last_out xs i x some l e =
    let inside : i - 1 < length xs = omega arith in
    let back : (i - 1) + 1 ≡ i = omega arith in
    next_out xs (i - 1) x inside e ∙ ap (λ n. x ∷ drop n xs) back

-- of a list in two parts, each part
pub All-left : {X : Type 0} (P : X → Type 0) (xs ys : List X) → All P (xs ++ ys) → All P xs
All-left P [] ys a = All-nil P
All-left P (x ∷ xs) ys a = All-cons P x xs (All-head P x (xs ++ ys) a) (All-left P xs ys (All-tail P x (xs ++ ys) a))

pub All-right : {X : Type 0} (P : X → Type 0) (xs ys : List X) → All P (xs ++ ys) → All P ys
All-right P [] ys a = a
All-right P (x ∷ xs) ys a = All-right P xs ys (All-tail P x (xs ++ ys) a)

-- ---- what is declared

-- a name more
pub one_declared : (t u : TableView) (fields : List SimpleType) (formals : List Formal) (classes : List (Option ClassId)) (s : SymbolsView) (names : Names) (x : ℕ × Standing) → u ≡ record t { names = x ∷ t.names } → ◌≡◌ {A = SymbolsView} (record { names = t.names; count = t.count; fields = fields; formals = formals; classes = classes }) (record s { names = names }) → ◌≡◌ {A = SymbolsView} (record { names = u.names; count = u.count; fields = fields; formals = formals; classes = classes }) (record s { names = x ∷ names })
one_declared t u fields formals classes s names x e h =
    ap (λ (v : TableView). let w : SymbolsView = record { names = v.names; count = v.count; fields = fields; formals = formals; classes = classes } in w) e
    ∙ ap (λ (v : SymbolsView). let w : SymbolsView = record v { names = x ∷ v.names } in w) h

-- the same names, in another form
pub named_as : (s v : SymbolsView) (names more : Names) → names ≡ more → v ≡ record s { names = names } → v ≡ record s { names = more }
named_as s v names more e h = h ∙ ap (λ (n : Names). let w : SymbolsView = record s { names = n } in w) e

-- names more
pub more_declared : (s v w : SymbolsView) (names : Names) (f : Names → Names) → w ≡ record v { names = f v.names } → v ≡ record s { names = names } → w ≡ record s { names = f names }
more_declared s v w names f e h = e ∙ ap (λ (t : SymbolsView). let u : SymbolsView = record t { names = f t.names } in u) h

-- ---- what is added

pub fields_added : (s t whole : SymbolsView) (new rest all : List SimpleType) → all ≡ new ++ rest → record s { fields = s.fields ++ all } ≡ whole → t ≡ record s { fields = s.fields ++ new } → record t { fields = t.fields ++ rest } ≡ whole
fields_added s t whole new rest all e h is =
    ap (λ (v : SymbolsView). let w : SymbolsView = record v { fields = v.fields ++ rest } in w) is
    ∙ ap (λ (xs : List SimpleType). let w : SymbolsView = record s { fields = xs } in w) (append_assoc s.fields new rest ∙ ap (λ xs. s.fields ++ xs) (sym e))
    ∙ h

pub fields_done : (s whole : SymbolsView) (rest : List SimpleType) → rest ≡ [] → record s { fields = s.fields ++ rest } ≡ whole → s ≡ whole
fields_done s whole rest e h = ap (λ (xs : List SimpleType). let w : SymbolsView = record s { fields = xs } in w) (sym (append-nil s.fields) ∙ ap (λ xs. s.fields ++ xs) (sym e)) ∙ h

pub formals_added : (s t whole : SymbolsView) (new rest all : List Formal) → all ≡ new ++ rest → record s { formals = s.formals ++ all } ≡ whole → t ≡ record s { formals = s.formals ++ new } → record t { formals = t.formals ++ rest } ≡ whole
formals_added s t whole new rest all e h is =
    ap (λ (v : SymbolsView). let w : SymbolsView = record v { formals = v.formals ++ rest } in w) is
    ∙ ap (λ (xs : List Formal). let w : SymbolsView = record s { formals = xs } in w) (append_assoc s.formals new rest ∙ ap (λ xs. s.formals ++ xs) (sym e))
    ∙ h

pub formals_done : (s whole : SymbolsView) (rest : List Formal) → rest ≡ [] → record s { formals = s.formals ++ rest } ≡ whole → s ≡ whole
formals_done s whole rest e h = ap (λ (xs : List Formal). let w : SymbolsView = record s { formals = xs } in w) (sym (append-nil s.formals) ∙ ap (λ xs. s.formals ++ xs) (sym e)) ∙ h

pub parts_added : (s t whole : SymbolsView) (new rest all : List SimpleType) (news rests alls : List Formal) → all ≡ new ++ rest → alls ≡ news ++ rests → record s { fields = s.fields ++ all; formals = s.formals ++ alls } ≡ whole → t ≡ record s { fields = s.fields ++ new; formals = s.formals ++ news } → record t { fields = t.fields ++ rest; formals = t.formals ++ rests } ≡ whole
parts_added s t whole new rest all news rests alls e f h is =
    ap (λ (v : SymbolsView). let w : SymbolsView = record v { fields = v.fields ++ rest; formals = v.formals ++ rests } in w) is
    ∙ ap (λ (xs : List SimpleType). let w : SymbolsView = record s { fields = xs; formals = (s.formals ++ news) ++ rests } in w) (append_assoc s.fields new rest ∙ ap (λ xs. s.fields ++ xs) (sym e))
    ∙ ap (λ (xs : List Formal). let w : SymbolsView = record s { fields = s.fields ++ all; formals = xs } in w) (append_assoc s.formals news rests ∙ ap (λ xs. s.formals ++ xs) (sym f))
    ∙ h

pub parts_done : (s whole : SymbolsView) (rest : List SimpleType) (rests : List Formal) → rest ≡ [] → rests ≡ [] → record s { fields = s.fields ++ rest; formals = s.formals ++ rests } ≡ whole → s ≡ whole
parts_done s whole rest rests e f h =
    ap (λ (xs : List SimpleType). let w : SymbolsView = record s { fields = xs } in w) (sym (append-nil s.fields) ∙ ap (λ xs. s.fields ++ xs) (sym e))
    ∙ ap (λ (xs : List Formal). let w : SymbolsView = record s { fields = s.fields ++ rest; formals = xs } in w) (sym (append-nil s.formals) ∙ ap (λ xs. s.formals ++ xs) (sym f)) ∙ h
