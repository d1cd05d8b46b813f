-- The chain of pieces.
use Rattle.std.proofs.Common.{◌≡◌, ℕ, ◌<◌, List, [], ◌∷◌, ◌++◌, length, Bool, true, false, cond, refl, sym, ◌∙◌, ap, subst, arith, append_assoc, length-append, ◌&&◌}
use Rattle.algolw_tree.specs.declared.tokens.Token.{Token}
use Rattle.value_ops.specs.declared.places.Place.{Place}
use Rattle.value_ops.specs.declared.places.Diagnostic.{Diagnostic}
use Rattle.algolw_tree.specs.declared.tokens.TokenKind.{TokenKind}
use Rattle.algolw_tree.specs.declared.tokens.TokenKind.TheVariants.{Finish, Named, Word as AWord}
use Rattle.algolw_scanner.specs.declared.cursor.Cursor.{Cursor}
use Rattle.algolw_tree.specs.Tokens.{text, origin, walk, Piece, Separator, OfKind, Reads, ReadsNothing, IsFront, Gives, Stops, finish, skip, token, here, later, kept, is_name, is_end, fault}
use Rattle.algolw_scanner.specs.Cursors.{text_at, Sound}
use Rattle.algolw_scanner.specs.Scans.{kept_one}

pub record Kept (start : Cursor) (tokens : List Token) (after_end : Bool) (cursor : Cursor) : Type 0 where
  pub gives : (all : List Token) → Gives cursor.place (text_at cursor) all → (whole : List Token) × Gives start.place (text_at start) whole × (tokens ++ kept after_end all ≡ kept false whole)
  pub stops : (d : Diagnostic) → Stops cursor.place (text_at cursor) d → Stops start.place (text_at start) d
  pub sound : Sound cursor

pub kept_skip : (s c n : Cursor) (ts : List Token) (e : Bool) → Kept s ts e c → (u : List ℕ) × Reads (text_at c) u Separator (text_at n) × (n.place ≡ walk c.place u) × Sound n → Kept s ts e n
kept_skip s c n ts e h (u, r, p, f) = record {
  gives = λ all g. h.gives all (skip u (text_at n) r (subst (λ q. Gives q (text_at n) all) p g));
  stops = λ d g. h.stops d (later u Separator (text_at n) r (subst (λ q. Stops q (text_at n) d) p g));
  sound = f;
}

kept_cons : (e b : Bool) (t : Token) (ts all : List Token) → is_end t.kind ≡ b → (d : Bool) → is_name t.kind ≡ d → (d ≡ true → b ≡ false) → (ts ++ cond (e && d) [] (t ∷ [])) ++ kept b all ≡ ts ++ cond (e && d) (kept false all) (t ∷ kept b all)
kept_cons e b t ts all f true g h = go e (h refl)
  where
    go : (e : Bool) → b ≡ false → (ts ++ cond (e && true) [] (t ∷ [])) ++ kept b all ≡ ts ++ cond (e && true) (kept false all) (t ∷ kept b all)
    go true k = append_assoc ts [] (kept b all) ∙ ap (λ x. ts ++ kept x all) k
    go false k = append_assoc ts (t ∷ []) (kept b all)
kept_cons true b t ts all f false g h = append_assoc ts (t ∷ []) (kept b all)
kept_cons false b t ts all f false g h = append_assoc ts (t ∷ []) (kept b all)

name_no_end : (k : TokenKind) → is_name k ≡ true → is_end k ≡ false
name_no_end (Named n) e = refl
name_no_end (AWord w) e = absurd (cc)
name_no_end _ e = refl

pub kept_token : (s c n : Cursor) (ts : List Token) (e : Bool) (k : TokenKind) → Kept s ts e c → (u : List ℕ) × Reads (text_at c) u (OfKind k) (text_at n) × (n.place ≡ walk c.place u) × Sound n → Kept s (ts ++ kept_one e (record { place = c.place; kind = k })) (is_end k) n
kept_token s c n ts e k h (u, r, p, f) = record {
  gives = λ all g. one all (h.gives (record { place = c.place; kind = k } ∷ all) (token k u (text_at n) r (subst (λ q. Gives q (text_at n) all) p g)));
  stops = λ d g. h.stops d (later u (OfKind k) (text_at n) r (subst (λ q. Stops q (text_at n) d) p g));
  sound = f;
}
  where
    one : (all : List Token) → (whole : List Token) × Gives s.place (text_at s) whole × (ts ++ kept e (record { place = c.place; kind = k } ∷ all) ≡ kept false whole) → (whole : List Token) × Gives s.place (text_at s) whole × ((ts ++ kept_one e (record { place = c.place; kind = k })) ++ kept (is_end k) all ≡ kept false whole)
    one all (w, g, q) = (w, g, kept_cons e (is_end k) (record { place = c.place; kind = k }) ts all refl (is_name k) refl (name_no_end k) ∙ q)

pub kept_finish : (s c : Cursor) (ts : List Token) (e : Bool) (p : Place) → Kept s ts e c → (u : List ℕ) × Reads (text_at c) u Separator [] × (p ≡ walk c.place u) → (all : List Token) × Gives s.place (text_at s) all × (ts ++ kept_one e (record { place = p; kind = Finish }) ≡ kept false all)
kept_finish s c ts e p h (u, r, q) = one e (h.gives (record { place = p; kind = Finish } ∷ []) (skip u [] r (subst (λ x. Gives x [] (record { place = p; kind = Finish } ∷ [])) q finish)))
  where
    one : (e : Bool) → (all : List Token) × Gives s.place (text_at s) all × (ts ++ kept e (record { place = p; kind = Finish } ∷ []) ≡ kept false all) → (all : List Token) × Gives s.place (text_at s) all × (ts ++ kept_one e (record { place = p; kind = Finish }) ≡ kept false all)
    one true x = x
    one false x = x

diagnostic_is : (d : Diagnostic) (n : ℕ) (p : Place) → d.number ≡ n → d.place ≡ p → record { number = n; place = p } ≡ d
diagnostic_is d n p e f = λ i. record { number = sym e i; place = sym f i }

stops_here : (p : Place) (rest : List ℕ) (d : Diagnostic) → 0 < length rest → ReadsNothing rest → d.number ≡ fault rest → d.place ≡ p → Stops p rest d
stops_here p [] d e n f g = absurd (omega arith)
stops_here p (c ∷ rest) d e n f g = subst (λ x. Stops p (c ∷ rest) x) (diagnostic_is d (fault (c ∷ rest)) p f g) (here n)

pub kept_fault : (s c : Cursor) (ts : List Token) (e : Bool) (d : Diagnostic) → Kept s ts e c → ReadsNothing (text_at c) × (d.number ≡ fault (text_at c)) × (d.place ≡ c.place) → Stops s.place (text_at s) d
kept_fault s c ts e d h (n, f, g) = h.stops d (stops_here c.place (text_at c) d (omega (arith, length-append c.line.now (10 ∷ text c.later.now))) n f g)

pub front_nonempty : (u w : List ℕ) (x : Piece) → IsFront u w x → 0 < length u
front_nonempty [] w x h = absurd h
front_nonempty (c ∷ u) w x h = omega arith

pub kept_as : (s n : Cursor) (a b : List Token) (d e : Bool) → a ≡ b → d ≡ e → Kept s b e n → Kept s a d n
kept_as s n a b d e f g h = subst (λ x. Kept s x d n) (sym f) (subst (λ x. Kept s b x n) (sym g) h)

pub finish_as : (s : Cursor) (a b : List Token) → a ≡ b → (all : List Token) × Gives s.place (text_at s) all × (b ≡ kept false all) → (all : List Token) × Gives s.place (text_at s) all × (a ≡ kept false all)
finish_as s a b f (all, g, h) = (all, g, f ∙ h)

pub empty_says : (cards : List (List ℕ)) (last : Token) (new : List Token) → length cards < 1 → last ≡ record { place = origin; kind = Finish } → new ≡ last ∷ [] → (all : List Token) × Gives origin (text cards) all × (new ≡ kept false all)
empty_says [] last new l e f = (record { place = origin; kind = Finish } ∷ [], finish, f ∙ ap (λ t. t ∷ []) e)
empty_says (c ∷ cards) last new l e f = absurd (omega arith)
