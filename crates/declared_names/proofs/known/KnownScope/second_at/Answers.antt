use Rattle.std.proofs.Common.{◌≡◌, ◌<◌, ℕ, Bool, true, false, cond, Some, None, List, length, get_or, take, ap, ◌∙◌, sym, arith}
use Rattle.std.specs.Option.{is_some}
use Rattle.algolw_typing.specs.Names as names
use Rattle.algolw_typing.specs.Naming.{scope_of}
use Rattle.algolw_typing.specs.Scopes as scopes
use Rattle.algolw_tree.specs.Tree.{Placed}
use Rattle.declared_names.specs.KnownView.{entries_of}
use Rattle.declared_names.specs.Seconds.{second_fault}
use Rattle.declared_names.specs.declared.known.Facts.{Facts}
use Rattle.declared_names.proofs.Again.{Entry, as_many, second_is}
use Rattle.declared_names.proofs.Knowing.{Entries}
use Rattle.declared_names.proofs.known.KnownScope.second_at.Goals as goal

-- a position of a scope is one of its names
within : (xs : List Placed) (ks : List Facts) (scope : Entries) (i : ℕ) → length ks ≡ length xs → entries_of xs ks ≡ scope → i < length scope → i < length xs
within xs ks scope i n e l = let m = as_many xs ks n in let k = ap length e in omega arith

there : (xs : List Placed) (ks : List Facts) (scope : Entries) (i : ℕ) (x : Placed) (before : Bool) → length ks ≡ length xs → entries_of xs ks ≡ scope → i < length scope
    → x ≡ get_or xs i x → before ≡ is_some (names.in_scope (scope_of (take i xs)) x.0) → (e : Entry) → second_fault (cond before (Some x.1) None) ≡ scopes.again (take i scope) (get_or scope i e)
there xs ks scope i x before n v l p b e =
    second_is xs ks i x before n (within xs ks scope i n v l) p b e ∙ ap (λ (es : Entries). scopes.again (take i es) (get_or es i e)) v

pub name_at-requires : goal.name_at-requires
name_at-requires c = within c.self.inside.names c.self.inside.facts.items c.args.self.now c.args.position c.self.invariant.each c.self.view_is c.requires

pub returns-then-has_before : goal.returns-then-has_before
returns-then-has_before c =
    there c.self.inside.names c.self.inside.facts.items c.args.self.now c.args.position c.name_at.result.now true c.self.invariant.each c.self.view_is c.requires c.name_at.ensures (sym c.if-has_before.true ∙ c.has_before.ensures)

pub returns-else-has_before : goal.returns-else-has_before
returns-else-has_before c =
    there c.self.inside.names c.self.inside.facts.items c.args.self.now c.args.position c.name_at.result.now false c.self.invariant.each c.self.view_is c.requires c.name_at.ensures (sym c.if-has_before.false ∙ c.has_before.ensures)
