-- What is found of the bounds and the declarations of a block, as the rules see it.
use Rattle.std.specs.Prelude.{◌≡◌, ◌++◌, List, [], map}
use Rattle.value_ops.specs.declared.places.Diagnostic.{Diagnostic}
use Rattle.algolw_tree.specs.Tree as tree
use Rattle.algolw_typing.specs.Naming.{Naming}
use Rattle.algolw_typing.specs.Scopes.{Scopes}
use Rattle.algolw_typing.specs.Typing.{BoundsOut, DeclOut, typed_bounds}
use Rattle.typed_findings.specs.ClassView.{class_view}
use Rattle.typed_findings.specs.Findings.{Found, finding_view, found_of_bounds, found_of_decl}
use Rattle.typed_findings.specs.declared.findings.Log.{Log}
use Rattle.declared_names.specs.declared.blocks.Bounds.{Bounds}

-- what is found of bounds, in them and of the phrases in them
pub record BoundsFound : Type 0 where
  pub inside : List Diagnostic
  pub findings : List Found

abbrev pub bounds_found : BoundsOut → BoundsFound
bounds_found o = record { inside = o.inside; findings = found_of_bounds o.bounds }

abbrev pub bounds_view : Bounds → BoundsFound
bounds_view b = record { inside = b.faults.now; findings = map finding_view b.findings.now }

-- the names and the record classes in them
abbrev pub bounds_notes : Bounds → Naming
bounds_notes b = record { names = b.names.now; classes = map class_view b.classes.now }

-- of the bounds of a declaration, which none but an array's has
abbrev pub decl_bounds : Scopes → tree.Decl → BoundsFound
decl_bounds around (tree.Array spec xs bounds) = bounds_found (typed_bounds around bounds)
decl_bounds around d = record { inside = []; findings = [] }

-- of the bounds of each declaration
abbrev pub each_bounds : Scopes → List tree.Decl → List BoundsFound
each_bounds around ds = map (decl_bounds around) ds

-- the faults and the findings that a declaration adds
pub record DeclFound (old new : Log) (o : DeclOut) : Type 0 where
  pub faults : new.faults.items ≡ old.faults.items ++ o.inside
  pub findings : map finding_view new.findings.items ≡ map finding_view old.findings.items ++ found_of_decl o.decl
