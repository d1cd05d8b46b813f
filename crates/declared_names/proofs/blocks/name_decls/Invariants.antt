use Rattle.std.proofs.Common.{◌≡◌, ◌++◌, drop, map}
use Rattle.algolw_tree.specs.Grammar.{decls_of}
use Rattle.algolw_tree.specs.View.{decl_tree}
use Rattle.algolw_typing.specs.Scopes as scopes
use Rattle.declared_names.proofs.blocks.name_decls.Given as goal

-- what is declared and what is left are all
abbrev pub invariant-loop-decl : goal.invariant-loop-decl
invariant-loop-decl l = l.scope ++ scopes.names_of_decls (decls_of (map decl_tree (drop l.decl-index l.decls))) ≡ l.fn.scope ++ scopes.names_of_decls (decls_of (map decl_tree l.decls))
