use Rattle.std.proofs.Common.{◌≡◌, ◌-◌, ◌*◌, length, take, sym, ap, ◌∙◌, subst, arith}
use Rattle.std.specs.Prelude.{IsSome}
use Rattle.machine_rows.specs.Contents.{ints_of}
use Rattle.machine_rows.proofs.AssignRows.{is_there}
use Rattle.machine_rows.proofs.Bounded.{bounds_found, bounds_comes, all_ends}
use Rattle.machine_rows.proofs.arrays.bounds.Goals as goal

pub overflow_sub-first : goal.overflow_sub-first
overflow_sub-first g c =
    let s = c.args.state.now in
    let f = bounds_found g.was.0 s g.was.1 c.args.count c.requires.1.1 in
    omega (arith, f.enough, c.live.ensures.count)

pub integers-numbers-requires-clause-most : goal.integers-numbers-requires-clause-most
integers-numbers-requires-clause-most g c =
    let s = c.args.state.now in
    let f = bounds_found g.was.0 s g.was.1 c.args.count c.requires.1.1 in
    omega (arith, f.enough, c.live.ensures.count, c.live.ensures.within)

pub integers-numbers-requires-clause-within : goal.integers-numbers-requires-clause-within
integers-numbers-requires-clause-within g c =
    let s = c.args.state.now in
    let f = bounds_found g.was.0 s g.was.1 c.args.count c.requires.1.1 in
    omega (arith, f.enough, c.live.ensures.count)

pub integers-numbers-requires-clause-integers : goal.integers-numbers-requires-clause-integers
integers-numbers-requires-clause-integers g c =
    let s = c.args.state.now in
    let f = bounds_found g.was.0 s g.was.1 c.args.count c.requires.1.1 in
    let first : c.live.result - 2 * c.args.count ≡ length s.store.cells - 2 * c.args.count = ap (λ n. n - 2 * c.args.count) c.live.ensures.count in
    subst (λ xs. IsSome (ints_of xs)) (sym (all_ends g.was.0 s g.was.1 c.args.count (c.live.result - 2 * c.args.count) f.enough first)) (is_there _ f.integers f.integers_are)

pub returns : goal.returns
returns g c =
    let s = c.args.state.now in
    let f = bounds_found g.was.0 s g.was.1 c.args.count c.requires.1.1 in
    let first : c.live.result - 2 * c.args.count ≡ length s.store.cells - 2 * c.args.count = ap (λ n. n - 2 * c.args.count) c.live.ensures.count in
    bounds_comes g.was.0 s g.was.1 c.args.count (record { count = c.args.count; pairs = c.paired-pairs.result }) c.cut_to.new.self (take (2 * c.args.count) c.integers-numbers.result) c.requires.0 c.requires.1.1
    (c.cut_to.ensures ∙ ap (λ n. record s.store { cells = take n s.store.cells }) first)
    (sym (ap ints_of (all_ends g.was.0 s g.was.1 c.args.count (c.live.result - 2 * c.args.count) f.enough first)) ∙ c.integers-numbers.ensures.integers)
    c.paired-pairs.ensures.pairs c.requires.1.0
