use Rattle.std.proofs.Common.{◌≡◌, ◌≢◌, ℕ, ◌<◌, ap, sym, subst, length, arith, slice_get, Some}
use Rattle.cv_pool.specs.Nodes.{AreDistinct, at, tree_of, EntryBelow}
use Rattle.cv_pool.specs.PoolView.{PoolView}
use Rattle.cv_pool.specs.declared.node.Entry.{Entry}
use Rattle.cv_pool.proofs.Built.{length_trees}
use Rattle.cv_pool.proofs.Distinct.{distinct_append, new_tree, there_tree}
use Rattle.cv_pool.proofs.pool.Pool.node.Goals as goal

pub add-requires-clause-new : goal.add-requires-clause-new
add-requires-clause-new c =
    let cs = c.self.inside.nodes.items in
    let e : Entry = record { kind = c.args.kind; first = c.args.first; second = c.args.second } in
    let trees = sym (ap (λ (v : PoolView). v.trees) c.self.view_is) in
    let count : length c.args.self.now.trees ≡ length cs = omega (arith, ap length trees, length_trees cs) in
    let below : EntryBelow (length cs) e = subst (λ n. EntryBelow n e) count (record { first = c.requires.first; second = c.requires.second }) in
    let none : (k : ℕ) → slice_get cs k ≢ Some e = subst (λ xs. (k : ℕ) → slice_get xs k ≢ Some e) c.as_slice.ensures.value c.in-None.ensures.none in
    subst (λ ts. (n : ℕ) → n < length ts → at ts n ≢ tree_of ts e) (sym trees) (new_tree cs e c.self.invariant.closed c.self.invariant.distinct below none)

pub returns-in-Some-clause-tree : goal.returns-in-Some-clause-tree
returns-in-Some-clause-tree c =
    let cs = c.self.inside.nodes.items in
    let e : Entry = record { kind = c.args.kind; first = c.args.first; second = c.args.second } in
    let trees = sym (ap (λ (v : PoolView). v.trees) c.self.view_is) in
    let some = subst (λ xs. slice_get xs c.in-Some.there.0 ≡ Some e) c.as_slice.ensures.value c.in-Some.ensures.some in
    subst (λ ts. at ts c.in-Some.there.0 ≡ tree_of ts e) (sym trees) (there_tree cs e c.in-Some.there.0 c.self.invariant.closed some)

pub returns-in-None-clause-distinct : goal.returns-in-None-clause-distinct
returns-in-None-clause-distinct c =
    let cs = c.self.inside.nodes.items in
    let e : Entry = record { kind = c.args.kind; first = c.args.first; second = c.args.second } in
    let trees = sym (ap (λ (v : PoolView). v.trees) c.self.view_is) in
    let distinct = subst AreDistinct (sym trees) c.self.invariant.distinct in
    subst AreDistinct (sym c.add.ensures.adds.trees) (distinct_append c.args.self.now.trees (tree_of c.args.self.now.trees e) distinct (add-requires-clause-new c.before))
