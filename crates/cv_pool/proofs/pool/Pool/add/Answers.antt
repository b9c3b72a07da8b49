use Rattle.std.proofs.Common.{◌≡◌, ◌≢◌, ℕ, ◌+◌, ◌<◌, ◌++◌, ◌∷◌, [], ap, sym, ◌∙◌, subst, length, length-append, arith}
use Rattle.std.specs.Result.{is_ok}
use Rattle.std.specs.Prelude.{if◌then◌else◌}
use Rattle.cv_pool.specs.Chain.{IsChained}
use Rattle.cv_pool.specs.Nodes.{AreDistinct, at, built, tree_of, EntryBelow, IsClosed}
use Rattle.cv_pool.specs.PoolView.{PoolView}
use Rattle.cv_pool.proofs.Built.{IsClosed_append, length_trees}
use Rattle.cv_pool.proofs.Distinct.{distinct_more}
use Rattle.cv_pool.proofs.pool.Pool.add.Goals as goal

pub invariant_of-self : goal.invariant_of-self
invariant_of-self c =
    let cs = c.self.inside.nodes.items in
    let e = c.args.entry in
    let was = c.self.invariant in
    let trees = sym (ap (λ (v : PoolView). v.trees) c.self.view_is) in
    let items : c.push.new.self.items ≡ cs ++ e ∷ [] = c.push.ensures.items ∙ ap (λ r. if is_ok r then cs ++ e ∷ [] else cs) c.unwrap.ensures in
    let count : length c.args.self.now.trees ≡ length cs = omega (arith, ap length trees, length_trees cs) in
    let more : length c.push.new.self.items ≡ length cs + 1 = ap length items ∙ length-append cs (e ∷ []) in
    let spare : 0 < c.self.inside.spare = subst (λ n. 0 < n) (sym (ap (λ (v : PoolView). v.spare) c.self.view_is)) c.requires.spare in
    let below : EntryBelow (0 + length cs) e = let zero : length c.args.self.now.trees ≡ 0 + length cs = omega arith in subst (λ n. EntryBelow n e) zero c.requires.below in
    let new : (n : ℕ) → n < length (built [] cs) → at (built [] cs) n ≢ tree_of (built [] cs) e =
    subst (λ ts. (n : ℕ) → n < length ts → at ts n ≢ tree_of ts e) trees c.requires.new in
    record {
      closed = subst (IsClosed 0) (sym items) (IsClosed_append 0 cs e was.closed below);
      distinct = subst (λ xs. AreDistinct (built [] xs)) (sym items) (distinct_more cs e was.distinct new);
      linked = subst (λ xs. IsChained xs c.add.new.self) c.as_slice.ensures.value c.add.ensures.linked;
      all = omega arith;
      few = omega arith;
      room = omega arith;
      links = omega arith;
      wide = omega arith;
    }
