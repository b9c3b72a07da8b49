-- Copies of a variable's secrecy, and the walk over the pairs that they need, as the code has them.
use Rattle.std.specs.Prelude.{◌≡◌, ℕ, List, ◌++◌, length, Option}
use Rattle.cv_syntax_trees.specs.lists.Options.{first_of}
use Rattle.cv_pool.specs.declared.node.NodeId.{NodeId}
use Rattle.cv_pool.specs.KindTree.{KindTree}
use Rattle.cv_pool.specs.Nodes.{ChildBelow}
use Rattle.cv_syntax_trees.specs.Tree.{Tree}
use Rattle.cv_syntax.specs.PoolTrees.{tree_at}
use Rattle.cv_scope_rules.specs.Context.{items}
use Rattle.cv_scene.specs.Pairs.{all_of_second}
use Rattle.cv_scene.specs.Scenes.{Scene}
use Rattle.cv_scene.specs.Terms.{replications_at}
use Rattle.cv_query_certificates.specs.Pairs.{equations_between}
use Rattle.cv_query_certificates.specs.SecretPairs.{Copy, NeededSecret, first_wrong_secret}
use Rattle.cv_query_offences.specs.Copies.{IsCopyBelow, copy_seen}
use Rattle.cv_query_parts.specs.Countable.{AreCountableParts, IsCountable}
use Rattle.cv_query_parts.specs.pairs.Secrets.{secret_lists_of}
use Rattle.cv_query.specs.declared.pairs.secrets.CopyPair.{CopyPair}

-- what two copies of one variable need

abbrev pub needed_of_both : Scene → (k : ℕ) → (c d : Copy) → NeededSecret
needed_of_both s k c d =
    record { first = c.place; second = d.place; given = equations_between c.indices (all_of_second k (replications_at s d.place) d.indices) }

abbrev pub needed_by_pair : Scene → (k : ℕ) → List KindTree → CopyPair → NeededSecret
needed_by_pair s k trees p = needed_of_both s k (copy_seen trees p.one) (copy_seen trees p.other)

-- two copies with a derivation

pub record IsPairBelow (trees : List KindTree) (p : CopyPair) : Type 0 where
  pub one : IsCopyBelow (length trees) p.one
  pub other : IsCopyBelow (length trees) p.other
  pub by : ChildBelow (length trees) p.by
  pub few : IsCountable (tree_at trees p.by)

-- what is made to test them
abbrev pub lists_of_both : Scene → (k : ℕ) → List KindTree → CopyPair → Tree
lists_of_both s k trees p =
    secret_lists_of k (replications_at s p.one.place) (replications_at s p.other.place) (items (tree_at trees p.one.terms)) (items (tree_at trees p.other.terms))
    (tree_at trees p.by)

-- walks over the parts

pub record AreLeft (trees : List KindTree) (parts : Option NodeId) : Type 0 where
  pub live : ChildBelow (length trees) parts
  pub few : AreCountableParts (tree_at trees parts)

-- A walk that leads from some parts to those behind: what is wrong first is the same, where the first pairs are needed before it, and the
-- others behind it.
abbrev pub Goes : Scene → (k : ℕ) → List KindTree → (old new : Option NodeId) → (stopped : Option ℕ) → (first rest : List NeededSecret) → Type 0
Goes s k trees old new stopped first rest =
    (ns : List NeededSecret) → first_wrong_secret s k (first ++ ns) (tree_at trees old) ≡ first_of stopped (first_wrong_secret s k (rest ++ ns) (tree_at trees new))
