-- A pool that grows: the scene of a game stays as it was, and so does what was looked up in it.
use Rattle.std.proofs.Common.{◌≡◌, ℕ, zero, suc, ◌<◌, ◌≤◌, ◌^◌, ◌⊎◌, inl, inr, List, [], ◌∷◌, ◌++◌, length, Bool, true, false, if◌then◌else◌, nat_lt, refl, sym, ap, ap₂, subst, ◌∙◌, arith, All, Option, Some, None}
use Rattle.std.specs.Prelude.{◌==◌, option_map, slice_index_or}
use Rattle.std.specs.List.{AllByRecursion}
use Rattle.std.proofs.Math.Path.{fun_ext}
use Rattle.std.proofs.lemmas.List.{get_or_past}
use Rattle.cv_syntax_trees.proofs.lists.Numbers.{below_or_not}
use Rattle.cv_syntax_trees.proofs.lists.Options.{IfSome_weaker}
use Rattle.cv_pool.specs.declared.node.NodeId.{NodeId}
use Rattle.cv_pool.specs.KindTree.{KindTree, NoTree}
use Rattle.cv_pool.specs.PoolView.{Grows, PoolView}
use Rattle.cv_pool.proofs.Growth.{ChildBelow_more, Grows_length}
use Rattle.cv_syntax.specs.Classes.{DeclsView}
use Rattle.cv_syntax.specs.declared.decls.Decl.{Decl}
use Rattle.cv_syntax.specs.declared.work.Work.{Work}
use Rattle.cv_syntax.specs.declared.decls.Decl.TheVariants as decl
use Rattle.cv_syntax.specs.Declarations.{declarations, declared, number}
use Rattle.cv_syntax.specs.PoolTrees.{tree_at, tree_of}
use Rattle.cv_syntax.proofs.Buildings.{child_grown}
use Rattle.cv_syntax.proofs.Trees.{tree_of_NoTree}
use Rattle.cv_syntax_trees.specs.declared.head.Head.{Head}
use Rattle.cv_syntax_trees.specs.declared.head.Head.TheVariants.{Binder, Branch, In, Let, New}
use Rattle.cv_syntax_trees.specs.Declarations.{Declaration, Equation, Equiv, Named, Query}
use Rattle.cv_syntax_trees.specs.Tree.{Tree, Empty, Node, first_place, second, second_place, size}
use Rattle.cv_directory.specs.declared.directory.Directory.{Directory}
use Rattle.cv_directory.specs.declared.site.Site.{Site}
use Rattle.cv_directory.specs.Definitions.{Definition, Entries, bound_definitions, definition_at, definitions_at, definitions_from, definitions_of, entries_of, first_in, large_in, replications_below}
use Rattle.cv_directory.specs.Live.{IsLive}
use Rattle.cv_directory.specs.Tables.{counts, definition_of, entries_in, entry_at, firsts, indices, others}
use Rattle.cv_syntax_trees.specs.declared.sites.sort.Sort.{Sort}
use Rattle.cv_syntax_trees.specs.declared.sites.sort.Sort.TheVariants.{BelowParameter, OfType}
use Rattle.cv_scope_rules.specs.Phrases.{IsWellFormed}
use Rattle.cv_typing.specs.declared.arrays.Arrays.{Arrays}
use Rattle.cv_typing.specs.Tables.{directory_in}
use Rattle.cv_scope_rules.specs.typing.Signature.{OfGame}
use Rattle.cv_syntax_trees.specs.sites.Sites.{sites_of}
use Rattle.cv_scene.specs.Scenes.{Scene}
use Rattle.cv_scene_view.specs.Kept.{scene_of}
use Rattle.cv_query_parts.specs.declared.pairs.walk.Pairing.{Pairing}
use Rattle.cv_query_parts.specs.pairs.Walks.{IsMet}
use Rattle.cv_query_parts.specs.Views.{IsReadyIn}
use Rattle.cv_query.specs.pairs.Proved.{IsAsBefore}

-- declarations and the game

module _ (old new : PoolView) (g : Grows old new) where
  root_grown : (n : NodeId) → n.0 < length old.trees → tree_at new.trees (Some n) ≡ tree_at old.trees (Some n)
  root_grown n l = child_grown old new (Some n) g l

  decl_grown : (d : Decl) → IsLive (length old.trees) d → declared new.trees d ≡ declared old.trees d
  decl_grown (decl.Name id class args result) l = ap (λ t. Named id.0 class t (number result)) (child_grown old new args g l)
  decl_grown (decl.Equation n) l = ap Equation (root_grown n l)
  decl_grown (decl.Equiv id n) l = ap (Equiv id.0) (root_grown n l)
  decl_grown (decl.Query n) l = ap Query (root_grown n l)

  pub declarations_grown : (ds : List Decl) → All (IsLive (length old.trees)) ds → declarations new.trees ds ≡ declarations old.trees ds
  declarations_grown [] a = refl
  declarations_grown (d ∷ ds) a = ap₂ (λ t ts. t ∷ ts) (decl_grown d (a zero d (omega arith))) (declarations_grown ds (λ k e l. a (suc k) e (omega arith)))

  pub scene_grown : (d : DeclsView) (game : NodeId) → game.0 < length old.trees → All (IsLive (length old.trees)) d.list → scene_of new d game ≡ scene_of old d game
  scene_grown d game l a =
      ap₂ (λ ds t. let s : Scene = record { declarations = ds; known = λ x. nat_lt x d.own; game = t } in s) (declarations_grown d.list a) (root_grown game l)

decl_more : (m n : ℕ) (d : Decl) → m ≤ n → IsLive m d → IsLive n d
decl_more m n (decl.Name id class args result) l b = ChildBelow_more m n args l b
decl_more m n (decl.Equation k) l b = omega arith
decl_more m n (decl.Equiv id k) l b = omega arith
decl_more m n (decl.Query k) l b = omega arith

-- what is defined stands at a node

abbrev IsThere : Definition → Type 0
IsThere d = d.tree ≡ Empty → ⊥

both : (xs ys : List Definition) → AllByRecursion IsThere xs → AllByRecursion IsThere ys → AllByRecursion IsThere (xs ++ ys)
both [] ys a b = b
both (x ∷ xs) ys a b = (a.0, both xs ys a.1 b)

one_of : (b : Bool) (d : Definition) → IsThere d → AllByRecursion IsThere (if b then d ∷ [] else [])
one_of true d a = (a, tt)
one_of false d a = tt

module _ (rs : List (ℕ × ℕ)) (p : ℕ) (t : Tree) (there : t ≡ Empty → ⊥) (x : ℕ) where
  bound_there : (sort : ℕ → Sort) (bs : Tree) → AllByRecursion IsThere (bound_definitions rs p t sort x bs)
  unfolding bound_definitions
  bound_there sort Empty = tt
  bound_there sort (Node (Binder y T) a b) = both (if y == x then definition_at rs p t (sort T) ∷ [] else []) (bound_definitions rs p t sort x b) (one_of (y == x) (definition_at rs p t (sort T)) there) (bound_there sort b)
  bound_there sort (Node h a b) = bound_there sort b

  at_there : (h : Head) (a : Tree) → AllByRecursion IsThere (definitions_at rs p t x h a)
  at_there (New y T) a = one_of (y == x) (definition_at rs p t (OfType T)) there
  at_there (Let y T) a = one_of (y == x) (definition_at rs p t (OfType T)) there
  at_there (In c) a = bound_there OfType (second a)
  at_there Branch a = bound_there BelowParameter a
  at_there h a = tt

no_node : (h : Head) (a b : Tree) → Node h a b ≡ Empty → ⊥
no_node h a b e = cc

from_there : (rs : List (ℕ × ℕ)) (p x : ℕ) (t : Tree) → AllByRecursion IsThere (definitions_from rs p x t)
unfolding definitions_from
from_there rs p x Empty = tt
from_there rs p x (Node h a b) =
    both (definitions_at rs p (Node h a b) x h a) (definitions_from rs (first_place p h) x a ++ definitions_from (replications_below h rs) (second_place p h a) x b) (at_there rs p (Node h a b) (no_node h a b) x h a)
    (both (definitions_from rs (first_place p h) x a) (definitions_from (replications_below h rs) (second_place p h a) x b) (from_there rs (first_place p h) x a) (from_there (replications_below h rs) (second_place p h a) x b))

first_there : (ds : List Definition) (d : Definition) → AllByRecursion IsThere ds → first_in ds ≡ Some d → IsThere d
first_there [] d a e = absurd (let z : ◌≡◌ {A = Option Definition} None (Some d) = e in cc)
first_there (x ∷ ds) d a e = let f : x ≡ d = cc in subst IsThere f a.0

-- a directory tells of nodes that are there

no_tree : (trees : List KindTree) (n : NodeId) → length trees ≤ n.0 → tree_at trees (Some n) ≡ Empty
no_tree trees n l = ap tree_of (get_or_past trees n.0 NoTree l) ∙ tree_of_NoTree

module _ (old new : PoolView) (g : Grows old new) (large : ℕ → Bool) (game : Tree) (d : Directory) (e : entries_in old.trees d ≡ entries_of large game) where
  site_grown : (x : ℕ) (o : Option Site) → option_map (definition_of old.trees) o ≡ first_in (definitions_of game x) → option_map (definition_of new.trees) o ≡ option_map (definition_of old.trees) o
  site_grown x None f = refl
  site_grown x (Some s) f = ap (λ t. Some (definition_at s.replications.items s.place t s.sort)) (go (below_or_not s.node.0 (length old.trees)))
    where
      there : IsThere (definition_of old.trees s)
      there = first_there (definitions_of game x) (definition_of old.trees s) (from_there [] 0 x game) (sym f)

      go : (s.node.0 < length old.trees) ⊎ (length old.trees ≤ s.node.0) → tree_at new.trees (Some s.node) ≡ tree_at old.trees (Some s.node)
      go (inl l) = root_grown old new g s.node l
      go (inr l) = absurd (there (no_tree old.trees s.node l))

  firsts_grown : firsts new.trees d.entries.items ≡ firsts old.trees d.entries.items
  firsts_grown = fun_ext (λ x. site_grown x (entry_at d.entries.items x).site (ap (λ (y : Entries). y.first x) e))

  pub entries_grown : entries_in new.trees d ≡ entries_of large game
  entries_grown =
      ap (λ f. let y : Entries = record { first = f; count = counts d.entries.items; other = others d.entries.items; index = indices d.entries.items } in y) firsts_grown ∙ e

pub ready_grown : (old new : PoolView) (ds : List Decl) (game : NodeId) (held : Arrays) → Grows old new → IsReadyIn old.trees ds game held → IsReadyIn new.trees ds game held
ready_grown old new ds game held g r =
    let t = root_grown old new g game r.live in
    let l = Grows_length old new g in
    record {
      live = omega (arith, r.live, l);
      fits = subst (λ u. size u < 2 ^ 32) (sym t) r.fits;
      declared = λ k x m. decl_more (length old.trees) (length new.trees) (slice_index_or ds k x) l (r.declared k x m);
      formed = subst (λ u. IsWellFormed (declarations new.trees ds) u) (sym t) (subst (λ (us : List Declaration). IsWellFormed us (tree_at old.trees (Some game))) (sym (declarations_grown old new g ds r.declared)) r.formed);
      arrays = r.arrays ∙ ap (λ u. OfGame (sites_of u)) (sym t);
      entries = IfSome_weaker (λ d. entries_in old.trees d ≡ entries_of (large_in ds) (tree_at old.trees (Some game))) (λ d. entries_in new.trees d ≡ entries_of (large_in ds) (tree_at new.trees (Some game))) (directory_in held) (λ d e. entries_grown old new g (large_in ds) (tree_at old.trees (Some game)) d e ∙ ap (entries_of (large_in ds)) (sym t)) r.entries;
    }

-- a work that is as before

abbrev scene_by : NodeId → List KindTree → DeclsView → Scene
scene_by game ts d = record { declarations = declarations ts d.list; known = λ x. nat_lt x d.own; game = tree_at ts (Some game) }

module _ (old new : Work) (b : IsAsBefore old new) where
  pub same_scene : (game : NodeId) → scene_of new.pool new.decls game ≡ scene_of old.pool old.decls game
  same_scene game = ap₂ (scene_by game) b.trees b.decls

  pub same_ready : (game : NodeId) (held : Arrays) → IsReadyIn old.pool.trees old.decls.list game held → IsReadyIn new.pool.trees new.decls.list game held
  same_ready game held r =
      subst (λ (d : DeclsView). IsReadyIn new.pool.trees d.list game held) (sym b.decls) (subst (λ (ts : List KindTree). IsReadyIn ts old.decls.list game held) (sym b.trees) r)

  pub same_met : (p : Pairing) → IsMet old.pool.trees p → IsMet new.pool.trees p
  same_met p m = subst (λ (ts : List KindTree). IsMet ts p) (sym b.trees) m

  pub as_before : (end : Work) → IsAsBefore new end → IsAsBefore old end
  as_before end c = record { trees = c.trees ∙ b.trees; limit = c.limit ∙ b.limit; names = c.names ∙ b.names; decls = c.decls ∙ b.decls }

pub as_it_was : (w : Work) → IsAsBefore w w
as_it_was w = record { trees = refl; limit = refl; names = refl; decls = refl }
