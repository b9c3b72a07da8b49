-- Bodies of a cryptographic step of the code, as those of the definitions. This profile's own.
use Rattle.std.specs.Prelude.{◌≡◌, ◌<◌, ◌^◌, ℕ, [], ◌∷◌, List, All, flat_map, Bool, true, false, length, Option}
use Rattle.cv_pool.specs.KindTree.{KindTree}
use Rattle.cv_pool.specs.Nodes.{ChildBelow}
use Rattle.cv_pool.specs.declared.node.NodeId.{NodeId}
use Rattle.cv_syntax_trees.specs.Tree.{Tree}
use Rattle.cv_syntax.specs.PoolTrees.{tree_at}
use Rattle.cv_meaning.specs.Correspondences.{typed_names}
use Rattle.cv_meaning.specs.contexts.Groups.{Group}
use Rattle.cv_inline.specs.NextGame.{InlinedCalls}
use Rattle.cv_meaning.specs.contexts.Inlined as bodies
use Rattle.cv_meaning.specs.contexts.Inlined.{Scope, in_game, index_terms, with_call_of}
use Rattle.cv_inline.specs.declared.terms.caller.Caller.{Caller}
use Rattle.cv_inline.specs.declared.terms.calling.Calling.{Calling}
use Rattle.cv_inline.specs.declared.terms.drawn.Drawing.{Drawing}
use Rattle.cv_inline.specs.terms.Callers.{HasLiveCaller, caller_in}
use Rattle.cv_inline.specs.terms.Drawings.{drawn_in}
use Rattle.cv_inline_sites.specs.branches.Moves.{IsList}
use Rattle.cv_inline_sites.specs.listing.Callings.{IsLiveCalling, callers_in, callings_in}
use Rattle.cv_inline_sites.specs.declared.listing.subtree.Subtree.{Subtree}
use Rattle.cv_inline_sites.specs.declared.pairs.pairs.Pair.{Pair}
use Rattle.cv_inline_laws.specs.extents.Extents as extents
use Rattle.cv_inline_laws.specs.extents.Extents.{Extent, all_beside, front, of_body, of_branches, of_call, of_find, under}
use Rattle.cv_inline_measure.specs.Counts.{IsTold, measure_in}
use Rattle.cv_inline_measure.specs.declared.found.Found.{Found}
use Rattle.cv_inline_measure.specs.declared.setting.Setting.{Setting}

abbrev pub trees_of : Setting → List KindTree
trees_of s = s.pool.now.trees

abbrev pub live_in : Setting → ℕ
live_in s = length s.pool.now.trees

abbrev pub measure_of : Setting → extents.Measure
measure_of s = measure_in s.measure

abbrev pub HasListKey : List KindTree → Calling → Type 0
HasListKey trees c = IsList (tree_at trees c.caller.key)

-- the sites are in the pool, and their keys are lists
pub record AreLiveSites (trees : List KindTree) (callings : List Calling) : Type 0 where
  pub functions : All (IsLiveCalling trees) callings
  pub callers : All (HasLiveCaller (length trees)) callings
  pub keys : All (HasListKey trees) callings

abbrev pub IsLiveSetting : Setting → Type 0
IsLiveSetting s = AreLiveSites s.pool.now.trees s.callings.now

-- a site that other calls are found at
pub record IsLiveOther (trees : List KindTree) (c : Caller) : Type 0 where
  pub live : ChildBelow (length trees) c.key
  pub key : IsList (tree_at trees c.key)
  pub few : length c.replications.items < 2 ^ 32

abbrev pub callers_at : Setting → List bodies.Caller
callers_at s = callers_in s.pool.now.trees s.callings.now

abbrev pub caller_at : Setting → Caller → bodies.Caller
caller_at s c = caller_in s.pool.now.trees c

abbrev pub term_in : Setting → Caller → Scope → Option NodeId → Tree
term_in s c Σ t = in_game (drawn_in s.drawn.now) (caller_in s.pool.now.trees c) Σ (tree_at s.pool.now.trees t)

abbrev pub body_in : Setting → Caller → Scope → Subtree → Extent
body_in s c Σ b = of_body (measure_in s.measure) (drawn_in s.drawn.now) (callers_in s.pool.now.trees s.callings.now) (caller_in s.pool.now.trees c) Σ b.place (tree_at s.pool.now.trees b.root)

-- the branch of the find at p for the calls of another site
abbrev pub names_in : Setting → Caller → (p : ℕ) → Caller → Pair → ℕ → ℕ
names_in s c p o q = (drawn_in s.drawn.now).index c.number p o.number q.number

abbrev pub branch_scope_in : Setting → Caller → Scope → (p : ℕ) → Caller → Pair → Scope
branch_scope_in s c Σ p o q = with_call_of Σ q.index (index_terms c.replications.items) (names_in s c p o q) (caller_in s.pool.now.trees o)

abbrev pub front_in : Setting → Caller → Scope → (p : ℕ) → Caller → Pair → ℕ
front_in s c Τ p o q =
    front (measure_in s.measure) (drawn_in s.drawn.now) (caller_in s.pool.now.trees c) Τ (names_in s c p o q) (caller_in s.pool.now.trees o) (tree_at s.pool.now.trees q.cells) (tree_at s.pool.now.trees q.condition)

abbrev pub branch_in : Setting → Caller → Scope → (p : ℕ) → Caller → Pair → Extent
branch_in s c Σ p o q =
    let Τ : Scope = branch_scope_in s c Σ p o q in
    under (measure_in s.measure) 1 (front_in s c Τ p o q) (body_in s c Τ (record { place = q.place; root = q.body }))

abbrev pub branches_in : Setting → Caller → Scope → (p : ℕ) → bodies.Caller → Subtree → List Extent
branches_in s c Σ p o l = of_branches (measure_in s.measure) (drawn_in s.drawn.now) (callers_in s.pool.now.trees s.callings.now) (caller_in s.pool.now.trees c) Σ p o 0 l.place (tree_at s.pool.now.trees l.root)

abbrev pub is_any : List Extent → Bool
is_any [] = false
is_any (e ∷ es) = true

-- branches beside the other body of a find, as they are told
pub record IsFound (s : Setting) (f : Found) (es : List Extent) (otherwise : Extent) : Type 0 where
  pub any : f.any ≡ is_any es
  pub all : IsTold f.all (all_beside (measure_in s.measure) es otherwise)

-- a find at a place, with its list of branches and its other body
abbrev pub find_in : Setting → Caller → Scope → (p : ℕ) → (list otherwise : Subtree) → Extent
find_in s c Σ p l o = of_find (measure_in s.measure) (flat_map (λ b. branches_in s c Σ p b l) (callers_in s.pool.now.trees s.callings.now)) (body_in s c Σ o)

-- a call of a function with these arguments, of which the body stands here
abbrev pub call_in : Setting → Caller → Scope → (binders terms : Option NodeId) → Subtree → Extent
call_in s c Σ bs ms b =
    of_call (measure_in s.measure) (drawn_in s.drawn.now) (callers_in s.pool.now.trees s.callings.now) (caller_in s.pool.now.trees c) Σ (typed_names (tree_at s.pool.now.trees bs)) (tree_at s.pool.now.trees ms) (tree_at s.pool.now.trees b.root)

-- where x is the variable of the key
abbrev pub inlined_calls : List KindTree → Drawing → (x : ℕ) → Group → List Calling → InlinedCalls
inlined_calls trees drawn x g callings = record { drawn = drawn_in drawn; key = x; group = g; callings = callings_in trees callings }

abbrev pub calls_of : Setting → (x : ℕ) → Group → InlinedCalls
calls_of s x g = inlined_calls s.pool.now.trees s.drawn.now x g s.callings.now
