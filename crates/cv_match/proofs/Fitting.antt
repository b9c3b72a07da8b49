-- Sites lie in the game, and bodies of functions in the side.
use Rattle.std.proofs.Common.{◌≡◌, ℕ, suc, ◌+◌, ◌<◌, ◌≤◌, ◌^◌, Bool, true, false, List, [], ◌∷◌, map, Option, Some, None, sym, subst, arith}
use Rattle.std.proofs.lemmas.List.Elements.{All-head, All-tail}
use Rattle.std.specs.Prelude.{IfSome, if◌then◌else◌}
use Rattle.std.specs.List.{All, AllByRecursion}
use Rattle.cv_syntax_trees.proofs.lists.Each.{AllByRecursion_append, AllByRecursion_get_or}
use Rattle.cv_pool.specs.KindTree.{KindTree}
use Rattle.cv_pool.specs.Nodes.{ChildBelow}
use Rattle.cv_syntax.specs.Classes.{declaration_in, equiv_by, equiv_in, id_of, is_number}
use Rattle.cv_syntax.specs.declared.decls.Decl.{Decl}
use Rattle.cv_syntax.specs.declared.decls.Decl.TheVariants as decl
use Rattle.cv_directory.specs.Live.{IsLive}
use Rattle.cv_syntax_trees.specs.Tree.{Tree, Empty, Node, first, first_place, second, second_place, size}
use Rattle.cv_syntax_trees.specs.sites.Sites.{first_of}
use Rattle.cv_meaning.specs.contexts.Groups.{Function, Group, Left, functions_of, side_group}
use Rattle.cv_scope_rules.specs.declared.position.Position.{Position}
use Rattle.cv_scope_rules.specs.declared.position.Position.TheVariants.{Anywhere}
use Rattle.cv_scope_rules.specs.Context.{first_position, replications_below, second_position}
use Rattle.cv_scene.specs.Instances.{Call, Instance, Matching, call_at, call_by, first_call, instance_of}
use Rattle.cv_scene.specs.Sites as instances
use Rattle.cv_scene.specs.Sites.{is_guard, sites_in, sites_of}
use Rattle.cv_match_terms.specs.declared.patterns.site.Site.{Site}
use Rattle.cv_match_terms.specs.patterns.Sites.{site_in}
use Rattle.cv_match.specs.Fitting.{IsSmallSite}

second_small : (t : Tree) → size (second t) ≤ size t
unfolding size
second_small Empty = omega arith
second_small (Node h a b) = omega arith

first_small : (t : Tree) → size (first t) ≤ size t
unfolding size
first_small Empty = omega arith
first_small (Node h a b) = omega arith

abbrev IsShort : ℕ → Function → Type 0
IsShort n f = size f.body < n

functions_short : (n : ℕ) (t : Tree) → size t < n → AllByRecursion (IsShort n) (functions_of t)
unfolding size
functions_short n Empty l = tt
functions_short n (Node h f more) l = (omega (arith, second_small f), functions_short n more (omega arith))

call_short : (M : Matching) (n k : ℕ) (fs : List Function) (m : Tree) → AllByRecursion (IsShort n) fs → IfSome (first_call M k fs m) (λ c. IsShort n c.function)
call_short M n k [] m a = tt
call_short M n k (f ∷ fs) m a = by_instance (instance_of M f m) (call_short M n (suc k) fs m a.1)
  where
    by_instance : (o : Option Instance) → IfSome (first_call M (suc k) fs m) (λ c. IsShort n c.function) → IfSome (first_of (call_by k f o) (first_call M (suc k) fs m)) (λ c. IsShort n c.function)
    by_instance None r = r
    by_instance (Some I) r = a.0

-- the term ends there, and the function's body is smaller
abbrev Within : (end n : ℕ) → instances.Site → Type 0
Within end n s = (s.place + size s.term ≤ end) × (size s.call.function.body < n)

sites_within : (M : Matching) (n : ℕ) → AllByRecursion (IsShort n) M.group.functions → (end : ℕ) (w : Position) (rs : List (ℕ × ℕ)) (p : ℕ) (t : Tree) → p + size t ≤ end → AllByRecursion (Within end n) (sites_in M w rs p t)
unfolding sites_in size
sites_within M n a end w rs p Empty l = tt
sites_within M n a end w rs p (Node h b c) l =
    by_call (call_at M (Node h b c)) (call_short M n 0 M.group.functions (Node h b c) a) _
    (AllByRecursion_append (Within end n) (if is_guard w then [] else sites_in M (first_position w h) rs (first_place p h) b) _ (unguarded (is_guard w) (sites_within M n a end (first_position w h) rs (first_place p h) b (omega arith))) (sites_within M n a end (second_position w h) (replications_below h rs) (second_place p h b) c (omega arith)))
  where
    unguarded : (g : Bool) → AllByRecursion (Within end n) (sites_in M (first_position w h) rs (first_place p h) b) → AllByRecursion (Within end n) (if g then [] else sites_in M (first_position w h) rs (first_place p h) b)
    unguarded true r = tt
    unguarded false r = r

    by_call : (o : Option Call) → IfSome o (λ d. IsShort n d.function) → (ss : List instances.Site) → AllByRecursion (Within end n) ss → AllByRecursion (Within end n) (elim o [ Some d ↦ record { place = p; term = Node h b c; replications = rs; call = d } ∷ [] | None ↦ ss ])
    by_call (Some d) i ss s = ((l, i), tt)
    by_call None i ss s = s

each_small : (trees : List KindTree) (M : Matching) (end : ℕ) → end < 2 ^ 32 → (ss : List Site) → AllByRecursion (Within end (2 ^ 32)) (map (site_in trees M) ss) → AllByRecursion (IsSmallSite trees) ss
each_small trees M end l [] a = tt
each_small trees M end l (s ∷ ss) a = (record { term = omega arith; body = a.0.1 }, each_small trees M end l ss a.1)

pub sites_small : (trees : List KindTree) (M : Matching) (equivalence : Tree) (ss : List Site) → M.group ≡ side_group Left equivalence → size equivalence < 2 ^ 32 → size M.scene.game < 2 ^ 32 → map (site_in trees M) ss ≡ sites_of M → All (IsSmallSite trees) ss
sites_small trees M equivalence ss e l g f =
    let short : AllByRecursion (IsShort (2 ^ 32)) (functions_of (second (first equivalence))) = functions_short (2 ^ 32) (second (first equivalence)) (omega (arith, second_small (first equivalence), first_small equivalence)) in
    let all = sites_within M (2 ^ 32) (subst (λ (G : Group). AllByRecursion (IsShort (2 ^ 32)) G.functions) (sym e) short) (size M.scene.game) Anywhere [] 0 M.scene.game (omega arith) in
    let each = each_small trees M (size M.scene.game) g ss (subst (AllByRecursion (Within (size M.scene.game) (2 ^ 32))) (sym f) all) in
    λ k d b. AllByRecursion_get_or (IsSmallSite trees) ss k d each b

-- the tree of an equivalence stands in the pool
pub equiv_live : (bound : ℕ) (ds : List Decl) (x : ℕ) → All (IsLive bound) ds → ChildBelow bound (equiv_in ds x)
equiv_live bound [] x p = tt
equiv_live bound (d ∷ ds) x p = by_name (is_number x (id_of d)) (equiv_live bound ds x (All-tail (IsLive bound) d ds p))
  where
    here : (d : Decl) → IsLive bound d → ChildBelow bound (equiv_by (Some d))
    here (decl.Name id c args result) l = tt
    here (decl.Equation n) l = tt
    here (decl.Equiv id n) l = l
    here (decl.Query n) l = tt

    by_name : (b : Bool) → ChildBelow bound (equiv_in ds x) → ChildBelow bound (equiv_by (if b then Some d else declaration_in ds x))
    by_name true l = here d (All-head (IsLive bound) d ds p)
    by_name false l = l
