-- The first calls of a tree, node by node.
use Rattle.std.proofs.Common.{◌≡◌, ℕ, nat_eq, ◌+◌, ◌≤◌, Bool, true, false, if◌then◌else◌, List, [], ◌∷◌, length, length-append, take, Option, Some, None, refl, ap, ap₂, sym, ◌∙◌, arith}
use Rattle.std.specs.Prelude.{option_map}
use Rattle.std.proofs.Math.Path.{fun_ext}
use Rattle.std.proofs.lemmas.List.{length-take, take-append-le}
use Rattle.cv_syntax_trees.specs.declared.head.Head.{Head}
use Rattle.cv_syntax_trees.specs.declared.head.Head.TheVariants.{Call, Repl}
use Rattle.cv_syntax_trees.specs.Head.{weight}
use Rattle.cv_syntax_trees.specs.Tree.{Tree, Empty, Node}
use Rattle.cv_meaning.specs.contexts.Sites.{is_call}
use Rattle.cv_inline.specs.NextGame.{call_of, replications_under}
use Rattle.cv_pool.specs.KindTree.{KindTree}
use Rattle.cv_inline_draws.specs.callings.FirstCalls.{FirstCalls, Table, call_in, calls_in, with_calls, with_node}
use Rattle.cv_syntax_trees.specs.lists.Options.{first_of}

first_of_None : {A : Type 0} (o : Option A) → first_of o None ≡ o
first_of_None None = refl
first_of_None (Some a) = refl

-- another node is no call
pub other_node : (found : FirstCalls) (rs : List (ℕ × ℕ)) (h : Head) (a : Tree) → ((x m : ℕ) → h ≡ Call x m → ⊥) → with_node found rs h a ≡ found
other_node found rs h a other = fun_ext (λ l. by_head h l other)
  where
    by_head : (h : Head) (l : ℕ) → ((x m : ℕ) → h ≡ Call x m → ⊥) → with_node found rs h a l ≡ found l
    by_head (Call x m) l o = absurd (o x m refl)
    by_head h l o = first_of_None (found l)

joined : {A : Type 0} (o : Option A) (b : Bool) (here : A) (p q : Option A) → first_of (first_of (first_of o (if b then Some here else None)) p) q ≡ first_of o (if b then Some here else first_of p q)
joined (Some x) b here p q = refl
joined None true here p q = refl
joined None false here p q = refl

-- a node, and then its children
pub calls_node : (found : FirstCalls) (rs : List (ℕ × ℕ)) (t : Tree) (h : Head) (a b : Tree) → t ≡ Node h a b → with_calls (with_calls (with_node found rs h a) (replications_under h rs) a) (replications_under h rs) b ≡ with_calls found rs t
unfolding call_of
calls_node found rs t h a b e =
    fun_ext (λ l. joined (found l) (is_call l h) (rs, a) (call_of (replications_under h rs) l a) (call_of (replications_under h rs) l b)) ∙ ap (with_calls found rs) (sym e)

pub calls_end : (found : FirstCalls) (rs : List (ℕ × ℕ)) (t : Tree) → t ≡ Empty → with_calls found rs t ≡ found
unfolding call_of
calls_end found rs t e = ap (with_calls found rs) e ∙ fun_ext (λ l. first_of_None (found l))

-- a node has no more replications below it than it has nodes
pub few_under : (h : Head) (rs : List (ℕ × ℕ)) → length (replications_under h rs) ≤ length rs + weight h
few_under (Repl i n) rs = omega (arith, length-append rs ((i, n) ∷ []))
few_under h rs = omega arith

-- the replications of a walk's start stay in front
pub front_kept : (h : Head) (k : ℕ) (xs ys zs : List (ℕ × ℕ)) → ys ≡ replications_under h xs → k ≡ length zs → take k xs ≡ zs → take k ys ≡ zs
front_kept h k xs ys zs e f g = ap (take k) e ∙ by_head h
  where
    enough : k ≤ length xs
    enough = omega (arith, length-take k xs, ap length g)

    by_head : (h : Head) → take k (replications_under h xs) ≡ zs
    by_head (Repl i n) = take-append-le k xs ((i, n) ∷ []) enough ∙ g
    by_head h = g

-- nothing was found before
pub calls_alone : (found : FirstCalls) (rs : List (ℕ × ℕ)) (t : Tree) → ((l : ℕ) → found l ≡ None) → rs ≡ [] → with_calls found rs t ≡ (λ l. call_of [] l t)
calls_alone found rs t none e = fun_ext (λ l. ap₂ (λ (o : Option (List (ℕ × ℕ) × Tree)) (qs : List (ℕ × ℕ)). first_of o (call_of qs l t)) (none l) e)

-- nothing is found in an empty table
pub nothing_found : (trees : List KindTree) (table : Table) → table.entries ≡ [] → (l : ℕ) → calls_in trees table l ≡ None
nothing_found trees table e l = ap (λ es. option_map (call_in trees) (Rattle.std.specs.Map.lookup (nat_eq l) es)) e
