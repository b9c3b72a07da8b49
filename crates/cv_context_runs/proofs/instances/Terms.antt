-- Only terms are instances: what stands for a name has a value, and so has the body of a left function.
use Rattle.std.proofs.Common.{◌≡◌, ℕ, suc, Bool, true, false, cond, ◌&&◌, ◌==◌, List, [], ◌∷◌, ◌++◌, Option, Some, None, refl, ap, subst, ◌∙◌}
use Rattle.std.proofs.lemmas.Bool.{both_ways, and_parts}
use Rattle.std.specs.List.{AllByRecursion}
use mathlib.Core.List.{reverse_aux}
use Rattle.cv_syntax_trees.specs.declared.head.Head.TheVariants.{Leaf, Read, Apply, Eq, And, Or, Not, Yes, No}
use Rattle.cv_syntax_trees.specs.Declarations.{Declaration}
use Rattle.cv_syntax_trees.specs.Tree.{Tree, Empty, Node, chain, same_tree}
use Rattle.cv_syntax_trees.proofs.Equality.{same_tree_exact}
use Rattle.cv_meaning.specs.contexts.Groups.{Function}
use Rattle.cv_syntax_trees.specs.sites.Sites.{first_of}
use Rattle.cv_syntax_trees.specs.declared.sites.sort.Sort.TheVariants.{OfType}
use Rattle.cv_scope_rules.specs.typing.Parts.{nothing_above}
use Rattle.cv_scope_rules.specs.typing.Signature.{Signature, sort_of}
use Rattle.cv_scope_rules.specs.Phrases.{Term, is_phrase}
use Rattle.cv_scene.specs.Sights.{variable_of}
use Rattle.cv_scene.specs.Terms.{is_sort, signature_in}
use Rattle.cv_scene.specs.lines.Given.{or_node, term_for, with_given}
use Rattle.cv_scene.specs.Instances.{Instance, Matching, are_of_types, call_at, call_by, filled, first_call, guess, instance_of, is_argument_of, is_coin_of, is_instance, is_read_of, is_variable_of, names_of}
use Rattle.cv_scene.specs.LeftTerms.{HasLeftTerms, IsLeftFunction}
use Rattle.cv_scene.specs.Apt.{has_value}
use Rattle.cv_syntax_trees.proofs.lists.Each.{AllByRecursion_append}

abbrev HasValue : Tree → Type 0
HasValue t = has_value t ≡ true

-- what stands for a name

variable_value : (t : Tree) (y : ℕ) → variable_of t ≡ Some y → HasValue t
variable_value Empty y e = absurd (none_some y e)
  where
    none_some : (y : ℕ) → ◌≡◌ {A = Option ℕ} None (Some y) → ⊥
    none_some y e = cc
variable_value (Node (Leaf x) a b) y e = refl
variable_value (Node (Read x) a b) y e = refl
variable_value (Node h a b) y e = absurd (none_some y e)
  where
    none_some : (y : ℕ) → ◌≡◌ {A = Option ℕ} None (Some y) → ⊥
    none_some y e = cc

read_value : (x : ℕ) (t : Tree) (o : Option ℕ) → variable_of t ≡ o → is_read_of x o ≡ true → HasValue t
read_value x t None e r = absurd (both_ways false refl r)
read_value x t (Some y) e r = variable_value t y e

coin_value : (s : Signature) (T : ℕ) (t : Tree) (o : Option ℕ) → variable_of t ≡ o → is_variable_of s T o ≡ true → HasValue t
coin_value s T t None e r = absurd (both_ways false refl r)
coin_value s T t (Some y) e r = variable_value t y e

argument_value : (s : Signature) (T : ℕ) (t : Tree) → is_sort (sort_of s nothing_above t) (OfType T) ≡ true → HasValue t
argument_value s T (Node (Leaf x) a b) e = refl
argument_value s T (Node (Read x) a b) e = refl
argument_value s T (Node (Apply x) a b) e = refl
argument_value s T (Node Eq a b) e = refl
argument_value s T (Node And a b) e = refl
argument_value s T (Node Or a b) e = refl
argument_value s T (Node Not a b) e = refl
argument_value s T (Node Yes a b) e = refl
argument_value s T (Node No a b) e = refl
argument_value s T t e = absurd (both_ways false refl e)

all_of_types : (may_be : ℕ → Tree → Bool) → ((T : ℕ) (t : Tree) → may_be T t ≡ true → HasValue t) → (xs : List (ℕ × ℕ)) (ms : List Tree) → are_of_types may_be xs ms ≡ true → AllByRecursion HasValue ms
all_of_types may_be f [] [] e = tt
all_of_types may_be f (x ∷ xs) (m ∷ ms) e = let p = and_parts (may_be x.1 m) (are_of_types may_be xs ms) e in (f x.1 m p.0, all_of_types may_be f xs ms p.1)
all_of_types may_be f [] (m ∷ ms) e = absurd (both_ways false refl e)
all_of_types may_be f (x ∷ xs) [] e = absurd (both_ways false refl e)

reversed_all : (P : Tree → Type 0) (xs A : List Tree) → AllByRecursion P xs → AllByRecursion P A → AllByRecursion P (reverse_aux xs A)
reversed_all P [] A h k = k
reversed_all P (x ∷ xs) A h k = reversed_all P xs (x ∷ A) h.1 (h.0, k)

-- a body with these terms

given_value : (xs : List ℕ) (ms : List Tree) (x : ℕ) (a b : Tree) → AllByRecursion HasValue ms → HasValue (or_node (term_for xs (chain ms) x) (Leaf x) a b)
given_value [] ms x a b k = refl
given_value (y ∷ xs) [] x a b k = refl
given_value (y ∷ xs) (m ∷ ms) x a b k = go (y == x) (given_value xs ms x a b k.1)
  where
    go : (c : Bool) → HasValue (or_node (term_for xs (chain ms) x) (Leaf x) a b) → HasValue (or_node (cond c (Some m) (term_for xs (chain ms) x)) (Leaf x) a b)
    go true h = k.0
    go false h = h

filled_value : (xs : List ℕ) (ms : List Tree) → AllByRecursion HasValue ms → (b : Tree) → is_phrase Term b ≡ true → HasValue (with_given xs (chain ms) b)
unfolding with_given is_phrase
filled_value xs ms k (Node (Leaf x) a b) e = given_value xs ms x _ _ k
filled_value xs ms k (Node (Read x) a b) e = refl
filled_value xs ms k (Node (Apply f) a b) e = refl
filled_value xs ms k (Node Eq a b) e = refl
filled_value xs ms k (Node And a b) e = refl
filled_value xs ms k (Node Or a b) e = refl
filled_value xs ms k (Node Not a b) e = refl
filled_value xs ms k (Node Yes a b) e = refl
filled_value xs ms k (Node No a b) e = refl
filled_value xs ms k b e = absurd (both_ways false refl e)

-- instances

instance_value : (ds : List Declaration) (M : Matching) (f : Function) (I : Instance) (t : Tree) → IsLeftFunction ds M.group f → is_instance M f I t ≡ true → HasValue t
instance_value ds M f I t left e =
    let p = and_parts (same_tree (filled M.group f I) t) (is_read_of M.key (variable_of I.key) && (are_of_types (is_coin_of M) f.coins I.coins && are_of_types (is_argument_of M) f.arguments I.arguments)) e in
    let q = and_parts (is_read_of M.key (variable_of I.key)) (are_of_types (is_coin_of M) f.coins I.coins && are_of_types (is_argument_of M) f.arguments I.arguments) p.1 in
    let s = and_parts (are_of_types (is_coin_of M) f.coins I.coins) (are_of_types (is_argument_of M) f.arguments I.arguments) q.1 in
    subst HasValue (same_tree_exact (filled M.group f I) t p.0)
    (filled_value (names_of M.group f) (reverse_aux (I.coins ++ I.arguments) (I.key ∷ []))
    (reversed_all HasValue (I.coins ++ I.arguments) (I.key ∷ [])
    (AllByRecursion_append HasValue I.coins I.arguments
    (all_of_types (is_coin_of M) (λ T m z. coin_value (signature_in M.scene) T m (variable_of m) refl z) f.coins I.coins s.0)
    (all_of_types (is_argument_of M) (λ T m z. argument_value (signature_in M.scene) T m z) f.arguments I.arguments s.1))
    (read_value M.key I.key (variable_of I.key) refl q.0, tt))
    f.body left.term)

no_instance : (ds : List Declaration) (M : Matching) (f : Function) (t : Tree) → IsLeftFunction ds M.group f → has_value t ≡ false → instance_of M f t ≡ None
no_instance ds M f t left e = go (is_instance M f (guess M.group f t) t) refl
  where
    go : (b : Bool) → is_instance M f (guess M.group f t) t ≡ b → cond b (Some (guess M.group f t)) None ≡ None
    go true z = absurd (both_ways _ e (instance_value ds M f (guess M.group f t) t left z))
    go false z = refl

no_call : (ds : List Declaration) (M : Matching) (t : Tree) → has_value t ≡ false → (k : ℕ) (fs : List Function) → AllByRecursion (IsLeftFunction ds M.group) fs → first_call M k fs t ≡ None
no_call ds M t e k [] l = refl
no_call ds M t e k (f ∷ fs) l =
    ap (λ (o : Option Instance). first_of (call_by k f o) (first_call M (suc k) fs t)) (no_instance ds M f t l.0 e) ∙ no_call ds M t e (suc k) fs l.1

pub only_terms : (ds : List Declaration) (M : Matching) (t : Tree) → HasLeftTerms ds M.group → has_value t ≡ false → call_at M t ≡ None
only_terms ds M t l e = no_call ds M t e 0 M.group.functions l
