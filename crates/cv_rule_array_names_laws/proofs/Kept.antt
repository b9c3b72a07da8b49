-- What the game has and the next game keeps: declared types and parameters, values of choices and tests, and that no replication has the
-- name of the variable. The next game binds the variable nowhere.
use Rattle.std.proofs.Common.{◌≡◌, ℕ, ◌==◌, Bool, true, false, cond, not, List, Some, None, is_some, refl, sym, ap, ◌∙◌, eqb-true}
use Rattle.std.proofs.lemmas.Bool.{and_from, both_ways}
use Rattle.cv_syntax.specs.faults.Walk.{IsObeyed}
use Rattle.cv_syntax_trees.specs.declared.head.Head.{Head}
use Rattle.cv_syntax_trees.specs.declared.head.Head.TheVariants.{Binder, Branch, Call, Cons, In, Key, Let, New, Repl}
use Rattle.cv_syntax_trees.specs.Declarations.{Declaration}
use Rattle.cv_syntax_trees.specs.Tree.{Tree, Empty, Node, second}
use Rattle.cv_syntax_trees.specs.sites.Sites.{index_here}
use Rattle.cv_syntax_trees.specs.declared.sites.sort.Sort.{Sort}
use Rattle.cv_syntax_trees.specs.declared.sites.sort.Sort.TheVariants.{BelowParameter, OfType}
use Rattle.cv_meaning.specs.Interpretation.{Setting}
use Rattle.cv_meaning.specs.Runs.{Mode}
use Rattle.cv_meaning_chances.specs.values.Values.{ConstructHasValues, HasValuesIn, is_tested}
use Rattle.cv_scope_rules.specs.Phrases.{binds_none, head_binds_none}
use Rattle.cv_scope_rules.specs.Rules.{BindsNewIndex, Names}
use Rattle.cv_scope_rules.specs.Scope.{IsScopedAt}
use Rattle.cv_scope_rules.specs.Standing.{Standing, first_standing, second_standing}
use Rattle.cv_scope_rules.specs.declared.fault.Fault.TheVariants.{Replications}
use Rattle.cv_steps.specs.Changes.{only}
use Rattle.cv_steps_laws.proofs.Indices.{Lacks, lacking_empty, lacking_node, lacking_parts}
use Rattle.cv_typing_runs.specs.Games.{AreDeclared, HasDeclaredSorts, NamesDeclared}
use Rattle.cv_edit_names.specs.Naming.{Naming}
use Rattle.cv_rule_array_names_laws.proofs.Parts.{HeadFor, PartFor, defines_other, again, for_binder, for_leaf, for_let, for_new, for_read, node, nothing, same}
use Rattle.cv_rule_array_names.proofs.Stores.{is_name}

-- a variable is no index

pub no_index : (s : Standing) (known : Names) (x : ℕ) → known.variable x ≡ true → (t : Tree) → IsScopedAt known s t → Lacks x t
unfolding IsObeyed
no_index s known x v Empty o = lacking_empty x
no_index s known x v (Node h a b) o = lacking_node x h a b (head h (o.0 Replications).2) (no_index (first_standing s h a) known x v a o.1) (no_index (second_standing s h a) known x v b o.2)
  where
    replication : (i m : ℕ) (w : Bool) → (i == x) ≡ w → known.variable i ≡ false → is_some (cond w (Some m) None) ≡ false
    replication i m true e f = absurd (both_ways (known.variable i) f (ap known.variable (eqb-true i x e) ∙ v))
    replication i m false e f = refl

    head : (h : Head) → BindsNewIndex known s.known.replications h → is_some (index_here x h) ≡ false
    head (Repl i m) r = replication i m (i == x) refl r.1
    head h r = refl

-- the variable is bound nowhere

module _ (x : ℕ) (ys : List ℕ) (old : is_name ys x ≡ false) where
  new_name : (y : ℕ) → is_name ys y ≡ true → not (only x y) ≡ true
  new_name y e = go (y == x) refl
    where
      go : (b : Bool) → (y == x) ≡ b → not b ≡ true
      go true i = absurd (both_ways (is_name ys x) old (ap (is_name ys) (sym (eqb-true y x i)) ∙ e))
      go false i = refl

  not_index : (m : ℕ) (b : Bool) → is_some (cond b (Some m) None) ≡ false → not b ≡ true
  not_index m true e = absurd (both_ways true e refl)
  not_index m false e = refl

  kept_binds : (h : Head) → defines_other x h ≡ true → is_some (index_here x h) ≡ false → head_binds_none (only x) h ≡ true
  kept_binds (Repl i m) e f = not_index m (i == x) f
  kept_binds (New z T) e f = e
  kept_binds (Let z T) e f = e
  kept_binds (Binder z T) e f = e
  kept_binds (Key z) e f = e
  kept_binds (Call z l) e f = e
  kept_binds h e f = refl

  head_binds : (h k : Head) → HeadFor x ys h k → is_some (index_here x h) ≡ false → head_binds_none (only x) k ≡ true
  head_binds h k (same e) f = kept_binds h e f
  head_binds h k (for_new {y = y} e) f = new_name y e
  head_binds h k (for_let {y = y} e) f = new_name y e
  head_binds h k (for_binder {y = y} e) f = new_name y e
  head_binds h k for_leaf f = refl
  head_binds h k for_read f = refl

pub variable_bound_nowhere : (n : Naming) → is_name n.names n.variable ≡ false → (p : ℕ) (t u : Tree) → PartFor n p t u → Lacks n.variable t → binds_none (only n.variable) u ≡ true
unfolding binds_none
variable_bound_nowhere n old p t u nothing l = refl
variable_bound_nowhere n old p t u (node {h = h} {k = k} {a = a} {b = b} {c = c} {d = d} f made one two) l =
    let q = lacking_parts n.variable h a b l in
    and_from (head_binds_none (only n.variable) k) _ (head_binds n.variable n.names old h k f q.0)
    (and_from (binds_none (only n.variable) c) (binds_none (only n.variable) d) (variable_bound_nowhere n old _ a c one q.1) (variable_bound_nowhere n old _ b d two q.2))
variable_bound_nowhere n old p t u (again {b = b} {c = c} {more = more} {rest = rest} one two) l =
    let q = lacking_parts n.variable Cons b more l in
    and_from (binds_none (only n.variable) c) (binds_none (only n.variable) rest) (variable_bound_nowhere n old _ b c one q.1) (variable_bound_nowhere n old _ (Node Cons b more) rest two l)

-- types and parameters

module _ (ds : List Declaration) (n : Naming) where
  -- what binders declare, by their heads
  binder_declared : (sort : ℕ → Sort) (h k : Head) (a b c d : Tree) → HeadFor n.variable n.names h k → (AreDeclared ds sort b → AreDeclared ds sort d) → AreDeclared ds sort (Node h a b) → AreDeclared ds sort (Node k c d)
  unfolding AreDeclared
  binder_declared sort h k a b c d (same e) f g = go h g
    where
      go : (h : Head) → AreDeclared ds sort (Node h a b) → AreDeclared ds sort (Node h c d)
      go (Binder z T) g = (g.0, f g.1)
      go h g = f g
  binder_declared sort h k a b c d (for_new e) f g = f g
  binder_declared sort h k a b c d (for_let e) f g = f g
  binder_declared sort h k a b c d (for_binder e) f g = (g.0, f g.1)
  binder_declared sort h k a b c d for_leaf f g = f g
  binder_declared sort h k a b c d for_read f g = f g

  binders_declared : (sort : ℕ → Sort) (p : ℕ) (t u : Tree) → PartFor n p t u → AreDeclared ds sort t → AreDeclared ds sort u
  unfolding AreDeclared
  binders_declared sort p t u nothing g = tt
  binders_declared sort p t u (node {h = h} {k = k} {a = a} {b = b} {c = c} {d = d} f made one two) g = binder_declared sort h k a b c d f (λ r. binders_declared sort _ b d two r) g
  binders_declared sort p t u (again {b = b} {c = c} {more = more} {rest = rest} one two) g = binders_declared sort p (Node Cons b more) rest two g

  second_declared : (sort : ℕ → Sort) (p : ℕ) (t u : Tree) → PartFor n p t u → AreDeclared ds sort (second t) → AreDeclared ds sort (second u)
  unfolding AreDeclared
  second_declared sort p t u nothing g = g
  second_declared sort p t u (node {b = b} {d = d} f made one two) g = binders_declared sort _ b d two g
  second_declared sort p t u (again {b = b} {more = more} {rest = rest} one two) g = binders_declared sort p (Node Cons b more) rest two g

  names_declared : (h k : Head) (q : ℕ) (a c : Tree) → HeadFor n.variable n.names h k → PartFor n q a c → NamesDeclared ds h a → NamesDeclared ds k c
  names_declared h k q a c (same e) part g = go h g
    where
      go : (h : Head) → NamesDeclared ds h a → NamesDeclared ds h c
      go (In d) g = second_declared OfType q a c part g
      go Branch g = binders_declared BelowParameter q a c part g
      go (Repl i m) g = g
      go (New z T) g = g
      go (Let z T) g = g
      go h g = tt
  names_declared h k q a c (for_new e) part g = g
  names_declared h k q a c (for_let e) part g = g
  names_declared h k q a c (for_binder e) part g = tt
  names_declared h k q a c for_leaf part g = tt
  names_declared h k q a c for_read part g = tt

  pub sorts_declared : (p : ℕ) (t u : Tree) → PartFor n p t u → HasDeclaredSorts ds t → HasDeclaredSorts ds u
  unfolding HasDeclaredSorts
  sorts_declared p t u nothing g = tt
  sorts_declared p t u (node {h = h} {k = k} {a = a} {b = b} {c = c} {d = d} f made one two) g = (names_declared h k _ a c f one g.0, sorts_declared _ a c one g.1, sorts_declared _ b d two g.2)
  sorts_declared p t u (again {b = b} {c = c} {more = more} {rest = rest} one two) g = (tt, sorts_declared _ b c one g.1, sorts_declared p (Node Cons b more) rest two g)

-- choices and tests

module _ (g : Setting) (m : Mode) (n : Naming) (fresh : (y : ℕ) → is_name n.names y ≡ true → is_tested m y ≡ false) where
  head_valued : (h k : Head) → HeadFor n.variable n.names h k → ConstructHasValues g m h → ConstructHasValues g m k
  head_valued h k (same e) v = v
  head_valued h k (for_new e) v = v
  head_valued h k (for_let e) v = v
  head_valued h k (for_binder {y = y} e) v = λ t. absurd (both_ways (is_tested m y) (fresh y e) t)
  head_valued h k for_leaf v = tt
  head_valued h k for_read v = tt

  pub has_values : (p : ℕ) (t u : Tree) → PartFor n p t u → HasValuesIn g m t → HasValuesIn g m u
  unfolding HasValuesIn
  has_values p t u nothing v = tt
  has_values p t u (node {h = h} {k = k} {a = a} {b = b} {c = c} {d = d} f made one two) v = (head_valued h k f v.0, has_values _ a c one v.1, has_values _ b d two v.2)
  has_values p t u (again {b = b} {c = c} {more = more} {rest = rest} one two) v = (tt, has_values _ b c one v.1, has_values p (Node Cons b more) rest two v)
