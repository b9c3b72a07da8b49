-- Trees that define a variable have a site of it, and filling keeps their definitions.
use Rattle.std.proofs.Common.{◌≡◌, ℕ, Bool, true, false, cond, ◌==◌, List, ◌⊎◌, inl, inr, Option, Some, None, is_some, refl, ap, eq-eqb}
use Rattle.cv_syntax_trees.specs.declared.head.Head.{Head}
use Rattle.cv_syntax_trees.specs.declared.head.Head.TheVariants.{Binder, Branch, Cons, In, Leaf, Let, New, Out}
use Rattle.cv_syntax_trees.specs.Tree.{Tree, Empty, Node, second}
use Rattle.cv_syntax_trees.specs.declared.sites.sort.Sort.{Sort}
use Rattle.cv_syntax_trees.specs.declared.sites.sort.Sort.TheVariants.{BelowParameter, OfType}
use Rattle.cv_syntax_trees.specs.sites.Sites.{at_parameters, bound_sort, first_site, parameters_below, site_here}
use Rattle.cv_parse_grammar.specs.Filled.{filled_at, now_below, on_channel}
use Rattle.cv_scope_runs.proofs.Games.{first_some, second_some, with_parameters}

-- a list of binders has the variable
abbrev pub Binds : Tree → ℕ → Type 0
Binds (Node (Binder y T) a b) x = (y ≡ x) ⊎ Binds b x
Binds t x = ⊥

-- what stands at an input: written indices of its channel, and binders
abbrev pub BindsBehind : Tree → ℕ → Type 0
BindsBehind (Node Cons a b) x = Binds b x
BindsBehind t x = ⊥

-- a node with this first child defines the variable
abbrev pub DefinesHere : Head → Tree → ℕ → Type 0
DefinesHere (New y T) a x = y ≡ x
DefinesHere (Let y T) a x = y ≡ x
DefinesHere (In c) a x = BindsBehind a x
DefinesHere Branch a x = Binds a x
DefinesHere h a x = ⊥

-- a bare name has nothing below it that counts
abbrev pub MayDefine : Head → Type 0
MayDefine (Leaf y) = ⊥
MayDefine h = Unit {0}

-- so does a node of the tree
unfoldable pub Defines : Tree → ℕ → Type 0
Defines Empty x = ⊥
Defines (Node h a b) x = DefinesHere h a x ⊎ (MayDefine h × (Defines a x ⊎ Defines b x))

-- sites

named_there : (y x : ℕ) (S : Sort) (o : Option Sort) → y ≡ x → is_some (cond (y == x) (Some S) o) ≡ true
named_there y x S o e = ap (λ z. is_some (cond z (Some S) o)) (eq-eqb y x e)

later_there : (b : Bool) (S : Sort) (o : Option Sort) → is_some o ≡ true → is_some (cond b (Some S) o) ≡ true
later_there true S o e = refl
later_there false S o e = e

binder_there : (sort : ℕ → Sort) (t : Tree) (x : ℕ) → Binds t x → is_some (bound_sort sort x t) ≡ true
unfolding bound_sort
binder_there sort Empty x w = absurd w
binder_there sort (Node (Binder y T) a b) x (inl e) = named_there y x (sort T) (bound_sort sort x b) e
binder_there sort (Node (Binder y T) a b) x (inr w) = later_there (y == x) (sort T) (bound_sort sort x b) (binder_there sort b x w)
binder_there sort (Node h a b) x w = absurd w

behind_there : (a : Tree) (x : ℕ) → BindsBehind a x → is_some (bound_sort OfType x (second a)) ≡ true
behind_there (Node Cons a b) x w = binder_there OfType b x w
behind_there t x w = absurd w

here_there : (h : Head) (a : Tree) (x : ℕ) → DefinesHere h a x → is_some (site_here x h a) ≡ true
here_there (New y T) a x e = named_there y x (OfType T) None e
here_there (Let y T) a x e = named_there y x (OfType T) None e
here_there (In c) a x w = behind_there a x w
here_there Branch a x w = binder_there BelowParameter a x w
here_there h a x w = absurd w

pub site_there : (t : Tree) (x : ℕ) (ps : List ℕ) → Defines t x → is_some (first_site x ps t) ≡ true
unfolding Defines first_site
site_there Empty x ps w = absurd w
site_there (Node h a b) x ps (inl w) = first_some (at_parameters ps (site_here x h a)) _ (with_parameters ps (site_here x h a) (here_there h a x w))
site_there (Node h a b) x ps (inr (m, inl w)) = second_some (at_parameters ps (site_here x h a)) _ (first_some (first_site x ps a) _ (site_there a x ps w))
site_there (Node h a b) x ps (inr (m, inr w)) =
    second_some (at_parameters ps (site_here x h a)) _ (second_some (first_site x ps a) _ (site_there b x (parameters_below h ps) w))

-- filling

module _ (sites : ℕ → Option ℕ) where
  binders_filled : (now : List ℕ) (t : Tree) (x : ℕ) → Binds t x → Binds (filled_at sites now t) x
  unfolding filled_at
  binders_filled now Empty x w = absurd w
  binders_filled now (Node (Binder y T) a b) x (inl e) = inl e
  binders_filled now (Node (Binder y T) a b) x (inr w) = inr (binders_filled now b x w)
  binders_filled now (Node h a b) x w = absurd w

  on_input : (c : ℕ) (now : List ℕ) (a b : Tree) (x : ℕ) → Binds b x → BindsBehind (on_channel (In c) now (Node Cons a b)) x
  on_input c now Empty b x w = w
  on_input c now (Node h a d) b x w = w

  input_filled : (c : ℕ) (now : List ℕ) (a : Tree) (x : ℕ) → BindsBehind a x → BindsBehind (on_channel (In c) now (filled_at sites now a)) x
  unfolding filled_at
  input_filled c now (Node Cons a b) x w = on_input c now (filled_at sites now a) (filled_at sites now b) x (binders_filled now b x w)
  input_filled c now t x w = absurd w

  here_filled : (now : List ℕ) (h : Head) (a : Tree) (x : ℕ) → DefinesHere h a x → DefinesHere h (on_channel h now (filled_at sites now a)) x
  here_filled now (New y T) a x e = e
  here_filled now (Let y T) a x e = e
  here_filled now (In c) a x w = input_filled c now a x w
  here_filled now Branch a x w = binders_filled now a x w
  here_filled now h a x w = absurd w

  channel_kept : (h : Head) (now : List ℕ) (t : Tree) (x : ℕ) → Defines t x → Defines (on_channel h now t) x
  unfolding Defines
  channel_kept (In c) now (Node Cons Empty b) x (inr (m, inr w)) = inr (tt, inr w)
  channel_kept (In c) now (Node Cons Empty b) x (inr (m, inl w)) = absurd w
  channel_kept (In c) now (Node Cons Empty b) x (inl w) = absurd w
  channel_kept (Out c) now (Node Cons Empty b) x (inr (m, inr w)) = inr (tt, inr w)
  channel_kept (Out c) now (Node Cons Empty b) x (inr (m, inl w)) = absurd w
  channel_kept (Out c) now (Node Cons Empty b) x (inl w) = absurd w
  channel_kept h now t x w = w

  abbrev IsKept : Tree → ℕ → Type 0
  IsKept t x = (now : List ℕ) → Defines t x → Defines (filled_at sites now t) x

  node_filled : (now : List ℕ) (h : Head) (a b : Tree) (x : ℕ) → IsKept a x → IsKept b x → DefinesHere h a x ⊎ (MayDefine h × (Defines a x ⊎ Defines b x))
      → DefinesHere h (on_channel h now (filled_at sites now a)) x ⊎ (MayDefine h × (Defines (on_channel h now (filled_at sites now a)) x ⊎ Defines (filled_at sites (now_below h now) b) x))
  node_filled now h a b x f g (inl w) = inl (here_filled now h a x w)
  node_filled now h a b x f g (inr (m, inl w)) = inr (m, inl (channel_kept h now (filled_at sites now a) x (f now w)))
  node_filled now h a b x f g (inr (m, inr w)) = inr (m, inr (g (now_below h now) w))

  name_none : (y : ℕ) (a b : Tree) (x : ℕ) → Defines (Node (Leaf y) a b) x → ⊥
  unfolding Defines
  name_none y a b x (inl w) = w
  name_none y a b x (inr w) = w.0

  pub defines_filled : (now : List ℕ) (t : Tree) (x : ℕ) → Defines t x → Defines (filled_at sites now t) x
  unfolding Defines filled_at
  defines_filled now Empty x w = absurd w
  defines_filled now (Node (Leaf y) a b) x w = absurd (name_none y a b x w)
  defines_filled now (Node h a b) x w = node_filled now h a b x (λ now w. defines_filled now a x w) (λ now w. defines_filled now b x w) w
