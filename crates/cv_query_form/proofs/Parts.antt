-- The tests of a query, node by node.
use Rattle.std.proofs.Common.{◌≡◌, ℕ, zero, suc, ◌+◌, ◌<◌, ◌≤◌, Bool, true, false, ◌&&◌, ◌||◌, not, List, [], ◌∷◌, length, drop, refl, ap, sym, ◌∙◌, arith, nat_eq, Option, Some, None, IsNone, is_some, ◌↔◌, ◌⊎◌, inl, inr, subst, option_and_then, All, Result, IfOk}
use Rattle.std.specs.Prelude.{slice_get, option_map}
use Rattle.std.specs.HashSet.{UpdatesBy}
use Rattle.std.proofs.Math.Path.{fun_ext}
use Rattle.std.proofs.lemmas.Bool.{both_ways}
use Rattle.std.proofs.lemmas.List.Elements.{All-head, All-tail}
use Rattle.cv_pool.specs.declared.node.NodeId.{NodeId}
use Rattle.cv_pool.specs.KindTree.{KindTree}
use Rattle.cv_syntax.specs.declared.decls.Decl.{Decl}
use Rattle.cv_syntax.specs.declared.decls.Decl.TheVariants as decl
use Rattle.cv_syntax_trees.specs.declared.head.Head.{Head}
use Rattle.cv_syntax_trees.specs.declared.head.Head.TheVariants.{Leaf, Cons, Query, Occurs, OccursOnce, Secret, SecretOnce, SomeOf}
use Rattle.cv_syntax.specs.Declarations.{declarations}
use Rattle.cv_syntax.specs.NameSets.{NameSet, is_in, is_one_of}
use Rattle.cv_syntax_trees.specs.Tree.{Tree, Empty, Node}
use Rattle.cv_syntax.specs.PoolTrees.{tree_at}
use Rattle.cv_syntax_trees.specs.Children.{is_empty}
use Rattle.cv_syntax.specs.Classes.{query_of}
use Rattle.cv_syntax.proofs.Trees.{tree_at_None, empty_at}
use Rattle.cv_meaning.specs.Binders.{bound_names}
use Rattle.cv_meaning.specs.Correspondences.{is_once}
use Rattle.cv_directory.specs.Live.{IsLive}
use Rattle.cv_syntax_trees.specs.sites.Sites.{SitesView, sites_of}
use Rattle.cv_query_form.specs.Held.{has_parts, valued, cell_variable, event_passes, events_pass, correspondence_passes, secret_passes, node_passes}
use Rattle.cv_meaning.specs.Queries.{queries_in}
use Rattle.cv_query_form.specs.Tests.{without, are_distinct, is_left_event, sides_pass, some_is_marked, passes, may_be_asked, first_refused}
use Rattle.cv_query_form.proofs.First.{passed, stopped}

-- one step of a conjunction, and of a disjunction
pub and_false : (x : Bool) (b r total : Bool) → x ≡ (b && r) → x ≡ total → b ≡ false → false ≡ total
and_false x b r total e h f = sym (ap (λ c. c && r) f) ∙ (sym e ∙ h)

pub and_true : (x : Bool) (b r total : Bool) → x ≡ (b && r) → x ≡ total → b ≡ true → r ≡ total
and_true x b r total e h f = sym (ap (λ c. c && r) f) ∙ (sym e ∙ h)

pub or_true : (x : Bool) (b r total : Bool) → x ≡ (b || r) → x ≡ total → b ≡ true → true ≡ total
or_true x b r total e h f = sym (ap (λ c. c || r) f) ∙ (sym e ∙ h)

pub or_false : (x : Bool) (b r total : Bool) → x ≡ (b || r) → x ≡ total → b ≡ false → r ≡ total
or_false x b r total e h f = sym (ap (λ c. c || r) f) ∙ (sym e ∙ h)

-- two tests, the second of which is made only where the first one passes
pub and_here : (found e r d : Bool) → found ≡ e → found ≡ true → r ≡ d → r ≡ (e && d)
and_here found e r d f g h = h ∙ sym (ap (λ b. b && d) (sym f ∙ g))

pub and_nowhere : (found e r d : Bool) → found ≡ e → found ≡ false → r ≡ found → r ≡ (e && d)
and_nowhere found e r d f g h = h ∙ (g ∙ sym (ap (λ b. b && d) (sym f ∙ g)))

-- a node has a tree
pub none_empty : (trees : List KindTree) (o : Option NodeId) (found : Bool) → is_some o ≡ not found → (IsNone o ↔ (tree_at trees o ≡ Empty)) → found ≡ is_empty (tree_at trees o)
none_empty trees None true e h = ap is_empty (sym (tree_at_None trees))
none_empty trees None false e h = absurd (cc)
none_empty trees (Some n) true e h = absurd (cc)
none_empty trees (Some n) false e h = full (tree_at trees (Some n)) h.1
  where
    full : (t : Tree) → (t ≡ Empty → IsNone (Some n)) → false ≡ is_empty t
    full Empty f = sym (f refl)
    full (Node k a b) f = refl

-- binders

pub removed : (x : ℕ) (m n : NameSet) → UpdatesBy nat_eq (nat_eq x) m n false → is_in n ≡ without (is_in m) x
removed x m n u = fun_ext (λ y. u.0 y)

-- arguments

pub distinct_step : (free : ℕ → Bool) (t : Tree) (h : Head) (a b : Tree) (x : ℕ) → t ≡ Node h a b → cell_variable h a ≡ Some x → are_distinct free t ≡ (free x && are_distinct (without free x) b)
unfolding are_distinct
distinct_step free t h a b x e f = ap (are_distinct free) e ∙ step h a b x f
  where
    step : (h : Head) (a b : Tree) (x : ℕ) → cell_variable h a ≡ Some x → are_distinct free (Node h a b) ≡ (free x && are_distinct (without free x) b)
    step Cons (Node (Leaf y) Empty Empty) b x f = let g : y ≡ x = cc in ap (λ z. free z && are_distinct (without free z) b) g
    step Cons a b x f = absurd (cc)
    step h a b x f = absurd (cc)

pub distinct_other : (free : ℕ → Bool) (t : Tree) (h : Head) (a b : Tree) → t ≡ Node h a b → cell_variable h a ≡ None → are_distinct free t ≡ false
unfolding are_distinct
distinct_other free t h a b e f = ap (are_distinct free) e ∙ step h a b f
  where
    step : (h : Head) (a b : Tree) → cell_variable h a ≡ None → are_distinct free (Node h a b) ≡ false
    step Cons (Node (Leaf y) Empty Empty) b f = absurd (cc)
    step Cons a b f = refl
    step h a b f = refl

pub distinct_end : (free : ℕ → Bool) (trees : List KindTree) (at : Option NodeId) → at ≡ None → are_distinct free (tree_at trees at) ≡ true
unfolding are_distinct
distinct_end free trees at e = ap (are_distinct free) (empty_at trees at e)

pub event_step : (free : ℕ → Bool) (t : Tree) (h : Head) (a b : Tree) → t ≡ Node h a b → is_left_event free t ≡ event_passes free h a b
unfolding is_left_event
event_step free t h a b e = ap (is_left_event free) e ∙ step h a b
  where
    step : (h : Head) (a b : Tree) → is_left_event free (Node h a b) ≡ event_passes free h a b
    step (Occurs e) a Empty = refl
    step (Occurs e) a (Node k c d) = refl
    step (OccursOnce e) a Empty = refl
    step (OccursOnce e) a (Node k c d) = refl
    step h a b = refl

pub event_end : (free : ℕ → Bool) (trees : List KindTree) (at : Option NodeId) → at ≡ None → false ≡ is_left_event free (tree_at trees at)
unfolding is_left_event
event_end free trees at e = sym (ap (is_left_event free) (empty_at trees at e))

pub event_other : (free : ℕ → Bool) (t : Tree) (h : Head) (a b : Tree) → t ≡ Node h a b → ((x : ℕ) → h ≡ Occurs x → ⊥) → ((x : ℕ) → h ≡ OccursOnce x → ⊥) → false ≡ is_left_event free t
event_other free t h a b e n m = sym (event_step free t h a b e ∙ step h n m)
  where
    step : (h : Head) → ((x : ℕ) → h ≡ Occurs x → ⊥) → ((x : ℕ) → h ≡ OccursOnce x → ⊥) → event_passes free h a b ≡ false
    step (Occurs x) n m = absurd (n x refl)
    step (OccursOnce x) n m = absurd (m x refl)
    step h n m = refl

pub event_passes_law : (free : ℕ → Bool) (t : Tree) (h : Head) (a b : Tree) (r : Bool) → t ≡ Node h a b → ((x : ℕ) × (h ≡ Occurs x)) ⊎ ((x : ℕ) × (h ≡ OccursOnce x)) → r ≡ (is_empty b && are_distinct free a) → r ≡ is_left_event free t
event_passes_law free t h a b r e (inl k) f = f ∙ sym (event_step free t h a b e ∙ ap (λ j. event_passes free j a b) k.1)
event_passes_law free t h a b r e (inr k) f = f ∙ sym (event_step free t h a b e ∙ ap (λ j. event_passes free j a b) k.1)

-- marks

pub marked_step : (t : Tree) (h : Head) (a b : Tree) → t ≡ Node h a b → has_parts h ≡ true → some_is_marked t ≡ (some_is_marked a || some_is_marked b)
unfolding some_is_marked
marked_step t h a b e p = ap some_is_marked e ∙ step h p
  where
    step : (h : Head) → has_parts h ≡ true → some_is_marked (Node h a b) ≡ (some_is_marked a || some_is_marked b)
    step Cons p = refl
    step SomeOf p = refl
    step h p = absurd (both_ways _ refl p)

pub marked_atom : (t : Tree) (h : Head) (a b : Tree) → t ≡ Node h a b → has_parts h ≡ false → is_once t ≡ some_is_marked t
unfolding some_is_marked
marked_atom t h a b e n = ap is_once e ∙ (step h a b n ∙ sym (ap some_is_marked e))
  where
    step : (h : Head) (a b : Tree) → has_parts h ≡ false → is_once (Node h a b) ≡ some_is_marked (Node h a b)
    step Cons a b n = absurd (both_ways _ n refl)
    step SomeOf a b n = absurd (both_ways _ n refl)
    step h a b n = refl

pub marked_end : (trees : List KindTree) (at : Option NodeId) → at ≡ None → some_is_marked (tree_at trees at) ≡ false
unfolding some_is_marked
marked_end trees at e = ap some_is_marked (empty_at trees at e)

-- queries

pub passes_step : (values : ℕ → Bool) (t : Tree) (h : Head) (a b : Tree) → t ≡ Node h a b → passes values t ≡ node_passes values h a b
unfolding passes
passes_step values t h a b e = ap (passes values) e ∙ step h a b
  where
    step : (h : Head) (a b : Tree) → passes values (Node h a b) ≡ node_passes values h a b
    step Query a Empty = refl
    step Query a (Node Cons c d) = refl
    step Query a (Node k c d) = refl
    step (Secret x) Empty Empty = refl
    step (Secret x) Empty (Node k c d) = refl
    step (Secret x) (Node k c d) b = refl
    step (SecretOnce x) Empty Empty = refl
    step (SecretOnce x) Empty (Node k c d) = refl
    step (SecretOnce x) (Node k c d) b = refl
    step h a b = refl

pub passes_other : (values : ℕ → Bool) (t : Tree) (h : Head) (a b : Tree) → t ≡ Node h a b → (h ≡ Query → ⊥) → ((x : ℕ) → h ≡ Secret x → ⊥) → ((x : ℕ) → h ≡ SecretOnce x → ⊥) → false ≡ passes values t
passes_other values t h a b e n m o = sym (passes_step values t h a b e ∙ step h n m o)
  where
    step : (h : Head) → (h ≡ Query → ⊥) → ((x : ℕ) → h ≡ Secret x → ⊥) → ((x : ℕ) → h ≡ SecretOnce x → ⊥) → node_passes values h a b ≡ false
    step Query n m o = absurd (n refl)
    step (Secret x) n m o = absurd (m x refl)
    step (SecretOnce x) n m o = absurd (o x refl)
    step h n m o = refl

pub passes_query : (values : ℕ → Bool) (t : Tree) (h : Head) (a b : Tree) → t ≡ Node h a b → h ≡ Query → correspondence_passes a b ≡ passes values t
passes_query values t h a b e f = sym (passes_step values t h a b e ∙ ap (λ k. node_passes values k a b) f)

pub passes_secret : (values : ℕ → Bool) (t : Tree) (h : Head) (a b : Tree) (x : ℕ) (r : Bool) → t ≡ Node h a b → (h ≡ Secret x) ⊎ (h ≡ SecretOnce x) → r ≡ secret_passes values x a b → r ≡ passes values t
passes_secret values t h a b x r e (inl k) f = f ∙ sym (passes_step values t h a b e ∙ ap (λ j. node_passes values j a b) k)
passes_secret values t h a b x r e (inr k) f = f ∙ sym (passes_step values t h a b e ∙ ap (λ j. node_passes values j a b) k)

pub events_end : (bs : Tree) (trees : List KindTree) (at : Option NodeId) → at ≡ None → false ≡ correspondence_passes bs (tree_at trees at)
events_end bs trees at e = sym (ap (correspondence_passes bs) (empty_at trees at e))

events_step : (bs t : Tree) (h : Head) (l r : Tree) (free : ℕ → Bool) → t ≡ Node h l r → h ≡ Cons → free ≡ is_one_of (bound_names bs) → correspondence_passes bs t ≡ (is_left_event free l && sides_pass l r)
events_step bs t h l r free e f g = ap (correspondence_passes bs) e ∙ (ap (λ k. events_pass bs k l r) f ∙ ap (λ p. is_left_event p l && sides_pass l r) (sym g))

pub events_refused : (bs t : Tree) (h : Head) (l r : Tree) (free : ℕ → Bool) (found : Bool) → t ≡ Node h l r → h ≡ Cons → free ≡ is_one_of (bound_names bs) → found ≡ is_left_event free l → found ≡ false → false ≡ correspondence_passes bs t
events_refused bs t h l r free found e f g i n = sym (events_step bs t h l r free e f g ∙ ap (λ b. b && sides_pass l r) (sym i ∙ n))

pub events_accepted : (bs t : Tree) (h : Head) (l r : Tree) (free : ℕ → Bool) (found : Bool) → t ≡ Node h l r → h ≡ Cons → free ≡ is_one_of (bound_names bs) → found ≡ is_left_event free l → found ≡ true → sides_pass l r ≡ correspondence_passes bs t
events_accepted bs t h l r free found e f g i n = sym (events_step bs t h l r free e f g ∙ ap (λ b. b && sides_pass l r) (sym i ∙ n))

pub ok_same : {E : Type 0} (r : Result Bool E) (b c : Bool) → b ≡ c → IfOk r (λ found. found ≡ b) → IfOk r (λ found. found ≡ c)
ok_same r b c e m = subst (λ d. IfOk r (λ found. found ≡ d)) e m

pub asked_same : (sites : SitesView) (game query : Tree) (found b : Bool) → sites ≡ sites_of game → found ≡ passes (valued sites) query → found ≡ b → may_be_asked game query ≡ b
asked_same sites game query found b e f g = sym (ap (λ s. passes (valued s) query) e) ∙ (sym f ∙ g)

-- the queries of a list of declarations, from a place on

pub queries_skip : (trees : List KindTree) (ds : List Decl) (k : ℕ) → k < length ds → option_and_then query_of (slice_get ds k) ≡ None → queries_in (declarations trees (drop k ds)) ≡ queries_in (declarations trees (drop (k + 1) ds))
unfolding queries_in
queries_skip trees [] k l e = absurd (omega arith)
queries_skip trees (decl.Name id c args result ∷ ds) zero l e = refl
queries_skip trees (decl.Equation n ∷ ds) zero l e = refl
queries_skip trees (decl.Equiv id n ∷ ds) zero l e = refl
queries_skip trees (decl.Query n ∷ ds) zero l e = absurd (cc)
queries_skip trees (x ∷ ds) (suc k) l e = let n : suc k + 1 ≡ suc (k + 1) = omega arith in queries_skip trees ds k (omega arith) e ∙ ap (λ j. queries_in (declarations trees (drop j (x ∷ ds)))) (sym n)

pub queries_take : (trees : List KindTree) (ds : List Decl) (k : ℕ) (q : NodeId) → option_and_then query_of (slice_get ds k) ≡ Some q → queries_in (declarations trees (drop k ds)) ≡ tree_at trees (Some q) ∷ queries_in (declarations trees (drop (k + 1) ds))
unfolding queries_in
queries_take trees [] k q e = absurd (cc)
queries_take trees (decl.Name id c args result ∷ ds) zero q e = absurd (cc)
queries_take trees (decl.Equation n ∷ ds) zero q e = absurd (cc)
queries_take trees (decl.Equiv id n ∷ ds) zero q e = absurd (cc)
queries_take trees (decl.Query n ∷ ds) zero q e = let h : n ≡ q = cc in ap (λ m. tree_at trees (Some m) ∷ queries_in (declarations trees ds)) h
queries_take trees (x ∷ ds) (suc k) q e = let n : suc k + 1 ≡ suc (k + 1) = omega arith in queries_take trees ds k q e ∙ ap (λ j. tree_at trees (Some q) ∷ queries_in (declarations trees (drop j (x ∷ ds)))) (sym n)

pub queries_past : (trees : List KindTree) (ds : List Decl) (k : ℕ) → length ds ≤ k → queries_in (declarations trees (drop k ds)) ≡ []
unfolding queries_in
queries_past trees [] zero l = refl
queries_past trees [] (suc k) l = refl
queries_past trees (x ∷ ds) zero l = absurd (omega arith)
queries_past trees (x ∷ ds) (suc k) l = queries_past trees ds k (omega arith)

pub query_below : (bound : ℕ) (ds : List Decl) (k : ℕ) (q : NodeId) → All (IsLive bound) ds → option_and_then query_of (slice_get ds k) ≡ Some q → q.0 < bound
query_below bound [] k q p e = absurd (cc)
query_below bound (decl.Name id c args result ∷ ds) zero q p e = absurd (cc)
query_below bound (decl.Equation n ∷ ds) zero q p e = absurd (cc)
query_below bound (decl.Equiv id n ∷ ds) zero q p e = absurd (cc)
query_below bound (decl.Query n ∷ ds) zero q p e = let h : n ≡ q = cc in subst (λ (m : NodeId). m.0 < bound) h (All-head (IsLive bound) (decl.Query n) ds p)
query_below bound (d ∷ ds) (suc k) q p e = query_below bound ds k q (All-tail (IsLive bound) d ds p) e

-- a number, and so many queries before
abbrev pub behind : ℕ → Option ℕ → Option ℕ
behind n o = option_map (λ m. m + n) o

pub none_before : (o : Option ℕ) → behind 0 o ≡ o
none_before None = refl
none_before (Some k) = let n : k + 0 ≡ k = omega arith in ap Some n

-- one query that may be asked
pub refused_later : (game q : Tree) (qs rest : List Tree) (n : ℕ) (total : Option ℕ) → rest ≡ q ∷ qs → may_be_asked game q ≡ true → behind n (first_refused game rest) ≡ total → behind (n + 1) (first_refused game qs) ≡ total
refused_later game q qs rest n total e f h = one_later (first_refused game qs) ∙ (ap (behind n) (sym (passed game q qs f)) ∙ (ap (λ l. behind n (first_refused game l)) (sym e) ∙ h))
  where
    one_later : (o : Option ℕ) → behind (n + 1) o ≡ behind n (option_map suc o)
    one_later None = refl
    one_later (Some k) = let m : k + (n + 1) ≡ suc k + n = omega arith in ap Some m

-- one query that may not
pub refused_here : (game q : Tree) (qs rest : List Tree) (n : ℕ) (total : Option ℕ) → rest ≡ q ∷ qs → may_be_asked game q ≡ false → behind n (first_refused game rest) ≡ total → Some (n + 1) ≡ total
refused_here game q qs rest n total e f h = let m : n + 1 ≡ 1 + n = omega arith in ap Some m ∙ (ap (behind n) (sym (stopped game q qs f)) ∙ (ap (λ l. behind n (first_refused game l)) (sym e) ∙ h))

-- no query more
pub refused_none : (game : Tree) (rest : List Tree) (n : ℕ) (total : Option ℕ) → rest ≡ [] → behind n (first_refused game rest) ≡ total → None ≡ total
unfolding first_refused
refused_none game rest n total e h = ap (λ l. behind n (first_refused game l)) (sym e) ∙ h
