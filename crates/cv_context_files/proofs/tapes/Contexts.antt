-- In the context of a game choices and tests have values, where they have in the game, and what the side chooses has.
use Rattle.std.proofs.Common.{ℕ, suc, ◌+◌, ◌<◌, Bool, true, false, cond, ◌==◌, List, [], ◌∷◌, ◌++◌, length, map, Option, Some, None}
use Rattle.std.specs.List.{AllByRecursion}
use Rattle.cv_syntax_trees.specs.declared.head.Head.{Head}
use Rattle.cv_syntax_trees.specs.declared.head.Head.TheVariants.{Call, Key, Leaf, New}
use Rattle.cv_syntax_trees.specs.Declarations.{Declaration}
use Rattle.cv_syntax_trees.specs.Tree.{Tree, Empty, Node, chain, first, first_place, second, second_place}
use Rattle.cv_meaning.specs.Interpretation.{Interpretation, Setting, setting_of, setting_with}
use Rattle.cv_meaning.specs.Runs.{Mode}
use Rattle.cv_meaning.specs.Side.{CallNumber, Side}
use Rattle.cv_meaning_chances.specs.Tests.{HasValues}
use Rattle.cv_meaning.specs.contexts.Groups.{Function}
use Rattle.cv_meaning_chances.specs.values.Values.{ConstructHasValues, HasValuesIn}
use Rattle.cv_syntax_trees.specs.sites.Sites.{first_of}
use Rattle.cv_scope_rules.specs.declared.position.Position.{Position}
use Rattle.cv_scope_rules.specs.Context.{cell_of, first_position, index_terms, replications_below, second_position}
use Rattle.cv_scene.specs.Scenes.{or_empty}
use Rattle.cv_scene.specs.Instances.{Call as Found, Matching, call_at, call_by, first_call, guess, instance_of, is_instance, standing_for, standing_here, term_for}
use Rattle.cv_scene.specs.Sites.{Site, is_guard, sites_in}
use Rattle.cv_scene.specs.Contexts.{after_calls, context_in, in_context, is_statement}
use Rattle.cv_syntax_trees.proofs.lists.Each.{AllByRecursion_append}

module _ (ds : List Declaration) (i : Interpretation) (m : Mode) (side : Side) (key : 0 < side.key_size) (calls : (n : CallNumber) → HasValues (side.cells n)) where
  abbrev g : Setting
  g = setting_with ds i side

  abbrev Valued : Tree → Type 0
  Valued t = HasValuesIn g m t

  -- with the side

  head_valued : (h : Head) → ConstructHasValues (setting_of ds i) m h → ConstructHasValues g m h
  head_valued (Key x) v = key
  head_valued (Call x l) v = λ u. calls (record { tuple = u; site = l })
  head_valued h v = v

  valued_with : (t : Tree) → HasValuesIn (setting_of ds i) m t → Valued t
  unfolding HasValuesIn
  valued_with Empty v = tt
  valued_with (Node h a b) v = (head_valued h v.0, valued_with a v.1, valued_with b v.2)

  -- terms of calls

  index_terms_valued : (rs : List (ℕ × ℕ)) → Valued (index_terms rs)
  unfolding HasValuesIn
  index_terms_valued [] = tt
  index_terms_valued (r ∷ rs) = (tt, (tt, tt, tt), index_terms_valued rs)

  cell_valued : (rs : List (ℕ × ℕ)) (x : ℕ) → Valued (cell_of rs x)
  unfolding HasValuesIn
  cell_valued [] x = (tt, tt, tt)
  cell_valued (r ∷ rs) x = (tt, index_terms_valued (r ∷ rs), tt)

  chain_valued : (ts : List Tree) → AllByRecursion Valued ts → Valued (chain ts)
  unfolding HasValuesIn
  chain_valued [] v = tt
  chain_valued (t ∷ ts) v = (tt, v.0, chain_valued ts v.1)

  -- a name stands for a part of the term

  first_valued : (t : Tree) → Valued t → Valued (first t)
  unfolding HasValuesIn
  first_valued Empty v = v
  first_valued (Node h a b) v = v.1

  second_valued : (t : Tree) → Valued t → Valued (second t)
  unfolding HasValuesIn
  second_valued Empty v = v
  second_valued (Node h a b) v = v.2

  nothing_valued : Valued Empty
  unfolding HasValuesIn
  nothing_valued = tt

  either_valued : (o p : Option Tree) → Valued (or_empty o) → Valued (or_empty p) → Valued (or_empty (first_of o p))
  either_valued None p v w = w
  either_valued (Some t) p v w = v

  here_valued : (x : ℕ) (h : Head) (t : Tree) → Valued t → Valued (or_empty (standing_here x h t))
  here_valued x (Leaf y) t v = go (y == x)
    where
      go : (b : Bool) → Valued (or_empty (cond b (Some t) None))
      go true = v
      go false = nothing_valued
  here_valued x h t v = nothing_valued

  standing_valued : (x : ℕ) (body t : Tree) → Valued t → Valued (or_empty (standing_for x body t))
  unfolding standing_for
  standing_valued x Empty t v = nothing_valued
  standing_valued x (Node h a b) t v =
      either_valued (standing_here x h t) _ (here_valued x h t v)
      (either_valued (standing_for x a (first t)) _ (standing_valued x a (first t) (first_valued t v)) (standing_valued x b (second t) (second_valued t v)))

  terms_valued : (body t : Tree) → Valued t → (xs : List (ℕ × ℕ)) → AllByRecursion Valued (map (term_for body t) xs)
  terms_valued body t v [] = tt
  terms_valued body t v (x ∷ xs) = (standing_valued x.0 body t v, terms_valued body t v xs)

  -- sites

  abbrev HasValuedTerms : Found → Type 0
  HasValuedTerms c = Valued c.instance.key × AllByRecursion Valued c.instance.arguments

  abbrev IfFound : Option Found → Type 0
  IfFound None = Unit {0}
  IfFound (Some c) = HasValuedTerms c

  abbrev AreValued : List Site → Type 0
  AreValued ss = AllByRecursion (λ (s : Site). HasValuedTerms s.call) ss

  either_found : (o p : Option Found) → IfFound o → IfFound p → IfFound (first_of o p)
  either_found None p v w = w
  either_found (Some c) p v w = v

  module _ (M : Matching) where
    instance_valued : (k : ℕ) (f : Function) (t : Tree) → Valued t → IfFound (call_by k f (instance_of M f t))
    instance_valued k f t v = go (is_instance M f (guess M.group f t) t)
      where
        go : (b : Bool) → IfFound (call_by k f (cond b (Some (guess M.group f t)) None))
        go true = (standing_valued M.group.key.0 f.body t v, terms_valued f.body t v f.arguments)
        go false = tt

    calls_valued : (k : ℕ) (fs : List Function) (t : Tree) → Valued t → IfFound (first_call M k fs t)
    calls_valued k [] t v = tt
    calls_valued k (f ∷ fs) t v = either_found (call_by k f (instance_of M f t)) _ (instance_valued k f t v) (calls_valued (suc k) fs t v)

    call_valued : (t : Tree) → Valued t → IfFound (call_at M t)
    call_valued t v = calls_valued 0 M.group.functions t v

    sites_valued : (w : Position) (rs : List (ℕ × ℕ)) (p : ℕ) (t : Tree) → Valued t → AreValued (sites_in M w rs p t)
    unfolding sites_in HasValuesIn
    sites_valued w rs p Empty v = tt
    sites_valued w rs p (Node h a b) v =
        go (call_at M (Node h a b)) (is_guard w) (call_valued (Node h a b) v) (sites_valued (first_position w h) rs (first_place p h) a v.1)
        (sites_valued (second_position w h) (replications_below h rs) (second_place p h a) b v.2)
      where
        here : Found → Site
        here c = record { place = p; term = Node h a b; replications = rs; call = c }

        go : (o : Option Found) (z : Bool) → IfFound o → AreValued (sites_in M (first_position w h) rs (first_place p h) a) → AreValued (sites_in M (second_position w h) (replications_below h rs) (second_place p h a) b)
            → AreValued (elim o as (λ _. List Site) [
              | Some c ↦ here c ∷ []
              | None ↦ cond z [] (sites_in M (first_position w h) rs (first_place p h) a) ++ sites_in M (second_position w h) (replications_below h rs) (second_place p h a) b
            ])
        go (Some c) z k x y = (k, tt)
        go None true k x y = y
        go None false k x y = AllByRecursion_append (λ (s : Site). HasValuedTerms s.call) _ _ x y

    -- trees

    module _ (coins : ℕ → Bool) (answer : ℕ → ℕ) where
      after_valued : (s : ℕ) (ss : List Site) (t : Tree) → AreValued ss → Valued t → Valued (after_calls answer s ss t)
      unfolding HasValuesIn
      after_valued s [] t k v = v
      after_valued s (c ∷ cs) t k v =
          ((λ u. calls (record { tuple = u; site = s })), (tt, k.0.0, chain_valued c.call.instance.arguments k.0.1), after_valued (suc s) cs t k.1 v)

      node_valued : (h : Head) (a b : Tree) → ConstructHasValues g m h → Valued a → Valued b → Valued (in_context M coins h a b)
      unfolding HasValuesIn
      node_valued (New y T) a b k v w = go (y == M.key) (coins y)
        where
          go : (x z : Bool) → Valued (cond x (Node (Key y) Empty b) (cond z b (Node (New y T) a b)))
          go true z = (key, tt, w)
          go false true = w
          go false false = (k, v, w)
      node_valued h a b k v w = (k, v, w)

      context_valued : (w : Position) (rs : List (ℕ × ℕ)) (s : ℕ) (t : Tree) → Valued t → Valued (context_in M coins answer w rs s t)
      unfolding context_in HasValuesIn
      context_valued w rs s Empty v = tt
      context_valued w rs s (Node h a b) v =
          go (call_at M (Node h a b)) (is_guard w) (sites_valued (first_position w h) rs 0 a v.1) (context_valued (first_position w h) rs s a v.1)
          (context_valued (second_position w h) (replications_below h rs) (s + length inside) b v.2)
        where
          inside : List Site
          inside = cond (is_guard w) [] (sites_in M (first_position w h) rs 0 a)

          A : Tree
          A = context_in M coins answer (first_position w h) rs s a

          B : Tree
          B = context_in M coins answer (second_position w h) (replications_below h rs) (s + length inside) b

          here : (z : Bool) → Valued A → Valued (cond z a A)
          here true x = v.1
          here false x = x

          among : (z : Bool) → AreValued (sites_in M (first_position w h) rs 0 a) → AreValued (cond z [] (sites_in M (first_position w h) rs 0 a))
          among true k = tt
          among false k = k

          before : (y z : Bool) → AreValued (sites_in M (first_position w h) rs 0 a) → AreValued (cond y (cond z [] (sites_in M (first_position w h) rs 0 a)) [])
          before true z k = among z k
          before false z k = tt

          go : (o : Option Found) (z : Bool) → AreValued (sites_in M (first_position w h) rs 0 a) → Valued A → Valued B → Valued (elim o as (λ _. Tree) [
            | Some c ↦ cell_of rs (answer s)
            | None ↦ after_calls answer s (cond (is_statement h) (cond z [] (sites_in M (first_position w h) rs 0 a)) []) (in_context M coins h (cond z a A) B)
          ])
          go (Some c) z k x y = cell_valued rs (answer s)
          go None z k x y = after_valued s _ _ (before (is_statement h) z k) (node_valued h (cond z a A) B v.0 (here z x) y)

      pub in_context_valued : (w : Position) (rs : List (ℕ × ℕ)) (s : ℕ) (t : Tree) → HasValuesIn (setting_of ds i) m t → HasValuesIn (setting_with ds i side) m (context_in M coins answer w rs s t)
      in_context_valued w rs s t v = context_valued w rs s t (valued_with t v)
