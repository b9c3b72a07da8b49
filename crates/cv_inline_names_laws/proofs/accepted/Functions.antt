-- The functions of the right side of an accepted equivalence.
use Rattle.std.proofs.Common.{◌≡◌, ℕ, zero, suc, Bool, true, false, cond, ◌&&◌, ◌||◌, ◌==◌, List, [], ◌∷◌, ◌⊎◌, inl, inr, slice_get, Option, Some, None, refl, sym, ap, subst, ◌∙◌, eq-eqb}
use Rattle.std.proofs.lemmas.Bool.{and_parts, both_ways, or_left, or_right}
use Rattle.cv_syntax_trees.specs.declared.head.Head.TheVariants.{Binder}
use Rattle.cv_syntax.specs.NameSets.{is_one_of}
use Rattle.cv_syntax_trees.specs.Tree.{Tree, Empty, Node, bound_names, first, second}
use Rattle.cv_meaning.specs.Correspondences.{typed_names}
use Rattle.cv_meaning.specs.contexts.Groups.{Function, Right, bound_of, function_at, function_of, functions_of, key_of, side_group}
use Rattle.cv_group_rules.specs.Symbols.{Symbols}
use Rattle.cv_group_rules.specs.Faults.{BoundNames, IsAccepted}
use Rattle.cv_group_rules.specs.Rules.{Around, around, binds_name, defines, each_function, functions_in, is_asked, is_bound, is_readable, key_in, names_of, range_of, side_is_bound, takes}
use Rattle.cv_inline.specs.bodies.Accepted.{IsFineBody, IsFineCall}
use Rattle.cv_meaning.specs.contexts.Inlined.{Caller, Own, Scope, Standing, TheKey, standing_of}
use Rattle.cv_inline.specs.bodies.Inlining.{Inlining}
use Rattle.cv_inline_names_laws.specs.accepted.RightBodies.{are_as_many, are_right_functions, is_empty, is_one_name, is_right_body, is_right_side}
use Rattle.cv_inline_names_laws.specs.accepted.Drawn.{IsDrawnFor}
use Rattle.cv_inline_names_laws.proofs.accepted.Levels.{Agree}
use Rattle.cv_inline_names_laws.proofs.accepted.Bodies.{body_fine}
use Rattle.cv_inline_names_laws.proofs.covered.Functions.{some_is}
use Rattle.cv_syntax_trees.proofs.lists.Tests.{or_cases}

-- a function of a list, by its tree
record IsThere (passes : Tree → Bool) (functions : Tree) (f : Function) : Type 0 where
  pub tree : Tree
  pub is : f ≡ function_of tree
  pub passed : passes tree ≡ true
  pub takes_none : is_empty (first (first tree)) ≡ true
  pub body : is_right_body (second tree) ≡ true
  pub names : (x : ℕ) → binds_name tree x ≡ true → names_of functions (bound_of (first tree)) x ≡ true

there : (passes : Tree → Bool) (functions : Tree) → each_function passes functions ≡ true → are_right_functions functions ≡ true → (k : ℕ) (f : Function) → slice_get (functions_of functions) k ≡ Some f → IsThere passes functions f
unfolding each_function are_right_functions names_of
there passes Empty e g k f i = absurd (none f i)
  where
    none : (f : Function) → ◌≡◌ {A = Option Function} None (Some f) → ⊥
    none f e = cc
there passes (Node h t more) e g zero f i =
    let w = and_parts (is_empty (first (first t))) _ g in
    record {
      tree = t;
      is = sym (some_is (function_of t) f i);
      passed = (and_parts (passes t) _ e).0;
      takes_none = w.0;
      body = (and_parts (is_right_body (second t)) _ w.1).0;
      names = λ x b. or_left _ (names_of more (bound_of (first t)) x) (ap (λ c. c && binds_name t x) (eq-eqb (bound_of (first t)) (bound_of (first t)) refl) ∙ b);
    }
there passes (Node h t more) e g (suc k) f i =
    let w = and_parts (is_empty (first (first t))) _ g in
    let r = there passes more (and_parts (passes t) _ e).1 (and_parts (is_right_body (second t)) _ w.1).1 k f i in
    record {
      tree = r.tree;
      is = r.is;
      passed = r.passed;
      takes_none = r.takes_none;
      body = r.body;
      names = λ x b. or_right _ (names_of more (bound_of (first r.tree)) x) (r.names x b);
    }

-- names that a function takes are own variables behind its arguments

abbrev IsIn : ℕ → Scope → Type 0
IsIn x Σ = standing_of Σ x ≡ None → ⊥

push_in : (x y : ℕ) (s : Standing) (Σ : Scope) → ((y == x) ≡ true) ⊎ IsIn x Σ → IsIn x ((y, s) ∷ Σ)
push_in x y s Σ e n = go (y == x) e n
  where
    clash : (s : Standing) → ◌≡◌ {A = Option Standing} (Some s) None → ⊥
    clash s e = cc

    go : (b : Bool) → (b ≡ true) ⊎ IsIn x Σ → cond b (Some s) (standing_of Σ x) ≡ None → ⊥
    go true e n = clash s n
    go false (inl e) n = both_ways _ refl e
    go false (inr e) n = e n

module _ (p : Inlining) (callers : List Caller) where
  -- behind as many arguments the body stands in a scope that has their names, and those of the scope before
  behind : (binders : Tree) (arguments body : Tree) (Σ : Scope) → are_as_many (typed_names binders) arguments ≡ true → ((x : ℕ) → is_one_of (bound_names binders) x ≡ true → p.has p.c.number x ≡ true)
      → ((Τ : Scope) → ((x : ℕ) → (is_one_of (bound_names binders) x ≡ true) ⊎ IsIn x Σ → IsIn x Τ) → IsFineBody p callers Τ 0 body) → IsFineCall p callers Σ (typed_names binders) arguments body
  unfolding IsFineCall
  behind (Node (Binder y T) a more) (Node h m rest) body Σ e has fine = (
    has y (or_left (y == y) _ (eq-eqb y y refl)),
    behind more rest body ((y, Own) ∷ Σ) e (λ x i. has x (or_right (y == x) _ i))
        (λ Τ all. fine Τ (λ x i. all x (turn x i))),
  )
    where
      turn : (x : ℕ) → (((y == x) || is_one_of (bound_names more) x) ≡ true) ⊎ IsIn x Σ → (is_one_of (bound_names more) x ≡ true) ⊎ IsIn x ((y, Own) ∷ Σ)
      turn x (inr i) = inr (push_in x y Own Σ (inr i))
      turn x (inl i) = by (or_cases (y == x) _ i)
        where
          by : ((y == x) ≡ true) ⊎ (is_one_of (bound_names more) x ≡ true) → (is_one_of (bound_names more) x ≡ true) ⊎ IsIn x ((y, Own) ∷ Σ)
          by (inl j) = inr (push_in x y Own Σ (inl j))
          by (inr j) = inl j
  behind (Node (Binder y T) a more) Empty body Σ e has fine = absurd (both_ways _ refl e)
  behind t arguments body Σ e has fine = fine Σ (λ x i. old x i)
    where
      old : (x : ℕ) → (false ≡ true) ⊎ IsIn x Σ → IsIn x Σ
      old x (inl e) = absurd (both_ways _ refl e)
      old x (inr i) = i

-- the key's name
key_is_in : (key : Tree) → is_one_name key ≡ true → (x : ℕ) → is_one_of (bound_names key) x ≡ true → IsIn x (((key_of (typed_names key)).0, TheKey) ∷ [])
key_is_in (Node (Binder k T) a Empty) e x i = push_in x k TheKey [] (go (or_cases (k == x) false i))
  where
    go : ((k == x) ≡ true) ⊎ (false ≡ true) → ((k == x) ≡ true) ⊎ IsIn x []
    go (inl j) = inl j
    go (inr j) = absurd (both_ways _ refl j)
key_is_in t e x i = absurd (both_ways _ refl e)

nothing_taken : (t : Tree) → is_empty t ≡ true → (x : ℕ) → is_one_of (bound_names t) x ≡ true → ⊥
nothing_taken Empty e x i = both_ways _ refl i
nothing_taken (Node h a b) e x i = both_ways _ refl e

module _ (symbols : Symbols) (key functions tree : Tree) (p : Inlining) (callers : List Caller) where
  abbrev o : Around
  o = around symbols key functions tree

  no_level : (own : (x : ℕ) → o.names o.bound x ≡ true → p.has p.c.number x ≡ true) (Τ : Scope) → ((x : ℕ) → is_readable o [] x ≡ true → standing_of Τ x ≡ None → p.constant x ≡ true) → Agree p o own [] Τ
  unfolding range_of is_asked
  no_level own Τ readable = record { range = λ u n e. absurd (none n e); asked = λ v u e. absurd (both_ways _ refl e); readable = readable }
    where
      none : (n : ℕ) → ◌≡◌ {A = Option ℕ} None (Some n) → ⊥
      none n e = cc

  readable_in : IsDrawnFor symbols.constant functions (function_of tree) p callers → is_empty (first (first tree)) ≡ true → is_one_name key ≡ true → (Τ : Scope)
      → ((x : ℕ) → (is_one_of (bound_names (second (first tree))) x ≡ true) ⊎ IsIn x (((key_of (typed_names key)).0, TheKey) ∷ []) → IsIn x Τ) → (x : ℕ) → is_readable o [] x ≡ true → standing_of Τ x ≡ None → p.constant x ≡ true
  readable_in d none one Τ all x e n = go (or_cases (o.outside x) false e)
    where
      taken : (takes (first tree) x ≡ true) → ⊥
      taken i = by (or_cases (is_one_of (bound_names (first (first tree))) x) _ i)
        where
          by : (is_one_of (bound_names (first (first tree))) x ≡ true) ⊎ (is_one_of (bound_names (second (first tree))) x ≡ true) → ⊥
          by (inl j) = nothing_taken (first (first tree)) none x j
          by (inr j) = all x (inl j) n

      outside : (symbols.constant x ≡ true) ⊎ ((is_one_of (bound_names key) x || takes (first tree) x) ≡ true) → p.constant x ≡ true
      outside (inl i) = d.constant x i
      outside (inr i) = by (or_cases (is_one_of (bound_names key) x) _ i)
        where
          by : (is_one_of (bound_names key) x ≡ true) ⊎ (takes (first tree) x ≡ true) → p.constant x ≡ true
          by (inl j) = absurd (all x (inr (key_is_in key one x j)) n)
          by (inr j) = absurd (taken j)

      go : (o.outside x ≡ true) ⊎ (false ≡ true) → p.constant x ≡ true
      go (inl i) = outside (or_cases (symbols.constant x) _ i)
      go (inr i) = absurd (both_ways _ refl i)

  tree_fine : is_bound o [] (second tree) ≡ true → is_empty (first (first tree)) ≡ true → is_right_body (second tree) ≡ true → ((x : ℕ) → binds_name tree x ≡ true → names_of functions (bound_of (first tree)) x ≡ true) → is_one_name key ≡ true
      → IsDrawnFor symbols.constant functions (function_of tree) p callers → (arguments : Tree) → are_as_many (typed_names (second (first tree))) arguments ≡ true
      → IsFineCall p callers (((key_of (typed_names key)).0, TheKey) ∷ []) (typed_names (second (first tree))) arguments (second tree)
  tree_fine bound none body names one d arguments many =
      behind p callers (second (first tree)) arguments (second tree) (((key_of (typed_names key)).0, TheKey) ∷ []) many
      (λ x i. d.own x (names x (or_left _ (defines (second tree) x) (or_right _ _ i))))
      (λ Τ all. body_fine p o d.own callers d.sites [] Τ (no_level d.own Τ (readable_in d none one Τ all)) 0 (second tree) body bound
      (record { names = λ x i. d.own x (names x (or_right (takes (first tree) x) _ i)); finds = d.finds; opens = d.opens }))

pub accepted_fine : (symbols : Symbols) (t : Tree) (k : ℕ) (f : Function) (p : Inlining) (callers : List Caller) (arguments : Tree) → IsAccepted symbols t → is_right_side (second t) ≡ true → function_at (side_group Right t) k ≡ Some f
    → are_as_many f.arguments arguments ≡ true → IsDrawnFor symbols.constant (functions_in Right t) f p callers → IsFineCall p callers (((side_group Right t).key.0, TheKey) ∷ []) f.arguments arguments f.body
accepted_fine symbols t k f p callers arguments acc g i many d =
    let side = and_parts (is_one_name (key_in Right t)) (are_right_functions (functions_in Right t)) g in
    let bound = (and_parts _ (side_is_bound symbols (key_in Right t) (functions_in Right t)) (acc.kept BoundNames)).1 in
    let r = there (λ u. is_bound (around symbols (key_in Right t) (functions_in Right t) u) [] (second u)) (functions_in Right t) bound side.1 k f i in
    subst (λ (h : Function). IsFineCall p callers (((side_group Right t).key.0, TheKey) ∷ []) h.arguments arguments h.body) (sym r.is)
    (tree_fine symbols (key_in Right t) (functions_in Right t) r.tree p callers r.passed r.takes_none r.body r.names side.0
    (subst (λ h. IsDrawnFor symbols.constant (functions_in Right t) h p callers) r.is d) arguments (subst (λ (h : Function). are_as_many h.arguments arguments ≡ true) r.is many))
