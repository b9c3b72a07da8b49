-- Functions of one side have different bounds, so what functions with a bound bind is what one binds.
use Rattle.std.proofs.Common.{◌≡◌, ℕ, zero, suc, Bool, true, false, not, ◌&&◌, ◌||◌, ◌==◌, List, [], ◌∷◌, ◌++◌, length, ◌⊎◌, inl, inr, slice_get, Option, Some, None, refl, sym, ap, subst, ◌∙◌, eq-eqb, eqb-true}
use Rattle.std.proofs.lemmas.Bool.{and_parts, both_ways, not-true, or_left, or_right}
use Rattle.std.specs.List.{AllByRecursion}
use Rattle.cv_syntax_trees.specs.declared.head.Head.TheVariants.{Binder}
use Rattle.cv_syntax.specs.NameSets.{is_one_of}
use Rattle.cv_syntax_trees.specs.Tree.{Tree, Empty, Node, bound_names, first, second}
use Rattle.cv_meaning.specs.Correspondences.{typed_names}
use Rattle.cv_meaning_laws.proofs.Listed.{Has}
use Rattle.cv_meaning.specs.contexts.Groups.{Function, Group, Right, bound_of, function_at, function_of, functions_of, side_group}
use Rattle.cv_group_rules.specs.Symbols.{Symbols}
use Rattle.cv_group_rules.specs.Faults.{IsAccepted, SameShape}
use Rattle.cv_group_rules.specs.Rules.{are_distinct, binds_name, bounds, defines, functions_in, groups_agree, names_of, takes}
use Rattle.cv_meaning.specs.contexts.Inlined.{Caller}
use Rattle.cv_inline.specs.bodies.Inlining.{Inlining}
use Rattle.cv_meaning.specs.contexts.Roles.{Role}
use Rattle.cv_inline.specs.NextGame.{Calling, call_of, callers_of, calling, callings_from}
use Rattle.cv_inline_laws.specs.draws.DrawnNames.{DrawnNames, IsCallDrawn, has_find, has_indices, has_name, names_of_draws}
use Rattle.cv_inline_laws.proofs.draws.Covered.{calls_covered}
use Rattle.cv_inline_names_laws.specs.accepted.Drawn.{IsDrawnFor}
use Rattle.cv_inline_names_laws.specs.accepted.RightBodies.{are_right_functions, is_empty, is_one_name, is_right_body, is_right_side}
use Rattle.cv_inline_names_laws.specs.cells.Layout.{IsRightFunction}
use Rattle.cv_inline_names_laws.specs.covered.Covered.{HasDraws, names_stand_bare}
use Rattle.cv_inline_names_laws.proofs.covered.Bodies.{IsCovered, body_covered}
use Rattle.cv_meaning_laws.proofs.adequacy.Sorted.{all_has}
use Rattle.cv_syntax_trees.proofs.lists.Options.{AllByRecursion_slice_get}
use Rattle.cv_syntax_trees.proofs.lists.Tests.{or_cases}

-- the function at a position, by its tree
record IsAt (functions : Tree) (f : Function) : Type 0 where
  pub tree : Tree
  pub is : f ≡ function_of tree
  pub bound : is_one_of (bounds functions) f.bound ≡ true
  pub takes_none : is_empty (first (first tree)) ≡ true
  pub body : is_right_body (second tree) ≡ true
  pub bare : names_stand_bare (second tree) ≡ true
  pub names : (x : ℕ) → names_of functions f.bound x ≡ true → binds_name tree x ≡ true

names_bounded : (functions : Tree) (n x : ℕ) → names_of functions n x ≡ true → is_one_of (bounds functions) n ≡ true
unfolding names_of
names_bounded Empty n x e = absurd (both_ways false refl e)
names_bounded (Node h f more) n x e = go (names_bounded more n x) (or_cases ((bound_of (first f) == n) && binds_name f x) (names_of more n x) e)
  where
    go : (names_of more n x ≡ true → is_one_of (bounds more) n ≡ true) → (((bound_of (first f) == n) && binds_name f x) ≡ true) ⊎ (names_of more n x ≡ true) → ((bound_of (first f) == n) || is_one_of (bounds more) n) ≡ true
    go ih (inl i) = or_left (bound_of (first f) == n) (is_one_of (bounds more) n) (and_parts (bound_of (first f) == n) (binds_name f x) i).0
    go ih (inr i) = or_right (bound_of (first f) == n) (is_one_of (bounds more) n) (ih i)

pub some_is : (f g : Function) → ◌≡◌ {A = Option Function} (Some f) (Some g) → f ≡ g
some_is f g e = cc

pub none_is : (f : Function) → ◌≡◌ {A = Option Function} None (Some f) → ⊥
none_is f e = cc

at : (functions : Tree) → are_distinct (bounds functions) ≡ true → are_right_functions functions ≡ true → names_stand_bare functions ≡ true → (k : ℕ) (f : Function) → slice_get (functions_of functions) k ≡ Some f → IsAt functions f
unfolding are_right_functions names_of names_stand_bare
at Empty d g u k f i = absurd (none_is f i)
at (Node h t more) d g u zero f i =
    let same : f ≡ function_of t = sym (some_is (function_of t) f i) in
    let w = and_parts (is_empty (first (first t))) _ g in
    let a = and_parts (not (is_one_of (bounds more) (bound_of (first t)))) (are_distinct (bounds more)) d in
    record {
      tree = t;
      is = same;
      bound = or_left (bound_of (first t) == f.bound) (is_one_of (bounds more) f.bound) (ap (λ (z : Function). bound_of (first t) == z.bound) same ∙ eq-eqb (bound_of (first t)) (bound_of (first t)) refl);
      takes_none = w.0;
      body = (and_parts (is_right_body (second t)) _ w.1).0;
      bare = bare_body t (and_parts (names_stand_bare t) _ (and_parts _ (names_stand_bare t && names_stand_bare more) u).1).0;
      names = λ x e. here x a.0 (or_cases ((bound_of (first t) == bound_of (first t)) && binds_name t x) (names_of more (bound_of (first t)) x) (ap (λ (z : Function). names_of (Node h t more) z.bound x) (sym same) ∙ e));
    }
  where
    bare_body : (t : Tree) → names_stand_bare t ≡ true → names_stand_bare (second t) ≡ true
    bare_body Empty u = refl
    bare_body (Node h a b) u = (and_parts (names_stand_bare a) (names_stand_bare b) (and_parts _ (names_stand_bare a && names_stand_bare b) u).1).1

    here : (x : ℕ) → not (is_one_of (bounds more) (bound_of (first t))) ≡ true → (((bound_of (first t) == bound_of (first t)) && binds_name t x) ≡ true) ⊎ (names_of more (bound_of (first t)) x ≡ true) → binds_name t x ≡ true
    here x n (inl j) = (and_parts (bound_of (first t) == bound_of (first t)) (binds_name t x) j).1
    here x n (inr j) = absurd (both_ways (is_one_of (bounds more) (bound_of (first t))) (not-true _ n) (names_bounded more (bound_of (first t)) x j))
at (Node h t more) d g u (suc k) f i =
    let w = and_parts (is_empty (first (first t))) _ g in
    let a = and_parts (not (is_one_of (bounds more) (bound_of (first t)))) (are_distinct (bounds more)) d in
    let r = at more a.1 (and_parts (is_right_body (second t)) _ w.1).1 (and_parts (names_stand_bare t) (names_stand_bare more) (and_parts _ (names_stand_bare t && names_stand_bare more) u).1).1 k f i in
    record {
      tree = r.tree;
      is = r.is;
      bound = or_right (bound_of (first t) == f.bound) (is_one_of (bounds more) f.bound) r.bound;
      takes_none = r.takes_none;
      body = r.body;
      bare = r.bare;
      names = λ x e. later r.tree x a.0 r.bound r.names (or_cases ((bound_of (first t) == f.bound) && binds_name t x) (names_of more f.bound x) e);
    }
  where
    later : (tree : Tree) (x : ℕ) → not (is_one_of (bounds more) (bound_of (first t))) ≡ true → is_one_of (bounds more) f.bound ≡ true → ((x : ℕ) → names_of more f.bound x ≡ true → binds_name tree x ≡ true)
        → (((bound_of (first t) == f.bound) && binds_name t x) ≡ true) ⊎ (names_of more f.bound x ≡ true) → binds_name tree x ≡ true
    later tree x n b names (inl j) =
        let same : bound_of (first t) ≡ f.bound = eqb-true (bound_of (first t)) f.bound (and_parts (bound_of (first t) == f.bound) (binds_name t x) j).0 in
        absurd (both_ways (is_one_of (bounds more) (bound_of (first t))) (not-true _ n) (ap (is_one_of (bounds more)) same ∙ b))
    later tree x n b names (inr j) = names x j

-- a name that is taken as an argument

argument_in : (P : ℕ → Type 0) (bs : Tree) (x : ℕ) → is_one_of (bound_names bs) x ≡ true → AllByRecursion (λ (y : ℕ × ℕ). P y.0) (typed_names bs) → P x
argument_in P (Node (Binder y T) a b) x e h = go (λ i. argument_in P b x i h.1) (or_cases (y == x) (is_one_of (bound_names b) x) e)
  where
    go : (is_one_of (bound_names b) x ≡ true → P x) → ((y == x) ≡ true) ⊎ (is_one_of (bound_names b) x ≡ true) → P x
    go ih (inl i) = subst P (eqb-true y x i) h.0
    go ih (inr i) = ih i
argument_in P t x e h = absurd (both_ways false refl e)

none_bound : (a : Tree) (x : ℕ) → is_empty a ≡ true → is_one_of (bound_names a) x ≡ true → ⊥
none_bound Empty x e i = both_ways false refl i
none_bound (Node h a b) x e i = both_ways false refl e

-- callings

pub record IsOfFunction (g : Group) (k : Calling) : Type 0 where
  pub position : ℕ
  pub function : function_at g position ≡ Some k.function
  pub bound : k.caller.bound ≡ k.function.bound

pub has_either : (xs ys : List Calling) (k : Calling) → Has (xs ++ ys) k → Has xs k ⊎ Has ys k
has_either [] ys k h = inr h
has_either (x ∷ xs) ys k (inl h) = inl (inl h)
has_either (x ∷ xs) ys k (inr h) = go (has_either xs ys k h)
  where
    go : Has xs k ⊎ Has ys k → Has (x ∷ xs) k ⊎ Has ys k
    go (inl z) = inl (inr z)
    go (inr z) = inr z

of_calling : (g : Group) (l f : ℕ) (o : Option Function) → function_at g f ≡ o → (c : Option (List (ℕ × ℕ) × Tree)) (k : Calling) → Has (calling l o c) k → IsOfFunction g k
of_calling g l f None e c k h = absurd h
of_calling g l f (Some fn) e None k h = absurd h
of_calling g l f (Some fn) e (Some c) k (inr h) = absurd h
of_calling g l f (Some fn) e (Some c) k (inl h) = subst (IsOfFunction g) (sym h) (record { position = f; function = e; bound = refl })

pub of_function : (g : Group) (context : Tree) (l : ℕ) (fs : List ℕ) (k : Calling) → Has (callings_from g context l fs) k → IsOfFunction g k
unfolding callings_from
of_function g context l [] k h = absurd h
of_function g context l (f ∷ fs) k h = go (has_either (calling l (function_at g f) (call_of [] l context)) (callings_from g context (suc l) fs) k h) (of_function g context (suc l) fs k)
  where
    go : Has (calling l (function_at g f) (call_of [] l context)) k ⊎ Has (callings_from g context (suc l) fs) k → (Has (callings_from g context (suc l) fs) k → IsOfFunction g k) → IsOfFunction g k
    go (inl z) ih = of_calling g l f (function_at g f) refl (call_of [] l context) k z
    go (inr z) ih = ih z

pub all_callers : (P : Caller → Type 0) (cs : List Calling) → ((k : Calling) → Has cs k → P k.caller) → AllByRecursion P (callers_of cs)
all_callers P [] f = tt
all_callers P (c ∷ cs) f = (f c (inl refl), all_callers P cs (λ k h. f k (inr h)))

pub all_callings : (P : Calling → Type 0) (cs : List Calling) → ((k : Calling) → Has cs k → P k) → AllByRecursion P cs
all_callings P [] f = tt
all_callings P (c ∷ cs) f = (f c (inl refl), all_callings P cs (λ k h. f k (inr h)))

all_finds : (P Q : ℕ → Type 0) → ((q : ℕ) → P q → Q q) → (qs : List ℕ) → AllByRecursion P qs → AllByRecursion Q qs
all_finds P Q f [] h = tt
all_finds P Q f (q ∷ qs) h = (f q h.0, all_finds P Q f qs h.1)

distinct_right : (e : Tree) (symbols : Symbols) → IsAccepted symbols e → are_distinct (bounds (functions_in Right e)) ≡ true
distinct_right e symbols acc = (and_parts _ (are_distinct (bounds (functions_in Right e))) (and_parts (groups_agree (first e) (second e)) _ (acc.kept SameShape)).1).1

bare_second : (t : Tree) → names_stand_bare t ≡ true → names_stand_bare (second t) ≡ true
unfolding names_stand_bare
bare_second Empty u = refl
bare_second (Node h a b) u = (and_parts (names_stand_bare a) (names_stand_bare b) (and_parts _ (names_stand_bare a && names_stand_bare b) u).1).1

module _ (symbols : Symbols) (e context : Tree) (functions names labels : List ℕ) (role : ℕ → Role) (accepted : IsAccepted symbols e) (side : is_right_side (second e) ≡ true)
    (right : AllByRecursion IsRightFunction (side_group Right e).functions) (bare : names_stand_bare (second e) ≡ true) where
  abbrev G : Group
  G = side_group Right e

  abbrev cs : List Calling
  cs = callings_from G context 0 functions

  abbrev d : DrawnNames
  d = names_of_draws G cs names labels role

  -- all that a function binds is drawn where it is called
  record IsBound (k : Calling) (opens : (place site branch : ℕ) → Bool) : Type 0 where
    pub own : (x : ℕ) → names_of (functions_in Right e) k.function.bound x ≡ true → has_name d k.caller.number x ≡ true
    pub covered : IsCovered d (callers_of cs) k.caller.number opens 0 k.function.body

  bound_there : (k : Calling) → Has cs k → (opens : (place site branch : ℕ) → Bool)
      → AllByRecursion (λ (s : Caller). (q b : ℕ) → has_indices d k.caller.number q s.number b 0 (length s.replications) ≡ true → opens q s.number b ≡ true) (callers_of cs) → IsBound k opens
  bound_there k h opens there =
      let f = of_function G context 0 functions k h in
      let t = at (functions_in Right e) (distinct_right e symbols accepted) (and_parts (is_one_name _) (are_right_functions (functions_in Right e)) side).1 (bare_second (second e) bare) f.position k.function f.function in
      let r : IsRightFunction k.function = AllByRecursion_slice_get IsRightFunction G.functions right f.position k.function f.function in
      let drawn : IsCallDrawn d (callers_of cs) k = all_has (IsCallDrawn d (callers_of cs)) cs (calls_covered G cs names labels role) k h in
      let c = body_covered d (callers_of cs) k.caller.number opens there 0 k.function.body (ap (λ (z : Function). is_right_body z.body) t.is ∙ t.body) r.body (ap (λ (z : Function). names_stand_bare z.body) t.is ∙ t.bare) drawn.body in
      record { own = λ x i. by t.tree t.is t.takes_none drawn c x (or_cases (takes (first t.tree) x) (defines (second t.tree) x) (t.names x i)); covered = c }
    where
      by : (t : Tree) → k.function ≡ function_of t → is_empty (first (first t)) ≡ true → IsCallDrawn d (callers_of cs) k → IsCovered d (callers_of cs) k.caller.number opens 0 k.function.body
          → (x : ℕ) → (takes (first t) x ≡ true) ⊎ (defines (second t) x ≡ true) → has_name d k.caller.number x ≡ true
      by t same none drawn c x (inr i) = c.names x (ap (λ (z : Function). defines z.body x) same ∙ i)
      by t same none drawn c x (inl i) = taken (or_cases (is_one_of (bound_names (first (first t))) x) (is_one_of (bound_names (second (first t))) x) i)
        where
          taken : (is_one_of (bound_names (first (first t))) x ≡ true) ⊎ (is_one_of (bound_names (second (first t))) x ≡ true) → has_name d k.caller.number x ≡ true
          taken (inl j) = absurd (none_bound (first (first t)) x none j)
          taken (inr j) =
              argument_in (λ y. has_name d k.caller.number y ≡ true) (second (first t)) x j
              (subst (λ (z : Function). AllByRecursion (λ (y : ℕ × ℕ). has_name d k.caller.number y.0 ≡ true) z.arguments) same drawn.arguments)

  pub drawn_for : (k : Calling) → Has cs k → (p : Inlining) → HasDraws symbols.constant d cs k p → IsDrawnFor symbols.constant (functions_in Right e) k.function p (callers_of cs)
  drawn_for k h p v =
      let b = bound_there k h p.opens v.opens in
      record {
        own = λ x i. v.names p.c.number x (ap (λ (s : Caller). has_name d s.number x) v.caller ∙ b.own x i);
        sites = all_callers (λ s. (x : ℕ) → names_of (functions_in Right e) s.bound x ≡ true → p.has s.number x ≡ true) cs
            (λ j i x z. v.names j.caller.number x ((bound_there j i (λ q s b. true) (all_callers _ cs (λ l m q b n. refl))).own x
            (ap (λ n. names_of (functions_in Right e) n x) (sym (of_function G context 0 functions j i).bound) ∙ z)));
        finds = all_finds (λ q. has_find d k.caller.number q ≡ true) (λ q. p.finds q ≡ true) v.finds _ b.covered.finds;
        opens = b.covered.opened;
        constant = v.constant;
      }
