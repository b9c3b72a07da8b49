-- What declarations say of a function that typing finds.
use Rattle.std.proofs.Common.{◌≡◌, ℕ, Bool, true, false, ◌==◌, cond, List, [], ◌∷◌, refl, ap, sym, subst, ◌∙◌, eqb-true, eq-eqb, Option, Some, None}
use Rattle.std.proofs.lemmas.Bool.{or_left, or_right}
use Rattle.std.specs.List.{Contains}
use Rattle.std.proofs.lemmas.List.Elements.{Contains-append_left, Contains-append_right, Contains-push}
use Rattle.cv_syntax_trees.specs.declared.class.Class.{Class}
use Rattle.cv_syntax_trees.specs.declared.class.Class.TheVariants as class
use Rattle.cv_syntax_trees.specs.Declarations.{Declaration, Named, Equation, Equiv, Query}
use Rattle.cv_syntax_trees.specs.Tree.{Tree, Empty, Node, names}
use Rattle.cv_meaning.specs.Interpretation.{is_constant_of}
use Rattle.cv_scope_rules.specs.typing.Signature.{Function, declaration_of, function_by, function_in, names_in}
use Rattle.cv_typing_runs.specs.Games.{HasArguments}

pub head_in : (ds : List Declaration) (d : Declaration) → Contains (d ∷ ds) d
head_in ds d = Contains-append_left (d ∷ []) ds d (Contains-push [] d)

pub tail_in : (ds : List Declaration) (d e : Declaration) → Contains ds e → Contains (d ∷ ds) e
tail_in ds d e h = Contains-append_right (d ∷ []) ds e h

abbrev IsFunctionOf : List Declaration → ℕ → Function → Type 0
IsFunctionOf ds f fn = (data_like : Bool) × Contains ds (Named f (class.Fun data_like) (names fn.arguments) (Some fn.result))

further : (ds : List Declaration) (d : Declaration) (f : ℕ) (fn : Function) → IsFunctionOf ds f fn → IsFunctionOf (d ∷ ds) f fn
further ds d f fn h = (h.0, tail_in ds d _ h.1)

-- a function that is found is declared
pub function_declared : (ds : List Declaration) (f : ℕ) (fn : Function) → HasArguments ds → function_in ds f ≡ Some fn → IsFunctionOf ds f fn
unfolding HasArguments
function_declared [] f fn h e = absurd (cc)
function_declared (Named y c args r ∷ ds) f fn h e = go (f == y) refl e (function_declared ds f fn h.1)
  where
    here : (c : Class) (r : Option ℕ) → f ≡ y → function_by (Some (Named y c args r)) ≡ Some fn → IsFunctionOf (Named y c args r ∷ ds) f fn
    here (class.Fun d) (Some T) i g =
        let p : names_in args ≡ fn.arguments = let k : (let x : Function = record { arguments = names_in args; result = T } in x) ≡ fn = cc in ap (λ (x : Function). x.arguments) k in
        let q : T ≡ fn.result = let k : (let x : Function = record { arguments = names_in args; result = T } in x) ≡ fn = cc in ap (λ (x : Function). x.result) k in
        (d, subst (λ (D : Declaration). Contains (Named y (class.Fun d) args (Some T) ∷ ds) D) (λ k. Named (sym i k) (class.Fun d) ((h.0 ∙ ap names p) k) (Some (q k))) (head_in ds (Named y (class.Fun d) args (Some T))))
    here (class.Fun d) None i g = absurd (cc)
    here c r i g = absurd (cc)

    go : (b : Bool) → (f == y) ≡ b → function_by (cond b (Some (Named y c args r)) (declaration_of ds f)) ≡ Some fn → (function_in ds f ≡ Some fn → IsFunctionOf ds f fn) → IsFunctionOf (Named y c args r ∷ ds) f fn
    go true i g k = here c r (eqb-true f y i) g
    go false i g k = further ds (Named y c args r) f fn (k g)
function_declared (Equation t ∷ ds) f fn h e = further ds (Equation t) f fn (function_declared ds f fn h e)
function_declared (Equiv y t ∷ ds) f fn h e = go (f == y) e (function_declared ds f fn h)
  where
    go : (b : Bool) → function_by (cond b (Some (Equiv y t)) (declaration_of ds f)) ≡ Some fn → (function_in ds f ≡ Some fn → IsFunctionOf ds f fn) → IsFunctionOf (Equiv y t ∷ ds) f fn
    go true g k = absurd (cc)
    go false g k = further ds (Equiv y t) f fn (k g)
function_declared (Query t ∷ ds) f fn h e = further ds (Query t) f fn (function_declared ds f fn h e)

-- a constant is a function without arguments
more_constants : (d : Declaration) (ds : List Declaration) (x : ℕ) → is_constant_of ds x ≡ true → is_constant_of (d ∷ ds) x ≡ true
more_constants (Named y (class.Fun d) Empty r) ds x e = or_right (y == x) (is_constant_of ds x) e
more_constants (Named y c args r) ds x e = e
more_constants (Equation t) ds x e = e
more_constants (Equiv y t) ds x e = e
more_constants (Query t) ds x e = e

here_constant : (ds : List Declaration) (y x : ℕ) (d : Bool) (args : Tree) (r : Option ℕ) → x ≡ y → args ≡ Empty → is_constant_of (Named y (class.Fun d) args r ∷ ds) x ≡ true
here_constant ds y x d Empty r i e = or_left (y == x) (is_constant_of ds x) (eq-eqb y x (sym i))
here_constant ds y x d (Node h a b) r i e = absurd (cc)

pub function_constant : (ds : List Declaration) (f : ℕ) (fn : Function) → HasArguments ds → function_in ds f ≡ Some fn → fn.arguments ≡ [] → is_constant_of ds f ≡ true
unfolding HasArguments
function_constant [] f fn h e n = absurd (cc)
function_constant (Named y c args r ∷ ds) f fn h e n = go (f == y) refl e (λ g. function_constant ds f fn h.1 g n)
  where
    here : (c : Class) (r : Option ℕ) → f ≡ y → function_by (Some (Named y c args r)) ≡ Some fn → is_constant_of (Named y c args r ∷ ds) f ≡ true
    here (class.Fun d) (Some T) i g =
        let p : names_in args ≡ fn.arguments = let k : (let x : Function = record { arguments = names_in args; result = T } in x) ≡ fn = cc in ap (λ (x : Function). x.arguments) k in
        here_constant ds y f d args (Some T) i (h.0 ∙ ap names (p ∙ n))
    here (class.Fun d) None i g = absurd (cc)
    here c r i g = absurd (cc)

    go : (b : Bool) → (f == y) ≡ b → function_by (cond b (Some (Named y c args r)) (declaration_of ds f)) ≡ Some fn → (function_in ds f ≡ Some fn → is_constant_of ds f ≡ true) → is_constant_of (Named y c args r ∷ ds) f ≡ true
    go true i g k = here c r (eqb-true f y i) g
    go false i g k = more_constants (Named y c args r) ds f (k g)
function_constant (Equation t ∷ ds) f fn h e n = more_constants (Equation t) ds f (function_constant ds f fn h e n)
function_constant (Equiv y t ∷ ds) f fn h e n = go (f == y) e (λ g. function_constant ds f fn h g n)
  where
    go : (b : Bool) → function_by (cond b (Some (Equiv y t)) (declaration_of ds f)) ≡ Some fn → (function_in ds f ≡ Some fn → is_constant_of ds f ≡ true) → is_constant_of (Equiv y t ∷ ds) f ≡ true
    go true g k = absurd (cc)
    go false g k = more_constants (Equiv y t) ds f (k g)
function_constant (Query t ∷ ds) f fn h e n = more_constants (Query t) ds f (function_constant ds f fn h e n)
