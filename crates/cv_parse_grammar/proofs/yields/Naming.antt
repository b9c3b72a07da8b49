-- A name that is bound is declared nowhere, so it is no constant.
use Rattle.std.proofs.Common.{◌≡◌, ℕ, Bool, true, false, ◌==◌, ◌&&◌, ◌||◌, not, List, [], ◌∷◌, ◌++◌, append_assoc, refl, ap, sym, subst, ◌∙◌, eqb-true, eq-eqb}
use Rattle.std.proofs.lemmas.Bool.{and_from, and_parts, not-true, or_from, or_left, or_parts, or_right}
use Rattle.std.proofs.lemmas.List.Folds.{list_any-append}
use Rattle.std.specs.List.{AllByRecursion}
use Rattle.cv_syntax_trees.specs.Declarations.{Declaration, Named, Equation, Equiv, Query}
use Rattle.cv_syntax_trees.specs.declared.class.Class.TheVariants as class
use Rattle.cv_syntax_trees.specs.Tree.{Empty}
use Rattle.cv_parse_notation.specs.Spells.{Use}
use Rattle.cv_parse_grammar.specs.declared.role.Role.{Role}
use Rattle.cv_parse_grammar.specs.declared.role.Role.TheVariants.{Declares, BindsLocal, BindsVariable, BindsIndex}
use Rattle.cv_parse_grammar.specs.Identities.{declared_as, declared_in, ids_of, is_among}
use Rattle.cv_parse_grammar.specs.Names.{AreNamed, Uses, binds, declares, is_declared, is_used, obeys}
use Rattle.cv_meaning.specs.Interpretation.{is_constant_of}
use Rattle.cv_parse_grammar.proofs.Identities.{among}

-- what is bound is declared neither later nor before

declared_unbound : (x y : ℕ) (r : Role) (before behind : Uses) → obeys before r y behind ≡ true → is_used binds x before ≡ true → (declares r && (y == x)) ≡ false
declared_unbound x y (Declares a) before behind o e = go (y == x) refl
  where
    unbound : is_used binds y before ≡ false
    unbound = not-true (is_used binds y before) (and_parts (not (is_used binds y before)) _ (and_parts (not (is_declared before y)) _ o).1).0

    go : (b : Bool) → (y == x) ≡ b → b ≡ false
    go false i = refl
    go true i = let u : is_used binds x before ≡ false = subst (λ z. is_used binds z before ≡ false) (eqb-true y x i) unbound in absurd (cc)
declared_unbound x y r before behind o e = refl

none_declares_later : (us : Uses) → AreNamed us → (x : ℕ) (before behind : Uses) → us ≡ before ++ behind → is_used binds x before ≡ true → is_used declares x behind ≡ false
none_declares_later us w x before [] s e = refl
none_declares_later us w x before (u ∷ behind) s e =
    or_from (declares u.role && (u.name == x)) (is_used declares x behind)
    (declared_unbound x u.name u.role before behind (w before u behind s) e)
    (none_declares_later us w x (before ++ u ∷ []) behind (s ∙ sym (append_assoc before (u ∷ []) behind)) (list_any-append (λ v. binds v.role && (v.name == x)) before (u ∷ []) ∙ or_left (is_used binds x before) (is_used binds x (u ∷ [])) e))

binding_obeys : (x : ℕ) (r : Role) (before behind : Uses) → binds r ≡ true → obeys before r x behind ≡ true → is_declared before x ≡ false
binding_obeys x BindsLocal before behind e o = not-true (is_declared before x) o
binding_obeys x BindsVariable before behind e o = not-true (is_declared before x) o
binding_obeys x BindsIndex before behind e o = not-true (is_declared before x) o
binding_obeys x r before behind e o = absurd (cc)

no_declaration : (r : Role) (b : Bool) → binds r ≡ true → (declares r && b) ≡ false
no_declaration (Declares a) b e = absurd (cc)
no_declaration r b e = refl

pub bound_undeclared : (us : Uses) → AreNamed us → (before : Uses) (u : Use Role) (behind : Uses) → us ≡ before ++ u ∷ behind → binds u.role ≡ true → is_used declares u.name us ≡ false
bound_undeclared us w before u behind s e =
    ap (is_used declares u.name) s
    ∙ (list_any-append (λ v. declares v.role && (v.name == u.name)) before (u ∷ behind)
    ∙ or_from (is_declared before u.name) (is_used declares u.name (u ∷ behind)) (binding_obeys u.name u.role before behind e (w before u behind s))
    (or_from (declares u.role && (u.name == u.name)) (is_used declares u.name behind) (no_declaration u.role (u.name == u.name) e)
    (none_declares_later us w u.name (before ++ u ∷ []) behind (s ∙ sym (append_assoc before (u ∷ []) behind)) bound_at_end)))
  where
    bound_at_end : is_used binds u.name (before ++ u ∷ []) ≡ true
    bound_at_end =
        list_any-append (λ v. binds v.role && (v.name == u.name)) before (u ∷ [])
        ∙ or_right (is_used binds u.name before) (is_used binds u.name (u ∷ []))
        (or_left (binds u.role && (u.name == u.name)) false (and_from (binds u.role) (u.name == u.name) e (eq-eqb u.name u.name refl)))

-- what is not declared is no constant

pub undeclared_constant : (ds : List Declaration) (x : ℕ) → is_among (ids_of ds) x ≡ false → is_constant_of ds x ≡ false
undeclared_constant [] x e = refl
undeclared_constant (Named y (class.Fun d) Empty r ∷ ds) x e = let o = or_parts (y == x) (is_among (ids_of ds) x) e in or_from (y == x) (is_constant_of ds x) o.0 (undeclared_constant ds x o.1)
undeclared_constant (Named y c a r ∷ ds) x e = undeclared_constant ds x (or_parts (y == x) (is_among (ids_of ds) x) e).1
undeclared_constant (Equation t ∷ ds) x e = undeclared_constant ds x e
undeclared_constant (Equiv y t ∷ ds) x e = undeclared_constant ds x (or_parts (y == x) (is_among (ids_of ds) x) e).1
undeclared_constant (Query t ∷ ds) x e = undeclared_constant ds x e

pub all_used : {A : Type 0} (Q : A → Type 0) (us : List A) → ((before : List A) (u : A) (behind : List A) → us ≡ before ++ u ∷ behind → Q u) → AllByRecursion Q us
all_used Q [] f = tt
all_used Q (u ∷ us) f = (f [] u us refl, all_used Q us (λ before v behind e. f (u ∷ before) v behind (ap (λ l. u ∷ l) e)))
