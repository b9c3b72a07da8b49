-- The constants of a file are functions without arguments, and each name has one declaration.
use Rattle.std.proofs.Common.{◌≡◌, ℕ, Bool, true, false, cond, ◌==◌, List, [], ◌∷◌, ◌++◌, ◌⊎◌, inl, inr, Option, Some, None, is_some, refl, ap, sym, subst, ◌∙◌, eqb-true, eq-eqb}
use Rattle.std.proofs.lemmas.Bool.{both_ways, or_left, or_parts, or_right}
use Rattle.std.specs.List.{AllByRecursion}
use Rattle.cv_syntax_trees.specs.declared.class.Class.{Class}
use Rattle.cv_syntax_trees.specs.declared.class.Class.TheVariants as class
use Rattle.cv_syntax_trees.specs.Declarations.{Declaration, Named, Equation, Equiv, Query}
use Rattle.cv_syntax_trees.specs.Tree.{Tree, Empty, Node}
use Rattle.cv_parse_grammar.specs.declared.role.Role.{Role}
use Rattle.cv_parse_grammar.specs.Identities.{AreDistinct, ids_of, is_among}
use Rattle.cv_meaning.specs.Interpretation.{is_constant_of}
use Rattle.cv_meaning_laws.proofs.Listed.{Has}
use Rattle.cv_scope_rules.specs.typing.Signature.{declaration_of, function_by}
use Rattle.cv_typing_runs.specs.Games.{HasConstants}
use Rattle.cv_parse_laws.proofs.roles.DeclaredKinds.{OfKind}
use Rattle.cv_syntax_trees.proofs.lists.Tests.{or_cases}

-- the only declaration of a name is its first

tail_distinct : (y : ℕ) (l : List ℕ) → AreDistinct (y ∷ l) → AreDistinct l
tail_distinct y l d before x behind e = (or_parts (y == x) (is_among before x) (d (y ∷ before) x behind (ap (λ m. y ∷ m) e))).1

split_at : (l : List ℕ) (x : ℕ) → Has l x → (before behind : List ℕ) × (l ≡ before ++ x ∷ behind)
split_at [] x h = absurd h
split_at (y ∷ l) x (inl e) = ([], l, ap (λ z. z ∷ l) (sym e))
split_at (y ∷ l) x (inr h) = let r = split_at l x h in (y ∷ r.0, r.1, ap (λ m. y ∷ m) r.2)

head_differs : (y : ℕ) (l : List ℕ) (x : ℕ) → AreDistinct (y ∷ l) → Has l x → (x == y) ≡ false
head_differs y l x d h = go (x == y) refl
  where
    go : (b : Bool) → (x == y) ≡ b → b ≡ false
    go false e = refl
    go true e =
        let r = split_at l x h in
        let n = (or_parts (y == x) (is_among r.0 x) (d (y ∷ r.0) x r.1 (ap (λ m. y ∷ m) r.2))).0 in
        absurd (both_ways (y == x) n (eq-eqb y x (sym (eqb-true x y e))))

abbrev name_or : ℕ → Declaration → ℕ
name_or x (Named y c a r) = y
name_or x d = x

abbrev is_name : Declaration → Bool
is_name (Named y c a r) = true
is_name d = false

no_name : (d : Declaration) (x : ℕ) (c : Class) (a : Tree) (r : Option ℕ) → is_name d ≡ false → Named x c a r ≡ d → ⊥
no_name d x c a r n e = both_ways (is_name d) n (ap is_name (sym e))

id_among : (ds : List Declaration) (x : ℕ) (c : Class) (a : Tree) (r : Option ℕ) → Has ds (Named x c a r) → Has (ids_of ds) x
id_among [] x c a r h = absurd h
id_among (Named y k b q ∷ ds) x c a r (inl e) = inl (ap (name_or x) e)
id_among (Named y k b q ∷ ds) x c a r (inr h) = inr (id_among ds x c a r h)
id_among (Equation t ∷ ds) x c a r (inl e) = absurd (no_name (Equation t) x c a r refl e)
id_among (Equation t ∷ ds) x c a r (inr h) = id_among ds x c a r h
id_among (Equiv y t ∷ ds) x c a r (inl e) = absurd (no_name (Equiv y t) x c a r refl e)
id_among (Equiv y t ∷ ds) x c a r (inr h) = inr (id_among ds x c a r h)
id_among (Query t ∷ ds) x c a r (inl e) = absurd (no_name (Query t) x c a r refl e)
id_among (Query t ∷ ds) x c a r (inr h) = id_among ds x c a r h

pub only_declaration : (ds : List Declaration) → AreDistinct (ids_of ds) → (x : ℕ) (c : Class) (a : Tree) (r : Option ℕ) → Has ds (Named x c a r) → declaration_of ds x ≡ Some (Named x c a r)
only_declaration [] d x c a r h = absurd h
only_declaration (Named y k b q ∷ ds) d x c a r (inl e) = ap (λ z. cond z (Some (Named y k b q)) (declaration_of ds x)) (eq-eqb x y (ap (name_or x) e)) ∙ ap Some (sym e)
only_declaration (Named y k b q ∷ ds) d x c a r (inr h) =
    ap (λ z. cond z (Some (Named y k b q)) (declaration_of ds x)) (head_differs y (ids_of ds) x d (id_among ds x c a r h)) ∙ only_declaration ds (tail_distinct y (ids_of ds) d) x c a r h
only_declaration (Equation t ∷ ds) d x c a r (inl e) = absurd (no_name (Equation t) x c a r refl e)
only_declaration (Equation t ∷ ds) d x c a r (inr h) = only_declaration ds d x c a r h
only_declaration (Equiv y t ∷ ds) d x c a r (inl e) = absurd (no_name (Equiv y t) x c a r refl e)
only_declaration (Equiv y t ∷ ds) d x c a r (inr h) =
    ap (λ z. cond z (Some (Equiv y t)) (declaration_of ds x)) (head_differs y (ids_of ds) x d (id_among ds x c a r h)) ∙ only_declaration ds (tail_distinct y (ids_of ds) d) x c a r h
only_declaration (Query t ∷ ds) d x c a r (inl e) = absurd (no_name (Query t) x c a r refl e)
only_declaration (Query t ∷ ds) d x c a r (inr h) = only_declaration ds d x c a r h

-- a constant is declared as a function without arguments

abbrev IsConstantAt : List Declaration → ℕ → Type 0
IsConstantAt ds x = (data_like : Bool) × (result : Option ℕ) × Has ds (Named x (class.Fun data_like) Empty result)

later : (d : Declaration) (ds : List Declaration) (x : ℕ) → IsConstantAt ds x → IsConstantAt (d ∷ ds) x
later d ds x (k, r, h) = (k, r, inr h)

constant_at : (ds : List Declaration) (x : ℕ) → is_constant_of ds x ≡ true → IsConstantAt ds x
constant_at [] x e = absurd (both_ways false refl e)
constant_at (Named y (class.Fun d) Empty r ∷ ds) x e = go (or_cases (y == x) _ e) (constant_at ds x)
  where
    go : ((y == x) ≡ true) ⊎ (is_constant_of ds x ≡ true) → (is_constant_of ds x ≡ true → IsConstantAt ds x) → IsConstantAt (Named y (class.Fun d) Empty r ∷ ds) x
    go (inl i) f = (d, r, inl (ap (λ z. Named z (class.Fun d) Empty r) (sym (eqb-true y x i))))
    go (inr i) f = later (Named y (class.Fun d) Empty r) ds x (f i)
constant_at (Named y (class.Fun d) (Node h a b) r ∷ ds) x e = later (Named y (class.Fun d) (Node h a b) r) ds x (constant_at ds x e)
constant_at (Named y c a r ∷ ds) x e = later (Named y c a r) ds x (constant_at ds x e)
constant_at (Equation t ∷ ds) x e = later (Equation t) ds x (constant_at ds x e)
constant_at (Equiv y t ∷ ds) x e = later (Equiv y t) ds x (constant_at ds x e)
constant_at (Query t ∷ ds) x e = later (Query t) ds x (constant_at ds x e)

pub is_constant : (ds : List Declaration) (x : ℕ) (data_like : Bool) (result : Option ℕ) → Has ds (Named x (class.Fun data_like) Empty result) → is_constant_of ds x ≡ true
is_constant [] x k r h = absurd h
is_constant (Named y c a q ∷ ds) x k r (inl e) = subst (λ d. is_constant_of (d ∷ ds) x ≡ true) e (or_left (x == x) (is_constant_of ds x) (eq-eqb x x refl))
is_constant (Named y (class.Fun d) Empty q ∷ ds) x k r (inr h) = or_right (y == x) (is_constant_of ds x) (is_constant ds x k r h)
is_constant (Named y (class.Fun d) (Node g a b) q ∷ ds) x k r (inr h) = is_constant ds x k r h
is_constant (Named y c a q ∷ ds) x k r (inr h) = is_constant ds x k r h
is_constant (Equation t ∷ ds) x k r (inl e) = absurd (no_name (Equation t) x (class.Fun k) Empty r refl e)
is_constant (Equation t ∷ ds) x k r (inr h) = is_constant ds x k r h
is_constant (Equiv y t ∷ ds) x k r (inl e) = absurd (no_name (Equiv y t) x (class.Fun k) Empty r refl e)
is_constant (Equiv y t ∷ ds) x k r (inr h) = is_constant ds x k r h
is_constant (Query t ∷ ds) x k r (inl e) = absurd (no_name (Query t) x (class.Fun k) Empty r refl e)
is_constant (Query t ∷ ds) x k r (inr h) = is_constant ds x k r h

pub kind_of : (W : Role → ℕ → Type 0) (ds : List Declaration) → AllByRecursion (OfKind W) ds → (d : Declaration) → Has ds d → OfKind W d
kind_of W [] k d h = absurd h
kind_of W (e ∷ ds) k d (inl i) = subst (OfKind W) (sym i) k.0
kind_of W (e ∷ ds) k d (inr h) = kind_of W ds k.1 d h

pub constants_are : (W : Role → ℕ → Type 0) (b : Declaration) (ds : List Declaration) → AreDistinct (ids_of (b ∷ ds)) → ((x : ℕ) → is_constant_of (b ∷ ds) x ≡ is_constant_of ds x) → AllByRecursion (OfKind W) ds → HasConstants (b ∷ ds)
constants_are W b ds d same k x e =
    let c = constant_at ds x (sym (same x) ∙ e) in
    let o = only_declaration (b ∷ ds) d x (class.Fun c.0) Empty c.1 (inr c.2) in
    ap (λ z. is_some (function_by z)) o ∙ go c.1 (kind_of W ds k (Named x (class.Fun c.0) Empty c.1) c.2).2
  where
    go : (r : Option ℕ) → is_some r ≡ true → is_some (function_by (Some (Named x (class.Fun (constant_at ds x (sym (same x) ∙ e)).0) Empty r))) ≡ true
    go (Some T) i = refl
    go None i = absurd (both_ways false refl i)
