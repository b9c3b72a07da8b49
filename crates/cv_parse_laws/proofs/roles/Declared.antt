-- By the rules of names what a use asks for is declared as what is asked.
use Rattle.std.proofs.Common.{◌≡◌, ℕ, Bool, true, false, ◌==◌, ◌&&◌, not, List, [], ◌∷◌, ◌++◌, if◌then◌else◌, ◌⊎◌, inl, inr, Option, Some, None, refl, ap, sym, subst, ◌∙◌, eqb-true, eq-eqb}
use Rattle.std.proofs.lemmas.Bool.{both_ways, and_from, and_parts, not-true}
use Rattle.std.specs.List.{AllByRecursion}
use Rattle.cv_syntax_trees.specs.declared.class.Class.{Class}
use Rattle.cv_syntax_trees.specs.declared.class.Class.TheVariants as class
use Rattle.cv_syntax_trees.specs.Declarations.{Declaration, Named, Equation, Equiv, Query}
use Rattle.cv_syntax_trees.specs.Tree.{Tree}
use Rattle.cv_parse_notation.specs.Spells.{Use}
use Rattle.cv_parse_grammar.specs.declared.role.Asked.{Asked}
use Rattle.cv_parse_grammar.specs.declared.role.Asked.TheVariants.{AParam, AChannel, AFunction, AnEvent, AProbability, AnEquivalence, AType}
use Rattle.cv_parse_grammar.specs.declared.role.Role.{Role}
use Rattle.cv_parse_grammar.specs.declared.role.Role.TheVariants.{Asks, Declares}
use Rattle.cv_parse_grammar.specs.Identities.{declared_in, ids_of, is_among}
use Rattle.cv_parse_grammar.specs.Names.{AreNamed, Uses, asked_code, declares, declares_as, is_declared, is_used, obeys}
use Rattle.cv_parse_grammar.specs.Whole.{built_in}
use Rattle.cv_parse.specs.Parsed.{bool_type}
use Rattle.cv_parse_grammar.specs.yields.Yields.{AllUsed}
use Rattle.cv_parse_grammar.proofs.yields.Naming.{all_used}
use Rattle.cv_parse_grammar.proofs.Identities.{among}
use Rattle.cv_meaning_laws.proofs.Listed.{Has, has_left}
use Rattle.cv_meaning_laws.specs.adequacy.Typed.{BelowParameter, IsDeclared, OfType}
use Rattle.cv_meaning_laws.proofs.adequacy.Lists.{any_has, has_any, has_contains}
use Rattle.cv_parse_laws.proofs.roles.Rows.{Asked as AskedHere}
use Rattle.cv_parse_laws.proofs.roles.DeclaredKinds.{DeclaredAs, OfKind, asked_of}
use Rattle.cv_syntax_trees.proofs.lists.Tests.{or_cases}

-- a use of a name in a role
abbrev pub Used : Uses → Role → ℕ → Type 0
Used us r x = (u : Use Role) × Has us u × (u.role ≡ r) × (u.name ≡ x)

-- a name is declared once

declares_here : (a : Asked) (x : ℕ) (u : Use Role) → u.role ≡ Declares a → u.name ≡ x → (declares u.role && (u.name == x)) ≡ true
declares_here a x u r n = and_from (declares u.role) (u.name == x) (ap declares r) (eq-eqb u.name x n)

-- a use that declares a name that was declared before breaks the rules
declared_before : (us : Uses) → AreNamed us → (before : Uses) (u v : Use Role) (behind : Uses) (a b : Asked) (x : ℕ) → us ≡ before ++ v ∷ behind → Has before u → u.role ≡ Declares a → u.name ≡ x → v.role ≡ Declares b → v.name ≡ x → ⊥
declared_before us w before u v behind a b x s h r n q m =
    let o : obeys before (Declares b) v.name behind ≡ true = subst (λ z. obeys before z v.name behind ≡ true) q (w before v behind s) in
    let d : is_declared before v.name ≡ false = not-true (is_declared before v.name) (and_parts (not (is_declared before v.name)) _ o).0 in
    both_ways (is_declared before v.name) d (has_any (λ z. declares z.role && (z.name == v.name)) before u h (declares_here a v.name u r (n ∙ sym m)))

-- the first of two lists that a list is made of
split_has : (us : Uses) (u : Use Role) → Has us u → (before behind : Uses) × (us ≡ before ++ u ∷ behind)
split_has [] u h = absurd h
split_has (v ∷ us) u (inl e) = ([], us, ap (λ z. z ∷ us) (sym e))
split_has (v ∷ us) u (inr h) = let r = split_has us u h in (v ∷ r.0, r.1, ap (λ l. v ∷ l) r.2)

-- two uses are one, or one stands before the other
abbrev Ordered : Uses → Use Role → Use Role → Type 0
Ordered us u v = (before behind : Uses) × (us ≡ before ++ v ∷ behind) × Has before u

two_uses : (us : Uses) (u v : Use Role) → Has us u → Has us v → (u ≡ v) ⊎ (Ordered us u v ⊎ Ordered us v u)
two_uses [] u v h k = absurd h
two_uses (z ∷ us) u v (inl e) (inl f) = inl (e ∙ sym f)
two_uses (z ∷ us) u v (inl e) (inr k) = let r = split_has us v k in inr (inl (z ∷ r.0, r.1, ap (λ l. z ∷ l) r.2, inl e))
two_uses (z ∷ us) u v (inr h) (inl f) = let r = split_has us u h in inr (inr (z ∷ r.0, r.1, ap (λ l. z ∷ l) r.2, inl f))
two_uses (z ∷ us) u v (inr h) (inr k) = go (two_uses us u v h k)
  where
    more : (x y : Use Role) → Ordered us x y → Ordered (z ∷ us) x y
    more x y o = (z ∷ o.0, o.1, ap (λ l. z ∷ l) o.2, inr o.3)

    go : (u ≡ v) ⊎ (Ordered us u v ⊎ Ordered us v u) → (u ≡ v) ⊎ (Ordered (z ∷ us) u v ⊎ Ordered (z ∷ us) v u)
    go (inl e) = inl e
    go (inr (inl o)) = inr (inl (more u v o))
    go (inr (inr o)) = inr (inr (more v u o))

one_kind : (us : Uses) → AreNamed us → (a b : Asked) (x : ℕ) → Used us (Declares a) x → Used us (Declares b) x → a ≡ b
one_kind us w a b x (u, h, r, n) (v, k, q, m) = go (two_uses us u v h k)
  where
    go : (u ≡ v) ⊎ (Ordered us u v ⊎ Ordered us v u) → a ≡ b
    go (inl e) = let same : Declares a ≡ Declares b = sym r ∙ (ap (λ (z : Use Role). z.role) e ∙ q) in cc
    go (inr (inl o)) = absurd (declared_before us w o.0 u v o.1 a b x o.2 o.3 r n q m)
    go (inr (inr o)) = absurd (declared_before us w o.0 v u o.1 b a x o.2 o.3 q m r n)

-- what a name is declared as

abbrev asked_at : ℕ → Asked
asked_at n =
    if n == 0 then AParam else if n == 1 then AChannel else if n == 2 then AFunction else if n == 3 then AnEvent else if n == 4 then AProbability else if n == 5 then AnEquivalence else AType

coded : (a : Asked) → asked_at (asked_code a) ≡ a
coded AParam = refl
coded AChannel = refl
coded AFunction = refl
coded AnEvent = refl
coded AProbability = refl
coded AnEquivalence = refl
coded AType = refl

role_as : (a : Asked) (r : Role) → declares_as a r ≡ true → r ≡ Declares a
role_as a (Declares b) e = ap Declares (sym (coded b) ∙ (ap asked_at (sym (eqb-true (asked_code a) (asked_code b) e)) ∙ coded a))
role_as a r e = absurd (both_ways false refl e)

used_as : (us : Uses) (a : Asked) (x : ℕ) → is_used (declares_as a) x us ≡ true → Used us (Declares a) x
used_as us a x e =
    let f = any_has (λ (u : Use Role). declares_as a u.role && (u.name == x)) us e in
    let p = and_parts (declares_as a f.0.role) (f.0.name == x) f.2 in
    (f.0, f.1, role_as a f.0.role p.0, eqb-true f.0.name x p.1)

-- a declaration of a name
abbrev Found : (Role → ℕ → Type 0) → List Declaration → ℕ → Type 0
Found W ds x =
    ((c : Class) × (arguments : Tree) × (result : Option ℕ) × Has ds (Named x c arguments result) × DeclaredAs W (asked_of c) x)
    ⊎ W (Declares AnEquivalence) x

found_later : (W : Role → ℕ → Type 0) (d : Declaration) (ds : List Declaration) (x : ℕ) → Found W ds x → Found W (d ∷ ds) x
found_later W d ds x (inl (c, a, r, h, k)) = inl (c, a, r, inr h, k)
found_later W d ds x (inr k) = inr k

found : (W : Role → ℕ → Type 0) (ds : List Declaration) → AllByRecursion (OfKind W) ds → (x : ℕ) → is_among (ids_of ds) x ≡ true → Found W ds x
found W [] k x e = absurd (both_ways false refl e)
found W (Named y c a r ∷ ds) k x e = go (or_cases (y == x) _ e) (found W ds k.1 x)
  where
    go : ((y == x) ≡ true) ⊎ (is_among (ids_of ds) x ≡ true) → (is_among (ids_of ds) x ≡ true → Found W ds x) → Found W (Named y c a r ∷ ds) x
    go (inl i) f = let same : y ≡ x = eqb-true y x i in inl (c, a, r, inl (ap (λ z. Named z c a r) (sym same)), subst (DeclaredAs W (asked_of c)) same k.0.0)
    go (inr i) f = found_later W (Named y c a r) ds x (f i)
found W (Equation t ∷ ds) k x e = found_later W (Equation t) ds x (found W ds k.1 x e)
found W (Equiv y t ∷ ds) k x e = go (or_cases (y == x) _ e) (found W ds k.1 x)
  where
    go : ((y == x) ≡ true) ⊎ (is_among (ids_of ds) x ≡ true) → (is_among (ids_of ds) x ≡ true → Found W ds x) → Found W (Equiv y t ∷ ds) x
    go (inl i) f = inr (subst (W (Declares AnEquivalence)) (eqb-true y x i) k.0)
    go (inr i) f = found_later W (Equiv y t) ds x (f i)
found W (Query t ∷ ds) k x e = found_later W (Query t) ds x (found W ds k.1 x e)

-- the declarations of a file, and the uses of names that its text has behind `bool`
module _ (uses : Uses) (ds : List Declaration) (w : AreNamed (built_in ∷ uses)) (ids : declared_in uses ≡ ids_of ds) (kinds : AllByRecursion (OfKind (Used (built_in ∷ uses))) ds) where
  abbrev All : Uses
  All = built_in ∷ uses

  -- a name that is declared as what is asked has a declaration of that kind
  abbrev IsOfKind : Asked → ℕ → Type 0
  IsOfKind a x = (c : Class) × (arguments : Tree) × (result : Option ℕ) × Has ds (Named x c arguments result) × (asked_of c ≡ Some a)

  kind_found : (a : Asked) (x : ℕ) → Used All (Declares a) x → Found (Used All) ds x → (AnEquivalence ≡ a) ⊎ IsOfKind a x
  kind_found a x u (inr k) = inl (one_kind All w AnEquivalence a x k u)
  kind_found a x u (inl (c, arguments, r, h, k)) = go (asked_of c) refl k
    where
      go : (o : Option Asked) → asked_of c ≡ o → DeclaredAs (Used All) o x → (AnEquivalence ≡ a) ⊎ IsOfKind a x
      go None e k = absurd k
      go (Some b) e k = inr (c, arguments, r, h, e ∙ ap Some (one_kind All w b a x k u))

  is_declared_as : (a : Asked) (x : ℕ) → Used All (Declares a) x → ((AType ≡ a) × (x ≡ 0)) ⊎ ((AnEquivalence ≡ a) ⊎ IsOfKind a x)
  is_declared_as a x (u, inl e, r, n) = inl (let same : Declares AType ≡ Declares a = sym (ap (λ (z : Use Role). z.role) e) ∙ r in cc, sym n ∙ ap (λ (z : Use Role). z.name) e)
  is_declared_as a x (u, inr h, r, n) =
      let e : is_used declares x uses ≡ true = has_any (λ z. declares z.role && (z.name == x)) uses u h (declares_here a x u r n) in
      let i : is_among (ids_of ds) x ≡ true = ap (λ l. is_among l x) (sym ids) ∙ (sym (among uses x) ∙ e) in
      inr (kind_found a x (u, inr h, r, n) (found (Used All) ds kinds x i))

  type_kind : (c : Class) → asked_of c ≡ Some AType → (fixed large : Bool) × (c ≡ class.TypeName fixed large)
  type_kind (class.TypeName fixed large) e = (fixed, large, refl)
  type_kind c e = absurd (cc)

  param_kind : (c : Class) → asked_of c ≡ Some AParam → c ≡ class.Param
  param_kind class.Param e = refl
  param_kind c e = absurd (cc)

  fun_kind : (c : Class) → asked_of c ≡ Some AFunction → (data_like : Bool) × (c ≡ class.Fun data_like)
  fun_kind (class.Fun data_like) e = (data_like, refl)
  fun_kind c e = absurd (cc)

  -- a name that is used as one of a function
  pub function_declared : (x : ℕ) → is_used (declares_as AFunction) x All ≡ true → (data_like : Bool) × (arguments : Tree) × (result : Option ℕ) × Has ds (Named x (class.Fun data_like) arguments result)
  function_declared x k = go (is_declared_as AFunction x (used_as All AFunction x k))
    where
      go : ((AType ≡ AFunction) × (x ≡ 0)) ⊎ ((AnEquivalence ≡ AFunction) ⊎ IsOfKind AFunction x) → (data_like : Bool) × (arguments : Tree) × (result : Option ℕ) × Has ds (Named x (class.Fun data_like) arguments result)
      go (inl e) = let d = e.0 in absurd (cc)
      go (inr (inl e)) = absurd (cc)
      go (inr (inr (c, arguments, r, h, e))) = let k = fun_kind c e in (k.0, arguments, r, subst (λ z. Has ds (Named x z arguments r)) k.1 h)

  pub type_declared : (T : ℕ) → Used All (Declares AType) T → IsDeclared (bool_type ∷ ds) (OfType T)
  type_declared T u = go (is_declared_as AType T u)
    where
      go : ((AType ≡ AType) × (T ≡ 0)) ⊎ ((AnEquivalence ≡ AType) ⊎ IsOfKind AType T) → IsDeclared (bool_type ∷ ds) (OfType T)
      go (inl e) = inl e.1
      go (inr (inl e)) = absurd (cc)
      go (inr (inr (c, arguments, r, h, e))) =
          let k = type_kind c e in
          inr (k.0, k.1, arguments, r, has_contains (bool_type ∷ ds) _ (inr (subst (λ z. Has ds (Named T z arguments r)) k.2 h)))

  pub parameter_declared : (n : ℕ) → Used All (Declares AParam) n → IsDeclared (bool_type ∷ ds) (BelowParameter n)
  parameter_declared n u = go (is_declared_as AParam n u)
    where
      go : ((AType ≡ AParam) × (n ≡ 0)) ⊎ ((AnEquivalence ≡ AParam) ⊎ IsOfKind AParam n) → IsDeclared (bool_type ∷ ds) (BelowParameter n)
      go (inl e) = let d = e.0 in absurd (cc)
      go (inr (inl e)) = absurd (cc)
      go (inr (inr (c, arguments, r, h, e))) = (arguments, r, has_contains (bool_type ∷ ds) _ (inr (subst (λ z. Has ds (Named n z arguments r)) (param_kind c e) h)))

  -- what obeys its rule is declared where it is to be
  asked_declared : (r : Role) (x : ℕ) (before behind : Uses) (rest : Uses) → All ≡ before ++ rest → obeys before r x behind ≡ true → AskedHere (bool_type ∷ ds) r x
  asked_declared (Asks AType) x before behind rest s o = let u = used_as before AType x o in type_declared x (u.0, subst (λ l. Has l u.0) (sym s) (has_left before rest u.0 u.1), u.2, u.3)
  asked_declared (Asks AParam) x before behind rest s o = let u = used_as before AParam x o in parameter_declared x (u.0, subst (λ l. Has l u.0) (sym s) (has_left before rest u.0 u.1), u.2, u.3)
  asked_declared r x before behind rest s o = tt

  pub all_asked : AllUsed (AskedHere (bool_type ∷ ds)) uses
  all_asked = all_used (λ u. AskedHere (bool_type ∷ ds) u.role u.name) uses (λ before u behind e. asked_declared u.role u.name (built_in ∷ before) behind (u ∷ behind) (ap (λ l. built_in ∷ l) e) (w (built_in ∷ before) u behind (ap (λ l. built_in ∷ l) e)))
