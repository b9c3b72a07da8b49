-- The bare names of an equation are its own variables or declared functions, by the rules of names.
use Rattle.std.proofs.Common.{◌≡◌, ℕ, Bool, true, false, ◌==◌, ◌&&◌, ◌||◌, not, List, [], ◌∷◌, ◌++◌, append_assoc, length, map, ◌⊎◌, inl, inr, Option, Some, None, refl, ap, sym, subst, ◌∙◌}
use Rattle.std.proofs.lemmas.Bool.{and_parts, both_ways, or_cases, or_left}
use Rattle.std.proofs.lemmas.List.Folds.{list_any-append}
use Rattle.std.specs.List.{AllByRecursion}
use Rattle.cv_syntax_trees.proofs.lists.Each.{AllByRecursion_append, AllByRecursion_flat_map, AllByRecursion_left}
use Rattle.cv_syntax_trees.specs.declared.class.Class.{Class}
use Rattle.cv_syntax_trees.specs.declared.head.Head.TheVariants.{Forall}
use Rattle.cv_syntax_trees.specs.Declarations.{Declaration, Equation}
use Rattle.cv_syntax_trees.specs.Tree.{Tree, Node, binders, bound_names}
use Rattle.cv_parse_notation.specs.declared.sign.Sign.{Sign}
use Rattle.cv_parse_notation.specs.Spells.{Each, IsSort, Relation, Spells, Use, starts}
use Rattle.cv_parse_grammar.specs.declared.role.Asked.TheVariants.{AFunction}
use Rattle.cv_parse_grammar.specs.declared.role.Region.TheVariants.{InEquation}
use Rattle.cv_parse_grammar.specs.declared.role.Role.{Role}
use Rattle.cv_parse_grammar.specs.declared.role.Role.TheVariants.{Mentions, AsCall, AsArray, AsBare}
use Rattle.cv_parse_grammar.specs.Declarations.{constant, declaration, equation_decl, forall_vars, named}
use Rattle.cv_parse_grammar.specs.Files.{levels}
use Rattle.cv_parse_grammar.specs.Names.{Uses, as_bare, as_call, binds, declares_as, is_function, is_own, is_used, known_in, obeys}
use Rattle.cv_parse_grammar.specs.Phrases.{Sort, typed}
use Rattle.cv_parse_grammar.specs.Phrases as sort
use Rattle.cv_parse_grammar.specs.Rules.{File, heads, rule}
use Rattle.cv_parse_grammar.specs.Terms.{term}
use Rattle.cv_parse_grammar.specs.Terms as terms
use Rattle.cv_parse_grammar.specs.Whole.{IsRead, built_in}
use Rattle.cv_parse_grammar.specs.yields.Yields.{AllUsed}
use Rattle.cv_parse_grammar.proofs.yields.Naming.{all_used}
use Rattle.cv_parse_grammar.proofs.yields.Yielding.{forms_tell}
use Rattle.cv_derive_laws.specs.stores.Truth.{is_name_of}
use Rattle.cv_parse_sorts.proofs.Terms.{IsTermOver, Mentioned, OfTerms, of_term, term_rows}
use Rattle.cv_parse_sorts.proofs.Parts.{AreBinders, IsInside, Spelled, all_inside, binder_inside, enters, is_of_binder, is_of_term, is_term_sort, no_sorts, only_front, own_there, part_there, term_inside, vars_bind}
use Rattle.cv_parse_laws.proofs.roles.UsedRoles.{IsIn, form_uses, has_roles, sort_uses}

term_roles : (s : Sort) → is_term_sort s ≡ true → has_roles is_of_term is_term_sort (rule s) ≡ true
term_roles sort.Term e = refl
term_roles sort.Conjunction e = refl
term_roles sort.Primary e = refl
term_roles sort.Unequal e = refl
term_roles sort.Parentheses e = refl
term_roles sort.Arguments e = refl
term_roles sort.Subscript e = refl
term_roles s e = absurd (both_ways false refl e)

-- a term binds no name
binds_none : (x : ℕ) (us : Uses) → AllUsed (IsIn is_of_term no_sorts) us → is_used binds x us ≡ false
binds_none x [] w = refl
binds_none x (u ∷ us) w = go u.role w.0 (binds_none x us w.1)
  where
    go : (r : Role) → is_of_term r ≡ true → is_used binds x us ≡ false → ((binds r && (u.name == x)) || is_used binds x us) ≡ false
    go Mentions e f = f
    go AsCall e f = f
    go AsArray e f = f
    go AsBare e f = f
    go r e f = absurd (both_ways false refl e)

module _ (below : Sort → Relation Role Tree) (room : Bool) where
  are_binders : (ts : List Sign) (l : Tree) (us : Uses) (rest : List Sign) → Spelled below room forall_vars ts l us rest → AreBinders below room l us
  are_binders ts l us rest (None, d, e) = ([], sym e, λ x i. absurd (both_ways _ (ap (is_used binds x) d.0.uses) i))
  are_binders ts l us rest (Some t, d, e) =
      let k = d.1 in
      let m = k.second.1 in
      let v = vars_bind below room k.mid k.second.0.0 m.front m.mid m.first in
      let same : k.second.0.0 ≡ l = k.second.2 ∙ (d.2 ∙ e) in
      let found : us ≡ m.front ++ m.back = k.uses ∙ (ap (λ z. z ++ k.back) k.first.uses ∙ m.uses) in
      (v.0, sym same ∙ v.1, subst (λ z. (x : ℕ) → is_used binds x us ≡ true → is_name_of (bound_names z) x ≡ true) same (λ x i. v.2 x (only_front below room us m.front m.back found m.second.uses x i)))

  -- the parts of an equation, and the uses in them
  record IsEquation (b : List Declaration) (us : Uses) : Type 0 where
    binders : Tree
    term : Tree
    is : Equation (Node Forall binders term) ∷ [] ≡ b
    left : ℕ
    bound : Uses
    used : Uses
    behind : Uses
    split : us ≡ enters InEquation left ∷ ((bound ++ used) ++ behind)
    start : List Sign
    middle : List Sign
    end : List Sign
    first : Spelled below room forall_vars start binders bound middle
    second : Spelled below room terms.term middle term used end

  is_equation : (ts : List Sign) (b : List Declaration) (us : Uses) (rest : List Sign) → Spelled below room equation_decl ts b us rest → IsEquation b us
  is_equation ts b us rest d =
      let one = d.1.1 in
      let two = one.second.1 in
      let three = two.first.1 in
      let four = three.second in
      let five = four.first in
      let same : two.first.0.1.0 ≡ d.0 = two.first.2 ∙ (one.second.2 ∙ d.1.2) in
      record {
        binders = two.first.0.1.0.0;
        term = two.first.0.1.0.1;
        is = ap (λ (p : Tree × Tree). Equation (Node Forall p.0 p.1) ∷ []) same ∙ d.2;
        left = length one.mid;
        bound = five.front;
        used = five.back;
        behind = four.back ++ two.back;
        split =
            one.uses
            ∙ (ap (λ z. z ++ one.back) one.first.uses
            ∙ (two.uses
            ∙ (ap (λ z. z ++ two.back) (three.uses ∙ (ap (λ z. z ++ three.back) three.first.1.uses ∙ ap (λ z. enters InEquation (length one.mid) ∷ z) (four.uses ∙ ap (λ z. z ++ four.back) five.uses)))
            ∙ ap (λ z. enters InEquation (length one.mid) ∷ z) (append_assoc (five.front ++ five.back) four.back two.back))));
        start = three.mid;
        middle = five.mid;
        end = four.mid;
        first = five.first;
        second = five.second;
      }

-- of a file that was read
module _ (ts : List Sign) (ds : List Declaration) (s : Option (ℕ × ℕ)) (g : Tree) (r : IsRead ts ds s g) where
  abbrev pub All : Uses
  All = built_in ∷ r.uses

  -- a variable of the equation, or a function
  abbrev pub IsKnown : Tree → ℕ → Type 0
  IsKnown l x = (is_name_of (bound_names l) x ≡ true) ⊎ (is_used (declares_as AFunction) x All ≡ true)

  abbrev pub IsNamedEquation : Tree → Type 0
  IsNamedEquation (Node Forall l t) = ((bs : List (ℕ × ℕ)) × (l ≡ binders bs)) × IsTermOver (IsKnown l) t
  IsNamedEquation t = ⊥

  abbrev pub IfNamed : Declaration → Type 0
  IfNamed (Equation t) = IsNamedEquation t
  IfNamed d = Unit {0}

  abbrev AreNamedEquations : List Declaration → Type 0
  AreNamedEquations ds = AllByRecursion IfNamed ds

  abbrev below : Sort → Relation Role Tree
  below s = IsSort heads rule levels s

  module _ (before behind : Uses) (b : List Declaration) (us : Uses) (split : All ≡ before ++ (us ++ behind)) (w : IsEquation below true b us) where
    abbrev after : Uses
    after = w.behind ++ behind

    in_parts : us ++ behind ≡ enters InEquation w.left ∷ (w.bound ++ (w.used ++ after))
    in_parts =
        ap (λ z. z ++ behind) w.split
        ∙ ap (λ z. enters InEquation w.left ∷ z) (append_assoc (w.bound ++ w.used) w.behind behind ∙ append_assoc w.bound w.used after)

    binding : AreBinders below true w.binders w.bound
    binding = are_binders below true w.start w.binders w.bound w.middle w.first

    term_used : AllUsed (IsIn is_of_term is_term_sort) w.used
    term_used = form_uses is_of_term is_term_sort heads true below (sort_uses is_of_term is_term_sort heads rule term_roles levels) term refl w.middle w.term w.used w.end w.second

    bound_inside : AllByRecursion IsInside w.bound
    bound_inside = all_inside is_of_binder binder_inside w.bound (form_uses is_of_binder no_sorts heads true below (λ s k. absurd (both_ways false refl k)) forall_vars refl w.start w.binders w.bound w.middle w.first)

    module _ (pre : Uses) (u : Use Role) (post : Uses) (e : w.used ≡ pre ++ u ∷ post) where
      abbrev earlier : Uses
      earlier = before ++ enters InEquation w.left ∷ (w.bound ++ pre)

      pre_used : AllUsed (IsIn is_of_term is_term_sort) pre
      pre_used = AllByRecursion_left (λ (v : Use Role). is_of_term v.role ≡ true) pre (u ∷ post) (subst (AllUsed (IsIn is_of_term is_term_sort)) e term_used)

      inside : AllByRecursion IsInside (w.bound ++ pre)
      inside = AllByRecursion_append IsInside w.bound pre bound_inside (all_inside is_of_term term_inside pre pre_used)

      use_split : All ≡ earlier ++ u ∷ (post ++ after)
      use_split =
          split
          ∙ (ap (λ z. before ++ z) (in_parts ∙ ap (λ z. enters InEquation w.left ∷ z) (ap (λ z. w.bound ++ (z ++ after)) e ∙ (ap (λ z. w.bound ++ z) (append_assoc pre (u ∷ post) after) ∙ sym (append_assoc w.bound pre (u ∷ (post ++ after))))))
          ∙ sym (append_assoc before (enters InEquation w.left ∷ (w.bound ++ pre)) (u ∷ (post ++ after))))

      known : (x : ℕ) → obeys earlier Mentions x (post ++ after) ≡ true → IsKnown w.binders x
      known x o = go (or_cases _ (not (as_call (post ++ after)) && is_own earlier x) (sym (ap (λ p. known_in p earlier (post ++ after) x) (part_there InEquation before (w.bound ++ pre) w.left inside)) ∙ o))
        where
          own : (is_used binds x w.bound ≡ true) ⊎ (is_used binds x pre ≡ true) → IsKnown w.binders x
          own (inl k) = inl (binding.2 x k)
          own (inr k) = absurd (both_ways _ (binds_none x pre pre_used) k)

          go : (((as_call (post ++ after) || as_bare (post ++ after)) && is_function earlier x) ≡ true) ⊎ ((not (as_call (post ++ after)) && is_own earlier x) ≡ true) → IsKnown w.binders x
          go (inl k) =
              let f : is_function earlier x ≡ true = (and_parts (as_call (post ++ after) || as_bare (post ++ after)) _ k).1 in
              inr (ap (is_used (declares_as AFunction) x) use_split ∙ (list_any-append (λ v. declares_as AFunction v.role && (v.name == x)) earlier (u ∷ (post ++ after)) ∙ or_left (is_function earlier x) _ f))
          go (inr k) =
              let o : is_own earlier x ≡ true = (and_parts (not (as_call (post ++ after))) _ k).1 in
              own (or_cases (is_used binds x w.bound) (is_used binds x pre) (sym (ap (is_used binds x) (own_there InEquation before (w.bound ++ pre) w.left inside) ∙ list_any-append (λ v. binds v.role && (v.name == x)) w.bound pre) ∙ o))

      told : (role : Role) (x : ℕ) → obeys earlier role x (post ++ after) ≡ true → Mentioned (IsKnown w.binders) role x
      told Mentions x o = known x o
      told role x o = tt

      mentioned : Mentioned (IsKnown w.binders) u.role u.name
      mentioned = told u.role u.name (r.named earlier u (post ++ after) use_split)

    term_named : IsTermOver (IsKnown w.binders) w.term
    term_named =
        (of_term (IsKnown w.binders)).gives w.term
        (forms_tell (Mentioned (IsKnown w.binders)) (OfTerms (IsKnown w.binders)) heads rule (term_rows (IsKnown w.binders)) term levels w.middle w.term w.used w.end w.second
        (all_used (λ (u : Use Role). Mentioned (IsKnown w.binders) u.role u.name) w.used mentioned))

    equation_named : AreNamedEquations b
    equation_named = subst AreNamedEquations w.is (((binding.0, binding.1), term_named), tt)

  all_named : (c : Class) (l : List ℕ) → AreNamedEquations (map (named c) l)
  all_named c [] = tt
  all_named c (x ∷ l) = (tt, all_named c l)

  all_constants : (T : ℕ) (l : List ℕ) → AreNamedEquations (map (constant T) l)
  all_constants T [] = tt
  all_constants T (x ∷ l) = (tt, all_constants T l)

  declared_named : (before behind : Uses) (tokens : List Sign) (b : List Declaration) (us : Uses) (rest : List Sign) → All ≡ before ++ (us ++ behind) → Spells heads true below declaration tokens b us rest → AreNamedEquations b
  declared_named before behind tokens b us rest split (inl d) = subst AreNamedEquations d.2 (all_named _ d.0)
  declared_named before behind tokens b us rest split (inr (k, inl d)) = subst AreNamedEquations d.2 (all_named _ d.0)
  declared_named before behind tokens b us rest split (inr (k, inr (l, inl d))) = subst AreNamedEquations d.2 (tt, tt)
  declared_named before behind tokens b us rest split (inr (k, inr (l, inr (m, inl d)))) = subst AreNamedEquations d.2 (tt, tt)
  declared_named before behind tokens b us rest split (inr (k, inr (l, inr (m, inr (n, inl d))))) = subst AreNamedEquations d.2 (all_constants d.0.1 d.0.0)
  declared_named before behind tokens b us rest split (inr (k, inr (l, inr (m, inr (n, inr (o, inl d)))))) = subst AreNamedEquations d.2 (tt, tt)
  declared_named before behind tokens b us rest split (inr (k, inr (l, inr (m, inr (n, inr (o, inr (p, inl d))))))) = subst AreNamedEquations d.2 (tt, tt)
  declared_named before behind tokens b us rest split (inr (k, inr (l, inr (m, inr (n, inr (o, inr (p, inr (q, inl d)))))))) = equation_named before behind b us split (is_equation below true tokens b us rest d)
  declared_named before behind tokens b us rest split (inr (k, inr (l, inr (m, inr (n, inr (o, inr (p, inr (q, inr (v, inl d))))))))) = subst AreNamedEquations d.2 (tt, tt)
  declared_named before behind tokens b us rest split (inr (k, inr (l, inr (m, inr (n, inr (o, inr (p, inr (q, inr (v, inr (w, inl d)))))))))) = subst AreNamedEquations d.2 (tt, tt)
  declared_named before behind tokens b us rest split (inr (k, inr (l, inr (m, inr (n, inr (o, inr (p, inr (q, inr (v, inr (w, inr (x, d))))))))))) = subst AreNamedEquations d.2 (tt, tt)

  each_named : (before behind : Uses) (tokens : List Sign) (bs : List (List Declaration)) (us : Uses) (rest : List Sign) → All ≡ before ++ (us ++ behind) → Each (Spells heads true below declaration) false (starts heads declaration) tokens bs us rest → AllByRecursion AreNamedEquations bs
  each_named before behind tokens [] us rest split d = tt
  each_named before behind tokens (b ∷ bs) us rest split d =
      let parts : us ++ behind ≡ d.front ++ (d.back ++ behind) = ap (λ z. z ++ behind) d.uses ∙ append_assoc d.front d.back behind in (
        declared_named before (d.back ++ behind) tokens b d.front d.mid (split ∙ ap (λ z. before ++ z) parts) d.first,
        each_named (before ++ d.front) behind d.mid bs d.back rest (split ∙ (ap (λ z. before ++ z) parts ∙ sym (append_assoc before d.front (d.back ++ behind)))) d.second,
      )

  pub read_equations : AllByRecursion IfNamed ds
  read_equations =
      let d = r.spelled in
      let k = d.1 in
      subst AreNamedEquations (ap (λ (f : File). f.decls) d.2)
      (AllByRecursion_flat_map AreNamedEquations IfNamed (λ ds. ds) (λ ds w. w) d.0.0 (each_named (built_in ∷ []) k.back ts d.0.0 k.front k.mid (ap (λ z. built_in ∷ z) k.uses) k.first))
