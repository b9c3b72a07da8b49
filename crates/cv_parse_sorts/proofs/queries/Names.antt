-- The bare names on the right side of a correspondence are the query's own variables or declared functions, by the rules of names.
use Rattle.std.proofs.Common.{◌≡◌, ℕ, Bool, true, false, ◌==◌, ◌&&◌, ◌||◌, not, List, [], ◌∷◌, ◌++◌, append_assoc, length, map, ◌⊎◌, inl, inr, Option, Some, None, refl, ap, sym, subst, ◌∙◌}
use Rattle.std.proofs.lemmas.Bool.{and_parts, both_ways, or_cases, or_left}
use Rattle.std.proofs.lemmas.List.Folds.{list_any-append}
use Rattle.std.specs.List.{AllByRecursion}
use Rattle.cv_syntax_trees.proofs.lists.Each.{AllByRecursion_append, AllByRecursion_flat_map, AllByRecursion_left}
use Rattle.cv_syntax_trees.specs.declared.class.Class.{Class}
use Rattle.cv_syntax_trees.specs.declared.head.Head.TheVariants.{Cons, Query as Correspondence, Secret, SecretOnce}
use Rattle.cv_syntax_trees.specs.Declarations.{Declaration, Query}
use Rattle.cv_syntax_trees.specs.Tree.{Tree, Node, binders, bound_names, lone}
use Rattle.cv_parse_notation.specs.declared.sign.Mark.TheVariants as mark
use Rattle.cv_parse_notation.specs.declared.sign.Sign.{Sign}
use Rattle.cv_parse_notation.specs.Form.{either, ◌▸◌, ◌◂◌, ◌&◌}
use Rattle.cv_parse_notation.specs.Spells.{Each, IsSort, Relation, Spells, Use, starts}
use Rattle.cv_parse_grammar.specs.declared.role.Asked.TheVariants.{AFunction}
use Rattle.cv_parse_grammar.specs.declared.role.Region.TheVariants.{InQuery}
use Rattle.cv_parse_grammar.specs.declared.role.Role.{Role}
use Rattle.cv_parse_grammar.specs.declared.role.Role.TheVariants.{Asks, BindsLocal, Mentions, AsCall, AsArray, AsBare}
use Rattle.cv_parse_grammar.specs.Declarations.{constant, correspondence, declaration, event, named, query_decl, right_side, secrecy}
use Rattle.cv_parse_grammar.specs.Files.{levels}
use Rattle.cv_parse_grammar.specs.Names.{Uses, as_bare, as_call, binds, declares_as, is_function, is_own, is_used, known_in, obeys}
use Rattle.cv_parse_grammar.specs.Phrases.{Phrase, Sort, listed, vars}
use Rattle.cv_parse_grammar.specs.Phrases as sort
use Rattle.cv_parse_grammar.specs.Rules.{File, heads, rule}
use Rattle.cv_parse_grammar.specs.Whole.{IsRead, built_in}
use Rattle.cv_parse_grammar.specs.yields.Yields.{AllUsed}
use Rattle.cv_parse_grammar.proofs.yields.Naming.{all_used}
use Rattle.cv_parse_grammar.proofs.yields.Yielding.{Gives, anything, behind, follow, forms_tell, weaker}
use Rattle.cv_derive_laws.specs.stores.Truth.{is_name_of}
use Rattle.cv_parse_sorts.proofs.Terms.{AreAtomsOver, Mentioned, OfTerms, of_right_side, term_rows}
use Rattle.cv_parse_laws.proofs.roles.UsedRoles.{IsIn, form_uses, has_roles, sort_uses}
use Rattle.cv_parse_sorts.proofs.Parts.{AreBinders, IsInside, Spelled, all_inside, binder_inside, enters, is_of_binder, is_of_term, is_term_sort, no_sorts, only_front, own_there, part_there, term_inside, vars_bind}

-- the left event and the right side of a correspondence
abbrev sides : Phrase (Tree × Tree)
sides = event & (mark.Implies ▸ right_side)

of_sides : (L : ℕ → Type 0) → Gives (Mentioned L) (OfTerms L) sides (λ x. AreAtomsOver L x.1)
of_sides L = weaker (follow anything (behind (of_right_side L))) (λ x w. w.1)

-- roles

abbrev is_of_side : Role → Bool
is_of_side (Asks a) = true
is_of_side r = is_of_term r

abbrev is_side_sort : Sort → Bool
is_side_sort sort.RightSide = true
is_side_sort s = is_term_sort s

side_roles : (s : Sort) → is_side_sort s ≡ true → has_roles is_of_side is_side_sort (rule s) ≡ true
side_roles sort.Term e = refl
side_roles sort.Conjunction e = refl
side_roles sort.Primary e = refl
side_roles sort.Unequal e = refl
side_roles sort.Parentheses e = refl
side_roles sort.Arguments e = refl
side_roles sort.Subscript e = refl
side_roles sort.RightSide e = refl
side_roles s e = absurd (both_ways false refl e)

side_inside : (u : Use Role) → is_of_side u.role ≡ true → IsInside u
side_inside u e = go u.role refl e
  where
    go : (r : Role) → u.role ≡ r → is_of_side r ≡ true → IsInside u
    go (Asks a) f e = binder_inside u (ap is_of_binder f)
    go r f e = term_inside u (ap is_of_term f ∙ e)

-- a side binds no name
binds_none : (x : ℕ) (us : Uses) → AllUsed (IsIn is_of_side no_sorts) us → is_used binds x us ≡ false
binds_none x [] w = refl
binds_none x (u ∷ us) w = go u.role w.0 (binds_none x us w.1)
  where
    go : (r : Role) → is_of_side r ≡ true → is_used binds x us ≡ false → ((binds r && (u.name == x)) || is_used binds x us) ≡ false
    go Mentions e f = f
    go AsCall e f = f
    go AsArray e f = f
    go AsBare e f = f
    go (Asks a) e f = f
    go r e f = absurd (both_ways false refl e)

abbrev binding_part : Phrase Tree
binding_part = listed (vars BindsLocal ◂ mark.Semicolon)

module _ (below : Sort → Relation Role Tree) (room : Bool) where
  are_binders : (ts : List Sign) (l : Tree) (us : Uses) (rest : List Sign) → Spelled below room binding_part ts l us rest → AreBinders below room l us
  are_binders ts l us rest (None, d, e) = ([], sym e, λ x i. absurd (both_ways _ (ap (is_used binds x) d.0.uses) i))
  are_binders ts l us rest (Some t, d, e) =
      let m = d.1 in
      let v = vars_bind below room ts d.0.0 m.front m.mid m.first in
      let same : d.0.0 ≡ l = d.2 ∙ e in
      (v.0, sym same ∙ v.1, subst (λ z. (x : ℕ) → is_used binds x us ≡ true → is_name_of (bound_names z) x ≡ true) same (λ x i. v.2 x (only_front below room us m.front m.back m.uses m.second.uses x i)))

  -- the parts of a correspondence, and the uses in them
  record IsQuery (v : Tree) (us : Uses) : Type 0 where
    binders : Tree
    left : Tree
    right : Tree
    is : Node Correspondence binders (Node Cons left right) ≡ v
    bound : Uses
    used : Uses
    split : us ≡ bound ++ used
    start : List Sign
    middle : List Sign
    end : List Sign
    first : Spelled below room binding_part start binders bound middle
    second : Spelled below room sides middle (left, right) used end

  is_query : (ts : List Sign) (v : Tree) (us : Uses) (rest : List Sign) → Spelled below room correspondence ts v us rest → IsQuery v us
  is_query ts v us rest d =
      let k = d.1 in
      record {
        binders = d.0.0;
        left = d.0.1.0;
        right = d.0.1.1;
        is = d.2;
        bound = k.front;
        used = k.back;
        split = k.uses;
        start = ts;
        middle = k.mid;
        end = rest;
        first = k.first;
        second = k.second;
      }

  -- what is asked, and the uses in it
  record IsAsked (b : List Declaration) (us : Uses) : Type 0 where
    value : Tree
    is : Query value ∷ [] ≡ b
    left : ℕ
    inner : Uses
    behind : Uses
    split : us ≡ enters InQuery left ∷ (inner ++ behind)
    start : List Sign
    end : List Sign
    spelled : Spelled below room (either secrecy correspondence) start value inner end

  is_asked : (ts : List Sign) (b : List Declaration) (us : Uses) (rest : List Sign) → Spelled below room query_decl ts b us rest → IsAsked b us
  is_asked ts b us rest d =
      let one = d.1.1 in
      let two = one.second.1 in
      let three = two.first.1 in
      let four = three.second in
      let same : two.first.0.1.0 ≡ d.0 = two.first.2 ∙ (one.second.2 ∙ d.1.2) in
      record {
        value = two.first.0.1.0;
        is = ap (λ v. Query v ∷ []) same ∙ d.2;
        left = length one.mid;
        inner = four.front;
        behind = four.back ++ two.back;
        split =
            one.uses
            ∙ (ap (λ z. z ++ one.back) one.first.uses
            ∙ (two.uses
            ∙ (ap (λ z. z ++ two.back) (three.uses ∙ (ap (λ z. z ++ three.back) three.first.1.uses ∙ ap (λ z. enters InQuery (length one.mid) ∷ z) four.uses))
            ∙ ap (λ z. enters InQuery (length one.mid) ∷ z) (append_assoc four.front four.back two.back))));
        start = three.mid;
        end = four.mid;
        spelled = four.first;
      }

no_secret : (x : ℕ) (bs sides : Tree) → lone (Secret x) ≡ Node Correspondence bs sides → ⊥
no_secret x bs sides e = cc

no_secret_once : (x : ℕ) (bs sides : Tree) → lone (SecretOnce x) ≡ Node Correspondence bs sides → ⊥
no_secret_once x bs sides e = cc

-- of a file that was read
module _ (ts : List Sign) (ds : List Declaration) (s : Option (ℕ × ℕ)) (g : Tree) (r : IsRead ts ds s g) where
  abbrev W : Uses
  W = built_in ∷ r.uses

  -- a variable of the query, or a function
  abbrev pub Known : Tree → ℕ → Type 0
  Known l x = (is_name_of (bound_names l) x ≡ true) ⊎ (is_used (declares_as AFunction) x W ≡ true)

  -- a correspondence with its variables, and a right side over them and functions
  pub record IsNamedCorrespondence (t : Tree) : Type 0 where
    pub variables : List (ℕ × ℕ)
    pub left : Tree
    pub right : Tree
    pub is : t ≡ Node Correspondence (binders variables) (Node Cons left right)
    pub over : AreAtomsOver (Known (binders variables)) right

  abbrev pub IsNamedQuery : Tree → Type 0
  IsNamedQuery t = IsNamedCorrespondence t ⊎ ((bs sides : Tree) → t ≡ Node Correspondence bs sides → ⊥)

  abbrev pub IfNamed : Declaration → Type 0
  IfNamed (Query t) = IsNamedQuery t
  IfNamed d = Unit {0}

  abbrev AreNamedQueries : List Declaration → Type 0
  AreNamedQueries ds = AllByRecursion IfNamed ds

  abbrev below : Sort → Relation Role Tree
  below s = IsSort heads rule levels s

  module _ (before behind : Uses) (n : ℕ) (v : Tree) (us : Uses) (split : W ≡ before ++ (enters InQuery n ∷ (us ++ behind))) (w : IsQuery below true v us) where
    in_parts : us ++ behind ≡ w.bound ++ (w.used ++ behind)
    in_parts = ap (λ z. z ++ behind) w.split ∙ append_assoc w.bound w.used behind

    binding : AreBinders below true w.binders w.bound
    binding = are_binders below true w.start w.binders w.bound w.middle w.first

    side_used : AllUsed (IsIn is_of_side is_side_sort) w.used
    side_used = form_uses is_of_side is_side_sort heads true below (sort_uses is_of_side is_side_sort heads rule side_roles levels) sides refl w.middle (w.left, w.right) w.used w.end w.second

    bound_inside : AllByRecursion IsInside w.bound
    bound_inside = all_inside is_of_binder binder_inside w.bound (form_uses is_of_binder no_sorts heads true below (λ s k. absurd (both_ways false refl k)) binding_part refl w.start w.binders w.bound w.middle w.first)

    module _ (pre : Uses) (u : Use Role) (post : Uses) (e : w.used ≡ pre ++ u ∷ post) where
      abbrev earlier : Uses
      earlier = before ++ enters InQuery n ∷ (w.bound ++ pre)

      pre_used : AllUsed (IsIn is_of_side is_side_sort) pre
      pre_used = AllByRecursion_left (λ (v : Use Role). is_of_side v.role ≡ true) pre (u ∷ post) (subst (AllUsed (IsIn is_of_side is_side_sort)) e side_used)

      inside : AllByRecursion IsInside (w.bound ++ pre)
      inside = AllByRecursion_append IsInside w.bound pre bound_inside (all_inside is_of_side side_inside pre pre_used)

      use_split : W ≡ earlier ++ u ∷ (post ++ behind)
      use_split =
          split
          ∙ (ap (λ z. before ++ enters InQuery n ∷ z) (in_parts ∙ (ap (λ z. w.bound ++ (z ++ behind)) e ∙ (ap (λ z. w.bound ++ z) (append_assoc pre (u ∷ post) behind) ∙ sym (append_assoc w.bound pre (u ∷ (post ++ behind))))))
          ∙ sym (append_assoc before (enters InQuery n ∷ (w.bound ++ pre)) (u ∷ (post ++ behind))))

      known : (x : ℕ) → obeys earlier Mentions x (post ++ behind) ≡ true → Known w.binders x
      known x o = go (or_cases _ (not (as_call (post ++ behind)) && is_own earlier x) (sym (ap (λ p. known_in p earlier (post ++ behind) x) (part_there InQuery before (w.bound ++ pre) n inside)) ∙ o))
        where
          own : (is_used binds x w.bound ≡ true) ⊎ (is_used binds x pre ≡ true) → Known w.binders x
          own (inl k) = inl (binding.2 x k)
          own (inr k) = absurd (both_ways _ (binds_none x pre pre_used) k)

          go : (((as_call (post ++ behind) || as_bare (post ++ behind)) && is_function earlier x) ≡ true) ⊎ ((not (as_call (post ++ behind)) && is_own earlier x) ≡ true) → Known w.binders x
          go (inl k) =
              let f : is_function earlier x ≡ true = (and_parts (as_call (post ++ behind) || as_bare (post ++ behind)) _ k).1 in
              inr (ap (is_used (declares_as AFunction) x) use_split ∙ (list_any-append (λ v. declares_as AFunction v.role && (v.name == x)) earlier (u ∷ (post ++ behind)) ∙ or_left (is_function earlier x) _ f))
          go (inr k) =
              let o : is_own earlier x ≡ true = (and_parts (not (as_call (post ++ behind))) _ k).1 in
              own (or_cases (is_used binds x w.bound) (is_used binds x pre) (sym (ap (is_used binds x) (own_there InQuery before (w.bound ++ pre) n inside) ∙ list_any-append (λ v. binds v.role && (v.name == x)) w.bound pre) ∙ o))

      told : (role : Role) (x : ℕ) → obeys earlier role x (post ++ behind) ≡ true → Mentioned (Known w.binders) role x
      told Mentions x o = known x o
      told role x o = tt

      mentioned : Mentioned (Known w.binders) u.role u.name
      mentioned = told u.role u.name (r.named earlier u (post ++ behind) use_split)

    right_named : AreAtomsOver (Known w.binders) w.right
    right_named =
        (of_sides (Known w.binders)).gives (w.left, w.right)
        (forms_tell (Mentioned (Known w.binders)) (OfTerms (Known w.binders)) heads rule (term_rows (Known w.binders)) sides levels w.middle (w.left, w.right) w.used w.end w.second
        (all_used (λ (u : Use Role). Mentioned (Known w.binders) u.role u.name) w.used mentioned))

    correspondence_named : IsNamedCorrespondence v
    correspondence_named = record {
      variables = binding.0;
      left = w.left;
      right = w.right;
      is = sym w.is ∙ ap (λ l. Node Correspondence l (Node Cons w.left w.right)) binding.1;
      over = subst (λ l. AreAtomsOver (Known l) w.right) binding.1 right_named;
    }

  asked_named : (before behind : Uses) (b : List Declaration) (us : Uses) → W ≡ before ++ (us ++ behind) → IsAsked below true b us → AreNamedQueries b
  asked_named before behind b us split w = subst AreNamedQueries w.is (go w.spelled, tt)
    where
      in_region : W ≡ before ++ (enters InQuery w.left ∷ (w.inner ++ (w.behind ++ behind)))
      in_region = split ∙ ap (λ z. before ++ z) (ap (λ z. z ++ behind) w.split ∙ ap (λ z. enters InQuery w.left ∷ z) (append_assoc w.inner w.behind behind))

      no_correspondence : Spelled below true secrecy w.start w.value w.inner w.end → (bs sides : Tree) → w.value ≡ Node Correspondence bs sides → ⊥
      no_correspondence (inl d) bs sides e = no_secret d.0 bs sides (d.2 ∙ e)
      no_correspondence (inr (n, d)) bs sides e = no_secret_once d.0 bs sides (d.2 ∙ e)

      go : Spelled below true (either secrecy correspondence) w.start w.value w.inner w.end → IsNamedQuery w.value
      go (inl d) = inr (no_correspondence d)
      go (inr (n, d)) = inl (correspondence_named before (w.behind ++ behind) w.left w.value w.inner in_region (is_query below true w.start w.value w.inner w.end d))

  all_named : (c : Class) (l : List ℕ) → AreNamedQueries (map (named c) l)
  all_named c [] = tt
  all_named c (x ∷ l) = (tt, all_named c l)

  all_constants : (T : ℕ) (l : List ℕ) → AreNamedQueries (map (constant T) l)
  all_constants T [] = tt
  all_constants T (x ∷ l) = (tt, all_constants T l)

  declared_named : (before behind : Uses) (tokens : List Sign) (b : List Declaration) (us : Uses) (rest : List Sign) → W ≡ before ++ (us ++ behind) → Spells heads true below declaration tokens b us rest → AreNamedQueries b
  declared_named before behind tokens b us rest split (inl d) = subst AreNamedQueries d.2 (all_named _ d.0)
  declared_named before behind tokens b us rest split (inr (k, inl d)) = subst AreNamedQueries d.2 (all_named _ d.0)
  declared_named before behind tokens b us rest split (inr (k, inr (l, inl d))) = subst AreNamedQueries d.2 (tt, tt)
  declared_named before behind tokens b us rest split (inr (k, inr (l, inr (m, inl d)))) = subst AreNamedQueries d.2 (tt, tt)
  declared_named before behind tokens b us rest split (inr (k, inr (l, inr (m, inr (n, inl d))))) = subst AreNamedQueries d.2 (all_constants d.0.1 d.0.0)
  declared_named before behind tokens b us rest split (inr (k, inr (l, inr (m, inr (n, inr (o, inl d)))))) = subst AreNamedQueries d.2 (tt, tt)
  declared_named before behind tokens b us rest split (inr (k, inr (l, inr (m, inr (n, inr (o, inr (p, inl d))))))) = subst AreNamedQueries d.2 (tt, tt)
  declared_named before behind tokens b us rest split (inr (k, inr (l, inr (m, inr (n, inr (o, inr (p, inr (q, inl d)))))))) = subst AreNamedQueries d.2 (tt, tt)
  declared_named before behind tokens b us rest split (inr (k, inr (l, inr (m, inr (n, inr (o, inr (p, inr (q, inr (v, inl d))))))))) = subst AreNamedQueries d.2 (tt, tt)
  declared_named before behind tokens b us rest split (inr (k, inr (l, inr (m, inr (n, inr (o, inr (p, inr (q, inr (v, inr (w, inl d)))))))))) = subst AreNamedQueries d.2 (tt, tt)
  declared_named before behind tokens b us rest split (inr (k, inr (l, inr (m, inr (n, inr (o, inr (p, inr (q, inr (v, inr (w, inr (x, d))))))))))) = asked_named before behind b us split (is_asked below true tokens b us rest d)

  each_named : (before behind : Uses) (tokens : List Sign) (bs : List (List Declaration)) (us : Uses) (rest : List Sign) → W ≡ before ++ (us ++ behind) → Each (Spells heads true below declaration) false (starts heads declaration) tokens bs us rest → AllByRecursion AreNamedQueries bs
  each_named before behind tokens [] us rest split d = tt
  each_named before behind tokens (b ∷ bs) us rest split d =
      let parts : us ++ behind ≡ d.front ++ (d.back ++ behind) = ap (λ z. z ++ behind) d.uses ∙ append_assoc d.front d.back behind in (
        declared_named before (d.back ++ behind) tokens b d.front d.mid (split ∙ ap (λ z. before ++ z) parts) d.first,
        each_named (before ++ d.front) behind d.mid bs d.back rest (split ∙ (ap (λ z. before ++ z) parts ∙ sym (append_assoc before d.front (d.back ++ behind)))) d.second,
      )

  pub read_queries : AllByRecursion IfNamed ds
  read_queries =
      let d = r.spelled in
      let k = d.1 in
      subst AreNamedQueries (ap (λ (f : File). f.decls) d.2)
      (AllByRecursion_flat_map AreNamedQueries IfNamed (λ ds. ds) (λ ds w. w) d.0.0 (each_named (built_in ∷ []) k.back ts d.0.0 k.front k.mid (ap (λ z. built_in ∷ z) k.uses) k.first))
