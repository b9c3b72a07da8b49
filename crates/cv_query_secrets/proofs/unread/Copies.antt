-- A game in which a variable only copies values of others, which are only chosen, is quiet.
use Rattle.std.proofs.Common.{◌≡◌, ℕ, ◌==◌, ◌||◌, ◌&&◌, Bool, true, false, cond, not, List, [], ◌∷◌, ◌++◌, map, ◌⊎◌, inl, inr, Option, Some, None, is_some, refl, sym, ap, subst, ◌∙◌, eqb-true}
use Rattle.std.proofs.lemmas.Bool.{MatchBool-at_false, both_ways, and_parts, or_cases, or_left, or_right, eq-eqb, not-true}
use Rattle.std.proofs.lemmas.List.{map-append}
use Rattle.std.specs.Prelude.{MatchOption}
use Rattle.std.specs.List.{filter, list_any}
use Rattle.cv_syntax_trees.specs.lists.Options.{first_of}
use Rattle.cv_syntax_trees.specs.declared.head.Head.{Head}
use Rattle.cv_syntax_trees.specs.declared.head.Head.TheVariants.{Par, Repl, In, Out, Event, New, Let, If, Find, Branch, Cons, Leaf, Read}
use Rattle.cv_syntax_trees.specs.Tree.{Tree, Empty, Node, first, second, first_place, second_place}
use Rattle.cv_meaning.specs.Interpretation.{is_constant_of}
use Rattle.cv_meaning_laws.specs.adequacy.Typed.{Context, Scope, Variable, OfType, BelowParameter, parameter_in, NameHasSort, HasSort, IsVariable, IsTyped}
use Rattle.cv_meaning_runs.specs.Replacement.{Process, in_first}
use Rattle.cv_scope_rules.specs.declared.position.Position.TheVariants.{Anywhere}
use Rattle.cv_scope_rules.specs.Made.{is_bound, made_by}
use Rattle.cv_scope_rules.specs.Phrases.{Inputs, head_binds_none, binds_none, is_phrase}
use Rattle.cv_scope_rules.specs.Sites as site
use Rattle.cv_scene.specs.Scenes.{Scene, has_some_new, is_new_head, is_queried}
use Rattle.cv_scene.specs.Sights.{variable_of}
use Rattle.cv_query_certificates.specs.Secrets.{AreUnreadCopies, first_definition_but, first_other_read, has_definition, is_choice_of, is_copy, is_let_of, is_none_of_them, is_source, put_source, sources}
use Rattle.cv_costs.specs.quiet.Quiet.{Kind, IsQuiet}
use Rattle.cv_costs.proofs.quiet.Shapes.{IsShaped, defined_parts, head_goes_on, indices_below, left_false, one_of, quiet_game, ReadsNone}

-- lists

any_append : (p : ℕ → Bool) (xs ys : List ℕ) → list_any p (xs ++ ys) ≡ true → (list_any p xs ≡ true) ⊎ (list_any p ys ≡ true)
any_append p [] ys e = inr e
any_append p (x ∷ xs) ys e = go (p x) e (any_append p xs ys)
  where
    go : (b : Bool) → (b || list_any p (xs ++ ys)) ≡ true → (list_any p (xs ++ ys) ≡ true → (list_any p xs ≡ true) ⊎ (list_any p ys ≡ true)) → ((b || list_any p xs) ≡ true) ⊎ (list_any p ys ≡ true)
    go true f ih = inl refl
    go false f ih = ih f

any_left : (p : ℕ → Bool) (xs ys : List ℕ) → list_any p xs ≡ true → list_any p (xs ++ ys) ≡ true
any_left p [] ys e = absurd (both_ways false refl e)
any_left p (x ∷ xs) ys e = go (p x) e (any_left p xs ys)
  where
    go : (b : Bool) → (b || list_any p xs) ≡ true → (list_any p xs ≡ true → list_any p (xs ++ ys) ≡ true) → (b || list_any p (xs ++ ys)) ≡ true
    go true f ih = refl
    go false f ih = ih f

any_right : (p : ℕ → Bool) (xs ys : List ℕ) → list_any p ys ≡ true → list_any p (xs ++ ys) ≡ true
any_right p [] ys e = e
any_right p (x ∷ xs) ys e = or_right (p x) (list_any p (xs ++ ys)) (any_right p xs ys e)

-- what is true of both parts makes a test false
made_true : (b c : Bool) → b ≡ true → (b && not c) ≡ false → c ≡ true
made_true true true e f = refl
made_true true false e f = absurd (both_ways true f refl)
made_true false c e f = absurd (both_ways false refl e)

-- a variable with a `new` is no constant
new_is_bound : (names : ℕ → Bool) (y : ℕ) (b : Tree) → binds_none names b ≡ true → has_some_new y b ≡ true → names y ≡ false
unfolding binds_none has_some_new
new_is_bound names y Empty e f = absurd (both_ways false refl f)
new_is_bound names y (Node h a b) e f =
    let k = and_parts (head_binds_none names h) (binds_none names a && binds_none names b) e in
    let l = and_parts (binds_none names a) (binds_none names b) k.1 in
    go h k.0 (or_cases (is_new_head h && made_by h a (site.Variable y)) (has_some_new y a || has_some_new y b) f) (new_is_bound names y a l.0) (new_is_bound names y b l.1)
  where
    here : (h : Head) → head_binds_none names h ≡ true → (is_new_head h && made_by h a (site.Variable y)) ≡ true → names y ≡ false
    here (New z T) e f = ap names (eqb-true y z f) ∙ not-true (names z) e
    here h e f = absurd (both_ways false refl f)

    go : (h : Head) → head_binds_none names h ≡ true → ((is_new_head h && made_by h a (site.Variable y)) ≡ true) ⊎ ((has_some_new y a || has_some_new y b) ≡ true) → (has_some_new y a ≡ true → names y ≡ false) → (has_some_new y b ≡ true → names y ≡ false) → names y ≡ false
    go h e (inl i) ka kb = here h e i
    go h e (inr i) ka kb = later (or_cases (has_some_new y a) (has_some_new y b) i)
      where
        later : (has_some_new y a ≡ true) ⊎ (has_some_new y b ≡ true) → names y ≡ false
        later (inl j) = ka j
        later (inr j) = kb j

-- an index that is in no scope
not_above : (ps : Scope) (y : ℕ) → parameter_in ps y ≡ None → list_any (λ i. i == y) (map (λ (p : ℕ × ℕ). p.0) ps) ≡ false
not_above [] y e = refl
not_above (p ∷ ps) y e = go (p.0 == y) e (not_above ps y)
  where
    go : (b : Bool) → cond b (Some p.1) (parameter_in ps y) ≡ None → (parameter_in ps y ≡ None → list_any (λ i. i == y) (map (λ (q : ℕ × ℕ). q.0) ps) ≡ false) → (b || list_any (λ i. i == y) (map (λ (q : ℕ × ℕ). q.0) ps)) ≡ false
    go true f ih = absurd (cc)
    go false f ih = ih f

-- what a `new` defines has a definition

some_first : (o q : Option ℕ) → is_some o ≡ true → is_some (first_of o q) ≡ true
some_first None q e = absurd (both_ways false refl e)
some_first (Some n) q e = refl

some_second : (o q : Option ℕ) → is_some q ≡ true → is_some (first_of o q) ≡ true
some_second None q e = e
some_second (Some n) q e = refl

some_here : (chosen made : Bool) (p : ℕ) (o q : Option ℕ) (k l : Bool) → (k ≡ true → is_some o ≡ true) → (l ≡ true → is_some q ≡ true) → ((chosen && made) || (k || l)) ≡ true → is_some (cond (made && true) (Some p) (first_of o q)) ≡ true
some_here chosen true p o q k l f g e = refl
some_here true false p o q true l f g e = some_first o q (f refl)
some_here false false p o q true l f g e = some_first o q (f refl)
some_here true false p o q false true f g e = some_second o q (g refl)
some_here false false p o q false true f g e = some_second o q (g refl)
some_here true false p o q false false f g e = absurd (both_ways false refl e)
some_here false false p o q false false f g e = absurd (both_ways false refl e)

new_defined : (y p : ℕ) (t : Tree) → has_some_new y t ≡ true → is_some (first_definition_but is_none_of_them y p t) ≡ true
unfolding has_some_new first_definition_but
new_defined y p Empty e = absurd (both_ways false refl e)
new_defined y p (Node h a b) e =
    some_here (is_new_head h) (made_by h a (site.Variable y)) p (first_definition_but is_none_of_them y (first_place p h) a) (first_definition_but is_none_of_them y (second_place p h a) b) (has_some_new y a) (has_some_new y b)
    (new_defined y (first_place p h) a) (new_defined y (second_place p h a) b) e

-- a list all of which passes a test
all_pass : (test : ℕ → Bool) (l : List ℕ) → ((y : ℕ) → list_any (λ z. y == z) l ≡ true → test y ≡ true) → filter test l ≡ l
all_pass test [] f = refl
all_pass test (z ∷ l) f =
    ap (λ b. cond b (z ∷ filter test l) (filter test l)) (f z (or_left (z == z) (list_any (λ w. z == w) l) (eq-eqb z z refl)))
    ∙ ap (λ m. z ∷ m) (all_pass test l (λ y e. f y (or_right (y == z) (list_any (λ w. y == w) l) e)))

module _ (s : Scene) (x : ℕ) (c : Context) where
  abbrev pub names : List ℕ
  names = sources x s.game

  -- the variable is one of those that are copied
  abbrev pub is_from : ℕ → Bool
  is_from z = list_any (λ y. z == y) names

  -- a variable that `new` alone defines
  record IsChosenAlone (y : ℕ) : Type 0 where
    type : ℕ
    some : has_some_new y s.game ≡ true
    alone : first_definition_but (is_choice_of type) y 0 s.game ≡ None

  none_of : (o : Option ℕ) → not (is_some o) ≡ true → o ≡ None
  none_of None e = refl
  none_of (Some n) e = absurd (both_ways false refl e)

  from_source : (T : ℕ) (o : Option ℕ) (y : ℕ) → o ≡ Some y → is_source s T o ≡ true → IsChosenAlone y
  from_source T o y e f =
      let k : is_source s T (Some y) ≡ true = subst (λ q. is_source s T q ≡ true) e f in
      let l = and_parts (has_some_new y s.game) (not (is_some (first_definition_but (is_choice_of T) y 0 s.game)) && not (is_queried s y)) k in
      record { type = T; some = l.0; alone = none_of (first_definition_but (is_choice_of T) y 0 s.game) (and_parts (not (is_some (first_definition_but (is_choice_of T) y 0 s.game))) (not (is_queried s y)) l.1).0 }

  copied_here : (h : Head) (a : Tree) (y : ℕ) → (made_by h a (site.Variable x) && not (is_copy s h a)) ≡ false → cond (is_let_of x h) (variable_of a) None ≡ Some y → IsChosenAlone y
  copied_here (Let w T) a y e f = go (w == x) refl f
    where
      go : (b : Bool) → (w == x) ≡ b → cond b (variable_of a) None ≡ Some y → IsChosenAlone y
      go true k i = from_source T (variable_of a) y i (made_true (x == w) (is_source s T (variable_of a)) (eq-eqb x w (sym (eqb-true w x k))) e)
      go false k i = absurd (cc)
  copied_here h a y e f = absurd (cc)

  put_cases : (o : Option ℕ) (l : List ℕ) (y : ℕ) → list_any (λ z. y == z) (put_source o l) ≡ true → (o ≡ Some y) ⊎ (list_any (λ z. y == z) l ≡ true)
  put_cases None l y e = inr e
  put_cases (Some z) l y e = go (or_cases (y == z) (list_any (λ w. y == w) l) e)
    where
      go : ((y == z) ≡ true) ⊎ (list_any (λ w. y == w) l ≡ true) → (Some z ≡ Some y) ⊎ (list_any (λ w. y == w) l ≡ true)
      go (inl i) = inl (ap Some (sym (eqb-true y z i)))
      go (inr i) = inr i

  sources_chosen : (p : ℕ) (b : Tree) → first_definition_but (is_copy s) x p b ≡ None → (y : ℕ) → list_any (λ z. y == z) (sources x b) ≡ true → IsChosenAlone y
  unfolding sources
  sources_chosen p Empty e y f = absurd (both_ways false refl f)
  sources_chosen p (Node h a b) e y f =
      let d = defined_parts (is_copy s) x p h a b e in
      go (put_cases (cond (is_let_of x h) (variable_of a) None) (sources x a ++ sources x b) y f) d.here (sources_chosen (first_place p h) a d.first y) (sources_chosen (second_place p h a) b d.second y)
    where
      go : (cond (is_let_of x h) (variable_of a) None ≡ Some y) ⊎ (list_any (λ z. y == z) (sources x a ++ sources x b) ≡ true) → (made_by h a (site.Variable x) && not (is_copy s h a)) ≡ false
          → (list_any (λ z. y == z) (sources x a) ≡ true → IsChosenAlone y) → (list_any (λ z. y == z) (sources x b) ≡ true → IsChosenAlone y) → IsChosenAlone y
      go (inl i) k ka kb = copied_here h a y k i
      go (inr i) k ka kb = later (any_append (λ z. y == z) (sources x a) (sources x b) i)
        where
          later : (list_any (λ z. y == z) (sources x a) ≡ true) ⊎ (list_any (λ z. y == z) (sources x b) ≡ true) → IsChosenAlone y
          later (inl j) = ka j
          later (inr j) = kb j

  -- the two variables have one sort
  pub record HaveOneSort (y : ℕ) : Type 0 where
    pub source : Variable
    pub copy : Variable
    pub source_is : c.variables y ≡ Some source
    pub copy_is : c.variables x ≡ Some copy
    pub same : source.sort ≡ copy.sort

  pub record IsFrom (y : ℕ) : Type 0 where
    pub source : is_from y ≡ true
    pub other : y ≡ x → ⊥
    pub sort : HaveOneSort y
    pub constant : is_constant_of s.declarations y ≡ false

  -- the term of a copy, below replications with these indices
  abbrev pub IsCopyOf : List ℕ → Tree → Type 0
  IsCopyOf is (Node (Leaf y) a b) = IsFrom y × (list_any (λ i. i == y) is ≡ false)
  IsCopyOf is (Node (Read y) a b) = IsFrom y × ReadsNone x (x ∷ names) a
  IsCopyOf is t = ⊥

  abbrev pub Copied : List ℕ → ℕ → Tree → Type 0
  Copied is z a = (z ≡ x) × IsCopyOf is a

  abbrev pub Drawn : ℕ → Type 0
  Drawn z = (one_of x (x ∷ names) z ≡ true → is_from z ≡ true) × (z ≡ x → ⊥)

  abbrev pub copying_kind : Kind
  copying_kind = record { unread = one_of x (x ∷ names); drawn = Drawn; copied = Copied }

  module _ (unread : AreUnreadCopies s x) (constants : binds_none (is_constant_of s.declarations) s.game ≡ true) where
    chosen : (y : ℕ) → is_from y ≡ true → IsChosenAlone y
    chosen = sources_chosen 0 s.game unread.copies

    -- each name that is copied is that of a variable
    all_defined : filter (has_definition s.game) names ≡ names
    all_defined = all_pass (has_definition s.game) names (λ y e. new_defined y 0 s.game (chosen y e).some)

    pub names_unread : first_other_read x (x ∷ names) false Anywhere 0 s.game ≡ None
    names_unread = sym (ap (λ ys. first_other_read x (x ∷ ys) false Anywhere 0 s.game) all_defined) ∙ unread.unread

    record AreDefined (p : ℕ) (b : Tree) : Type 0 where
      copies : first_definition_but (is_copy s) x p b ≡ None
      draws : (y : ℕ) (e : is_from y ≡ true) → first_definition_but (is_choice_of (chosen y e).type) y p b ≡ None
      among : (y : ℕ) → list_any (λ z. y == z) (sources x b) ≡ true → is_from y ≡ true

    record AreHere (h : Head) (a : Tree) : Type 0 where
      copy : (made_by h a (site.Variable x) && not (is_copy s h a)) ≡ false
      draw : (y : ℕ) (e : is_from y ≡ true) → (made_by h a (site.Variable y) && not (is_choice_of (chosen y e).type h a)) ≡ false
      among : (y : ℕ) → cond (is_let_of x h) (variable_of a) None ≡ Some y → is_from y ≡ true

    record IsTypedBelow (is : List ℕ) (b : Tree) : Type 0 where
      scope : Scope
      indices : map (λ (p : ℕ × ℕ). p.0) scope ≡ is
      typed : IsTyped c scope b

    put_left : (o : Option ℕ) (l : List ℕ) (y : ℕ) → list_any (λ z. y == z) l ≡ true → list_any (λ z. y == z) (put_source o l) ≡ true
    put_left None l y e = e
    put_left (Some z) l y e = or_right (y == z) (list_any (λ w. y == w) l) e

    put_here : (o : Option ℕ) (l : List ℕ) (y : ℕ) → o ≡ Some y → list_any (λ z. y == z) (put_source o l) ≡ true
    put_here None l y e = absurd (cc)
    put_here (Some z) l y e = let i : z ≡ y = cc in or_left (y == z) (list_any (λ w. y == w) l) (eq-eqb y z (sym i))

    among_parts : (h : Head) (a b : Tree) (y : ℕ) → (list_any (λ z. y == z) (sources x (Node h a b)) ≡ true → is_from y ≡ true)
        → (cond (is_let_of x h) (variable_of a) None ≡ Some y → is_from y ≡ true) × (list_any (λ z. y == z) (sources x a) ≡ true → is_from y ≡ true) × (list_any (λ z. y == z) (sources x b) ≡ true → is_from y ≡ true)
    unfolding sources
    among_parts h a b y k =
        let o : Option ℕ = cond (is_let_of x h) (variable_of a) None in
        let l : List ℕ = sources x a ++ sources x b in
        (λ e. k (put_here o l y e), λ e. k (put_left o l y (any_left (λ z. y == z) (sources x a) (sources x b) e)), λ e. k (put_left o l y (any_right (λ z. y == z) (sources x a) (sources x b) e)))

    -- typing of the children of a node

    typed_first : (h : Head) (ps : Scope) (a b : Tree) → in_first h true true ≡ true → IsTyped c ps (Node h a b) → IsTyped c ps a
    unfolding IsTyped
    typed_first Par ps a b e t = t.0
    typed_first Cons ps a b e t = t.0
    typed_first (Find l) ps a b e t = t.1
    typed_first h ps a b e t = absurd (both_ways false refl e)

    abbrev scope_below : Head → Scope → Scope
    scope_below (Repl i n) ps = ps ++ (i, n) ∷ []
    scope_below h ps = ps

    typed_second : (h : Head) (ps : Scope) (a b : Tree) → head_goes_on h ≡ true → IsTyped c ps (Node h a b) → IsTyped c (scope_below h ps) b
    unfolding IsTyped
    typed_second Par ps a b e t = t.1
    typed_second (Repl i n) ps a b e t = t
    typed_second (In k) ps a b e t = t.1
    typed_second (Out k) ps a b e t = t.1
    typed_second (New y T) ps a b e t = t.1
    typed_second (Let y T) ps a b e t = t.2
    typed_second (Event k) ps a b e t = t.1
    typed_second If ps a b e t = t.1
    typed_second (Find l) ps a b e t = t.2
    typed_second Branch ps a b e t = t.3
    typed_second Cons ps a b e t = t.1
    typed_second h ps a b e t = absurd (both_ways false refl e)

    names_below : (h : Head) (ps : Scope) (is : List ℕ) → map (λ (p : ℕ × ℕ). p.0) ps ≡ is → map (λ (p : ℕ × ℕ). p.0) (scope_below h ps) ≡ indices_below h is
    names_below (Repl i n) ps is e = map-append (λ (p : ℕ × ℕ). p.0) ps ((i, n) ∷ []) ∙ ap (λ l. l ++ i ∷ []) e
    names_below h ps is e = e

    -- one of the variables is the copy or one of those that are copied
    which : (P : Type 0) (y : ℕ) → one_of x (x ∷ names) y ≡ true → (x ≡ y → P) → (is_from y ≡ true → P) → P
    which P y e k l = go (or_cases (y == x) (is_from y) e)
      where
        go : ((y == x) ≡ true) ⊎ (is_from y ≡ true) → P
        go (inl i) = k (sym (eqb-true y x i))
        go (inr i) = l i

    -- a definition that is none of the form
    no_other : (P : ℕ → Bool) (k : P x ≡ false) (l : (y : ℕ) → is_from y ≡ true → P y ≡ false) (y : ℕ) → one_of x (x ∷ names) y ≡ true → P y ≡ false
    no_other P k l y e = which (P y ≡ false) y e (λ i. ap P (sym i) ∙ k) (l y)

    not_drawn : (z T : ℕ) (a : Tree) → AreHere (New z T) a → z ≡ x → ⊥
    not_drawn z T a d e = both_ways (x == z) (left_false (x == z) true refl d.copy) (eq-eqb x z (sym e))

    not_copied : (z T : ℕ) (a : Tree) → AreHere (Let z T) a → is_from z ≡ true → ⊥
    not_copied z T a d e = both_ways (z == z) (left_false (z == z) true refl (d.draw z e)) (eq-eqb z z refl)

    is_variable : (y : ℕ) (V : Variable) → c.variables y ≡ Some V → (T : ℕ) → V.sort ≡ OfType T → (ps : Scope) → IsVariable c ps x (OfType T) → HaveOneSort y
    is_variable y V e T f ps k = record { source = V; copy = _; source_is = e; copy_is = k; same = f }

    module _ (same_constants : (y : ℕ) → is_constant_of c.declarations y ≡ is_constant_of s.declarations y) where
      copy_term : (is : List ℕ) (T : ℕ) (a b : Tree) → AreHere (Let x T) a → IsTypedBelow is (Node (Let x T) a b) → ReadsNone x (x ∷ names) (first a) → IsCopyOf is a
      unfolding IsTyped HasSort
      copy_term is T (Node (Leaf y) d e) b h t r = (record { source = from; other = other; sort = sort.0; constant = constant }, subst (λ l. list_any (λ i. i == y) l ≡ false) t.indices (not_above t.scope y sort.1))
        where
          from : is_from y ≡ true
          from = h.among y (ap (λ f. cond f (Some y) None) (eq-eqb x x refl))

          other : y ≡ x → ⊥
          other i = not_copied x T (Node (Leaf y) d e) h (ap is_from (sym i) ∙ from)

          constant : is_constant_of s.declarations y ≡ false
          constant = new_is_bound (is_constant_of s.declarations) y s.game constants (chosen y from).some

          go : (o : Option ℕ) → parameter_in t.scope y ≡ o → MatchOption o (NameHasSort c y (OfType T)) (λ n. OfType T ≡ BelowParameter n) → HaveOneSort y × (parameter_in t.scope y ≡ None)
          go None k n = (is_variable y (record { indices = []; sort = OfType T }) (MatchBool-at_false _ _ (same_constants y ∙ constant) n) T refl t.scope t.typed.0, k)
          go (Some m) k n = absurd (cc)

          sort : HaveOneSort y × (parameter_in t.scope y ≡ None)
          sort = go (parameter_in t.scope y) refl t.typed.1
      copy_term is T (Node (Read y) d e) b h t r =
          (record { source = from; other = other; sort = is_variable y t.typed.1.0 t.typed.1.1 T (sym t.typed.1.2) t.scope t.typed.0; constant = new_is_bound (is_constant_of s.declarations) y s.game constants (chosen y from).some }, r)
        where
          from : is_from y ≡ true
          from = h.among y (ap (λ f. cond f (Some y) None) (eq-eqb x x refl))

          other : y ≡ x → ⊥
          other i = not_copied x T (Node (Read y) d e) h (ap is_from (sym i) ∙ from)
      copy_term is T a b h t r = absurd (both_ways false refl (made_true (x == x) (is_copy s (Let x T) a) (eq-eqb x x refl) h.copy))

      copies_shape : IsShaped x (x ∷ names) Drawn Copied AreDefined AreHere IsTypedBelow
      copies_shape = record {
        here = λ p h a b e. record {
          copy = (defined_parts (is_copy s) x p h a b e.copies).here;
          draw = λ y f. (defined_parts (is_choice_of (chosen y f).type) y p h a b (e.draws y f)).here;
          among = λ y. (among_parts h a b y (e.among y)).0;
        };
        defined_first = λ p h a b e. record {
          copies = (defined_parts (is_copy s) x p h a b e.copies).first;
          draws = λ y f. (defined_parts (is_choice_of (chosen y f).type) y p h a b (e.draws y f)).first;
          among = λ y. (among_parts h a b y (e.among y)).1;
        };
        defined_second = λ p h a b e. record {
          copies = (defined_parts (is_copy s) x p h a b e.copies).second;
          draws = λ y f. (defined_parts (is_choice_of (chosen y f).type) y p h a b (e.draws y f)).second;
          among = λ y. (among_parts h a b y (e.among y)).2;
        };
        more_first = λ h is a b f e. record { scope = e.scope; indices = e.indices; typed = typed_first h e.scope a b f e.typed };
        more_second = λ h is a b f e. record { scope = scope_below h e.scope; indices = names_below h e.scope is e.indices; typed = typed_second h e.scope a b f e.typed };
        received = λ k a y e f. no_other (is_bound (second a)) (left_false (is_bound (second a) x) true refl e.copy) (λ z i. left_false (is_bound (second a) z) true refl (e.draw z i)) y f;
        branched = λ a y e f. no_other (is_bound a) (left_false (is_bound a x) true refl e.copy) (λ z i. left_false (is_bound a z) true refl (e.draw z i)) y f;
        draws = λ z T a e. (λ f. which (is_from z ≡ true) z f (λ i. absurd (not_drawn z T a e (sym i))) (λ i. i), not_drawn z T a e);
        itself = or_left (x == x) (is_from x) (eq-eqb x x refl);
        copies = λ is z T a b e m f r.
            let i : x ≡ z = which (x ≡ z) z f (λ j. j) (λ j. absurd (not_copied z T a e j)) in
            (sym i, copy_term is T a b (subst (λ w. AreHere (Let w T) a) (sym i) e) (subst (λ w. IsTypedBelow is (Node (Let w T) a b)) (sym i) m) r);
      }

      pub quiet_copies : is_phrase Inputs s.game ≡ true → IsTyped c [] s.game → IsQuiet copying_kind [] Process s.game
      quiet_copies e t =
          quiet_game x (x ∷ names) Drawn Copied AreDefined AreHere IsTypedBelow copies_shape s.game e names_unread
          (record { copies = unread.copies; draws = λ y f. (chosen y f).alone; among = λ y f. f }) (record { scope = []; indices = refl; typed = t })
