-- The key of a typed game is read at indices and variables, as many as stand above its definition.
use Rattle.std.proofs.Common.{◌≡◌, ℕ, suc, Bool, true, false, cond, ◌&&◌, ◌||◌, ◌==◌, List, [], ◌∷◌, length, map, inl, inr, Option, Some, None, is_some, refl, sym, ap, ap₂, subst, ◌∙◌, eqb-true}
use Rattle.std.proofs.lemmas.Bool.{and_parts, both_ways}
use Rattle.std.proofs.lemmas.List.{length-map}
use Rattle.std.specs.List.{AllByRecursion}
use Rattle.std.specs.Prelude.{MatchBool, MatchOption, option_map}
use Rattle.cv_syntax_trees.specs.declared.head.Head.{Head}
use Rattle.cv_syntax_trees.specs.declared.head.Head.TheVariants.{And, Apply, Cons, Eq, Leaf, New, No, Not, Or, Read, Yes}
use Rattle.cv_syntax_trees.specs.Declarations.{Declaration}
use Rattle.cv_syntax_trees.specs.Tree.{Tree, Empty, Node, first, reads_only}
use Rattle.cv_meaning.specs.Interpretation.{is_constant_of}
use Rattle.cv_meaning_laws.specs.adequacy.Typed as meaning
use Rattle.cv_meaning_laws.specs.adequacy.Typed.{BelowParameter, HasSort, HaveSorts, IsFunction, IsTyped, IsVariable, NameHasSort, OfType, Scope, Sort, boolean, parameter_in, parameters}
use Rattle.cv_syntax_trees.specs.sites.Sites.{Variable, first_site}
use Rattle.cv_scope_rules.specs.Context.{items, replications_below}
use Rattle.cv_scope_rules.specs.Made.{made_by}
use Rattle.cv_scope_rules.specs.Phrases.{Phrase, Body, Nil, OneCell, Term, Terms, is_phrase}
use Rattle.cv_scope_rules.specs.Rules.{is_index}
use Rattle.cv_scope_rules.specs.Sites.{Variable as Named}
use Rattle.cv_scene.specs.Refusals.{definitions_in, new_of, only_new}
use Rattle.cv_scene.specs.Sights.{variable_of}
use Rattle.cv_typing_runs.specs.Games.{context_of, has_site, variable_of_meaning}
use Rattle.cv_typing_runs.proofs.Terms.{nil_empty}
use Rattle.cv_meaning.specs.contexts.KeyTerms.{AreFineKeyTerms, IsFineKeyTerm}
use Rattle.cv_meaning.specs.contexts.Inlined.{is_index_of}
use Rattle.cv_context_right_side.proofs.texts.Typed.{IsTypedAs}
use Rattle.cv_context_right_side.proofs.texts.Stands.{IsThere, Stands, below}
use Rattle.cv_syntax_trees.proofs.lists.Each.{AllByRecursion_append}

-- index terms

parameter_index : (rs : Scope) (x n : ℕ) → parameter_in rs x ≡ Some n → is_index_of rs x ≡ true
parameter_index [] x n e = absurd (cc)
parameter_index (r ∷ rs) x n e = go (r.0 == x) e (parameter_index rs x n)
  where
    go : (b : Bool) → cond b (Some r.1) (parameter_in rs x) ≡ Some n → (parameter_in rs x ≡ Some n → is_index_of rs x ≡ true) → (b || is_index_of rs x) ≡ true
    go true f k = refl
    go false f k = k f

pub index_parameter : (rs : Scope) (x : ℕ) → is_index rs x ≡ false → parameter_in rs x ≡ None
index_parameter [] x e = refl
index_parameter (r ∷ rs) x e = go (r.0 == x) e (index_parameter rs x)
  where
    go : (b : Bool) → (b || is_index rs x) ≡ false → (is_index rs x ≡ false → parameter_in rs x ≡ None) → cond b (Some r.1) (parameter_in rs x) ≡ None
    go true f k = absurd (both_ways true f refl)
    go false f k = k f

-- as many terms as sorts
many_items : (c : meaning.Context) (rs : Scope) (t : Tree) (Ss : List Sort) → HaveSorts c rs t Ss → length (items t) ≡ length Ss
unfolding HaveSorts
many_items c rs Empty [] h = refl
many_items c rs Empty (S ∷ Ss) h = absurd h
many_items c rs (Node k a b) [] h = absurd h
many_items c rs (Node k a b) (S ∷ Ss) h = ap suc (many_items c rs b Ss h.1)

-- where the variables of such terms are others that pass, too

module _ (i p q on : ℕ → Bool) (passes : (x : ℕ) → p x ≡ true → on x ≡ true → q x ≡ true) where
  mutual
    unfolding IsFineKeyTerm AreFineKeyTerms reads_only

    fine_term : (t : Tree) → IsFineKeyTerm i p t → reads_only on t ≡ true → IsFineKeyTerm i q t
    fine_term Empty h e = tt
    fine_term (Node (Leaf x) a b) (inl h) e = inl h
    fine_term (Node (Leaf x) a b) (inr h) e = inr (passes x h (and_parts (on x) _ e).0)
    fine_term (Node (Read x) a b) h e = let r = and_parts (on x) (reads_only on a && reads_only on b) e in (passes x h.0 r.0, fine_terms a h.1 (and_parts (reads_only on a) (reads_only on b) r.1).0)
    fine_term (Node h a b) k e = absurd k

    pub fine_terms : (t : Tree) → AreFineKeyTerms i p t → reads_only on t ≡ true → AreFineKeyTerms i q t
    fine_terms Empty h e = tt
    fine_terms (Node Cons a b) h e = let r = and_parts (reads_only on a) (reads_only on b) e in (fine_term a h.0 r.0, fine_terms b h.1 r.1)
    fine_terms (Node h a b) k e = absurd k

-- such terms read indices and variables alone

module _ (i p on : ℕ → Bool) (index : (x : ℕ) → i x ≡ true → on x ≡ true) (variable : (x : ℕ) → p x ≡ true → on x ≡ true) where
  nil_read : (a : Tree) → is_phrase Nil a ≡ true → reads_only on a ≡ true
  unfolding reads_only
  nil_read a e = ap (reads_only on) (nil_empty a e)

  mutual
    unfolding IsFineKeyTerm AreFineKeyTerms is_phrase reads_only

    term_reads : (t : Tree) → is_phrase Term t ≡ true → IsFineKeyTerm i p t → reads_only on t ≡ true
    term_reads Empty e h = refl
    term_reads (Node (Leaf x) a b) e (inl h) = let r = and_parts (is_phrase Nil a) (is_phrase Nil b) e in ap₂ ◌&&◌ (index x h) (ap₂ ◌&&◌ (nil_read a r.0) (nil_read b r.1))
    term_reads (Node (Leaf x) a b) e (inr h) = let r = and_parts (is_phrase Nil a) (is_phrase Nil b) e in ap₂ ◌&&◌ (variable x h) (ap₂ ◌&&◌ (nil_read a r.0) (nil_read b r.1))
    term_reads (Node (Read x) a b) e h = let r = and_parts (is_phrase Terms a) (is_phrase Nil b) e in ap₂ ◌&&◌ (variable x h.0) (ap₂ ◌&&◌ (terms_read a r.0 h.1) (nil_read b r.1))
    term_reads (Node h a b) e k = absurd k

    pub terms_read : (t : Tree) → is_phrase Terms t ≡ true → AreFineKeyTerms i p t → reads_only on t ≡ true
    terms_read Empty e h = refl
    terms_read (Node Cons a b) e h = let r = and_parts (is_phrase Term a) (is_phrase Terms b) e in ap₂ ◌&&◌ (term_reads a r.0 h.0) (terms_read b r.1 h.1)
    terms_read (Node h a b) e k = absurd k

module _ (ds : List Declaration) (game : Tree) where
  abbrev c : meaning.Context
  c = context_of ds game

  some_site : (o : Option Variable) (v : meaning.Variable) → option_map variable_of_meaning o ≡ Some v → is_some o ≡ true
  some_site None v e = absurd (cc)
  some_site (Some u) v e = refl

  no_type : (n T : ℕ) → BelowParameter n ≡ OfType T → ⊥
  no_type n T e = cc

  mutual
    unfolding IsFineKeyTerm AreFineKeyTerms HasSort HaveSorts is_phrase

    index_term : (rs : Scope) (n : ℕ) (t : Tree) → is_phrase Term t ≡ true → HasSort c rs t (BelowParameter n) → IsFineKeyTerm (is_index_of rs) (has_site game) t
    index_term rs n Empty e h = absurd h
    index_term rs n (Node (Leaf x) a b) e h = go (parameter_in rs x) refl (is_constant_of ds x) h
      where
        go : (o : Option ℕ) → parameter_in rs x ≡ o → (k : Bool) → MatchOption o (MatchBool k ((T : ℕ) × IsFunction c x [] T × (BelowParameter n ≡ OfType T)) (c.variables x ≡ Some (record { indices = []; sort = BelowParameter n }))) (λ m. BelowParameter n ≡ BelowParameter m) → IsFineKeyTerm (is_index_of rs) (has_site game) (Node (Leaf x) a b)
        go (Some m) i k g = inl (parameter_index rs x m i)
        go None i true g = absurd (no_type n g.0 g.2)
        go None i false g = inr (some_site (first_site x [] game) _ g)
    index_term rs n (Node (Read x) a b) e h = (some_site (first_site x [] game) h.0 h.1, index_terms rs h.0.indices a (and_parts (is_phrase Terms a) (is_phrase Nil b) e).0 h.3)
    index_term rs n (Node (Apply f) a b) e h = absurd (no_type n h.1 h.3)
    index_term rs n (Node Eq a b) e h = absurd (no_type n 0 h.0)
    index_term rs n (Node And a b) e h = absurd (no_type n 0 h.0)
    index_term rs n (Node Or a b) e h = absurd (no_type n 0 h.0)
    index_term rs n (Node Not a b) e h = absurd (no_type n 0 h.0)
    index_term rs n (Node Yes a b) e h = absurd (no_type n 0 h)
    index_term rs n (Node No a b) e h = absurd (no_type n 0 h)
    index_term rs n (Node k a b) e h = absurd (both_ways false refl e)

    pub index_terms : (rs : Scope) (ns : List ℕ) (t : Tree) → is_phrase Terms t ≡ true → HaveSorts c rs t (map BelowParameter ns) → AreFineKeyTerms (is_index_of rs) (has_site game) t
    index_terms rs ns Empty e h = tt
    index_terms rs [] (Node Cons a b) e h = absurd h
    index_terms rs (n ∷ ns) (Node Cons a b) e h = let r = and_parts (is_phrase Term a) (is_phrase Terms b) e in (index_term rs n a r.0 h.0, index_terms rs ns b r.1 h.1)
    index_terms rs ns (Node k a b) e h = absurd (both_ways false refl e)

  -- the key: what a read of it has

  pub record KeyRead (x : ℕ) (rs : Scope) (terms : Tree) : Type 0 where
    pub variable : meaning.Variable
    pub defined : c.variables x ≡ Some variable
    pub phrase : is_phrase Terms terms ≡ true
    pub sorts : HaveSorts c rs terms (map BelowParameter variable.indices)

  module _ (key : ℕ) (rs : Scope) (no_index : parameter_in rs key ≡ None) (no_constant : is_constant_of ds key ≡ false) where
    bare : (y : ℕ) (a b : Tree) (S : Sort) → is_phrase Nil a ≡ true → y ≡ key → HasSort c rs (Node (Leaf y) a b) S → KeyRead key rs a
    unfolding HasSort HaveSorts is_phrase
    bare y a b S e i h =
        let g : MatchOption (parameter_in rs key) (NameHasSort c key S) (λ n. S ≡ BelowParameter n) = subst (λ x. MatchOption (parameter_in rs x) (NameHasSort c x S) (λ n. S ≡ BelowParameter n)) i h in
        let k : NameHasSort c key S = subst (λ o. MatchOption o (NameHasSort c key S) (λ n. S ≡ BelowParameter n)) no_index g in
        let defined : c.variables key ≡ Some (record { indices = []; sort = S }) = subst (λ z. MatchBool z ((T : ℕ) × IsFunction c key [] T × (S ≡ OfType T)) (c.variables key ≡ Some (record { indices = []; sort = S }))) no_constant k in
        subst (KeyRead key rs) (sym (nil_empty a e)) (record { variable = record { indices = []; sort = S }; defined = defined; phrase = refl; sorts = tt })

    at_indices : (y : ℕ) (a b : Tree) (S : Sort) → is_phrase Terms a ≡ true → y ≡ key → HasSort c rs (Node (Read y) a b) S → KeyRead key rs a
    unfolding HasSort
    at_indices y a b S e i h = record { variable = h.0; defined = ap c.variables (sym i) ∙ h.1; phrase = e; sorts = h.3 }

    same_name : (x y : ℕ) → ◌≡◌ {A = Option ℕ} (Some x) (Some y) → x ≡ y
    same_name x y e = cc

    pub key_read : (t : Tree) → IsThere ds game key rs t → variable_of t ≡ Some key → KeyRead key rs (first t)
    unfolding is_phrase
    key_read t (σ, s) v = go t σ v s.phrase s.typed
      where
        go : (t : Tree) (σ : Phrase) → variable_of t ≡ Some key → is_phrase σ t ≡ true → IsTypedAs c σ rs t → KeyRead key rs (first t)
        go (Node (Leaf y) a b) Term v e h = bare y a b h.0 (and_parts (is_phrase Nil a) (is_phrase Nil b) e).0 (same_name y key v) h.1
        go (Node (Leaf y) a b) OneCell v e h = bare y a b h.0 (and_parts (is_phrase Nil a) (is_phrase Nil b) e).0 (same_name y key v) h.1
        go (Node (Leaf y) a b) σ v e h = absurd (both_ways false refl e)
        go (Node (Read y) a b) Term v e h = at_indices y a b h.0 (and_parts (is_phrase Terms a) (is_phrase Nil b) e).0 (same_name y key v) h.1
        go (Node (Read y) a b) OneCell v e h = at_indices y a b h.0 (and_parts (is_phrase Terms a) (is_phrase Nil b) e).0 (same_name y key v) h.1
        go (Node (Read y) a b) σ v e h = absurd (both_ways false refl e)
        go t σ v e h = absurd (cc)

  -- the definition of a variable with one `new`

  abbrev Definition : Type 0
  Definition = Head × List (ℕ × ℕ)

  -- a `new` gives the variable the parameters of the replications above
  abbrev IsNewOf : ℕ → Definition → Type 0
  IsNewOf x (New y T, rs) = IsVariable c rs x (OfType T)
  IsNewOf x d = Unit {0}

  module _ (key x : ℕ) where
    new_here : (σ : Phrase) (rs : Scope) (h : Head) (a b : Tree) → Stands ds game key σ rs (Node h a b) → made_by h a (Named x) ≡ true → IsNewOf x (h, rs)
    unfolding is_phrase IsTyped
    new_here σ rs (New y T) a b s e = subst (λ z. IsVariable c rs z (OfType T)) (sym (eqb-true x y e)) (go σ s.phrase s.typed)
      where
        go : (σ : Phrase) → is_phrase σ (Node (New y T) a b) ≡ true → IsTypedAs c σ rs (Node (New y T) a b) → IsVariable c rs y (OfType T)
        go Body e h = h.0
        go σ e h = absurd (both_ways false refl e)
    new_here σ rs h a b s e = tt

    all_new : (rs : Scope) (t : Tree) → IsThere ds game key rs t → AllByRecursion (IsNewOf x) (definitions_in x rs t)
    unfolding definitions_in
    all_new rs Empty s = tt
    all_new rs (Node h a b) s =
        let d = below ds game key s.0 rs h a b s.1 in
        AllByRecursion_append (IsNewOf x) (cond (made_by h a (Named x)) ((h, rs) ∷ []) []) _ (here (made_by h a (Named x)) refl)
        (AllByRecursion_append (IsNewOf x) (definitions_in x rs a) _ (all_new rs a (d.phrases.0, d.first)) (all_new (replications_below h rs) b (d.phrases.1, d.second)))
      where
        here : (z : Bool) → made_by h a (Named x) ≡ z → AllByRecursion (IsNewOf x) (cond z ((h, rs) ∷ []) [])
        here true e = (new_here s.0 rs h a b s.1 e, tt)
        here false e = tt

    only_there : (ds' : List Definition) (d : ℕ × List (ℕ × ℕ)) → AllByRecursion (IsNewOf x) ds' → only_new ds' ≡ Some d → IsVariable c d.1 x (OfType d.0)
    only_there [] d h e = absurd (cc)
    only_there (q ∷ []) d h e = go q.0 q.1 h.0 e
      where
        go : (k : Head) (rs : List (ℕ × ℕ)) → IsNewOf x (k, rs) → only_new ((k, rs) ∷ []) ≡ Some d → IsVariable c d.1 x (OfType d.0)
        go (New y T) rs h e = let same : (T, rs) ≡ d = cc in subst (λ (d : ℕ × List (ℕ × ℕ)). IsVariable c d.1 x (OfType d.0)) same h
        go k rs h e = absurd (cc)
    only_there (q ∷ u ∷ us) d h e = go q.0 q.1 e
      where
        go : (k : Head) (rs : List (ℕ × ℕ)) → only_new ((k, rs) ∷ u ∷ us) ≡ Some d → IsVariable c d.1 x (OfType d.0)
        go (New y T) rs e = absurd (cc)
        go k rs e = absurd (cc)

    pub new_variable : (d : ℕ × List (ℕ × ℕ)) → IsThere ds game key [] game → new_of game x ≡ Some d → IsVariable c d.1 x (OfType d.0)
    new_variable d s e = only_there (definitions_in x [] game) d (all_new [] game s) e

  -- the key is read at as many terms as replications stand above its definition
  pub key_count : (x : ℕ) (rs : Scope) (terms : Tree) (d : ℕ × List (ℕ × ℕ)) → KeyRead x rs terms → IsVariable c d.1 x (OfType d.0) → length (items terms) ≡ length d.1
  key_count x rs terms d k v =
      let some : Some k.variable ≡ Some (record { indices = parameters d.1; sort = OfType d.0 }) = sym k.defined ∙ v in
      let same : k.variable ≡ record { indices = parameters d.1; sort = OfType d.0 } = cc in
      many_items c rs terms (map BelowParameter k.variable.indices) k.sorts
      ∙ length-map k.variable.indices BelowParameter
      ∙ ap (λ (u : meaning.Variable). length u.indices) same
      ∙ length-map d.1 (λ (p : ℕ × ℕ). p.1)
