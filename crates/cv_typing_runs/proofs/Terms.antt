-- A term that typing accepts, and whose names are known, has its sort as the laws of meaning take it.
use Rattle.std.proofs.Common.{◌≡◌, ℕ, suc, ◌+◌, ◌==◌, Bool, true, false, ◌||◌, cond, not, List, [], ◌∷◌, map, length, inl, inr, refl, ap, ap₂, sym, subst, ◌∙◌, arith, eqb-true, eq-eqb, Option, Some, None, is_some}
use Rattle.std.specs.Prelude.{option_map, MatchBool, MatchOption}
use Rattle.std.proofs.lemmas.Bool.{both_ways, and_parts, or_parts}
use Rattle.cv_syntax_trees.specs.declared.head.Head.{Head}
use Rattle.cv_syntax_trees.specs.declared.head.Head.TheVariants.{And, Apply, Cons, Eq, Leaf, No, Not, Or, Read, Yes}
use Rattle.cv_syntax_trees.specs.Declarations.{Declaration}
use Rattle.cv_syntax_trees.specs.Tree.{Tree, Empty, Node}
use Rattle.cv_syntax.specs.faults.Walk.{IsObeyed}
use Rattle.cv_meaning.specs.Interpretation.{is_constant_of}
use Rattle.cv_meaning_laws.specs.adequacy.Typed as meaning
use Rattle.cv_meaning_laws.specs.adequacy.Typed.{Context, HasSort, HaveSomeSorts, HaveSorts, IsFunction, NameHasSort, Scope, parameter_in}
use Rattle.cv_scope_rules.specs.Rules.{is_index}
use Rattle.cv_scope_rules.specs.Phrases.{Phrase, Nil, Term, Terms, binds_none, is_phrase}
use Rattle.cv_scope_rules.proofs.Unbound.{no_variable}
use Rattle.cv_scope_rules.specs.declared.typing.fault.Fault.TheVariants.{Arity, IndexAsMessage, NotFixed, WrongType}
use Rattle.cv_syntax_trees.specs.declared.sites.sort.Sort.{Sort}
use Rattle.cv_syntax_trees.specs.declared.sites.sort.Sort.TheVariants.{BelowParameter, OfType}
use Rattle.cv_scope_rules.specs.typing.Signature.{Above, Function, OfGame, Signature, arity_by, boolean, function_in, is_arity, leaf_arity, leaf_sort, sort_by, sort_of}
use Rattle.cv_syntax_trees.specs.sites.Sorts.{same_sort}
use Rattle.cv_syntax_trees.specs.sites.Counting.{count}
use Rattle.cv_syntax_trees.specs.sites.Sites.{Variable, first_of, first_index, first_site, sites_of}
use Rattle.cv_scope_rules.specs.typing.Typing.{IsTyped, fault_of, is_unfixed, site_differs}
use Rattle.cv_scope_rules.specs.typing.Wants.{Indices, Messages, Of, Message, Want, asks_indices, is_index_sent, is_wrong, like, wants, wants_arguments}
use Rattle.cv_typing_runs.specs.Games.{HasArguments, context_of, has_site, sort_of_meaning, variable_of_meaning}
use Rattle.cv_typing_runs.proofs.Known.{AreKnown, IsKnown}
use Rattle.cv_typing_runs.proofs.Declared.{function_constant, function_declared}

-- what a node without a fault gives
pub record Faultless (e : Signature) (above : Above) (w : Want) (h : Head) (a : Tree) : Type 0 where
  pub right : is_wrong w (sort_by e above h a) ≡ false
  pub site : site_differs e.arrays h a ≡ false
  pub arity : is_arity (arity_by e above h) (count a) ≡ true
  pub value : is_index_sent w (sort_by e above h a) ≡ false

pub faultless : (e : Signature) (above : Above) (w : Want) (h : Head) (a : Tree) → fault_of e above w h a ≡ None → Faultless e above w h a
faultless e above w h a f = go (is_wrong w (sort_by e above h a)) (site_differs e.arrays h a) (is_arity (arity_by e above h) (count a)) (is_index_sent w (sort_by e above h a)) refl refl refl refl f
  where
    go : (b c d s : Bool) → is_wrong w (sort_by e above h a) ≡ b → site_differs e.arrays h a ≡ c → is_arity (arity_by e above h) (count a) ≡ d → is_index_sent w (sort_by e above h a) ≡ s → cond (b || c) (Some WrongType) (cond d (cond s (Some IndexAsMessage) (cond (is_unfixed e h) (Some NotFixed) None)) (Some Arity)) ≡ None → Faultless e above w h a
    go true c d s i j k l f = absurd (cc)
    go false true d s i j k l f = absurd (cc)
    go false false false s i j k l f = absurd (cc)
    go false false true true i j k l f = absurd (cc)
    go false false true false i j k l f = record { right = i; site = j; arity = k; value = l }

-- what a term gives to its position
pub asked_sort : (e : Signature) (above : Above) (w : Want) (t : Tree) (S : Sort) → IsTyped e above w t → sort_of e above t ≡ Some S → (is_wrong w (Some S) ≡ false) × (is_index_sent w (Some S) ≡ false)
unfolding IsObeyed
asked_sort e above w Empty S h f = absurd (cc)
asked_sort e above w (Node k a b) S h f = let g = faultless e above w k a h.0 in (ap (is_wrong w) (sym f) ∙ g.right, ap (is_index_sent w) (sym f) ∙ g.value)

pub same_sorts : (R S : Sort) → not (same_sort R S) ≡ false → S ≡ R
same_sorts (OfType T) (OfType U) h = go (T == U) refl h
  where
    go : (b : Bool) → (T == U) ≡ b → not b ≡ false → OfType U ≡ OfType T
    go true i h = ap OfType (sym (eqb-true T U i))
    go false i h = absurd (cc)
same_sorts (BelowParameter m) (BelowParameter n) h = go (m == n) refl h
  where
    go : (b : Bool) → (m == n) ≡ b → not b ≡ false → BelowParameter n ≡ BelowParameter m
    go true i h = ap BelowParameter (sym (eqb-true m n i))
    go false i h = absurd (cc)
same_sorts (OfType T) (BelowParameter n) h = absurd (cc)
same_sorts (BelowParameter n) (OfType T) h = absurd (cc)

-- a value of a type that is sent or assigned
pub message_sort : (T : ℕ) (S : Sort) → is_wrong (Message T) (Some S) ≡ false → is_index_sent (Message T) (Some S) ≡ false → S ≡ OfType T
message_sort T (OfType U) h g = go (T == U) refl h
  where
    go : (b : Bool) → (T == U) ≡ b → not b ≡ false → OfType U ≡ OfType T
    go true i h = ap OfType (sym (eqb-true T U i))
    go false i h = absurd (cc)
message_sort T (BelowParameter n) h g = absurd (cc)

pub no_index : (rs : Scope) (x : ℕ) → parameter_in rs x ≡ None → is_index rs x ≡ false
no_index [] x e = refl
no_index (r ∷ rs) x e = go (r.0 == x) e (no_index rs x)
  where
    go : (b : Bool) → cond b (Some r.1) (parameter_in rs x) ≡ None → (parameter_in rs x ≡ None → is_index rs x ≡ false) → (b || is_index rs x) ≡ false
    go true f k = absurd (cc)
    go false f k = k f

pub nil_empty : (t : Tree) → is_phrase Nil t ≡ true → t ≡ Empty
unfolding is_phrase
nil_empty Empty e = refl
nil_empty (Node h a b) e = absurd (both_ways false refl e)

none_long : (xs : List ℕ) → (length xs == 0) ≡ true → xs ≡ []
none_long [] e = refl
none_long (x ∷ xs) e = let f : suc (length xs) ≡ 0 = eqb-true (length (x ∷ xs)) 0 e in absurd (omega arith)

module _ (ds : List Declaration) (game : Tree) (given : HasArguments ds) (constants : binds_none (is_constant_of ds) game ≡ true) where
  abbrev pub names : Signature
  names = record { declarations = ds; arrays = OfGame (sites_of game) }

  abbrev pub known : Context
  known = context_of ds game

  -- the names above are the indices in scope
  abbrev pub Matches : Above → Scope → Type 0
  Matches above rs = (x : ℕ) → above x ≡ option_map BelowParameter (parameter_in rs x)

  abbrev pub Sorted : Above → Scope → Tree → Type 0
  Sorted above rs t = (S : Sort) × (sort_of names above t ≡ Some S) × HasSort known rs t (sort_of_meaning S)

  abbrev pub AllSorted : Above → Scope → Tree → Type 0
  AllSorted above rs Empty = Unit {0}
  AllSorted above rs (Node h a b) = Sorted above rs a × AllSorted above rs b

  is_function : (f : ℕ) (fn : Function) → function_in ds f ≡ Some fn → IsFunction known f fn.arguments fn.result
  is_function f fn e = let d = function_declared ds f fn given e in (d.0, d.1)

  -- a bare name
  module _ (above : Above) (rs : Scope) (m : Matches above rs) (x : ℕ) (w : Want) (b : Tree) (g : Faultless names above w (Leaf x) Empty) (k : IsKnown ds (has_site game) rs (Leaf x)) where
    abbrev function_sort : Option Function → Option Sort
    function_sort q = option_map (λ (f : Function). OfType f.result) q

    abbrev sort_from : Option Sort → Option Variable → Option Function → Option Sort
    sort_from o u q = first_of o (first_of (option_map (λ (v : Variable). v.sort) u) (first_of (function_sort q) (option_map BelowParameter (first_index x game))))

    bare_index : (n : ℕ) → parameter_in rs x ≡ Some n → Sorted above rs (Node (Leaf x) Empty b)
    unfolding HasSort
    bare_index n i = (BelowParameter n, ap (λ o. sort_from o (first_site x [] game) (function_in ds x)) (m x ∙ ap (option_map BelowParameter) i), subst (λ o. MatchOption o (NameHasSort known x (meaning.BelowParameter n)) (λ p. meaning.BelowParameter n ≡ meaning.BelowParameter p)) (sym i) refl)

    as_name : (S : Sort) → parameter_in rs x ≡ None → NameHasSort known x (sort_of_meaning S) → HasSort known rs (Node (Leaf x) Empty b) (sort_of_meaning S)
    unfolding HasSort
    as_name S i h = subst (λ o. MatchOption o (NameHasSort known x (sort_of_meaning S)) (λ p. sort_of_meaning S ≡ meaning.BelowParameter p)) (sym i) h

    no_constant_site : (v : Variable) → first_site x [] game ≡ Some v → (c : Bool) → is_constant_of ds x ≡ c → c ≡ false
    no_constant_site v e false i = refl
    no_constant_site v e true i = let s : is_some (first_site x [] game) ≡ false = (or_parts (is_some (first_site x [] game)) _ (no_variable (is_constant_of ds) x i game constants)).0 in let r : true ≡ false = sym (ap is_some e) ∙ s in absurd (cc)

    abbrev arity_from : Option Sort → Option Variable → Option Function → Option ℕ
    arity_from (Some S) u q = None
    arity_from None u q = first_of (option_map (λ (v : Variable). length v.parameters) u) (option_map (λ (f : Function). length f.arguments) q)

    arity_same : (o : Option Sort) → above x ≡ o → leaf_arity names above x ≡ arity_from o (first_site x [] game) (function_in ds x)
    arity_same o e = ap (λ y. elim y [ Some S ↦ None | None ↦ first_of (option_map (λ (v : Variable). length v.parameters) (first_site x [] game)) (option_map (λ (f : Function). length f.arguments) (function_in ds x)) ]) e ∙ go o
      where
        go : (o : Option Sort) → elim o [ Some S ↦ None | None ↦ first_of (option_map (λ (v : Variable). length v.parameters) (first_site x [] game)) (option_map (λ (f : Function). length f.arguments) (function_in ds x)) ] ≡ arity_from o (first_site x [] game) (function_in ds x)
        go (Some S) = refl
        go None = refl

    -- what stands bare takes nothing
    bare_arity : (u : Option Variable) (q : Option Function) → above x ≡ None → first_site x [] game ≡ u → function_in ds x ≡ q → is_arity (arity_from None u q) 0 ≡ true
    unfolding count
    bare_arity u q a e f = ap₂ (λ (v : Option Variable) (r : Option Function). is_arity (arity_from None v r) 0) (sym e) (sym f) ∙ (ap (λ n. is_arity n 0) (sym (arity_same None a)) ∙ g.arity)

    bare_variable : (v : Variable) (q : Option Function) → parameter_in rs x ≡ None → first_site x [] game ≡ Some v → function_in ds x ≡ q → Sorted above rs (Node (Leaf x) Empty b)
    bare_variable v q i e f =
        let a : above x ≡ None = m x ∙ ap (option_map BelowParameter) i in
        let s : leaf_sort names above x ≡ Some v.sort = ap₂ (λ (o : Option Sort) (u : Option Variable). sort_from o u (function_in ds x)) a e in
        let none : v.parameters ≡ [] = none_long v.parameters (bare_arity (Some v) q a e f) in
        let c = no_constant_site v e (is_constant_of ds x) refl in
        let V : known.variables x ≡ Some (record { indices = []; sort = sort_of_meaning v.sort }) = ap (option_map variable_of_meaning) e ∙ ap (λ ps. let y : meaning.Variable = record { indices = ps; sort = sort_of_meaning v.sort } in Some y) none in
        (v.sort, s, as_name v.sort i (subst (λ (d : Bool). MatchBool d ((T : ℕ) × IsFunction known x [] T × (sort_of_meaning v.sort ≡ meaning.OfType T)) (known.variables x ≡ Some (record { indices = []; sort = sort_of_meaning v.sort }))) (sym c) V))

    bare_function : (fn : Function) → parameter_in rs x ≡ None → first_site x [] game ≡ None → function_in ds x ≡ Some fn → Sorted above rs (Node (Leaf x) Empty b)
    bare_function fn i e f =
        let a : above x ≡ None = m x ∙ ap (option_map BelowParameter) i in
        let s : leaf_sort names above x ≡ Some (OfType fn.result) = (λ k. sort_from (a k) (e k) (f k)) in
        let none : fn.arguments ≡ [] = none_long fn.arguments (bare_arity None (Some fn) a e f) in
        let c = function_constant ds x fn given f none in
        let T : (T : ℕ) × IsFunction known x [] T × (meaning.OfType fn.result ≡ meaning.OfType T) = (fn.result, subst (λ Ts. IsFunction known x Ts fn.result) none (is_function x fn f), refl) in
        (OfType fn.result, s, as_name (OfType fn.result) i (subst (λ (d : Bool). MatchBool d ((T : ℕ) × IsFunction known x [] T × (meaning.OfType fn.result ≡ meaning.OfType T)) (known.variables x ≡ Some (record { indices = []; sort = meaning.OfType fn.result }))) (sym c) T))

    bare : Sorted above rs (Node (Leaf x) Empty b)
    bare = go (parameter_in rs x) (first_site x [] game) (function_in ds x) refl refl refl
      where
        nowhere : parameter_in rs x ≡ None → first_site x [] game ≡ None → function_in ds x ≡ None → IsKnown ds (has_site game) rs (Leaf x) → ⊥
        nowhere i e f (inl j) = let z = no_index rs x i in let r : true ≡ false = sym j ∙ z in cc
        nowhere i e f (inr (inl j)) = let r : true ≡ false = sym j ∙ ap is_some f in cc
        nowhere i e f (inr (inr j)) = let r : true ≡ false = sym j ∙ ap is_some e in cc

        go : (o : Option ℕ) (u : Option Variable) (q : Option Function) → parameter_in rs x ≡ o → first_site x [] game ≡ u → function_in ds x ≡ q → Sorted above rs (Node (Leaf x) Empty b)
        go (Some n) u q i e f = bare_index n i
        go None (Some v) q i e f = bare_variable v q i e f
        go None None (Some fn) i e f = bare_function fn i e f
        go None None None i e f = absurd (nowhere i e f k)

  -- lists whose items have sorts, of indices and of values of types

  indices_have : (above : Above) (rs : Scope) (ns : List ℕ) (t : Tree) → is_phrase Terms t ≡ true → AllSorted above rs t → IsTyped names above (Indices ns) t → (length ns == count t) ≡ true → HaveSorts known rs t (map meaning.BelowParameter ns)
  unfolding is_phrase IsObeyed HaveSorts count
  indices_have above rs [] Empty p s h l = tt
  indices_have above rs (n ∷ ns) Empty p s h l = let f : suc (length ns) ≡ 0 = eqb-true (length (n ∷ ns)) 0 l in absurd (omega arith)
  indices_have above rs [] (Node Cons a b) p s h l = absurd (no_count (count b) l)
    where
      no_count : (k : ℕ) → (0 == k + 1) ≡ true → ⊥
      no_count k e = let f : 0 ≡ k + 1 = eqb-true 0 (k + 1) e in omega arith
  indices_have above rs (n ∷ ns) (Node Cons a b) p s h l =
      let S = s.0 in
      let q = asked_sort names above (Of (BelowParameter n)) a S.0 h.1 S.1 in
      let same = same_sorts (BelowParameter n) S.0 q.0 in
      let long : (length ns == count b) ≡ true = fewer (length ns) (count b) l in
      (subst (λ R. HasSort known rs a (sort_of_meaning R)) same S.2, indices_have above rs ns b (and_parts (is_phrase Term a) (is_phrase Terms b) p).1 s.1 h.2 long)
    where
      fewer : (m k : ℕ) → (suc m == k + 1) ≡ true → (m == k) ≡ true
      fewer m k e = let f : suc m ≡ k + 1 = eqb-true (suc m) (k + 1) e in eq-eqb m k (omega arith)
  indices_have above rs ns (Node h a b) p s t l = absurd (both_ways false refl p)

  messages_have : (above : Above) (rs : Scope) (Ts : List ℕ) (t : Tree) → is_phrase Terms t ≡ true → AllSorted above rs t → IsTyped names above (Messages Ts) t → (length Ts == count t) ≡ true → HaveSorts known rs t (map meaning.OfType Ts)
  unfolding is_phrase IsObeyed HaveSorts count
  messages_have above rs [] Empty p s h l = tt
  messages_have above rs (T ∷ Ts) Empty p s h l = let f : suc (length Ts) ≡ 0 = eqb-true (length (T ∷ Ts)) 0 l in absurd (omega arith)
  messages_have above rs [] (Node Cons a b) p s h l = absurd (no_count (count b) l)
    where
      no_count : (k : ℕ) → (0 == k + 1) ≡ true → ⊥
      no_count k e = let f : 0 ≡ k + 1 = eqb-true 0 (k + 1) e in omega arith
  messages_have above rs (T ∷ Ts) (Node Cons a b) p s h l =
      let S = s.0 in
      let q = asked_sort names above (Message T) a S.0 h.1 S.1 in
      let same = message_sort T S.0 q.0 q.1 in
      let long : (length Ts == count b) ≡ true = fewer (length Ts) (count b) l in
      (subst (λ R. HasSort known rs a (sort_of_meaning R)) same S.2, messages_have above rs Ts b (and_parts (is_phrase Term a) (is_phrase Terms b) p).1 s.1 h.2 long)
    where
      fewer : (m k : ℕ) → (suc m == k + 1) ≡ true → (m == k) ≡ true
      fewer m k e = let f : suc m ≡ k + 1 = eqb-true (suc m) (k + 1) e in eq-eqb m k (omega arith)
  messages_have above rs Ts (Node h a b) p s t l = absurd (both_ways false refl p)

  pub some_have : (above : Above) (rs : Scope) (t : Tree) → AllSorted above rs t → HaveSomeSorts known rs t
  unfolding HaveSorts
  some_have above rs Empty s = ([], tt)
  some_have above rs (Node h a b) s = let r = some_have above rs b s.1 in (sort_of_meaning s.0.0 ∷ r.0, (s.0.2, r.1))

  -- terms, and lists of them
  abbrev pub of_terms : Bool → Phrase
  of_terms true = Term
  of_terms false = Terms

  abbrev pub Result : Bool → Above → Scope → Tree → Type 0
  Result true above rs t = Sorted above rs t
  Result false above rs t = AllSorted above rs t

  module _ (above : Above) (rs : Scope) (m : Matches above rs) where
    pub sorted : (k : Bool) (w : Want) (t : Tree) → is_phrase (of_terms k) t ≡ true → IsTyped names above w t → AreKnown ds (has_site game) rs t → Result k above rs t
    unfolding is_phrase IsObeyed AreKnown HasSort count
    sorted false w Empty p h k = tt
    sorted false w (Node Cons a b) p h k = let q = and_parts (is_phrase Term a) (is_phrase Terms b) p in (sorted true _ a q.0 h.1 k.1, sorted false _ b q.1 h.2 k.2)
    sorted false w (Node g a b) p h k = absurd (both_ways false refl p)
    sorted true w Empty p h k = absurd (both_ways false refl p)
    sorted true w (Node (Leaf x) a b) p h k =
        let none = nil_empty a (and_parts (is_phrase Nil a) (is_phrase Nil b) p).0 in
        subst (λ (c : Tree). Sorted above rs (Node (Leaf x) c b)) (sym none) (bare above rs m x w b (subst (λ (c : Tree). Faultless names above w (Leaf x) c) none (faultless names above w (Leaf x) a h.0)) k.0)
    sorted true w (Node (Read x) a b) p h k = read (first_site x [] game) refl (sorted false (wants names above w (Read x) a).0 a (and_parts (is_phrase Terms a) (is_phrase Nil b) p).0 h.1 k.1)
      where
        q : (is_phrase Terms a ≡ true) × (is_phrase Nil b ≡ true)
        q = and_parts (is_phrase Terms a) (is_phrase Nil b) p

        g : Faultless names above w (Read x) a
        g = faultless names above w (Read x) a h.0

        read : (o : Option Variable) → first_site x [] game ≡ o → AllSorted above rs a → Sorted above rs (Node (Read x) a b)
        read None e all = let r : true ≡ false = sym k.0 ∙ ap is_some e in absurd (cc)
        read (Some v) e all =
            let typed : IsTyped names above (Indices v.parameters) a = subst (λ o. IsTyped names above (asks_indices o) a) e h.1 in
            let long : (length v.parameters == count a) ≡ true = ap (λ (o : Option Variable). is_arity (option_map (λ (v : Variable). length v.parameters) o) (count a)) (sym e) ∙ g.arity in
            (v.sort, ap (option_map (λ (v : Variable). v.sort)) e, (variable_of_meaning v, ap (option_map variable_of_meaning) e, refl, indices_have above rs v.parameters a q.0 all typed long))
    sorted true w (Node (Apply f) a b) p h k = called (function_in ds f) refl (sorted false (wants names above w (Apply f) a).0 a (and_parts (is_phrase Terms a) (is_phrase Nil b) p).0 h.1 k.1)
      where
        q : (is_phrase Terms a ≡ true) × (is_phrase Nil b ≡ true)
        q = and_parts (is_phrase Terms a) (is_phrase Nil b) p

        g : Faultless names above w (Apply f) a
        g = faultless names above w (Apply f) a h.0

        called : (o : Option Function) → function_in ds f ≡ o → AllSorted above rs a → Sorted above rs (Node (Apply f) a b)
        called None e all = let r : true ≡ false = sym k.0 ∙ ap is_some e in absurd (cc)
        called (Some fn) e all =
            let typed : IsTyped names above (Messages fn.arguments) a = subst (λ o. IsTyped names above (wants_arguments o) a) e h.1 in
            let long : (length fn.arguments == count a) ≡ true = ap (λ (o : Option Function). is_arity (option_map (λ (f : Function). length f.arguments) o) (count a)) (sym e) ∙ g.arity in
            (OfType fn.result, ap (option_map (λ (f : Function). OfType f.result)) e, (fn.arguments, fn.result, is_function f fn e, refl, messages_have above rs fn.arguments a q.0 all typed long))
    sorted true w (Node Eq a b) p h k =
        let q = and_parts (is_phrase Term a) (is_phrase Term b) p in
        let l = sorted true (wants names above w Eq a).0 a q.0 h.1 k.1 in
        let r = sorted true (wants names above w Eq a).1 b q.1 h.2 k.2 in
        let typed : IsTyped names above (Of l.0) b = subst (λ o. IsTyped names above (like o) b) l.1 h.2 in
        let same = same_sorts l.0 r.0 (asked_sort names above (Of l.0) b r.0 typed r.1).0 in
        (boolean, refl, (refl, sort_of_meaning l.0, l.2, subst (λ R. HasSort known rs b (sort_of_meaning R)) same r.2))
    sorted true w (Node And a b) p h k = let q = and_parts (is_phrase Term a) (is_phrase Term b) p in (boolean, refl, (refl, yes a (sorted true (Of boolean) a q.0 h.1 k.1) h.1, yes b (sorted true (Of boolean) b q.1 h.2 k.2) h.2))
      where
        yes : (t : Tree) → Sorted above rs t → IsTyped names above (Of boolean) t → HasSort known rs t meaning.boolean
        yes t s h = subst (λ R. HasSort known rs t (sort_of_meaning R)) (same_sorts boolean s.0 (asked_sort names above (Of boolean) t s.0 h s.1).0) s.2
    sorted true w (Node Or a b) p h k = let q = and_parts (is_phrase Term a) (is_phrase Term b) p in (boolean, refl, (refl, yes a (sorted true (Of boolean) a q.0 h.1 k.1) h.1, yes b (sorted true (Of boolean) b q.1 h.2 k.2) h.2))
      where
        yes : (t : Tree) → Sorted above rs t → IsTyped names above (Of boolean) t → HasSort known rs t meaning.boolean
        yes t s h = subst (λ R. HasSort known rs t (sort_of_meaning R)) (same_sorts boolean s.0 (asked_sort names above (Of boolean) t s.0 h s.1).0) s.2
    sorted true w (Node Not a b) p h k = let q = and_parts (is_phrase Term a) (is_phrase Nil b) p in (boolean, refl, (refl, yes a (sorted true (Of boolean) a q.0 h.1 k.1) h.1))
      where
        yes : (t : Tree) → Sorted above rs t → IsTyped names above (Of boolean) t → HasSort known rs t meaning.boolean
        yes t s h = subst (λ R. HasSort known rs t (sort_of_meaning R)) (same_sorts boolean s.0 (asked_sort names above (Of boolean) t s.0 h s.1).0) s.2
    sorted true w (Node Yes a b) p h k = (boolean, refl, refl)
    sorted true w (Node No a b) p h k = (boolean, refl, refl)
    sorted true w (Node g a b) p h k = absurd (both_ways false refl p)
