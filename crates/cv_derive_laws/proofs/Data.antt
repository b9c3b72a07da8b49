-- A function that is `[data]` has one value at equal arguments alone.
use Rattle.std.proofs.Common.{◌≡◌, ℕ, suc, ◌+◌, ◌<◌, Bool, true, false, cond, ◌&&◌, ◌==◌, nat_lt, lt-ltb, List, [], ◌∷◌, map, length, inl, inr, Option, Some, None, is_some, refl, sym, ap, ap₂, subst, ◌∙◌, eqb-true, eq-eqb, arith}
use Rattle.std.specs.Prelude.{option_map}
use Rattle.std.proofs.lemmas.Bool.{both_ways, and_from, and_parts}
use Rattle.std.specs.List.{AllByRecursion}
use Rattle.cv_syntax_trees.specs.declared.class.Class.{Class}
use Rattle.cv_syntax_trees.specs.declared.class.Class.TheVariants as class
use Rattle.cv_syntax_trees.specs.declared.head.Head.TheVariants.{Apply, And, Cons, Eq}
use Rattle.cv_syntax_trees.specs.Declarations.{Declaration, Named, Equation, Equiv, Query}
use Rattle.cv_syntax_trees.specs.Tree.{Tree, Empty, Node, names}
use Rattle.cv_syntax_trees.proofs.Equality.{same_tree_exact}
use Rattle.cv_syntax.specs.faults.Walk.{IsObeyed}
use Rattle.cv_meaning.specs.Interpretation.{Interpretation, Setting, setting_of}
use Rattle.cv_meaning.specs.Memory.{Indices, Store}
use Rattle.cv_meaning.specs.Satisfies.{DeclarationHolds, IsInjective, Satisfies}
use Rattle.cv_meaning.specs.Terms.{bit, is_one, value, values}
use Rattle.cv_meaning.specs.Binders.{fits_types}
use Rattle.cv_meaning_laws.specs.adequacy.Typed as meaning
use Rattle.cv_meaning_laws.specs.adequacy.Typed.{HasSort, Scope, boolean}
use Rattle.cv_scope_rules.specs.Context.{items}
use Rattle.cv_scope_rules.specs.Phrases.{IsWellFormed, Nil, Term, Terms, is_phrase}
use Rattle.cv_scope_rules.specs.typing.Signature.{Above, Function, Signature, declaration_of, function_by, function_in, is_arity, names_in}
use Rattle.cv_syntax_trees.specs.sites.Counting.{count}
use Rattle.cv_scope_rules.specs.typing.Typing.{IsTyped}
use Rattle.cv_scope_rules.specs.typing.Wants.{AnyTerm, Message, Messages, Want, wants, wants_arguments}
use Rattle.cv_typing_runs.specs.Games.{HasArguments, sort_of_meaning}
use Rattle.cv_typing_runs.proofs.Known.{AreKnown}
use Rattle.cv_typing_runs.proofs.Terms.{AllSorted, asked_sort, faultless, message_sort, sorted}
use Rattle.cv_scene.specs.Terms.{above_under, has_site, is_term_under, signature_in}
use Rattle.cv_derive_laws.proofs.stores.Terms.{above_matches, term_known, term_typed}
use Rattle.cv_scene.specs.lines.Inferences.{equations_of}
use Rattle.cv_scene.specs.Reasons.{is_data_by, is_injective}
use Rattle.cv_scene.specs.Sights.{Sight}
use Rattle.cv_derive_laws.specs.stores.Truth.{HasClosedEquations, WasReached}
use Rattle.cv_derive_laws.proofs.Reasons as reasons
use Rattle.cv_derive_laws.proofs.Truths.{IsBit, bit_true, nought_one}

-- what is declared of a function that is `[data]`

record IsData (i : Interpretation) (ds : List Declaration) (f : ℕ) : Type 0 where
  arguments : Tree
  result : Option ℕ
  declared : declaration_of ds f ≡ Some (Named f (class.Fun true) arguments result)
  injective : IsInjective i f arguments
  named : arguments ≡ names (names_in arguments)

data_declared : (g : Setting) (f : ℕ) (ds : List Declaration) → HasArguments ds → AllByRecursion (DeclarationHolds g) ds → is_data_by (declaration_of ds f) ≡ true → IsData g.interpretation ds f
unfolding HasArguments
data_declared g f [] h a e = absurd (both_ways false refl e)
data_declared g f (Named y c args r ∷ ds) h a e = go (f == y) refl e (data_declared g f ds h.1 a.1)
  where
    further : (f == y) ≡ false → IsData g.interpretation ds f → IsData g.interpretation (Named y c args r ∷ ds) f
    further k d = record { arguments = d.arguments; result = d.result; declared = ap (λ b. cond b (Some (Named y c args r)) (declaration_of ds f)) k ∙ d.declared; injective = d.injective; named = d.named }

    here : (c : Class) → f ≡ y → (f == y) ≡ true → DeclarationHolds g (Named y c args r) → is_data_by (Some (Named y c args r)) ≡ true → IsData g.interpretation (Named y c args r ∷ ds) f
    here (class.Fun true) k j a e = record {
      arguments = args;
      result = r;
      declared = ap (λ b. cond b (Some (Named y (class.Fun true) args r)) (declaration_of ds f)) j ∙ ap (λ x. Some (Named x (class.Fun true) args r)) (sym k);
      injective = subst (λ x. IsInjective g.interpretation x args) (sym k) a.1;
      named = h.0;
    }
    here (class.Fun false) k j a e = absurd (both_ways false refl e)
    here c k j a e = absurd (both_ways false refl e)

    go : (b : Bool) → (f == y) ≡ b → is_data_by (cond b (Some (Named y c args r)) (declaration_of ds f)) ≡ true → (is_data_by (declaration_of ds f) ≡ true → IsData g.interpretation ds f) → IsData g.interpretation (Named y c args r ∷ ds) f
    go true j e k = here c (eqb-true f y j) j a.0 e
    go false j e k = further j (k e)
data_declared g f (Equation t ∷ ds) h a e = let d = data_declared g f ds h a.1 e in record { arguments = d.arguments; result = d.result; declared = d.declared; injective = d.injective; named = d.named }
data_declared g f (Equiv y t ∷ ds) h a e = go (f == y) refl e (data_declared g f ds h a.1)
  where
    go : (b : Bool) → (f == y) ≡ b → is_data_by (cond b (Some (Equiv y t)) (declaration_of ds f)) ≡ true → (is_data_by (declaration_of ds f) ≡ true → IsData g.interpretation ds f) → IsData g.interpretation (Equiv y t ∷ ds) f
    go true j e k = absurd (both_ways false refl e)
    go false j e k = let d = k e in record { arguments = d.arguments; result = d.result; declared = ap (λ b. cond b (Some (Equiv y t)) (declaration_of ds f)) j ∙ d.declared; injective = d.injective; named = d.named }
data_declared g f (Query t ∷ ds) h a e = let d = data_declared g f ds h a.1 e in record { arguments = d.arguments; result = d.result; declared = d.declared; injective = d.injective; named = d.named }

module _ (s : Sight) (i : Interpretation) (at : Indices) (m n : Store) (r : WasReached s i at m n) (term_for : HasArguments s.scene.declarations) (well : IsWellFormed s.scene.declarations s.scene.game) (model : Satisfies s.scene.declarations i) (closed : HasClosedEquations s.scene.declarations) where
  abbrev g : Setting
  g = setting_of s.scene.declarations i

  abbrev V : Tree → ℕ
  V t = value g at n t

  abbrev rs : Scope
  rs = s.replications

  abbrev above : Above
  above = above_under s.replications

  abbrev e : Signature
  e = signature_in s.scene

  abbrev c : meaning.Context
  c = reasons.c s i at m n r term_for well model closed

  abbrev AllKnown : Tree → Type 0
  AllKnown t = AreKnown s.scene.declarations (has_site s.scene.game) rs t

  -- the right-nested conjunction of equations is one where all of them hold

  record SaysEqual (t : Tree) (ms ns : List Tree) : Type 0 where
    a_bit : IsBit (V t)
    there : map V ms ≡ map V ns → V t ≡ 1
    back : V t ≡ 1 → map V ms ≡ map V ns

  bit_is : (b : Bool) → IsBit (bit b)
  bit_is true = inr refl
  bit_is false = inl refl

  cons_same : (x y : ℕ) (xs ys : List ℕ) → x ∷ xs ≡ y ∷ ys → (x ≡ y) × (xs ≡ ys)
  cons_same x y xs ys e = (cc, cc)

  one_equal : (a b : Tree) → SaysEqual (Node Eq a b) (a ∷ []) (b ∷ [])
  unfolding value
  one_equal a b = record {
    a_bit = bit_is (V a == V b);
    there = λ f. reasons.equal s i at m n r term_for well model closed a b (cons_same (V a) (V b) [] [] f).0;
    back = λ f. ap (λ x. x ∷ []) (reasons.equals s i at m n r term_for well model closed a b f);
  }

  more_equal : (a b t : Tree) (ms ns : List Tree) → SaysEqual t ms ns → SaysEqual (Node And (Node Eq a b) t) (a ∷ ms) (b ∷ ns)
  unfolding value
  more_equal a b t ms ns h = record {
    a_bit = bit_is (is_one (V (Node Eq a b)) && is_one (V t));
    there = λ f.
        let q = cons_same (V a) (V b) (map V ms) (map V ns) f in
        ap₂ (λ x y. bit (is_one x && is_one y)) (reasons.equal s i at m n r term_for well model closed a b q.0) (h.there q.1);
    back = λ f.
        let p = and_parts (is_one (V (Node Eq a b))) (is_one (V t)) (bit_true _ f) in
        ap₂ ◌∷◌ (reasons.equals s i at m n r term_for well model closed a b (eqb-true (V (Node Eq a b)) 1 p.0)) (h.back (eqb-true (V t) 1 p.1));
  }

  equations_equal : (ms ns : List Tree) (S : meaning.Sort) → HasSort c rs (equations_of ms ns) S → SaysEqual (equations_of ms ns) ms ns
  unfolding HasSort
  equations_equal [] ns S h = absurd h
  equations_equal (a ∷ []) [] S h = absurd h
  equations_equal (a ∷ []) (b ∷ []) S h = one_equal a b
  equations_equal (a ∷ []) (b ∷ (d ∷ ns)) S h = more_equal a b Empty [] (d ∷ ns) (absurd h.2)
  equations_equal (a ∷ (k ∷ ms)) [] S h = absurd h
  equations_equal (a ∷ (k ∷ ms)) (b ∷ ns) S h = more_equal a b (equations_of (k ∷ ms) ns) (k ∷ ms) ns (equations_equal (k ∷ ms) ns boolean h.2)

  -- the arguments of a call have values of their types

  arguments_fit : (Ts : List ℕ) (t : Tree) → is_phrase Terms t ≡ true → AllSorted s.scene.declarations s.scene.game term_for well.constants above rs t → IsTyped e above (Messages Ts) t → (length Ts == count t) ≡ true → fits_types i.type_size (names Ts) (values g at n t) ≡ true
  unfolding is_phrase IsObeyed values count
  arguments_fit [] Empty p h k l = refl
  arguments_fit (T ∷ Ts) Empty p h k l = let f : suc (length Ts) ≡ 0 = eqb-true (length (T ∷ Ts)) 0 l in absurd (omega arith)
  arguments_fit [] (Node Cons a b) p h k l = absurd (no_count (count b) l)
    where
      no_count : (k : ℕ) → (0 == k + 1) ≡ true → ⊥
      no_count k e = let f : 0 ≡ k + 1 = eqb-true 0 (k + 1) e in omega arith
  arguments_fit (T ∷ Ts) (Node Cons a b) p h k l =
      let q = asked_sort e above (Message T) a h.0.0 k.1 h.0.1 in
      let below : V a < i.type_size T = r.types a (meaning.OfType T) (subst (λ R. HasSort c rs a (sort_of_meaning R)) (message_sort T h.0.0 q.0 q.1) h.0.2) in
      and_from (nat_lt (V a) (i.type_size T)) _ (lt-ltb (V a) (i.type_size T) below) (arguments_fit Ts b (and_parts (is_phrase Term a) (is_phrase Terms b) p).1 h.1 k.2 (fewer (length Ts) (count b) l))
    where
      fewer : (m k : ℕ) → (suc m == k + 1) ≡ true → (m == k) ≡ true
      fewer m k e = let f : suc m ≡ k + 1 = eqb-true (suc m) (k + 1) e in eq-eqb m k (omega arith)
  arguments_fit Ts (Node h a b) p k t l = absurd (both_ways false refl p)

  call_fits : (f : ℕ) (w : Want) (a b : Tree) (d : IsData i s.scene.declarations f) → is_phrase Term (Node (Apply f) a b) ≡ true → IsTyped e above w (Node (Apply f) a b) → AllKnown (Node (Apply f) a b) → fits_types i.type_size d.arguments (values g at n a) ≡ true
  unfolding is_phrase IsObeyed AreKnown
  call_fits f w a b d p h k = go d.result d.declared
    where
      q : is_phrase Terms a ≡ true
      q = (and_parts (is_phrase Terms a) (is_phrase Nil b) p).0

      go : (o : Option ℕ) → declaration_of s.scene.declarations f ≡ Some (Named f (class.Fun true) d.arguments o) → fits_types i.type_size d.arguments (values g at n a) ≡ true
      go None z = let x : true ≡ false = sym k.0 ∙ ap (λ o. is_some (function_by o)) z in absurd (cc)
      go (Some T) z =
          let fn : Function = record { arguments = names_in d.arguments; result = T } in
          let found : function_in s.scene.declarations f ≡ Some fn = ap function_by z in
          let typed : IsTyped e above (Messages (names_in d.arguments)) a = subst (λ o. IsTyped e above (wants_arguments o) a) found h.1 in
          let all = sorted s.scene.declarations s.scene.game term_for well.constants above rs (above_matches rs) false (Messages (names_in d.arguments)) a q typed k.1 in
          let long : (length (names_in d.arguments) == count a) ≡ true = ap (λ (o : Option Function). is_arity (option_map (λ (x : Function). length x.arguments) o) (count a)) (sym found) ∙ (faultless e above w (Apply f) a h.0).arity in
          subst (λ x. fits_types i.type_size x (values g at n a) ≡ true) (sym d.named) (arguments_fit (names_in d.arguments) a q all typed long)

  -- the equation between two calls, and those between their arguments

  items_values : (t : Tree) → values g at n t ≡ map V (items t)
  unfolding values
  items_values Empty = refl
  items_values (Node h a b) = ap (λ vs. V a ∷ vs) (items_values b)

  calls_equal : (f : ℕ) (a b d k u : Tree) (x : IsData i s.scene.declarations f) → SaysEqual u (items a) (items d) → fits_types i.type_size x.arguments (values g at n a) ≡ true → fits_types i.type_size x.arguments (values g at n d) ≡ true
      → V (Node Eq (Node (Apply f) a b) (Node (Apply f) d k)) ≡ V u
  unfolding value
  calls_equal f a b d k u x h p q = go h.a_bit
    where
      apart : (z : Bool) → (i.table f (values g at n a) == i.table f (values g at n d)) ≡ z → V u ≡ 0 → bit z ≡ 0
      apart false y e = refl
      apart true y e =
          let same : values g at n a ≡ values g at n d = x.injective (values g at n a) (values g at n d) p q (eqb-true (i.table f (values g at n a)) (i.table f (values g at n d)) y) in
          absurd (nought_one (V u) e (h.there (sym (items_values a) ∙ (same ∙ items_values d))))

      go : IsBit (V u) → bit (i.table f (values g at n a) == i.table f (values g at n d)) ≡ V u
      go (inl e) = apart (i.table f (values g at n a) == i.table f (values g at n d)) refl e ∙ sym e
      go (inr e) =
          let same : values g at n a ≡ values g at n d = items_values a ∙ (h.back e ∙ sym (items_values d)) in
          ap bit (eq-eqb (i.table f (values g at n a)) (i.table f (values g at n d)) (ap (i.table f) same)) ∙ sym e

  abbrev IsCall : Want → Tree → ℕ → Tree → Type 0
  IsCall w a f b = (is_phrase Term (Node (Apply f) a b) ≡ true) × IsTyped e above w (Node (Apply f) a b) × AllKnown (Node (Apply f) a b)

  pub by_data : (t : Tree) → is_term_under s.scene s.replications t ≡ true → is_injective s t ≡ true → V t ≡ 1
  unfolding is_phrase IsObeyed AreKnown HasSort
  by_data (Node Eq (Node Eq (Node (Apply f) a b) (Node (Apply k) d j)) u) h z =
      let t : Tree = Node Eq (Node Eq (Node (Apply f) a b) (Node (Apply k) d j)) u in
      let p = and_parts (f == k) _ z in
      let q = and_parts (is_data_by (declaration_of s.scene.declarations f)) _ p.1 in
      let same : f ≡ k = eqb-true f k p.0 in
      let x = data_declared g f s.scene.declarations term_for model.each q.0 in
      let phrase = and_parts (is_phrase Term (Node (Apply f) a b)) (is_phrase Term (Node (Apply k) d j)) (and_parts (is_phrase Term (Node Eq (Node (Apply f) a b) (Node (Apply k) d j))) (is_phrase Term u) (and_parts (is_phrase Term t) _ h).0).0 in
      let typed = term_typed s.scene s.replications t h in
      let known = term_known s.scene s.replications t h in
      let sort = (reasons.sorted_term s i at m n r term_for well model closed t h).2 in
      let w : Want = (wants e above AnyTerm Eq (Node (Apply f) a b)).1 in
      let other : IsCall w d f j = subst (λ y. IsCall w d y j) (sym same) (phrase.1, typed.1.2, known.1.2) in
      let eqs : u ≡ equations_of (items a) (items d) = same_tree_exact u (equations_of (items a) (items d)) q.1 in
      let says = equations_equal (items a) (items d) sort.1 (subst (λ y. HasSort c rs y sort.1) eqs sort.3) in
      let left = call_fits f AnyTerm a b x phrase.0 typed.1.1 known.1.1 in
      let right = call_fits f w d j x other.0 other.1 other.2 in
      reasons.equal s i at m n r term_for well model closed (Node Eq (Node (Apply f) a b) (Node (Apply k) d j)) u
      (ap (λ y. V (Node Eq (Node (Apply f) a b) (Node (Apply y) d j))) (sym same) ∙ (calls_equal f a b d j (equations_of (items a) (items d)) x says left right ∙ sym (ap V eqs)))
  by_data t h z = absurd (both_ways false refl z)
