-- What a declared equation makes of a term is said by an instance of it.
use Rattle.std.proofs.Common.{◌≡◌, ℕ, ◌==◌, Bool, true, false, cond, ◌&&◌, List, [], ◌∷◌, Option, Some, None, is_some, refl, sym, ap, subst, ◌∙◌, inl, inr}
use Rattle.std.specs.Prelude.{◌⊎◌, option_and_then, option_map}
use Rattle.std.specs.List.{AllByRecursion}
use Rattle.std.proofs.lemmas.Bool.{and_from, and_parts, both_ways}
use Rattle.cv_syntax_trees.specs.declared.head.Head.{Head}
use Rattle.cv_syntax_trees.specs.declared.head.Head.TheVariants.{And, Apply, Binder, Cons, Eq, Leaf, No, Not, Or, Read, Yes}
use Rattle.cv_syntax_trees.specs.Tree.{Tree, Empty, Node, bound_names, chain, first, same_tree, second}
use Rattle.cv_syntax_trees.specs.declared.sites.sort.Sort.{Sort}
use Rattle.cv_syntax_trees.specs.declared.sites.sort.Sort.TheVariants.{BelowParameter, OfType}
use Rattle.cv_syntax_trees.specs.sites.Sites.{Variable, first_index, first_of, first_site}
use Rattle.cv_syntax_trees.proofs.Equality.{same_tree_exact}
use Rattle.cv_syntax_trees.proofs.lists.Options.{none_some, some_injective}
use Rattle.cv_syntax.specs.faults.Walk.{IsObeyed}
use Rattle.cv_scope_rules.specs.Phrases.{Binders, Inputs, Nil, Term, Terms, is_phrase}
use Rattle.cv_scope_rules.specs.typing.Parts.{nothing_above}
use Rattle.cv_scope_rules.specs.typing.Signature.{Function, boolean, function_in, leaf_sort, sort_of}
use Rattle.cv_scope_rules.specs.typing.Wants.{AnyTerm, Of, Want, like, wants}
use Rattle.cv_typing_runs.proofs.Terms.{nil_empty}
use Rattle.cv_scene.specs.Instances.{standing_for, standing_here}
use Rattle.cv_scene.specs.Reasons as kernel
use Rattle.cv_scene.specs.Reasons.{equations_in}
use Rattle.cv_scene.specs.Scenes.{Scene, part_at}
use Rattle.cv_scene.specs.Sights.{is_term_of, sight_at}
use Rattle.cv_scene.specs.Terms.{above_under, head_is_there, is_function, is_sort, is_term_under, is_there, names_under, replications_at, signature_in}
use Rattle.cv_scene.specs.lines.Given.{with_given}
use Rattle.cv_steps.specs.Rewriting.{has_term_at}
use Rattle.cv_settling_rules.specs.Equations.{are_of_types, by_sides, is_left_side, is_of_type, right_side, terms_for}
use Rattle.cv_settling_candidates.proofs.Lists.{when_all}
use Rattle.cv_settling_laws.specs.Games.{IsTypedScene}
use Rattle.cv_settling_laws.proofs.Cells.{IsClear}
use Rattle.cv_settling_laws.proofs.Places.{place_clear}
use Rattle.cv_settling_laws.proofs.Rewritten.{term_there}
use Rattle.cv_settling_laws.proofs.Terms.{AreTerms, as_any, term_under}
use Rattle.cv_settling_candidates.specs.Rewriting.{HasNoFunction, IsByEquation, IsDeclared}

-- parts of terms

abbrev IsIn : Scene → List (ℕ × ℕ) → Tree → Type 0
IsIn s rs t = (t ≡ Empty) ⊎ (AreTerms s rs true AnyTerm t ⊎ ((w : Want) × AreTerms s rs false w t))

record AreIn (s : Scene) (rs : List (ℕ × ℕ)) (t : Tree) : Type 0 where
  first : IsIn s rs (first t)
  second : IsIn s rs (second t)

module _ (s : Scene) (rs : List (ℕ × ℕ)) where
  term_in : (w : Want) (t : Tree) → AreTerms s rs true w t → IsIn s rs t
  term_in w t k = inr (inl (as_any s rs w t k))

  nothing : (t : Tree) → is_phrase Nil t ≡ true → IsIn s rs t
  nothing t e = inl (nil_empty t e)

  both_in : (v w : Want) (h : Head) (a b : Tree) → AreTerms s rs true v a → AreTerms s rs true w b → AreIn s rs (Node h a b)
  both_in v w h a b j k = record { first = term_in v a j; second = term_in w b k }

  parts_in : (t : Tree) → AreTerms s rs true AnyTerm t → AreIn s rs t
  unfolding is_phrase is_there IsObeyed
  parts_in Empty k = absurd (both_ways false refl k.phrase)
  parts_in (Node (Leaf x) a b) k = let p = and_parts (is_phrase Nil a) (is_phrase Nil b) k.phrase in record { first = nothing a p.0; second = nothing b p.1 }
  parts_in (Node (Read x) a b) k =
      let p = and_parts (is_phrase Terms a) (is_phrase Nil b) k.phrase in
      let q = and_parts (head_is_there (names_under s rs) Term (Read x)) _ k.there in
      record { first = inr (inr ((wants (signature_in s) (above_under rs) AnyTerm (Read x) a).0, record { phrase = p.0; there = (and_parts (is_there (names_under s rs) Terms a) _ q.1).0; typed = k.typed.1 })); second = nothing b p.1 }
  parts_in (Node (Apply f) a b) k =
      let p = and_parts (is_phrase Terms a) (is_phrase Nil b) k.phrase in
      let q = and_parts (head_is_there (names_under s rs) Term (Apply f)) _ k.there in
      record { first = inr (inr ((wants (signature_in s) (above_under rs) AnyTerm (Apply f) a).0, record { phrase = p.0; there = (and_parts (is_there (names_under s rs) Terms a) _ q.1).0; typed = k.typed.1 })); second = nothing b p.1 }
  parts_in (Node Eq a b) k =
      let p = and_parts (is_phrase Term a) (is_phrase Term b) k.phrase in
      let q = and_parts (is_there (names_under s rs) Term a) (is_there (names_under s rs) Term b) k.there in
      both_in AnyTerm (like (sort_of (signature_in s) (above_under rs) a)) Eq a b (record { phrase = p.0; there = q.0; typed = k.typed.1 }) (record { phrase = p.1; there = q.1; typed = k.typed.2 })
  parts_in (Node And a b) k =
      let p = and_parts (is_phrase Term a) (is_phrase Term b) k.phrase in
      let q = and_parts (is_there (names_under s rs) Term a) (is_there (names_under s rs) Term b) k.there in
      both_in (Of boolean) (Of boolean) And a b (record { phrase = p.0; there = q.0; typed = k.typed.1 }) (record { phrase = p.1; there = q.1; typed = k.typed.2 })
  parts_in (Node Or a b) k =
      let p = and_parts (is_phrase Term a) (is_phrase Term b) k.phrase in
      let q = and_parts (is_there (names_under s rs) Term a) (is_there (names_under s rs) Term b) k.there in
      both_in (Of boolean) (Of boolean) Or a b (record { phrase = p.0; there = q.0; typed = k.typed.1 }) (record { phrase = p.1; there = q.1; typed = k.typed.2 })
  parts_in (Node Not a b) k =
      let p = and_parts (is_phrase Term a) (is_phrase Nil b) k.phrase in
      let q = and_parts (is_there (names_under s rs) Term a) (is_there (names_under s rs) Nil b) k.there in
      record { first = term_in (Of boolean) a (record { phrase = p.0; there = q.0; typed = k.typed.1 }); second = nothing b p.1 }
  parts_in (Node Yes a b) k = let p = and_parts (is_phrase Nil a) (is_phrase Nil b) k.phrase in record { first = nothing a p.0; second = nothing b p.1 }
  parts_in (Node No a b) k = let p = and_parts (is_phrase Nil a) (is_phrase Nil b) k.phrase in record { first = nothing a p.0; second = nothing b p.1 }
  parts_in (Node h a b) k = absurd (both_ways false refl k.phrase)

  items_in : (w : Want) (t : Tree) → AreTerms s rs false w t → AreIn s rs t
  unfolding is_phrase is_there IsObeyed
  items_in w Empty k = record { first = inl refl; second = inl refl }
  items_in w (Node Cons a b) k =
      let p = and_parts (is_phrase Term a) (is_phrase Terms b) k.phrase in
      let q = and_parts (is_there (names_under s rs) Term a) (is_there (names_under s rs) Terms b) k.there in
      let v = wants (signature_in s) (above_under rs) w Cons a in
      record { first = term_in v.0 a (record { phrase = p.0; there = q.0; typed = k.typed.1 }); second = inr (inr (v.1, record { phrase = p.1; there = q.1; typed = k.typed.2 })) }
  items_in w (Node h a b) k = absurd (both_ways false refl k.phrase)

  children_in : (t : Tree) → IsIn s rs t → AreIn s rs t
  children_in t (inl e) = record { first = inl (ap first e); second = inl (ap second e) }
  children_in t (inr (inl k)) = parts_in t k
  children_in t (inr (inr (w, k))) = items_in w t k

  here_is : (x : ℕ) (h : Head) (t m : Tree) → standing_here x h t ≡ Some m → t ≡ m
  here_is x (Leaf y) t m e = go (y == x) e
    where
      go : (b : Bool) → cond b (Some t) None ≡ Some m → t ≡ m
      go true e = some_injective e
      go false e = absurd (none_some m e)
  here_is x h t m e = absurd (none_some m e)

  standing_in : (x : ℕ) (l t m : Tree) → IsIn s rs t → standing_for x l t ≡ Some m → IsIn s rs m
  unfolding standing_for
  standing_in x Empty t m k e = absurd (none_some m e)
  standing_in x (Node h a b) t m k e =
      let c = children_in t k in
      go (standing_here x h t) (here_is x h t m) (standing_for x a (first t)) (standing_in x a (first t) m c.first) (standing_in x b (second t) m c.second) e
    where
      go : (o : Option Tree) → (o ≡ Some m → t ≡ m) → (q : Option Tree) → (q ≡ Some m → IsIn s rs m) → (standing_for x b (second t) ≡ Some m → IsIn s rs m) → first_of o (first_of q (standing_for x b (second t))) ≡ Some m → IsIn s rs m
      go (Some u) f q g h e = subst (IsIn s rs) (f e) k
      go None f (Some u) g h e = g e
      go None f None g h e = h e

  -- the sort of a term without what is bound above it

  module _ (clear : IsClear s rs) (free : (x : ℕ) → is_function s.declarations x ≡ true → above_under rs x ≡ None) where
    no_sort : (T : ℕ) (i : Option ℕ) → is_sort (option_map BelowParameter i) (OfType T) ≡ true → ⊥
    no_sort T None e = both_ways false refl e
    no_sort T (Some n) e = both_ways false refl e

    clash : (o : Option Sort) (S : Sort) → o ≡ Some S → o ≡ None → ⊥
    clash o S e f = none_some S (sym f ∙ e)

    leaf_type : (T x : ℕ) → is_sort (leaf_sort (signature_in s) nothing_above x) (OfType T) ≡ true → is_sort (leaf_sort (signature_in s) (above_under rs) x) (OfType T) ≡ true
    leaf_type T x e = go (above_under rs x) refl
      where
        rest : Option Variable → Option Function → Option Sort
        rest u q = first_of (option_map (λ (v : Variable). v.sort) u) (first_of (option_map (λ (f : Function). OfType f.result) q) (option_map BelowParameter (first_index x s.game)))

        index : (S : Sort) → above_under rs x ≡ Some S → (u : Option Variable) (q : Option Function) → first_site x [] s.game ≡ u → function_in s.declarations x ≡ q → is_sort (rest u q) (OfType T) ≡ true → ⊥
        index S f (Some v) q i j r = clash (above_under rs x) S f (clear.variables x (ap is_some i))
        index S f None (Some g) i j r = clash (above_under rs x) S f (free x (ap is_some j))
        index S f None None i j r = no_sort T (first_index x s.game) r

        go : (o : Option Sort) → above_under rs x ≡ o → is_sort (leaf_sort (signature_in s) (above_under rs) x) (OfType T) ≡ true
        go None f = ap (λ o. is_sort (first_of o (rest (first_site x [] s.game) (function_in s.declarations x))) (OfType T)) f ∙ e
        go (Some S) f = absurd (index S f (first_site x [] s.game) (function_in s.declarations x) refl refl e)

    term_type : (T : ℕ) (m : Tree) → AreTerms s rs true AnyTerm m → is_of_type s T m ≡ true → is_sort (sort_of (signature_in s) (above_under rs) m) (OfType T) ≡ true
    unfolding is_phrase
    term_type T Empty k e = absurd (both_ways false refl k.phrase)
    term_type T (Node (Leaf x) a b) k e = leaf_type T x e
    term_type T (Node (Read x) a b) k e = e
    term_type T (Node (Apply f) a b) k e = e
    term_type T (Node Eq a b) k e = e
    term_type T (Node And a b) k e = e
    term_type T (Node Or a b) k e = e
    term_type T (Node Not a b) k e = e
    term_type T (Node Yes a b) k e = e
    term_type T (Node No a b) k e = e
    term_type T (Node h a b) k e = absurd (both_ways false refl k.phrase)

    no_list : (T : ℕ) (w : Want) (m : Tree) → AreTerms s rs false w m → is_of_type s T m ≡ true → ⊥
    unfolding is_phrase
    no_list T w Empty k e = both_ways false refl e
    no_list T w (Node Cons a b) k e = both_ways false refl e
    no_list T w (Node h a b) k e = both_ways false refl k.phrase

    of_type : (T : ℕ) (m : Tree) → IsIn s rs m → is_of_type s T m ≡ true → (is_term_under s rs m && is_sort (sort_of (signature_in s) (above_under rs) m) (OfType T)) ≡ true
    of_type T m (inl f) e = absurd (both_ways false refl (ap (is_of_type s T) (sym f) ∙ e))
    of_type T m (inr (inl k)) e = and_from (is_term_under s rs m) _ (term_under s rs m k) (term_type T m k e)
    of_type T m (inr (inr (w, k))) e = absurd (no_list T w m k e)

    -- terms for the variables of an equation

    types_kept : (p : ℕ) → replications_at s p ≡ rs → (bs : Tree) (ms : List Tree) (l t : Tree) → is_phrase Binders bs ≡ true → IsIn s rs t → terms_for (bound_names bs) l t ≡ Some ms → are_of_types s bs ms ≡ true → kernel.are_of_types (sight_at s p) bs (chain ms) ≡ true
    unfolding is_phrase
    types_kept p same Empty ms l t f k e types = ap (λ ns. kernel.are_of_types (sight_at s p) Empty (chain ns)) (sym (some_injective e))
    types_kept p same (Node (Binder x T) a bs) ms l t f k e types =
        go (standing_for x l t) refl (terms_for (bound_names bs) l t) refl (λ ns g h. types_kept p same bs ns l t (and_parts (is_phrase Nil a) (is_phrase Binders bs) f).1 k g h) e
      where
        both : (m : Tree) (ns : List Tree) → standing_for x l t ≡ Some m → (are_of_types s bs ns ≡ true → kernel.are_of_types (sight_at s p) bs (chain ns) ≡ true) → (is_of_type s T m && are_of_types s bs ns) ≡ true → kernel.are_of_types (sight_at s p) (Node (Binder x T) a bs) (chain (m ∷ ns)) ≡ true
        both m ns g h e =
            let r = and_parts (is_of_type s T m) _ e in
            and_from (is_term_of (sight_at s p) (OfType T) m) _ (subst (λ qs. (is_term_under s qs m && is_sort (sort_of (signature_in s) (above_under qs) m) (OfType T)) ≡ true) (sym same) (of_type T m (standing_in x l t m k g) r.0)) (h r.1)

        go : (o : Option Tree) → standing_for x l t ≡ o → (q : Option (List Tree)) → terms_for (bound_names bs) l t ≡ q → ((ns : List Tree) → terms_for (bound_names bs) l t ≡ Some ns → are_of_types s bs ns ≡ true → kernel.are_of_types (sight_at s p) bs (chain ns) ≡ true)
            → option_and_then (λ m. option_map (λ ns. m ∷ ns) q) o ≡ Some ms → kernel.are_of_types (sight_at s p) (Node (Binder x T) a bs) (chain ms) ≡ true
        go None g q h later e = absurd (none_some ms e)
        go (Some m) g None h later e = absurd (none_some ms e)
        go (Some m) g (Some ns) h later e =
            let is : m ∷ ns ≡ ms = some_injective e in
            subst (λ us. kernel.are_of_types (sight_at s p) (Node (Binder x T) a bs) (chain us) ≡ true) is (both m ns g (later ns h) (subst (λ us. are_of_types s (Node (Binder x T) a bs) us ≡ true) (sym is) types))
    types_kept p same (Node h a bs) ms l t f k e types = absurd (both_ways false refl f)

pub sides_said : (s : Scene) → IsTypedScene s → (p : ℕ) → has_term_at Inputs s.game p ≡ true → HasNoFunction s p → (n : ℕ) (e : Tree) → IsDeclared s n e → AllByRecursion (IsByEquation s p n) (by_sides s (first e) (second e) (part_at s.game p))
unfolding with_given
sides_said s g p f free n e d = body (second e) refl
  where
    rs : List (ℕ × ℕ)
    rs = replications_at s p

    old : Tree
    old = part_at s.game p

    names : List ℕ
    names = bound_names (first e)

    said : (l r : Tree) (ms : List Tree) → second e ≡ Node Eq l r → terms_for names l old ≡ Some ms → is_left_side s (first e) l old ms ≡ true → IsByEquation s p n (with_given names (chain ms) r)
    said l r ms i j k =
        let q = and_parts (same_tree (with_given names (chain ms) l) old) _ k in (
          chain ms,
          record {
            equation = e;
            few = d.few;
            declared = d.declared;
            types = types_kept s rs (place_clear s g p) free p refl (first e) ms l old d.binders (inr (inl (term_there s g p f))) j q.1;
            says = (λ x. Node Eq (sym (same_tree_exact (with_given names (chain ms) l) old q.0) x) (with_given names (chain ms) r)) ∙ ap (with_given names (chain ms)) (sym i);
          },
        )

    found : (l r : Tree) → second e ≡ Node Eq l r → (o : Option (List Tree)) → terms_for names l old ≡ o → AllByRecursion (IsByEquation s p n) (right_side s (first e) l r old o)
    found l r i None j = tt
    found l r i (Some ms) j = when_all (IsByEquation s p n) (is_left_side s (first e) l old ms) (with_given names (chain ms) r) (said l r ms i j)

    body : (b : Tree) → second e ≡ b → AllByRecursion (IsByEquation s p n) (by_sides s (first e) b old)
    body (Node Eq l r) i = found l r i (terms_for names l old) refl
    body b i = tt
