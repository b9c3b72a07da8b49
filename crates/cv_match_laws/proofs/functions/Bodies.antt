-- The left bodies of an accepted equivalence are terms, which name what their functions bind.
use Rattle.std.proofs.Common.{◌≡◌, ℕ, ◌<◌, Bool, true, false, ◌&&◌, ◌||◌, not, List, [], ◌∷◌, ◌++◌, inl, inr, Option, Some, None, refl, sym, ap, subst, ◌∙◌}
use Rattle.std.proofs.lemmas.Bool.{both_ways, and_from, and_parts, or_left, or_right}
use Rattle.std.specs.List.{AllByRecursion, IsDistinct}
use Rattle.std.specs.Prelude.{nat_eq, reverse}
use Rattle.cv_syntax_trees.specs.declared.head.Head.TheVariants.{And, Apply, Cons, Eq, Leaf, No, Not, Or, Read, Yes}
use Rattle.cv_syntax_trees.specs.Declarations.{Declaration}
use Rattle.cv_syntax.specs.NameSets.{is_one_of}
use Rattle.cv_syntax_trees.specs.Tree.{Tree, Empty, Node, bound_names, reads_only, second}
use Rattle.cv_meaning.specs.Correspondences.{typed_names}
use Rattle.cv_meaning.specs.Interpretation.{is_constant_of}
use Rattle.cv_meaning.specs.contexts.Groups.{Group, Left, function_of, functions_of, key_of, side_group}
use Rattle.cv_scope_rules.specs.Phrases.{Nil, Term, Terms, is_phrase}
use Rattle.cv_group_rules.specs.Symbols.{symbols_of}
use Rattle.cv_group_rules.specs.Faults.{BoundNames, IsAccepted, LeftIsTerm, ReadNames}
use Rattle.cv_group_rules.specs.Rules.{Around, are_read, around, each_function, functions_in, index_in, is_asked, is_asked_at, is_bound, is_one_binder, is_term, key_in, reads, side_is_bound, taken_names}
use Rattle.cv_scene.specs.Instances.{names_of}
use Rattle.cv_scene.specs.Refusals.{uses}
use Rattle.cv_scene.specs.LeftTerms.{HasLeftTerms, IsLeftFunction, is_name_or_constant, reads_no_array}
use Rattle.cv_match_laws.specs.functions.Forms.{HasLeftForm, is_whole}
use Rattle.cv_match_laws.proofs.functions.Names.{distinct_names, firsts, one_reversed, one_taken, same_names, used_names}
use Rattle.cv_syntax_trees.proofs.lists.Tests.{or_cases}

-- a term names what is bound outside, and reads no array

nil_plain : (on : ℕ → Bool) (t : Tree) → is_phrase Nil t ≡ true → (reads_no_array t ≡ true) × (reads_only on t ≡ true)
unfolding is_phrase reads_no_array reads_only
nil_plain on Empty e = (refl, refl)
nil_plain on (Node h a b) e = absurd (both_ways false refl e)

unasked : (v : ℕ) (u : Option ℕ) → is_asked_at [] v u ≡ false
unfolding is_asked
unasked v None = refl
unasked v (Some u) = refl

module _ (o : Around) (on : ℕ → Bool) (known : (x : ℕ) → o.outside x ≡ true → on x ≡ true) where
  abbrev IsPlain : Tree → Type 0
  IsPlain t = (reads_no_array t ≡ true) × (reads_only on t ≡ true)

  both : (a b : Tree) → IsPlain a → IsPlain b → ((reads_no_array a && reads_no_array b) ≡ true) × ((reads_only on a && reads_only on b) ≡ true)
  both a b f g = (and_from (reads_no_array a) (reads_no_array b) f.0 g.0, and_from (reads_only on a) (reads_only on b) f.1 g.1)

  alone : (b : Bool) → (b || false) ≡ true → b ≡ true
  alone true e = refl
  alone false e = e

  mutual
    unfolding is_phrase is_bound reads_no_array reads_only

    term_plain : (t : Tree) → is_phrase Term t ≡ true → is_bound o [] t ≡ true → IsPlain t
    term_plain (Node (Leaf x) a b) p k =
        let q = and_parts (is_phrase Nil a) _ p in
        let f = both a b (nil_plain on a q.0) (nil_plain on b q.1) in
        (f.0, and_from (on x) (reads_only on a && reads_only on b) (known x (alone (o.outside x) (and_parts (o.outside x || false) _ k).0)) f.1)
    term_plain (Node (Read v) a b) p k = absurd (both_ways (is_asked_at [] v (index_in a)) (unasked v (index_in a)) (and_parts (is_asked_at [] v (index_in a)) _ k).0)
    term_plain (Node (Apply f) a b) p k = let q = and_parts (is_phrase Terms a) _ p in let l = and_parts (is_bound o [] a) _ (and_parts (o.callable f) _ k).1 in both a b (terms_plain a q.0 l.0) (nil_plain on b q.1)
    term_plain (Node Eq a b) p k = let q = and_parts (is_phrase Term a) _ p in let l = and_parts (is_bound o [] a) _ k in both a b (term_plain a q.0 l.0) (term_plain b q.1 l.1)
    term_plain (Node And a b) p k = let q = and_parts (is_phrase Term a) _ p in let l = and_parts (is_bound o [] a) _ k in both a b (term_plain a q.0 l.0) (term_plain b q.1 l.1)
    term_plain (Node Or a b) p k = let q = and_parts (is_phrase Term a) _ p in let l = and_parts (is_bound o [] a) _ k in both a b (term_plain a q.0 l.0) (term_plain b q.1 l.1)
    term_plain (Node Not a b) p k = let q = and_parts (is_phrase Term a) _ p in let l = and_parts (is_bound o [] a) _ k in both a b (term_plain a q.0 l.0) (nil_plain on b q.1)
    term_plain (Node Yes a b) p k = let q = and_parts (is_phrase Nil a) _ p in both a b (nil_plain on a q.0) (nil_plain on b q.1)
    term_plain (Node No a b) p k = let q = and_parts (is_phrase Nil a) _ p in both a b (nil_plain on a q.0) (nil_plain on b q.1)
    term_plain t p k = absurd (both_ways false refl p)

    terms_plain : (t : Tree) → is_phrase Terms t ≡ true → is_bound o [] t ≡ true → IsPlain t
    terms_plain Empty p k = (refl, refl)
    terms_plain (Node Cons a b) p k = let q = and_parts (is_phrase Term a) _ p in let l = and_parts (is_bound o [] a) _ k in both a b (term_plain a q.0 l.0) (terms_plain b q.1 l.1)
    terms_plain t p k = absurd (both_ways false refl p)

-- each function

module _ (ds : List Declaration) (key all : Tree) (one : is_one_binder key ≡ true) (G : Group) (named : G.key ≡ key_of (typed_names key)) where
  abbrev names : Tree → List ℕ
  names f = names_of G (function_of f)

  names_taken : (f : Tree) → names f ≡ reverse (taken_names key f)
  names_taken f = ap (λ (k : ℕ × ℕ). reverse (firsts (k ∷ (function_of f).coins ++ (function_of f).arguments))) named ∙ ap reverse (same_names key f one)

  outside_known : (f : Tree) (x : ℕ) → (around (symbols_of ds) key all f).outside x ≡ true → is_name_or_constant ds G (function_of f) x ≡ true
  outside_known f x e =
      elim (or_cases (is_constant_of ds x) _ e) [
        | inl c ↦ or_right (is_one_of (names f) x) (is_constant_of ds x) c
        | inr c ↦ or_left (is_one_of (names f) x) (is_constant_of ds x) (subst (λ xs. is_one_of xs x ≡ true) (sym (names_taken f)) (one_reversed x (taken_names key f) (one_taken x key f (or_cases (is_one_of (bound_names key) x) _ c))))
      ]

  one_left : (f : Tree) → is_term (second f) ≡ true → is_whole (second f) ≡ true → is_bound (around (symbols_of ds) key all f) [] (second f) ≡ true → are_read (reads (second f)) (taken_names key f) ≡ true → IsLeftFunction ds G (function_of f)
  one_left f term whole bound read =
      let phrase : is_phrase Term (second f) ≡ true = ap (λ c. not c || is_phrase Term (second f)) (sym term) ∙ whole in
      let plain = term_plain (around (symbols_of ds) key all f) (is_name_or_constant ds G (function_of f)) (outside_known f) (second f) phrase bound in
      record {
        term = phrase;
        plain = plain.0;
        bound = plain.1;
        read = subst (AllByRecursion (λ x. 0 < uses x (second f))) (sym (names_taken f)) (used_names (second f) (taken_names key f) read);
        distinct = subst (IsDistinct nat_eq) (sym (names_taken f)) (distinct_names (reads (second f)) (taken_names key f) read);
      }

  all_left : (fs : Tree) → each_function (λ f. is_term (second f)) fs ≡ true → each_function (λ f. is_whole (second f)) fs ≡ true → each_function (λ f. is_bound (around (symbols_of ds) key all f) [] (second f)) fs ≡ true
      → each_function (λ f. are_read (reads (second f)) (taken_names key f)) fs ≡ true → AllByRecursion (IsLeftFunction ds G) (functions_of fs)
  unfolding each_function
  all_left Empty p q k l = tt
  all_left (Node h f more) p q k l =
      let a = and_parts (is_term (second f)) _ p in
      let b = and_parts (is_whole (second f)) _ q in
      let c = and_parts (is_bound (around (symbols_of ds) key all f) [] (second f)) _ k in
      let d = and_parts (are_read (reads (second f)) (taken_names key f)) _ l in
      (one_left f a.0 b.0 c.0 d.0, all_left more a.1 b.1 c.1 d.1)

pub left_terms : (ds : List Declaration) (e : Tree) → HasLeftForm e → IsAccepted (symbols_of ds) e → HasLeftTerms ds (side_group Left e)
left_terms ds e form accepted =
    all_left ds (key_in Left e) (functions_in Left e) form.key (side_group Left e) refl (functions_in Left e) (accepted.kept LeftIsTerm) form.bodies
    (and_parts (side_is_bound (symbols_of ds) (key_in Left e) (functions_in Left e)) _ (accepted.kept BoundNames)).0
    (accepted.kept ReadNames)
