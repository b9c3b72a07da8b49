-- A term that typing accepts at a place of a game has its sort there, as the laws of meaning take it.
use Rattle.std.proofs.Common.{◌≡◌, ℕ, Bool, true, false, cond, ◌==◌, ◌||◌, not, List, [], ◌∷◌, ◌⊎◌, inl, inr, Option, Some, None, is_some, refl, ap, ◌∙◌, eqb-true}
use Rattle.std.specs.Prelude.{option_map}
use Rattle.std.proofs.lemmas.Bool.{both_ways, and_parts}
use Rattle.cv_syntax_trees.specs.declared.head.Head.{Head}
use Rattle.cv_syntax_trees.specs.declared.head.Head.TheVariants.{And, Apply, Cons, Eq, Leaf, No, Not, Or, Read, Yes}
use Rattle.cv_syntax_trees.specs.Declarations.{Declaration}
use Rattle.cv_syntax_trees.specs.Tree.{Tree, Empty, Node}
use Rattle.cv_meaning_laws.specs.adequacy.Typed.{HasSort, Scope, parameter_in}
use Rattle.cv_scope_rules.specs.Rules.{is_index}
use Rattle.cv_scope_rules.specs.Phrases.{IsWellFormed, Phrase, Nil, Term, Terms, is_phrase}
use Rattle.cv_syntax_trees.specs.declared.sites.sort.Sort.{Sort}
use Rattle.cv_syntax_trees.specs.declared.sites.sort.Sort.TheVariants.{BelowParameter}
use Rattle.cv_syntax_trees.specs.sites.Sites.{first_of}
use Rattle.cv_scope_rules.specs.declared.typing.precedence.Precedence.TheVariants.{First}
use Rattle.cv_scope_rules.specs.typing.Parts.{nothing_above}
use Rattle.cv_scope_rules.specs.typing.Signature.{Above, sort_of, function_in}
use Rattle.cv_scope_rules.specs.typing.Typing as typing
use Rattle.cv_scope_rules.specs.typing.Wants.{AnyTerm, bound}
use Rattle.cv_scope_rules.proofs.typing.First.{typed_where_none}
use Rattle.cv_typing_runs.specs.Games.{HasArguments, context_of, sort_of_meaning}
use Rattle.cv_typing_runs.proofs.Known.{AreKnown, IsKnown}
use Rattle.cv_typing_runs.proofs.Terms.{sorted}
use Rattle.cv_scene.specs.Scenes.{Scene}
use Rattle.cv_scene.specs.Terms.{Names, above_under, has_site, head_is_there, indices_above, is_there, is_term_under, names_under, signature_in}
use Rattle.cv_syntax_trees.proofs.lists.Options.{none_from_not_some}
use Rattle.cv_syntax_trees.proofs.lists.Tests.{or_cases}

-- the indices in scope

bound_found : (rs : Scope) (above : Above) (x : ℕ) → indices_above above rs x ≡ first_of (above x) (option_map BelowParameter (parameter_in rs x))
bound_found [] above x = go (above x)
  where
    go : (o : Option Sort) → o ≡ first_of o None
    go None = refl
    go (Some S) = refl
bound_found (r ∷ rs) above x = bound_found rs (bound First above r.0 (BelowParameter r.1)) x ∙ go (r.0 == x) refl (above x) refl
  where
    go : (b : Bool) → (r.0 == x) ≡ b → (o : Option Sort) → above x ≡ o → first_of (cond b (first_of (above r.0) (Some (BelowParameter r.1))) (above x)) (option_map BelowParameter (parameter_in rs x)) ≡ first_of o (option_map BelowParameter (cond b (Some r.1) (parameter_in rs x)))
    go true e (Some S) f = ap (λ o. first_of (first_of o (Some (BelowParameter r.1))) (option_map BelowParameter (parameter_in rs x))) (ap above (eqb-true r.0 x e) ∙ f)
    go true e None f = ap (λ o. first_of (first_of o (Some (BelowParameter r.1))) (option_map BelowParameter (parameter_in rs x))) (ap above (eqb-true r.0 x e) ∙ f)
    go false e o f = ap (λ q. first_of q (option_map BelowParameter (parameter_in rs x))) f

pub above_matches : (rs : Scope) (x : ℕ) → indices_above nothing_above rs x ≡ option_map BelowParameter (parameter_in rs x)
above_matches rs x = bound_found rs nothing_above x

-- the names of a term

abbrev is_terms : Bool → Phrase
is_terms true = Term
is_terms false = Terms

module _ (ds : List Declaration) (variable : ℕ → Bool) (rs : Scope) where
  abbrev known : Names
  known = record { function = λ f. is_some (function_in ds f); variable = variable; index = is_index rs }

  head_known : (h : Head) → head_is_there known Term h ≡ true → IsKnown ds variable rs h
  head_known (Leaf x) e = go (or_cases (is_index rs x) _ e)
    where
      go : (is_index rs x ≡ true) ⊎ ((is_some (function_in ds x) || variable x) ≡ true) → IsKnown ds variable rs (Leaf x)
      go (inl i) = inl i
      go (inr i) = inr (or_cases (is_some (function_in ds x)) (variable x) i)
  head_known (Read x) e = e
  head_known (Apply f) e = e
  head_known h e = tt

  nil_known : (t : Tree) → is_there known Nil t ≡ true → AreKnown ds variable rs t
  unfolding is_there AreKnown
  nil_known Empty e = tt
  nil_known (Node h a b) e = absurd (both_ways false refl (and_parts (head_is_there known Nil h) false e).1)

  there_known : (k : Bool) (t : Tree) → is_there known (is_terms k) t ≡ true → AreKnown ds variable rs t
  unfolding is_there AreKnown
  there_known k Empty e = tt
  there_known false (Node Cons a b) e = let p = and_parts (is_there known Term a) (is_there known Terms b) e in (tt, there_known true a p.0, there_known false b p.1)
  there_known false (Node h a b) e = absurd (both_ways false refl (and_parts (head_is_there known Terms h) false e).1)
  there_known true (Node (Leaf x) a b) e =
      let p = and_parts (head_is_there known Term (Leaf x)) _ e in
      let q = and_parts (is_there known Nil a) (is_there known Nil b) p.1 in
      (head_known (Leaf x) p.0, nil_known a q.0, nil_known b q.1)
  there_known true (Node (Read x) a b) e =
      let p = and_parts (head_is_there known Term (Read x)) _ e in
      let q = and_parts (is_there known Terms a) (is_there known Nil b) p.1 in
      (p.0, there_known false a q.0, nil_known b q.1)
  there_known true (Node (Apply f) a b) e =
      let p = and_parts (head_is_there known Term (Apply f)) _ e in
      let q = and_parts (is_there known Terms a) (is_there known Nil b) p.1 in
      (p.0, there_known false a q.0, nil_known b q.1)
  there_known true (Node Eq a b) e = let q = and_parts (is_there known Term a) (is_there known Term b) e in (tt, there_known true a q.0, there_known true b q.1)
  there_known true (Node And a b) e = let q = and_parts (is_there known Term a) (is_there known Term b) e in (tt, there_known true a q.0, there_known true b q.1)
  there_known true (Node Or a b) e = let q = and_parts (is_there known Term a) (is_there known Term b) e in (tt, there_known true a q.0, there_known true b q.1)
  there_known true (Node Not a b) e = let q = and_parts (is_there known Term a) (is_there known Nil b) e in (tt, there_known true a q.0, nil_known b q.1)
  there_known true (Node Yes a b) e = let q = and_parts (is_there known Nil a) (is_there known Nil b) e in (tt, nil_known a q.0, nil_known b q.1)
  there_known true (Node No a b) e = let q = and_parts (is_there known Nil a) (is_there known Nil b) e in (tt, nil_known a q.0, nil_known b q.1)
  there_known true (Node h a b) e = absurd (both_ways false refl (and_parts (head_is_there known Term h) false e).1)

pub term_typed : (s : Scene) (rs : List (ℕ × ℕ)) (t : Tree) → is_term_under s rs t ≡ true → typing.IsTyped (signature_in s) (above_under rs) AnyTerm t
term_typed s rs t e =
    let q = and_parts (is_phrase Term t) _ e in
    let r = and_parts (is_there (names_under s rs) Term t) _ q.1 in
    typed_where_none (signature_in s) (above_under rs) AnyTerm 0 t (none_from_not_some (typing.first_fault (signature_in s) (above_under rs) AnyTerm 0 t) r.1)

pub term_known : (s : Scene) (rs : List (ℕ × ℕ)) (t : Tree) → is_term_under s rs t ≡ true → AreKnown s.declarations (has_site s.game) rs t
term_known s rs t e =
    let q = and_parts (is_phrase Term t) _ e in
    there_known s.declarations (has_site s.game) rs true t (and_parts (is_there (names_under s rs) Term t) _ q.1).0

-- the term has the sort that is computed for it
pub term_sorted : (s : Scene) (rs : List (ℕ × ℕ)) (t : Tree) → HasArguments s.declarations → IsWellFormed s.declarations s.game → is_term_under s rs t ≡ true
    → (S : Sort) × (sort_of (signature_in s) (above_under rs) t ≡ Some S) × HasSort (context_of s.declarations s.game) rs t (sort_of_meaning S)
term_sorted s rs t g w e =
    sorted s.declarations s.game g w.constants (above_under rs) rs (above_matches rs) true AnyTerm t (and_parts (is_phrase Term t) _ e).0 (term_typed s rs t e) (term_known s rs t e)
