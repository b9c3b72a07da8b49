-- Each site's call is the first of its number.
use Rattle.std.proofs.Common.{◌≡◌, ℕ, ◌<◌, Bool, true, false, cond, ◌==◌, List, [], ◌∷◌, ◌++◌, length, Option, Some, None, is_some, refl, sym, ap, subst, ◌∙◌, eqb-true, arith}
use Rattle.std.proofs.lemmas.Bool.{and_parts, both_ways}
use Rattle.std.specs.Prelude.{slice_get}
use Rattle.cv_syntax_trees.specs.declared.head.Head.{Head}
use Rattle.cv_syntax_trees.specs.declared.head.Head.TheVariants.{And, Apply, Call, Cons, Eq, Leaf, No, Not, Or, Read, Repl, Yes}
use Rattle.cv_syntax_trees.specs.Tree.{Tree, Empty, Node}
use Rattle.cv_meaning.specs.Cells.{bounds_under}
use Rattle.cv_meaning.specs.Interpretation.{Setting}
use Rattle.cv_meaning.specs.contexts.Sites.{bounds_above, is_call}
use Rattle.cv_scope_rules.specs.Phrases.{Body, Inputs, Nil, Phrase, Term, Terms, both_are, is_oracle_phrase, is_phrase, oracle_parts}
use Rattle.cv_scene.specs.Contexts.{call_terms}
use Rattle.cv_scene.specs.Instances.{call_at}
use Rattle.cv_scene.specs.Sites.{Site}
use Rattle.cv_scene.specs.Reductions.{Reduction, context_of_game, matching, sites}
use Rattle.cv_scene.specs.Apt.{has_value}
use Rattle.cv_context_runs.proofs.instances.Numbers.{inputs_there}
use Rattle.cv_inline.specs.NextGame.{call_of, replications_under}
use Rattle.cv_context_laws.specs.calls.Calls.{AreCallsOf, IsCallOf}
use Rattle.cv_context_laws.proofs.calls.Games.{game_calls}
use Rattle.cv_syntax_trees.specs.lists.Options.{first_of}

abbrev pub Found : Type 0
Found = List (ℕ × ℕ) × Tree

some_first : {A B : Type 0} (o q : Option A) (p s : Option B) → (is_some o ≡ true → is_some p ≡ true) → (is_some q ≡ true → is_some s ≡ true) → is_some (first_of o q) ≡ true → is_some (first_of p s) ≡ true
some_first None q None s f g e = g e
some_first None q (Some b) s f g e = refl
some_first (Some a) q None s f g e = absurd (both_ways false refl (f refl))
some_first (Some a) q (Some b) s f g e = refl

call_there : (g : Setting) (l : ℕ) (t : Tree) (rs : List (ℕ × ℕ)) (bounds : List ℕ) → is_some (bounds_above g bounds l t) ≡ true → is_some (call_of rs l t) ≡ true
unfolding call_of bounds_above
call_there g l Empty rs bounds e = e
call_there g l (Node h a b) rs bounds e =
    go (is_call l h) e
    (some_first (bounds_above g (bounds_under g bounds h) l a) (bounds_above g (bounds_under g bounds h) l b) (call_of (replications_under h rs) l a) (call_of (replications_under h rs) l b)
    (call_there g l a (replications_under h rs) (bounds_under g bounds h)) (call_there g l b (replications_under h rs) (bounds_under g bounds h)))
  where
    go : (c : Bool) → is_some (cond c (Some bounds) (first_of (bounds_above g (bounds_under g bounds h) l a) (bounds_above g (bounds_under g bounds h) l b))) ≡ true
        → (is_some (first_of (bounds_above g (bounds_under g bounds h) l a) (bounds_above g (bounds_under g bounds h) l b)) ≡ true → is_some (first_of (call_of (replications_under h rs) l a) (call_of (replications_under h rs) l b)) ≡ true)
        → is_some (cond c (Some (rs, a)) (first_of (call_of (replications_under h rs) l a) (call_of (replications_under h rs) l b))) ≡ true
    go true e k = refl
    go false e k = k e

-- terms have no calls

first_none : {A : Type 0} (o q : Option A) → o ≡ None → q ≡ None → first_of o q ≡ None
first_none o q e f = ap (λ z. first_of z q) e ∙ f

nil_none : (l : ℕ) (t : Tree) (rs : List (ℕ × ℕ)) → is_oracle_phrase Nil t ≡ true → call_of rs l t ≡ None
unfolding is_oracle_phrase call_of
nil_none l Empty rs e = refl
nil_none l (Node h a b) rs e = absurd (both_ways false refl e)

mutual
  unfolding is_oracle_phrase call_of

  pub term_none : (l : ℕ) (t : Tree) (rs : List (ℕ × ℕ)) → is_oracle_phrase Term t ≡ true → call_of rs l t ≡ None
  term_none l (Node (Leaf x) a b) rs e = let p = and_parts (is_oracle_phrase Nil a) (is_oracle_phrase Nil b) e in first_none _ _ (nil_none l a rs p.0) (nil_none l b rs p.1)
  term_none l (Node (Read x) a b) rs e = let p = and_parts (is_oracle_phrase Terms a) (is_oracle_phrase Nil b) e in first_none _ _ (terms_none l a rs p.0) (nil_none l b rs p.1)
  term_none l (Node (Apply f) a b) rs e = let p = and_parts (is_oracle_phrase Terms a) (is_oracle_phrase Nil b) e in first_none _ _ (terms_none l a rs p.0) (nil_none l b rs p.1)
  term_none l (Node Eq a b) rs e = let p = and_parts (is_oracle_phrase Term a) (is_oracle_phrase Term b) e in first_none _ _ (term_none l a rs p.0) (term_none l b rs p.1)
  term_none l (Node And a b) rs e = let p = and_parts (is_oracle_phrase Term a) (is_oracle_phrase Term b) e in first_none _ _ (term_none l a rs p.0) (term_none l b rs p.1)
  term_none l (Node Or a b) rs e = let p = and_parts (is_oracle_phrase Term a) (is_oracle_phrase Term b) e in first_none _ _ (term_none l a rs p.0) (term_none l b rs p.1)
  term_none l (Node Not a b) rs e = let p = and_parts (is_oracle_phrase Term a) (is_oracle_phrase Nil b) e in first_none _ _ (term_none l a rs p.0) (nil_none l b rs p.1)
  term_none l (Node Yes a b) rs e = let p = and_parts (is_oracle_phrase Nil a) (is_oracle_phrase Nil b) e in first_none _ _ (nil_none l a rs p.0) (nil_none l b rs p.1)
  term_none l (Node No a b) rs e = let p = and_parts (is_oracle_phrase Nil a) (is_oracle_phrase Nil b) e in first_none _ _ (nil_none l a rs p.0) (nil_none l b rs p.1)
  term_none l t rs e = absurd (both_ways false refl e)

  pub terms_none : (l : ℕ) (t : Tree) (rs : List (ℕ × ℕ)) → is_oracle_phrase Terms t ≡ true → call_of rs l t ≡ None
  terms_none l Empty rs e = refl
  terms_none l (Node Cons a b) rs e = let p = and_parts (is_oracle_phrase Term a) (is_oracle_phrase Terms b) e in first_none _ _ (term_none l a rs p.0) (terms_none l b rs p.1)
  terms_none l t rs e = absurd (both_ways false refl e)

-- the children of a phrase of a context

pub record Children (σ : Phrase) (h : Head) (a b : Tree) : Type 0 where
  pub first : Phrase
  pub second : Phrase
  pub row : oracle_parts σ h ≡ Some (first, second)
  pub in_first : is_oracle_phrase first a ≡ true
  pub in_second : is_oracle_phrase second b ≡ true

pub children_of : (σ : Phrase) (h : Head) (a b : Tree) → is_oracle_phrase σ (Node h a b) ≡ true → Children σ h a b
unfolding is_oracle_phrase
children_of σ h a b e = go (oracle_parts σ h) refl e
  where
    go : (o : Option (Phrase × Phrase)) → oracle_parts σ h ≡ o → both_are o (λ τ. is_oracle_phrase τ a) (λ ρ. is_oracle_phrase ρ b) ≡ true → Children σ h a b
    go None q e = absurd (both_ways false refl e)
    go (Some p) q e = let w = and_parts (is_oracle_phrase p.0 a) _ e in record { first = p.0; second = p.1; row = q; in_first = w.0; in_second = w.1 }

pub terms_of_call : (σ : Phrase) (x l : ℕ) (a b : Tree) → is_oracle_phrase σ (Node (Call x l) a b) ≡ true → is_oracle_phrase Terms a ≡ true
unfolding is_oracle_phrase
terms_of_call Body x l a b e = (and_parts (is_oracle_phrase Terms a) _ e).0
terms_of_call σ x l a b e = absurd (both_ways false refl e)

module _ (r : Reduction) (l : ℕ) where
  -- what is found is the call of the site
  pub record IsOfSite (c : Found) : Type 0 where
    pub variable : ℕ
    pub call : IsCallOf r c.0 variable l c.1

  some_is : (c d : Found) → ◌≡◌ {A = Option Found} (Some c) (Some d) → c ≡ d
  some_is c d e = cc

  none_is : (c : Found) → ◌≡◌ {A = Option Found} None (Some c) → ⊥
  none_is c e = cc

  first_found : (o q : Option Found) (c : Found) → (o ≡ Some c → IsOfSite c) → (q ≡ Some c → IsOfSite c) → first_of o q ≡ Some c → IsOfSite c
  first_found None q c f g e = g e
  first_found (Some d) q c f g e = f e

  -- in a tree with a fact that its parts have too, by which the terms of calls have no calls
  module _ (P : Tree → Type 0) (kept : (h : Head) (a b : Tree) → P (Node h a b) → P a × P b) (plain : (rs : List (ℕ × ℕ)) (x m : ℕ) (a b : Tree) → P (Node (Call x m) a b) → IsCallOf r rs x m a → call_of rs l a ≡ None) where
    pub found_by : (t : Tree) (rs : List (ℕ × ℕ)) (c : Found) → P t → AreCallsOf r rs t → call_of rs l t ≡ Some c → IsOfSite c
    unfolding AreCallsOf call_of
    found_by Empty rs c p k e = absurd (none_is c e)
    found_by (Node (Call x m) a b) rs c p k e = go (m == l) refl (found_by b rs c (kept (Call x m) a b p).1 k.1) e
      where
        go : (z : Bool) → (m == l) ≡ z → (call_of rs l b ≡ Some c → IsOfSite c) → cond z (Some (rs, a)) (first_of (call_of rs l a) (call_of rs l b)) ≡ Some c → IsOfSite c
        go true i ih e = subst IsOfSite (some_is (rs, a) c e) (record { variable = x; call = subst (λ n. IsCallOf r rs x n a) (eqb-true m l i) k.0 })
        go false i ih e = first_found (call_of rs l a) (call_of rs l b) c (λ z. absurd (none_is c (sym (plain rs x m a b p k.0) ∙ z))) ih e
    found_by (Node (Repl i n) a b) rs c p k e =
        first_found (call_of (rs ++ (i, n) ∷ []) l a) (call_of (rs ++ (i, n) ∷ []) l b) c
        (λ z. absurd (none_is c (sym (ap (call_of (rs ++ (i, n) ∷ []) l) k.0) ∙ z))) (λ z. found_by b (rs ++ (i, n) ∷ []) c (kept (Repl i n) a b p).1 k.1 z) e
    found_by (Node h a b) rs c p k e =
        let q = kept h a b p in
        first_found (call_of rs l a) (call_of rs l b) c (λ z. found_by a rs c q.0 k.0 z) (λ z. found_by b rs c q.1 k.1 z) e

  -- as in a phrase of a context
  pub found : (t : Tree) (σ : Phrase) (rs : List (ℕ × ℕ)) (c : Found) → is_oracle_phrase σ t ≡ true → AreCallsOf r rs t → call_of rs l t ≡ Some c → IsOfSite c
  found t σ rs c p k e =
      found_by (λ t. (σ : Phrase) × (is_oracle_phrase σ t ≡ true)) (λ h a b p. let q = children_of p.0 h a b p.1 in ((q.first, q.in_first), (q.second, q.in_second)))
      (λ rs x m a b p k. terms_none l a rs (terms_of_call p.0 x m a b p.1)) t rs c (σ, p) k e

  site_is : (s d : Site) → ◌≡◌ {A = Option Site} (Some s) (Some d) → s ≡ d
  site_is s d e = cc

  pub site_found : (g : Setting) (s : Site) → ((t : Tree) → has_value t ≡ false → call_at (matching r) t ≡ None) → is_phrase Inputs r.scene.game ≡ true → is_oracle_phrase Inputs (context_of_game r).game ≡ true
      → l < length (sites r) → slice_get (sites r) l ≡ Some s → call_of [] l (context_of_game r).game ≡ Some (s.replications, call_terms s.call.instance)
  site_found g s terms p q less at = go (call_of [] l (context_of_game r).game) refl (call_there g l (context_of_game r).game [] [] (inputs_there r terms r.scene.game p [] 0 l (omega arith) (omega arith) g []))
    where
      go : (o : Option Found) → call_of [] l (context_of_game r).game ≡ o → is_some o ≡ true → o ≡ Some (s.replications, call_terms s.call.instance)
      go None e z = absurd (both_ways false refl z)
      go (Some c) e z =
          let i = (found (context_of_game r).game Inputs [] c q (game_calls r p) e).call in
          let same : i.site ≡ s = site_is i.site s (sym i.listed ∙ at) in
          ap Some (pair c.0 s.replications c.1 (call_terms s.call.instance) (sym i.replications ∙ ap (λ (d : Site). d.replications) same) (i.instance ∙ ap (λ (d : Site). call_terms d.call.instance) same))
        where
          pair : (x y : List (ℕ × ℕ)) (a b : Tree) → x ≡ y → a ≡ b → ◌≡◌ {A = Found} (x, a) (y, b)
          pair x y a b e f = cc
