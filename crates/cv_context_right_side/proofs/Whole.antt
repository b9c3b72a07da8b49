-- Where each call of a tree is that of a site, and such calls have texts, all calls have texts.
use Rattle.std.proofs.Common.{◌≡◌, ℕ, true, false, List, [], ◌∷◌, ◌++◌, refl, sym, subst}
use Rattle.std.proofs.lemmas.Bool.{and_parts, both_ways}
use Rattle.cv_syntax_trees.specs.declared.head.Head.TheVariants.{And, Apply, Call, Cons, Eq, Leaf, No, Not, Or, Read, Repl, Yes}
use Rattle.cv_syntax_trees.specs.Tree.{Tree, Empty, Node}
use Rattle.cv_scope_rules.specs.Phrases.{Nil, Phrase, Term, Terms, is_oracle_phrase}
use Rattle.cv_scene.specs.Reductions.{Reduction}
use Rattle.cv_inline_laws.specs.runs.Texts.{Text}
use Rattle.cv_context_runs.specs.visits.CallTexts.{HasCallTexts, IsCallText}
use Rattle.cv_context_laws.specs.calls.Calls.{AreCallsOf, IsCallOf}
use Rattle.cv_context_laws.proofs.calls.Found.{children_of, terms_of_call}

module _ (T : Text) where
  nil_texts : (rs : List (ℕ × ℕ)) (t : Tree) → is_oracle_phrase Nil t ≡ true → HasCallTexts T rs t
  unfolding is_oracle_phrase HasCallTexts
  nil_texts rs Empty e = tt
  nil_texts rs (Node h a b) e = absurd (both_ways false refl e)

  mutual
    unfolding is_oracle_phrase HasCallTexts

    term_texts : (rs : List (ℕ × ℕ)) (t : Tree) → is_oracle_phrase Term t ≡ true → HasCallTexts T rs t
    term_texts rs (Node (Leaf x) a b) e = let p = and_parts (is_oracle_phrase Nil a) (is_oracle_phrase Nil b) e in (tt, nil_texts rs a p.0, nil_texts rs b p.1)
    term_texts rs (Node (Read x) a b) e = let p = and_parts (is_oracle_phrase Terms a) (is_oracle_phrase Nil b) e in (tt, terms_texts rs a p.0, nil_texts rs b p.1)
    term_texts rs (Node (Apply f) a b) e = let p = and_parts (is_oracle_phrase Terms a) (is_oracle_phrase Nil b) e in (tt, terms_texts rs a p.0, nil_texts rs b p.1)
    term_texts rs (Node Eq a b) e = let p = and_parts (is_oracle_phrase Term a) (is_oracle_phrase Term b) e in (tt, term_texts rs a p.0, term_texts rs b p.1)
    term_texts rs (Node And a b) e = let p = and_parts (is_oracle_phrase Term a) (is_oracle_phrase Term b) e in (tt, term_texts rs a p.0, term_texts rs b p.1)
    term_texts rs (Node Or a b) e = let p = and_parts (is_oracle_phrase Term a) (is_oracle_phrase Term b) e in (tt, term_texts rs a p.0, term_texts rs b p.1)
    term_texts rs (Node Not a b) e = let p = and_parts (is_oracle_phrase Term a) (is_oracle_phrase Nil b) e in (tt, term_texts rs a p.0, nil_texts rs b p.1)
    term_texts rs (Node Yes a b) e = let p = and_parts (is_oracle_phrase Nil a) (is_oracle_phrase Nil b) e in (tt, nil_texts rs a p.0, nil_texts rs b p.1)
    term_texts rs (Node No a b) e = let p = and_parts (is_oracle_phrase Nil a) (is_oracle_phrase Nil b) e in (tt, nil_texts rs a p.0, nil_texts rs b p.1)
    term_texts rs t e = absurd (both_ways false refl e)

    terms_texts : (rs : List (ℕ × ℕ)) (t : Tree) → is_oracle_phrase Terms t ≡ true → HasCallTexts T rs t
    terms_texts rs Empty e = tt
    terms_texts rs (Node Cons a b) e = let p = and_parts (is_oracle_phrase Term a) (is_oracle_phrase Terms b) e in (tt, term_texts rs a p.0, terms_texts rs b p.1)
    terms_texts rs t e = absurd (both_ways false refl e)

  pub all_texts : (r : Reduction) → ((rs : List (ℕ × ℕ)) (x l : ℕ) (terms : Tree) → IsCallOf r rs x l terms → IsCallText T rs x l terms) → (t : Tree) (σ : Phrase) (rs : List (ℕ × ℕ)) → is_oracle_phrase σ t ≡ true → AreCallsOf r rs t → HasCallTexts T rs t
  unfolding HasCallTexts AreCallsOf
  all_texts r text Empty σ rs p k = tt
  all_texts r text (Node (Call x l) a b) σ rs p k =
      let q = children_of σ (Call x l) a b p in
      (text rs x l a k.0, terms_texts rs a (terms_of_call σ x l a b p), all_texts r text b q.second rs q.in_second k.1)
  all_texts r text (Node (Repl i n) a b) σ rs p k =
      let q = children_of σ (Repl i n) a b p in
      (tt, subst (HasCallTexts T rs) (sym k.0) tt, all_texts r text b q.second (rs ++ (i, n) ∷ []) q.in_second k.1)
  all_texts r text (Node h a b) σ rs p k =
      let q = children_of σ h a b p in
      (tt, all_texts r text a q.first rs q.in_first k.0, all_texts r text b q.second rs q.in_second k.1)
