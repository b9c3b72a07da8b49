-- In a typed game a `let` gives a value of a large type only to a variable of one, and index terms are reads.
use Rattle.std.proofs.Common.{◌≡◌, ℕ, ◌⊎◌, inl, inr, Bool, true, false, Option, Some, None, is_some, refl, sym, ap, subst, ◌∙◌, arith}
use Rattle.std.specs.Prelude.{option_map}
use Rattle.std.specs.List.{AllByRecursion}
use Rattle.std.proofs.lemmas.Bool.{both_ways, and_parts}
use Rattle.cv_syntax.specs.faults.Walk.{IsObeyed}
use Rattle.cv_syntax_trees.specs.declared.head.Head.{Head}
use Rattle.cv_syntax_trees.specs.declared.head.Head.TheVariants.{And, Apply, Cons, Eq, Leaf, Let, No, Not, Or, Read, Yes}
use Rattle.cv_syntax_trees.specs.declared.sites.sort.Sort.TheVariants.{BelowParameter, OfType}
use Rattle.cv_syntax_trees.specs.Tree.{Tree, Empty, Node}
use Rattle.cv_scope_rules.specs.Context.{items}
use Rattle.cv_scope_rules.specs.Phrases.{Body, Inputs, Nil, Phrase, Term, Terms, is_phrase}
use Rattle.cv_scope_rules.specs.typing.Parts.{IsTypedGame, nothing_above}
use Rattle.cv_scope_rules.specs.typing.Signature.{Above, Function, Signature, function_in, sort_of}
use Rattle.cv_scope_rules.specs.typing.Typing.{IsTyped}
use Rattle.cv_scope_rules.specs.typing.Wants.{Message, Of, Want, is_wrong, wants}
use Rattle.cv_typing_runs.proofs.Terms.{asked_sort, faultless, message_sort, nil_empty}
use Rattle.cv_scene.specs.Large.{is_large}
use Rattle.cv_scene.specs.Scenes.{Scene}
use Rattle.cv_scene.specs.Terms.{is_there, signature_in}
use Rattle.cv_settling_rules.specs.Measure.{is_of_large, large_equalities}
use Rattle.cv_settling_measures.proofs.Equalities.{is_large_term}
use Rattle.cv_settling_measures.proofs.Nodes.{AllNodes}
use Rattle.cv_settling_measures.proofs.Rewriting.{AreIndices}
use Rattle.cv_settling_descent.proofs.Indexing.{below_indices, known_in, large_type, reads_have}
use Rattle.cv_settling_descent.proofs.Typed.{TypedNode, all_bind_any, typed_game_nodes}

-- a name, or a read at indices
abbrev pub is_reading : Tree → Bool
is_reading (Node (Leaf x) a b) = true
is_reading (Node (Read x) a b) = true
is_reading t = false

abbrev pub AreReadings : Tree → Type 0
AreReadings t = AllByRecursion (λ m. is_reading m ≡ true) (items t)

abbrev pub IsFitting : Scene → Head → Tree → Tree → Type 0
IsFitting s (Let x T) a b = is_large_term s a ≡ true → is_large s T ≡ true
IsFitting s (Read x) a b = AreReadings a
IsFitting s h a b = Unit {0}

module _ (s : Scene) where
  abbrev e : Signature
  e = signature_in s

  abbrev no_names : ℕ → Bool
  no_names x = false

  -- what is assigned

  assigned_fits : (above : Above) → AreIndices above → (T : ℕ) (m : Tree) → IsTyped e above (Message T) m → is_large_term s m ≡ true → is_large s T ≡ true
  assigned_fits above k T m i l = go (large_type s (sort_of e nothing_above m) l) (below_indices s above k m)
    where
      go : (V : ℕ) × (sort_of e nothing_above m ≡ Some (OfType V)) × (is_large s V ≡ true)
          → (sort_of e above m ≡ sort_of e nothing_above m) ⊎ ((n : ℕ) × (sort_of e above m ≡ Some (BelowParameter n))) → is_large s T ≡ true
      go v (inl q) =
          let r = asked_sort e above (Message T) m (OfType v.0) i (q ∙ v.1) in
          ap (λ S. is_of_large s (Some S)) (sym (message_sort T (OfType v.0) r.0 r.1)) ∙ v.2
      go v (inr q) =
          let r = asked_sort e above (Message T) m (BelowParameter q.0) i q.1 in
          absurd (no_type q.0 T (message_sort T (BelowParameter q.0) r.0 r.1))
        where
          no_type : (n T : ℕ) → BelowParameter n ≡ OfType T → ⊥
          no_type n T z = cc

  let_fits : (σ : Phrase) (above : Above) (w : Want) (x T : ℕ) (a b : Tree) → TypedNode e (known_in s) no_names σ above w (Let x T) a b → is_large_term s a ≡ true → is_large s T ≡ true
  unfolding is_phrase
  let_fits Body above w x T a b n l = assigned_fits above n.alone.indices T a (subst (λ v. IsTyped e above (wants e above v (Let x T) a).0 a) n.fits n.first) l
  let_fits σ above w x T a b n l = absurd (both_ways false refl n.phrase)

  -- index terms

  index_reads : (above : Above) (n : ℕ) (m : Tree) → is_phrase Term m ≡ true → is_there (known_in s) Term m ≡ true → IsTyped e above (Of (BelowParameter n)) m → is_reading m ≡ true
  unfolding is_phrase is_there IsObeyed
  index_reads above n Empty p t i = absurd (both_ways false refl p)
  index_reads above n (Node (Leaf x) a b) p t i = refl
  index_reads above n (Node (Read x) a b) p t i = refl
  index_reads above n (Node (Apply f) a b) p t i = go (function_in s.declarations f) (and_parts (is_some (function_in s.declarations f)) _ t).0 (faultless e above (Of (BelowParameter n)) (Apply f) a i.0).right
    where
      go : (o : Option Function) → is_some o ≡ true → is_wrong (Of (BelowParameter n)) (option_map (λ (g : Function). OfType g.result) o) ≡ false → false ≡ true
      go None j r = j
      go (Some g) j r = sym r
  index_reads above n (Node Eq a b) p t i = absurd (both_ways true (faultless e above (Of (BelowParameter n)) Eq a i.0).right refl)
  index_reads above n (Node And a b) p t i = absurd (both_ways true (faultless e above (Of (BelowParameter n)) And a i.0).right refl)
  index_reads above n (Node Or a b) p t i = absurd (both_ways true (faultless e above (Of (BelowParameter n)) Or a i.0).right refl)
  index_reads above n (Node Not a b) p t i = absurd (both_ways true (faultless e above (Of (BelowParameter n)) Not a i.0).right refl)
  index_reads above n (Node Yes a b) p t i = absurd (both_ways true (faultless e above (Of (BelowParameter n)) Yes a i.0).right refl)
  index_reads above n (Node No a b) p t i = absurd (both_ways true (faultless e above (Of (BelowParameter n)) No a i.0).right refl)
  index_reads above n (Node h a b) p t i = absurd (both_ways false refl p)

  read_fits : (σ : Phrase) (above : Above) (w : Want) (x : ℕ) (a b : Tree) → TypedNode e (known_in s) no_names σ above w (Read x) a b → AreReadings a
  read_fits = reads_have s no_names (λ m. is_reading m ≡ true) (λ above k n m p t i. index_reads above n m p t i)

  fitting : (σ : Phrase) (above : Above) (w : Want) (h : Head) (a b : Tree) → TypedNode e (known_in s) no_names σ above w h a b → IsFitting s h a b
  fitting σ above w (Let x T) a b n = let_fits σ above w x T a b n
  fitting σ above w (Read x) a b n = read_fits σ above w x a b n
  fitting σ above w h a b n = tt

  pub game_fits : is_phrase Inputs s.game ≡ true → is_there (known_in s) Inputs s.game ≡ true → IsTypedGame s.declarations s.game → AllNodes (IsFitting s) s.game
  game_fits p t i = typed_game_nodes e (known_in s) no_names (IsFitting s) fitting s.game (all_bind_any s.game) p t i

  -- so a read has no equalities

  abbrev of_terms : Bool → Phrase
  of_terms true = Term
  of_terms false = Terms

  abbrev Readings : Bool → Tree → Type 0
  Readings true t = is_reading t ≡ true
  Readings false t = AreReadings t

  none_in : (one : Bool) (t : Tree) → is_phrase (of_terms one) t ≡ true → AllNodes (IsFitting s) t → Readings one t → large_equalities s t ≡ 0
  unfolding is_phrase AllNodes large_equalities
  none_in one Empty p k r = refl
  none_in true (Node (Leaf x) a b) p k r =
      let q = and_parts (is_phrase Nil a) (is_phrase Nil b) p in
      let y : large_equalities s a ≡ 0 = ap (large_equalities s) (nil_empty a q.0) in
      let z : large_equalities s b ≡ 0 = ap (large_equalities s) (nil_empty b q.1) in omega arith
  none_in true (Node (Read x) a b) p k r =
      let q = and_parts (is_phrase Terms a) (is_phrase Nil b) p in
      let y : large_equalities s a ≡ 0 = none_in false a q.0 k.1 k.0 in
      let z : large_equalities s b ≡ 0 = ap (large_equalities s) (nil_empty b q.1) in omega arith
  none_in true (Node h a b) p k r = absurd (both_ways false refl r)
  none_in false (Node Cons a b) p k r =
      let q = and_parts (is_phrase Term a) (is_phrase Terms b) p in
      let y : large_equalities s a ≡ 0 = none_in true a q.0 k.1 r.0 in
      let z : large_equalities s b ≡ 0 = none_in false b q.1 k.2 r.1 in omega arith
  none_in false (Node h a b) p k r = absurd (both_ways false refl p)

  pub none_in_reading : (t : Tree) → is_phrase Term t ≡ true → AllNodes (IsFitting s) t → is_reading t ≡ true → large_equalities s t ≡ 0
  none_in_reading t p k r = none_in true t p k r
