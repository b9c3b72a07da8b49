-- In a typed game the index terms of a read have what each term has of which an index is asked, and are of no large types where no
-- replication binds the name of a function.
use Rattle.std.proofs.Common.{◌≡◌, ℕ, ◌+◌, ◌==◌, ◌||◌, ◌⊎◌, inl, inr, Bool, true, false, not, List, [], ◌∷◌, length, Option, Some, None, is_some, refl, sym, ap, ap₂, subst, ◌∙◌, arith, eqb-true, eq-eqb}
use Rattle.std.specs.Prelude.{option_map}
use Rattle.std.specs.List.{AllByRecursion}
use Rattle.std.proofs.lemmas.Bool.{both_ways, and_parts, or_parts}
use Rattle.cv_syntax.specs.faults.Walk.{IsObeyed}
use Rattle.cv_syntax_trees.specs.declared.head.Head.{Head}
use Rattle.cv_syntax_trees.specs.declared.head.Head.TheVariants.{Cons, Leaf, Read, Repl}
use Rattle.cv_syntax_trees.specs.declared.sites.sort.Sort.{Sort}
use Rattle.cv_syntax_trees.specs.declared.sites.sort.Sort.TheVariants.{BelowParameter, OfType}
use Rattle.cv_syntax_trees.specs.Tree.{Tree, Empty, Node}
use Rattle.cv_syntax_trees.specs.sites.Counting.{count}
use Rattle.cv_syntax_trees.specs.sites.Sites.{Variable, first_index, first_of, first_site}
use Rattle.cv_scope_rules.specs.Context.{Context, items}
use Rattle.cv_scope_rules.specs.Phrases.{IsWellFormed, OneCell, Phrase, Term, Terms, binds_none, head_binds_none, is_phrase}
use Rattle.cv_scope_rules.specs.Scope.{is_untyped_in, is_variable}
use Rattle.cv_scope_rules.specs.typing.Parts.{nothing_above}
use Rattle.cv_scope_rules.specs.typing.Signature.{Above, Function, Signature, function_in, is_arity, sort_of}
use Rattle.cv_scope_rules.specs.typing.Typing.{IsTyped}
use Rattle.cv_scope_rules.specs.typing.Wants.{Indices, Of, Want, asks_indices}
use Rattle.cv_scope_runs.proofs.Games.{has_parts, new_index, stands_phrase}
use Rattle.cv_scope_runs.proofs.Standing.{Stands, in_first, in_second, root}
use Rattle.cv_typing_runs.proofs.Terms.{asked_sort, faultless}
use Rattle.cv_scene.specs.Large.{is_large}
use Rattle.cv_scene.specs.Scenes.{Scene}
use Rattle.cv_scene.specs.Terms.{Names, has_site, is_function, is_game, is_there, names_anywhere, signature_in}
use Rattle.cv_steps_laws.proofs.Keeping.{IsGame, game_formed}
use Rattle.cv_settling_rules.specs.Measure.{is_of_large}
use Rattle.cv_settling_measures.proofs.Equalities.{is_large_term}
use Rattle.cv_settling_measures.proofs.Nodes.{AllNodes}
use Rattle.cv_settling_measures.proofs.Rewriting.{AreIndices}
use Rattle.cv_settling_descent.specs.SmallIndices.{HasSmallIndices, IndicesAreSmall}
use Rattle.cv_settling_descent.proofs.Orphans.{any, scoped_game}
use Rattle.cv_settling_descent.proofs.Refused.{names_there}
use Rattle.cv_settling_descent.proofs.Typed.{BindsOther, IndicesAlone, TypedNode, typed_game_nodes}

abbrev pub known_in : Scene → Names
known_in s = names_anywhere s.declarations s.game

module _ (s : Scene) where
  abbrev e : Signature
  e = signature_in s

  -- sorts below indices

  pub large_type : (o : Option Sort) → is_of_large s o ≡ true → (T : ℕ) × (o ≡ Some (OfType T)) × (is_large s T ≡ true)
  large_type (Some (OfType T)) l = (T, refl, l)
  large_type o l = absurd (both_ways false refl l)

  pub below_indices : (above : Above) → AreIndices above → (m : Tree) → (sort_of e above m ≡ sort_of e nothing_above m) ⊎ ((n : ℕ) × (sort_of e above m ≡ Some (BelowParameter n)))
  below_indices above k Empty = inl refl
  below_indices above k (Node (Leaf x) a b) = go (above x) refl
    where
      go : (o : Option Sort) → above x ≡ o → (sort_of e above (Node (Leaf x) a b) ≡ sort_of e nothing_above (Node (Leaf x) a b)) ⊎ ((n : ℕ) × (sort_of e above (Node (Leaf x) a b) ≡ Some (BelowParameter n)))
      go None f = inl (ap (λ o. first_of o (sort_of e nothing_above (Node (Leaf x) a b))) f)
      go (Some (OfType T)) f = absurd (k x T f)
      go (Some (BelowParameter n)) f = inr (n, ap (λ o. first_of o (sort_of e nothing_above (Node (Leaf x) a b))) f)
  below_indices above k (Node h a b) = inl refl

module _ (s : Scene) (names : ℕ → Bool) (Q : Tree → Type 0) (item : (above : Above) → IndicesAlone names above → (n : ℕ) (m : Tree) → is_phrase Term m ≡ true → is_there (known_in s) Term m ≡ true → IsTyped (signature_in s) above (Of (BelowParameter n)) m → Q m) where
  indices_have : (above : Above) → IndicesAlone names above → (ns : List ℕ) (t : Tree) → is_phrase Terms t ≡ true → is_there (known_in s) Terms t ≡ true → IsTyped (signature_in s) above (Indices ns) t → (length ns == count t) ≡ true → AllByRecursion Q (items t)
  unfolding is_phrase is_there IsObeyed count
  indices_have above k ns Empty p t i l = tt
  indices_have above k [] (Node Cons a b) p t i l = absurd (let z : 0 ≡ count b + 1 = eqb-true 0 (count b + 1) l in omega arith)
  indices_have above k (n ∷ ns) (Node Cons a b) p t i l =
      let q = and_parts (is_phrase Term a) (is_phrase Terms b) p in
      let r = and_parts (is_there (known_in s) Term a) (is_there (known_in s) Terms b) t in
      let z : length (n ∷ ns) ≡ count b + 1 = eqb-true (length (n ∷ ns)) (count b + 1) l in
      (item above k n a q.0 r.0 i.1, indices_have above k ns b q.1 r.1 i.2 (eq-eqb (length ns) (count b) (omega arith)))
  indices_have above k ns (Node h a b) p t i l = absurd (both_ways false refl p)

  pub reads_have : (σ : Phrase) (above : Above) (w : Want) (x : ℕ) (a b : Tree) → TypedNode (signature_in s) (known_in s) names σ above w (Read x) a b → AllByRecursion Q (items a)
  unfolding is_phrase is_there
  reads_have σ above w x a b n = go (first_site x [] s.game) refl (parts_of σ n.phrase n.there)
    where
      parts_of : (σ : Phrase) → is_phrase σ (Node (Read x) a b) ≡ true → is_there (known_in s) σ (Node (Read x) a b) ≡ true → (is_phrase Terms a ≡ true) × (is_there (known_in s) Terms a ≡ true) × (has_site s.game x ≡ true)
      parts_of Term p t =
          let q = and_parts (has_site s.game x) _ t in
          ((and_parts (is_phrase Terms a) _ p).0, (and_parts (is_there (known_in s) Terms a) _ q.1).0, q.0)
      parts_of OneCell p t =
          let q = and_parts (has_site s.game x) _ t in
          ((and_parts (is_phrase Terms a) _ p).0, (and_parts (is_there (known_in s) Terms a) _ q.1).0, q.0)
      parts_of σ p t = absurd (both_ways false refl p)

      go : (o : Option Variable) → first_site x [] s.game ≡ o → (is_phrase Terms a ≡ true) × (is_there (known_in s) Terms a ≡ true) × (has_site s.game x ≡ true) → AllByRecursion Q (items a)
      go None f q = absurd (both_ways (is_some (first_site x [] s.game)) (ap is_some f) q.2)
      go (Some v) f q =
          indices_have above n.alone v.parameters a q.0 q.1 (subst (λ o. IsTyped (signature_in s) above (asks_indices o) a) f n.first)
          (ap (λ (o : Option Variable). is_arity (option_map (λ (v : Variable). length v.parameters) o) (count a)) (sym f) ∙ (faultless (signature_in s) above w (Read x) a n.faultless).arity)

-- index terms of no large types

-- a function or a variable
abbrev is_taken : Scene → ℕ → Bool
is_taken s x = is_function s.declarations x || is_variable s.game x

module _ (s : Scene) where
  -- an index that is bound above has no sort of its own by the names of the game
  index_small : (x : ℕ) (a b : Tree) → is_taken s x ≡ false → is_large_term s (Node (Leaf x) a b) ≡ false
  index_small x a b n =
      let p = or_parts (is_function s.declarations x) _ n in
      let q = or_parts (has_site s.game x) (is_untyped_in x s.game) p.1 in
      go (first_site x [] s.game) q.0 (function_in s.declarations x) p.0 (first_index x s.game)
    where
      go : (o : Option Variable) → is_some o ≡ false → (f : Option Function) → is_some f ≡ false → (i : Option ℕ)
          → is_of_large s (first_of (option_map (λ (v : Variable). v.sort) o) (first_of (option_map (λ (g : Function). OfType g.result) f) (option_map BelowParameter i))) ≡ false
      go (Some v) u f w i = absurd (both_ways true u refl)
      go None u (Some f) w i = absurd (both_ways true w refl)
      go None u None w None = refl
      go None u None w (Some i) = refl

  -- of a term of which an index is asked
  by_sort : (above : Above) (n : ℕ) (m : Tree) → IsTyped (signature_in s) above (Of (BelowParameter n)) m → sort_of (signature_in s) above m ≡ sort_of (signature_in s) nothing_above m → is_large_term s m ≡ false
  by_sort above n m i q = go (is_large_term s m) refl
    where
      go : (v : Bool) → is_large_term s m ≡ v → v ≡ false
      go false f = refl
      go true f =
          let r = large_type s (sort_of (signature_in s) nothing_above m) f in
          absurd (both_ways true (asked_sort (signature_in s) above (Of (BelowParameter n)) m (OfType r.0) i (q ∙ r.1)).0 refl)

  item_small : (above : Above) → IndicesAlone (is_taken s) above → (n : ℕ) (m : Tree) → is_phrase Term m ≡ true → is_there (known_in s) Term m ≡ true → IsTyped (signature_in s) above (Of (BelowParameter n)) m → is_large_term s m ≡ false
  item_small above k n Empty p t i = refl
  item_small above k n (Node (Leaf x) a b) p t i = go (above x) refl
    where
      go : (o : Option Sort) → above x ≡ o → is_large_term s (Node (Leaf x) a b) ≡ false
      go (Some S) f = index_small x a b (k.apart x S f)
      go None f = by_sort above n (Node (Leaf x) a b) i (ap (λ o. first_of o (sort_of (signature_in s) nothing_above (Node (Leaf x) a b))) f)
  item_small above k n (Node h a b) p t i = by_sort above n (Node h a b) i refl

  small_node : (σ : Phrase) (above : Above) (w : Want) (h : Head) (a b : Tree) → TypedNode (signature_in s) (known_in s) (is_taken s) σ above w h a b → IndicesAreSmall s h a
  small_node σ above w (Read x) a b n = reads_have s (is_taken s) (λ m. is_large_term s m ≡ false) item_small σ above w x a b n
  small_node σ above w h a b n = tt

  small_nodes : (t : Tree) → AllNodes (λ h a b. IndicesAreSmall s h a) t → HasSmallIndices s t
  unfolding AllNodes HasSmallIndices
  small_nodes Empty k = tt
  small_nodes (Node h a b) k = (k.0, small_nodes a k.1, small_nodes b k.2)

  module _ (w : IsWellFormed s.declarations s.game) where
    binds_apart : (h : Head) (a b : Tree) {p : ℕ} {σ : Phrase} {Γ : Context} → Stands s.game p σ Γ (Node h a b) → head_binds_none (is_function s.declarations) h ≡ true → BindsOther (is_taken s) h a b
    binds_apart (Repl i n) a b st e = ap₂ ◌||◌ (none (is_function s.declarations i) e) (new_index (any s.declarations) (is_variable s.game) s.game (scoped_game s.declarations s.game w) st).no_variable
      where
        none : (v : Bool) → not v ≡ true → v ≡ false
        none true e = absurd (both_ways false refl e)
        none false e = refl
    binds_apart h a b st e = tt

    all_apart : (t : Tree) {p : ℕ} {σ : Phrase} {Γ : Context} → Stands s.game p σ Γ t → binds_none (is_function s.declarations) t ≡ true → AllNodes (BindsOther (is_taken s)) t
    unfolding AllNodes binds_none
    all_apart Empty st e = tt
    all_apart (Node h a b) {σ = σ} st e =
        let q = has_parts σ h a b (stands_phrase (any s.declarations) (is_variable s.game) s.game (scoped_game s.declarations s.game w) st) in
        let p = and_parts (head_binds_none (is_function s.declarations) h) _ e in
        let r = and_parts (binds_none (is_function s.declarations) a) _ p.1 in
        (binds_apart h a b st p.0, all_apart a (in_first q.1 st) r.0, all_apart b (in_second q.1 st) r.1)

pub small_indices : (s : Scene) → is_game s.declarations s.game ≡ true → binds_none (is_function s.declarations) s.game ≡ true → HasSmallIndices s s.game
small_indices s g e =
    let i : IsGame s.declarations s.game = game_formed s.declarations s.game g in
    small_nodes s s.game
    (typed_game_nodes (signature_in s) (known_in s) (is_taken s) (λ h a b. IndicesAreSmall s h a) (small_node s) s.game (all_apart s i.formed s.game root e) i.formed.phrase (names_there s.declarations s.game g) i.typed)
