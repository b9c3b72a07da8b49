-- The context of an apt game is in the grammar of contexts, and binds no constant.
use Rattle.std.proofs.Common.{◌≡◌, ℕ, suc, ◌+◌, Bool, true, false, cond, not, ◌&&◌, ◌==◌, List, [], ◌∷◌, ◌++◌, ◌⊎◌, inl, inr, length, Option, Some, None, refl, sym, ap, ap₂, subst, ◌∙◌}
use Rattle.std.proofs.lemmas.Bool.{and_parts, both_ways}
use Rattle.std.specs.List.{AllByRecursion}
use Rattle.cv_syntax_trees.specs.declared.head.Head.{Head}
use Rattle.cv_syntax_trees.specs.declared.head.Head.TheVariants.{Leaf, Read, Apply, Eq, And, Or, Not, Yes, No, New, Let, If, Event, Out, Key, Call as CallHead}
use Rattle.cv_syntax_trees.specs.Tree.{Tree, Empty, Node, first_place, second_place}
use Rattle.cv_meaning.specs.Interpretation.{is_constant_of}
use Rattle.cv_scope_rules.specs.Context.{cell_of, first_position, index_terms, replications_below, second_position}
use Rattle.cv_scope_rules.specs.Phrases.{Body, Inputs, Message, Nil, OneCell, Phrase, Term, Terms, binds_none, head_binds_none, is_phrase, parts}
use Rattle.cv_scope_rules.specs.declared.position.Position.{Position}
use Rattle.cv_scope_rules.specs.declared.position.Position.TheVariants as position
use Rattle.cv_scope_runs.proofs.Rows as rows
use Rattle.cv_scene.specs.Instances.{Call, call_at}
use Rattle.cv_scene.specs.Sites.{Site, is_guard, sites_in}
use Rattle.cv_scene.specs.Contexts.{after_calls, call_terms, context_in, in_context, is_statement}
use Rattle.cv_scene.specs.LeftTerms.{HasLeftTerms}
use Rattle.cv_scene.specs.Reductions.{Reduction, context_of_game, is_coin, matching}
use Rattle.cv_scene.specs.Apt.{AreBoth, AreSitesApt, IsApt, IsAptGame, IsNodeApt, has_value, inside, position_of}
use Rattle.cv_match_laws.proofs.values.Numbers.{context}
use Rattle.cv_context_laws.specs.shape.Parts.{IsPart}
use Rattle.cv_context_laws.proofs.shape.Terms.{call_part, children, empty_part, game_part, node_part, same_parts, term_binds}
use Rattle.cv_syntax_trees.proofs.lists.Each.{AllByRecursion_append}

-- positions of children

same_position : (σ : Phrase) → rows.position_of σ ≡ position_of σ
same_position Body = refl
same_position Term = refl
same_position σ = refl

placed_at : (σ τ ρ : Phrase) (h : Head) → parts σ h ≡ Some (τ, ρ) → (first_position (position_of σ) h ≡ position_of τ) × (second_position (position_of σ) h ≡ position_of ρ)
placed_at σ τ ρ h e =
    let p = rows.placed σ τ ρ h (same_parts σ h (τ, ρ) e) in
    (ap (λ w. first_position w h) (sym (same_position σ)) ∙ p.0 ∙ same_position τ, ap (λ w. second_position w h) (sym (same_position σ)) ∙ p.1 ∙ same_position ρ)

-- terms

no_row : {A : Type 0} (q : Phrase × Phrase) → ◌≡◌ {A = Option (Phrase × Phrase)} None (Some q) → A
no_row q e = absurd (clash e)
  where
    clash : ◌≡◌ {A = Option (Phrase × Phrase)} None (Some q) → ⊥
    clash e = cc

cell_is_term : (h : Head) (a b : Tree) → is_phrase OneCell (Node h a b) ≡ true → is_phrase Term (Node h a b) ≡ true
unfolding is_phrase
cell_is_term (Leaf x) a b e = e
cell_is_term (Read x) a b e = e
cell_is_term h a b e = absurd (both_ways _ refl e)

IsValue : Phrase → Type 0
IsValue σ = (σ ≡ Term) ⊎ (σ ≡ OneCell)

of_value : (σ : Phrase) (h : Head) (a b : Tree) → has_value (Node h a b) ≡ true → is_phrase σ (Node h a b) ≡ true → IsValue σ
unfolding is_phrase IsValue
of_value Term h a b v e = inl refl
of_value OneCell h a b v e = inr refl
of_value σ (Leaf x) a b v e = absurd (both_ways _ refl e)
of_value σ (Read x) a b v e = absurd (both_ways _ refl e)
of_value σ (Apply f) a b v e = absurd (both_ways _ refl e)
of_value σ Eq a b v e = absurd (both_ways _ refl e)
of_value σ And a b v e = absurd (both_ways _ refl e)
of_value σ Or a b v e = absurd (both_ways _ refl e)
of_value σ Not a b v e = absurd (both_ways _ refl e)
of_value σ Yes a b v e = absurd (both_ways _ refl e)
of_value σ No a b v e = absurd (both_ways _ refl e)
of_value σ h a b v e = absurd (both_ways _ refl v)

index_phrase : (rs : List (ℕ × ℕ)) → is_phrase Terms (index_terms rs) ≡ true
unfolding is_phrase
index_phrase [] = refl
index_phrase (q ∷ rs) = index_phrase rs

cell_phrase : (rs : List (ℕ × ℕ)) (x : ℕ) → is_phrase Term (cell_of rs x) ≡ true
unfolding is_phrase
cell_phrase [] x = refl
cell_phrase (q ∷ rs) x = ap₂ ◌&&◌ (index_phrase (q ∷ rs)) refl

one_cell_phrase : (rs : List (ℕ × ℕ)) (x : ℕ) → is_phrase OneCell (cell_of rs x) ≡ true
unfolding is_phrase
one_cell_phrase [] x = refl
one_cell_phrase (q ∷ rs) x = ap₂ ◌&&◌ (index_phrase (q ∷ rs)) refl

cell_part : (C : ℕ → Bool) (rs : List (ℕ × ℕ)) (x : ℕ) (σ : Phrase) → IsValue σ → IsPart C σ (cell_of rs x)
unfolding IsValue
cell_part C rs x σ (inl e) = subst (λ τ. IsPart C τ (cell_of rs x)) (sym e) (game_part C (cell_of rs x) Term (cell_phrase rs x) (term_binds C (cell_of rs x) (cell_phrase rs x)))
cell_part C rs x σ (inr e) = subst (λ τ. IsPart C τ (cell_of rs x)) (sym e) (game_part C (cell_of rs x) OneCell (one_cell_phrase rs x) (term_binds C (cell_of rs x) (cell_phrase rs x)))

module _ (r : Reduction) (apt : IsAptGame r) (left : HasLeftTerms r.scene.declarations (matching r).group) where
  abbrev C : ℕ → Bool
  C = is_constant_of r.scene.declarations

  abbrev HasPart : Site → Type 0
  HasPart s = IsPart C Terms (call_terms s.call.instance)

  instance_value : (t : Tree) (c : Call) → call_at (matching r) t ≡ Some c → has_value t ≡ true
  instance_value t c e = go (has_value t) refl
    where
      clash : ◌≡◌ {A = Option Call} None (Some c) → ⊥
      clash e = cc

      go : (b : Bool) → has_value t ≡ b → b ≡ true
      go true q = refl
      go false q = absurd (clash (sym (apt.terms t q) ∙ e))

  instance_term : (σ : Phrase) (h : Head) (a b : Tree) → IsValue σ → is_phrase σ (Node h a b) ≡ true → is_phrase Term (Node h a b) ≡ true
  unfolding IsValue
  instance_term σ h a b (inl q) e = subst (λ τ. is_phrase τ (Node h a b) ≡ true) q e
  instance_term σ h a b (inr q) e = cell_is_term h a b (subst (λ τ. is_phrase τ (Node h a b) ≡ true) q e)

  sites_part : (t : Tree) (σ : Phrase) (w : Position) (rs : List (ℕ × ℕ)) (p : ℕ) → is_phrase σ t ≡ true → AllByRecursion HasPart (sites_in (matching r) w rs p t)
  unfolding sites_in
  sites_part Empty σ w rs p e = tt
  sites_part (Node h a b) σ w rs p e =
      let c = children σ h a b e in
      go (call_at (matching r) (Node h a b)) refl (is_guard w) (sites_part a c.first (first_position w h) rs (first_place p h) c.in_first) (sites_part b c.second (second_position w h) (replications_below h rs) (second_place p h a) c.in_second)
    where
      go : (o : Option Call) → call_at (matching r) (Node h a b) ≡ o → (z : Bool) → AllByRecursion HasPart (sites_in (matching r) (first_position w h) rs (first_place p h) a) → AllByRecursion HasPart (sites_in (matching r) (second_position w h) (replications_below h rs) (second_place p h a) b)
          → AllByRecursion HasPart (elim o as (λ _. List Site) [
            | Some c ↦ record { place = p; term = Node h a b; replications = rs; call = c } ∷ []
            | None ↦ cond z [] (sites_in (matching r) (first_position w h) rs (first_place p h) a) ++ sites_in (matching r) (second_position w h) (replications_below h rs) (second_place p h a) b
          ])
      go (Some c) q z f g = (call_part r.scene.declarations (matching r) left C (Node h a b) c q (instance_term σ h a b (of_value σ h a b (instance_value (Node h a b) c q) e) e), tt)
      go None q true f g = g
      go None q false f g = AllByRecursion_append HasPart (sites_in (matching r) (first_position w h) rs (first_place p h) a) _ f g

  calls_part : (rs : List (ℕ × ℕ)) (ss : List Site) (j : ℕ) (t : Tree) → AreSitesApt r rs j ss → AllByRecursion HasPart ss → IsPart C Body t → IsPart C Body (after_calls r.answer j ss t)
  calls_part rs [] j t s h p = p
  calls_part rs (x ∷ ss) j t s h p = node_part C Body (CallHead (r.answer j) j) Terms Body (call_terms x.call.instance) (after_calls r.answer (suc j) ss t) refl (ap not (apt.free_answers j s.0.listed)) h.0 (calls_part rs ss (suc j) t s.1 h.1 p)

  -- behind the calls of a node
  behind_part : (h : Head) (σ : Phrase) (a b t : Tree) (rs : List (ℕ × ℕ)) (j : ℕ) → is_phrase σ (Node h a b) ≡ true → IsNodeApt r σ rs j h a → IsPart C σ t → IsPart C σ (after_calls r.answer j (cond (is_statement h) (inside r (position_of σ) rs h a) []) t)
  unfolding is_phrase
  behind_part (Let x T) Body a b t rs j e s p = calls_part rs (sites_in (matching r) position.Anywhere rs 0 a) j t s.1.sites (sites_part a Term position.Anywhere rs 0 (and_parts (is_phrase Term a) _ e).0) p
  behind_part (Let x T) σ a b t rs j e s p = absurd (both_ways _ refl e)
  behind_part If Body a b t rs j e s p = calls_part rs (sites_in (matching r) position.Anywhere rs 0 a) j t s.sites (sites_part a Term position.Anywhere rs 0 (and_parts (is_phrase Term a) _ e).0) p
  behind_part If σ a b t rs j e s p = absurd (both_ways _ refl e)
  behind_part (Event v) Body a b t rs j e s p = calls_part rs (sites_in (matching r) position.Anywhere rs 0 a) j t s.sites (sites_part a Terms position.Anywhere rs 0 (and_parts (is_phrase Terms a) _ e).0) p
  behind_part (Event v) σ a b t rs j e s p = absurd (both_ways _ refl e)
  behind_part (Out c) Body a b t rs j e s p = calls_part rs (sites_in (matching r) position.Anywhere rs 0 a) j t s.sites (sites_part a Message position.Anywhere rs 0 (and_parts (is_phrase Message a) _ e).0) p
  behind_part (Out c) σ a b t rs j e s p = absurd (both_ways _ refl e)
  behind_part h σ a b t rs j e s p = p

  -- a node with its children in the context
  inner_part : (h : Head) (σ τ ρ : Phrase) (A B : Tree) → parts σ h ≡ Some (τ, ρ) → head_binds_none C h ≡ true → IsPart C τ A → IsPart C ρ B → IsPart C σ (in_context (matching r) (is_coin r) h A B)
  unfolding is_phrase
  inner_part (New x T) Body τ ρ A B e n p q = go (x == r.key) (is_coin r x) (subst (λ φ. IsPart C φ B) (sym (ap (λ (u : Phrase × Phrase). u.1) (row (Nil, Body) (τ, ρ) e))) q)
    where
      row : (u v : Phrase × Phrase) → ◌≡◌ {A = Option (Phrase × Phrase)} (Some u) (Some v) → u ≡ v
      row u v e = cc

      go : (b c : Bool) → IsPart C Body B → IsPart C Body (cond b (Node (Key x) Empty B) (cond c B (Node (New x T) A B)))
      go true c k = node_part C Body (Key x) Nil Body Empty B refl n (empty_part C Nil Empty refl) k
      go false true k = k
      go false false k = node_part C Body (New x T) τ ρ A B e n p q
  inner_part (New x T) σ τ ρ A B e n p q = no_row (τ, ρ) e
  inner_part h σ τ ρ A B e n p q = node_part C σ h τ ρ A B (same_parts σ h (τ, ρ) e) n p q

  at_node : (P : Tree → Type 0) (w : Position) (rs : List (ℕ × ℕ)) (j : ℕ) (h : Head) (a b : Tree) → ((c : Call) → call_at (matching r) (Node h a b) ≡ Some c → P (cell_of rs (r.answer j)))
      → P (after_calls r.answer j (cond (is_statement h) (inside r w rs h a) []) (in_context (matching r) (is_coin r) h (cond (is_guard w) a (context r (first_position w h) rs j a)) (context r (second_position w h) (replications_below h rs) (j + length (inside r w rs h a)) b)))
      → P (context r w rs j (Node h a b))
  unfolding context_in
  at_node P w rs j h a b cell plain = go (call_at (matching r) (Node h a b)) refl
    where
      go : (o : Option Call) → call_at (matching r) (Node h a b) ≡ o
          → P (elim o as (λ _. Tree) [
            | Some c ↦ cell_of rs (r.answer j)
            | None ↦ after_calls r.answer j (cond (is_statement h) (inside r w rs h a) []) (in_context (matching r) (is_coin r) h (cond (is_guard w) a (context r (first_position w h) rs j a)) (context r (second_position w h) (replications_below h rs) (j + length (inside r w rs h a)) b))
          ])
      go (Some c) q = cell c q
      go None q = plain

  empty_in : (w : Position) (rs : List (ℕ × ℕ)) (j : ℕ) → context r w rs j Empty ≡ Empty
  unfolding context_in
  empty_in w rs j = refl

  part : (t : Tree) (σ : Phrase) (rs : List (ℕ × ℕ)) (j : ℕ) → is_phrase σ t ≡ true → binds_none C t ≡ true → IsApt r σ rs j t → IsPart C σ (context r (position_of σ) rs j t)
  unfolding binds_none IsApt
  part Empty σ rs j e n s = subst (IsPart C σ) (sym (empty_in (position_of σ) rs j)) (empty_part C σ Empty e)
  part (Node h a b) σ rs j e n s =
      let w : Position = position_of σ in
      let c = children σ h a b e in
      let p = placed_at σ c.first c.second h c.row in
      let u = and_parts (head_binds_none C h) _ n in
      let v = and_parts (binds_none C a) (binds_none C b) u.1 in
      let N : ℕ = j + length (inside r w rs h a) in
      let both = subst (λ o. AreBoth o (λ τ. IsApt r τ rs j a) (λ ρ. IsApt r ρ (replications_below h rs) N b)) c.row s.1 in
      at_node (IsPart C σ) w rs j h a b (λ k q. cell_part C rs (r.answer j) σ (of_value σ h a b (instance_value (Node h a b) k q) e))
      (behind_part h σ a b _ rs j e s.0
      (inner_part h σ c.first c.second _ _ c.row u.0
      (guarded c.first (first_position w h) rs j a (is_guard w) (game_part C a c.first c.in_first v.0) (subst (λ x. IsPart C c.first (context r x rs j a)) (sym p.0) (part a c.first rs j c.in_first v.0 both.0)))
      (subst (λ x. IsPart C c.second (context r x (replications_below h rs) N b)) (sym p.1) (part b c.second (replications_below h rs) N c.in_second v.1 both.1))))
    where
      guarded : (τ : Phrase) (x : Position) (rs : List (ℕ × ℕ)) (j : ℕ) (a : Tree) (z : Bool) → IsPart C τ a → IsPart C τ (context r x rs j a) → IsPart C τ (cond z a (context r x rs j a))
      guarded τ x rs j a true f g = f
      guarded τ x rs j a false f g = g

pub context_part : (r : Reduction) → IsAptGame r → HasLeftTerms r.scene.declarations (matching r).group → IsPart (is_constant_of r.scene.declarations) Inputs (context_of_game r).game
context_part r apt left = part r apt left r.scene.game Inputs [] 0 apt.formed.phrase apt.formed.constants apt.apt
